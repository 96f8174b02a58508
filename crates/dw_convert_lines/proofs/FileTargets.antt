-- Files that are added leave the directories of a program.
use Rattle.std.proofs.Common.{◌≡◌, ◌∙◌, sym, subst, ap, ℕ, ◌<◌, List, length, Option, Some, None, Result, Ok, refl}
use Rattle.std.specs.Prelude.{All, IsSome, slice_get}
use Rattle.std.specs.Option.{option_map}
use Rattle.std.proofs.lemmas.List.Elements.{All-get_or}
use Rattle.std.proofs.lemmas.Option.{slice_get_within, get_or_from_slice_get}
use Rattle.dw_base.specs.declared.common.Encoding.{Encoding}
use Rattle.dw_base.specs.declared.ids.DirectoryId.{DirectoryId}
use Rattle.dw_line.specs.LinePrograms.{LineProgramValue, changed, encoding_of, directories_of}
use Rattle.dw_line.specs.ProgramTexts.{ProgramValue, with_file}
use Rattle.dw_line.specs.declared.line_string.FileInfo.{FileInfo}
use Rattle.dw_line.specs.declared.line_string.LineString.{LineString}
use Rattle.dw_sources.specs.declared.convert_error.ConvertError.{ConvertError}
use Rattle.dw_convert_lines.specs.EntryImages.{found_directory, directory_among}
use Rattle.dw_convert_lines.specs.Views.{IsTarget}

module _ (name : LineString) (directory : DirectoryId) (info : Option FileInfo) where
  there_still : (o : Option ProgramValue) → IsSome o → IsSome (option_map (with_file name directory info) o)
  there_still None h = h
  there_still (Some p) h = h

  same_encoding : (o : Option ProgramValue) → encoding_of (option_map (with_file name directory info) o) ≡ encoding_of o
  same_encoding None = refl
  same_encoding (Some p) = refl

  same_directories : (o : Option ProgramValue) → directories_of (option_map (with_file name directory info) o) ≡ directories_of o
  same_directories None = refl
  same_directories (Some p) = refl

  target_with_file : (version : ℕ) (ids : List DirectoryId) (p : LineProgramValue) → IsTarget version ids p → IsTarget version ids (changed (with_file name directory info) p)
  target_with_file version ids p t = record {
    there = there_still p.program t.there;
    encoded = ap (λ (e : Encoding). e.version) (same_encoding p.program) ∙ t.encoded;
    within = subst (λ (ds : List LineString). All (λ (d : DirectoryId). d.0 < length ds) ids) (sym (same_directories p.program)) t.within;
  }

  -- a file was added
  pub target_kept : (version : ℕ) (ids : List DirectoryId) (p new : LineProgramValue) → IsTarget version ids p → new ≡ changed (with_file name directory info) p → IsTarget version ids new
  target_kept version ids p new t e = subst (λ (q : LineProgramValue). IsTarget version ids q) (sym e) (target_with_file version ids p t)

same_ok : (r : Result DirectoryId ConvertError) (d e : DirectoryId) → r ≡ Ok d → r ≡ Ok e → e ≡ d
same_ok r d e p q = cc

found_is : (o : Option DirectoryId) (d : DirectoryId) → Ok d ≡ found_directory o → o ≡ Some d
found_is None d h = absurd (cc)
found_is (Some e) d h = ap Some (same_ok (Ok e) d e (sym h) refl)

-- a directory that was found is among so many
pub found_within : (ids : List DirectoryId) (count n : ℕ) (d : DirectoryId) → All (λ e. e.0 < count) ids → Ok d ≡ directory_among ids n → d.0 < count
found_within ids count n d all h =
    let is : slice_get ids n ≡ Some d = found_is (slice_get ids n) d h in
    subst (λ (e : DirectoryId). e.0 < count) (get_or_from_slice_get ids n d d is) (All-get_or (λ (e : DirectoryId). e.0 < count) ids n d (slice_get_within ids n d is) all)
