-- What the files behind directories become, step by step.
use Rattle.std.proofs.Common.{◌≡◌, ℕ, List, Result, Ok, Err, refl}
use Rattle.std.specs.Prelude.{nat_le, Bool}
use Rattle.dw_base.specs.declared.ids.DirectoryId.{DirectoryId}
use Rattle.dw_base.specs.declared.ids.FileId.{FileId}
use Rattle.dw_read.specs.Reading.{Reading, left}
use Rattle.dw_read_lines.specs.FileEntryIters.{layout_of, BeginsBehind}
use Rattle.dw_read_lines.specs.LineEntries.{Files, next_read}
use Rattle.dw_read_lines.specs.declared.file_entries.FileEntryIter.{FileEntryIter}
use Rattle.dw_read_lines.specs.declared.header.LineProgramHeader.{LineProgramHeader}
use Rattle.dw_sources.specs.declared.convert_error.ConvertError.{ConvertError}
use Rattle.dw_convert_lines.specs.Entries.{IsConvertibleList, FaultyBehind, EntriesOutcome}
use Rattle.dw_convert_lines.specs.EntryImages.{Converting, file_image}
use Rattle.dw_convert_lines.specs.EntryNames.{Texts}
use Rattle.dw_convert_lines.specs.HeaderImages.{first_files}
use Rattle.dw_convert_lines.specs.HeaderLists.{AreOfHeader, FilesMade, list_of}
use Rattle.dw_convert_lines.specs.Walks.{WalkOutcome}
use Rattle.dw_convert_lines.proofs.Beginnings.{BeginsList, begins_files, faulty_files, walks_in}

module _ (R E : Type 0) (reading : R → Reading) (texts : Texts) (h : LineProgramHeader R E) (refs : Bool) (k : FileEntryIter R E) (d : Converting DirectoryId) (laid : AreOfHeader reading h k) where
  pub no_files : (x : ConvertError) → FaultyBehind k.layout (reading k.input) x → FilesMade reading texts h refs k d (Err x)
  no_files x m = (Err x, faulty_files R E reading (nat_le 5 h.encoding.encoding.version) k.layout (reading k.input) h.encoding.encoding x laid m, refl)

  -- an iterator over the files
  pub record BeginsFiles (f : FileEntryIter R E) : Type 0 where
    pub begins : BeginsBehind reading k.layout (reading k.input) f
    pub ordered : (reading f.input).is_big ≡ (reading k.input).is_big
    pub convertible : IsConvertibleList reading f

  abbrev listed : (f : FileEntryIter R E) → BeginsFiles f → BeginsList R E reading (nat_le 5 h.encoding.encoding.version) Files (reading k.input).is_big h.encoding.encoding (left (reading k.input)) f
  listed f b = begins_files R E reading (nat_le 5 h.encoding.encoding.version) k.layout (reading k.input) h.encoding.encoding f laid b.begins b.convertible

  abbrev parts_of : (f : FileEntryIter R E) → BeginsFiles f → List (ℕ × ℕ)
  parts_of f b = (listed f b).open_yet.parts

  abbrev Image : Type 0
  Image = Converting FileId

  abbrev first : Image
  first = first_files (nat_le 5 h.encoding.encoding.version) d

  abbrev FilesOutcome : FileEntryIter R E → Image → Result (Image × List ℕ) ConvertError → Type 0
  FilesOutcome f v x = EntriesOutcome reading (file_image texts (reading h.parameters.operand_counts).is_big refs d.ids) f v x

  walks_files : (f : FileEntryIter R E) (b : BeginsFiles f) (v : Image) (x : Result (Image × List ℕ) ConvertError) → v ≡ first → FilesOutcome f v x
      → WalkOutcome (next_read (reading k.input).is_big (layout_of reading f.layout (parts_of f b))) (file_image texts (reading h.parameters.operand_counts).is_big refs d.ids) f.remaining (left (reading f.input)) first x
  walks_files f b v x q o =
      walks_in R E reading (file_image texts (reading h.parameters.operand_counts).is_big refs d.ids) f f.layout (reading k.input).is_big (parts_of f b) v first x refl b.ordered (listed f b).open_yet.described q o

  pub no_file : (f : FileEntryIter R E) (v : Image) (x : ConvertError) → BeginsFiles f → v ≡ first → FilesOutcome f v (Err x) → FilesMade reading texts h refs k d (Err x)
  no_file f v x b q o = (Ok (list_of reading f (parts_of f b)), (listed f b).outcome, (Err x, walks_files f b v (Err x) q o, refl))

  pub all_files : (f : FileEntryIter R E) (v x : Image) (rest : List ℕ) → BeginsFiles f → v ≡ first → FilesOutcome f v (Ok (x, rest)) → FilesMade reading texts h refs k d (Ok x)
  all_files f v x rest b q o = (Ok (list_of reading f (parts_of f b)), (listed f b).outcome, (Ok (x, rest), walks_files f b v (Ok (x, rest)) q o, refl))
