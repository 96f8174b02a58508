-- What the directories of a header and the files behind them become, step by step.
use Rattle.std.proofs.Common.{◌≡◌, subst, ℕ, Bool, List, Result, Ok, Err, refl}
use Rattle.dw_base.specs.declared.ids.DirectoryId.{DirectoryId}
use Rattle.dw_base.specs.declared.ids.FileId.{FileId}
use Rattle.dw_read.specs.Reading.{Reading, left}
use Rattle.dw_read_lines.specs.FileEntryIters.{layout_of, HasParts}
use Rattle.dw_read_lines.specs.LineEntries.{next_read}
use Rattle.dw_read_lines.specs.declared.file_entries.FileEntryIter.{FileEntryIter}
use Rattle.dw_read_lines.specs.declared.header.LineProgramHeader.{LineProgramHeader}
use Rattle.dw_sources.specs.declared.convert_error.ConvertError.{ConvertError}
use Rattle.dw_convert_lines.specs.Entries.{IsSameList, EntriesOutcome}
use Rattle.dw_convert_lines.specs.EntryImages.{Converting, directory_image}
use Rattle.dw_convert_lines.specs.EntryNames.{Texts}
use Rattle.dw_convert_lines.specs.HeaderImages.{FilesBehind}
use Rattle.dw_convert_lines.specs.HeaderLists.{FilesMade, EntriesMade}
use Rattle.dw_convert_lines.specs.Walks.{WalkOutcome}
use Rattle.dw_convert_lines.proofs.Beginnings.{walks_in}

module _ (R E : Type 0) (reading : R → Reading) (texts : Texts) (h : LineProgramHeader R E) (refs : Bool) (i : FileEntryIter R E) (s first : Converting DirectoryId) (q : s ≡ first) where
  abbrev Directory : Type 0
  Directory = Converting DirectoryId

  abbrev DirectoriesMade : Result (Directory × List ℕ) ConvertError → Type 0
  DirectoriesMade x = EntriesOutcome reading (directory_image refs texts) i s x

  walks_directories : (x : Result (Directory × List ℕ) ConvertError) (parts : List (ℕ × ℕ)) → HasParts reading i.layout parts → DirectoriesMade x
      → WalkOutcome (next_read (reading i.input).is_big (layout_of reading i.layout parts)) (directory_image refs texts) i.remaining (left (reading i.input)) first x
  walks_directories x parts has o = walks_in R E reading (directory_image refs texts) i i.layout (reading i.input).is_big parts s first x refl refl has q o

  pub no_directory : (x : ConvertError) → DirectoriesMade (Err x) → EntriesMade reading texts h refs i first (Err x)
  no_directory x o = λ parts has. (Err x, walks_directories (Err x) parts has o, refl)

  -- the files follow behind the directories, where k stands
  pub with_files : (d : Directory) (k : FileEntryIter R E) (r : Result (Converting FileId) ConvertError) → DirectoriesMade (Ok (d, left (reading k.input))) → IsSameList reading i k
      → FilesMade reading texts h refs k d r → EntriesMade reading texts h refs i first r
  with_files d k r o same f = λ parts has. (
    Ok (d, left (reading k.input)),
    walks_directories (Ok (d, left (reading k.input))) parts has o,
    subst (λ (b : Bool). FilesBehind texts h.encoding.encoding b (reading h.parameters.operand_counts).is_big refs (d, left (reading k.input)) r) same.order f,
  )
