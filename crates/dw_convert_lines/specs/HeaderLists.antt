-- What the directories and files of a header become, as they are read one after the other.
use Rattle.std.specs.Prelude.{◌≡◌, ℕ, nat_le, Bool, true, false, List, Result}
use Rattle.dw_base.specs.declared.common.Encoding.{Encoding}
use Rattle.dw_base.specs.declared.common.LineEncoding.{LineEncoding}
use Rattle.dw_base.specs.declared.ids.DirectoryId.{DirectoryId}
use Rattle.dw_base.specs.declared.ids.FileId.{FileId}
use Rattle.dw_line.specs.declared.line_string.LineString.{LineString}
use Rattle.dw_read.specs.Reading.{Reading, left}
use Rattle.dw_read_lines.specs.FileEntryIters.{layout_of, HasParts}
use Rattle.dw_read_lines.specs.LineEntries.{next_read}
use Rattle.dw_read_lines.specs.declared.file_entries.FileEntryIter.{FileEntryIter}
use Rattle.dw_read_lines.specs.declared.file_entries.Layout.{Layout as HeldLayout}
use Rattle.dw_read_lines.specs.declared.file_entries.Layout.TheVariants as held
use Rattle.dw_read_lines.specs.declared.header.LineProgramHeader.{LineProgramHeader}
use Rattle.dw_sources.specs.declared.convert_error.ConvertError.{ConvertError}
use Rattle.dw_convert_lines.specs.EntryImages.{Converting, directory_image}
use Rattle.dw_convert_lines.specs.EntryNames.{Texts, Tables}
use Rattle.dw_convert_lines.specs.HeaderImages.{EntryList, Working, first_directories, FilesBehind}
use Rattle.dw_convert_lines.specs.Results.{Then}
use Rattle.dw_convert_lines.specs.Walks.{WalkOutcome}

-- how directories are laid out in a header of this encoding: from version 5 on by a description
abbrev pub AreDirectories : {R E : Type 0} → Bool → Encoding → HeldLayout R E → Type 0
AreDirectories false e l = l ≡ held.Directories
AreDirectories true e held.Directories = ⊥
AreDirectories true e held.Files = ⊥
AreDirectories true e (held.Described d) = d.encoding.encoding ≡ e

module _ {R E : Type 0} (reading : R → Reading) where
  -- the list that follows, with the parts of its description
  abbrev pub list_of : FileEntryIter R E → List (ℕ × ℕ) → EntryList
  list_of i parts = record { layout = layout_of reading i.layout parts; count = i.remaining; bytes = left (reading i.input) }

  -- a working directory, behind which these directories follow
  abbrev pub working_at : LineString → Tables → FileEntryIter R E → Working
  working_at name t i = record { name = name; tables = t; count = i.remaining; bytes = left (reading i.input) }

  -- the encoding of a header says how its directories are laid out
  abbrev pub AreOfHeader : LineProgramHeader R E → FileEntryIter R E → Type 0
  AreOfHeader h i = AreDirectories (nat_le 5 h.encoding.encoding.version) h.encoding.encoding i.layout

  -- the files of a header behind its directories, of which those became these
  abbrev pub FilesMade : Texts → LineProgramHeader R E → Bool → FileEntryIter R E → Converting DirectoryId → Result (Converting FileId) ConvertError → Type 0
  FilesMade texts h refs i d = FilesBehind texts h.encoding.encoding (reading i.input).is_big (reading h.parameters.operand_counts).is_big refs (d, left (reading i.input))

  -- the directories of a header that follow, added to those before them, and then the files
  abbrev pub EntriesMade : Texts → LineProgramHeader R E → Bool → FileEntryIter R E → Converting DirectoryId → Result (Converting FileId) ConvertError → Type 0
  EntriesMade texts h refs i s r =
      (parts : List (ℕ × ℕ)) → HasParts reading i.layout parts
      → Then (WalkOutcome (next_read (reading i.input).is_big (layout_of reading i.layout parts)) (directory_image refs texts) i.remaining (left (reading i.input)) s)
      (FilesBehind texts h.encoding.encoding (reading i.input).is_big (reading h.parameters.operand_counts).is_big refs) r

  -- the program of a working directory with the directories of a header that follow, and then the files
  abbrev pub ProgramMade : Texts → LineProgramHeader R E → Encoding → LineEncoding → FileEntryIter R E → LineString → Tables → Result (Converting FileId) ConvertError → Type 0
  ProgramMade texts h e parameters i name t = EntriesMade texts h (nat_le 5 e.version) i (first_directories e parameters (working_at name t i))
