-- What is converted, as definitions have it.
use Rattle.std.specs.Prelude.{◌≡◌, ℕ, ◌<◌, List, length, All, IsSome}
use Rattle.dw_base.specs.declared.ids.DirectoryId.{DirectoryId}
use Rattle.dw_line.specs.LinePrograms.{LineProgramValue, encoding_of, directories_of}
use Rattle.dw_read.specs.Reading.{Reading, left}
use Rattle.dw_read_units.specs.declared.dwarf.Dwarf.{Dwarf}
use Rattle.dw_convert_lines.specs.EntryNames.{Texts, Tables}
use Rattle.dw_convert_lines.specs.EntryImages.{Converting}

-- the sections of strings of a file
abbrev pub texts_of : {R E : Type 0} → (R → Reading) → Dwarf R E → Texts
texts_of reading d = record { strings = left (reading d.debug_str); line_strings = left (reading d.debug_line_str) }

abbrev pub tables : List (List ℕ) → List (List ℕ) → Tables
tables strings line_strings = record { strings = strings; line_strings = line_strings }

abbrev pub converting : {Id : Type 0} → LineProgramValue → List Id → List (List ℕ) → List (List ℕ) → Converting Id
converting program ids strings line_strings = record { program = program; ids = ids; tables = tables strings line_strings }

-- a program of this version, in which these directories are
pub record IsTarget (version : ℕ) (directories : List DirectoryId) (p : LineProgramValue) : Type 0 where
  pub there : IsSome p.program
  pub encoded : (encoding_of p.program).version ≡ version
  pub within : All (λ d. d.0 < length (directories_of p.program)) directories
