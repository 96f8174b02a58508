-- What a line program shows: nothing, or its parts, and the next row.
use Rattle.std.specs.Prelude.{ℕ, Bool, true, false, List, [], length, Option, Some, None, IfSome}
use Rattle.std.specs.Option.{option_map, option_map_or}
use Rattle.dw_base.specs.declared.address.Address.{Address}
use Rattle.dw_base.specs.declared.common.Encoding.{Encoding}
use Rattle.dw_base.specs.declared.common.Format.TheVariants.{Dwarf32}
use Rattle.dw_base.specs.declared.common.LineEncoding.{LineEncoding}
use Rattle.dw_base.specs.declared.error.Error.{Error}
use Rattle.dw_base.specs.declared.error.Error.TheVariants.{IncompatibleLineProgramEncoding}
use Rattle.std.specs.Prelude.{negsuc}
use Rattle.dw_writer.specs.Meaning.{Model}
use Rattle.dw_line.specs.LineRows.{first_line_row, last_offset}
use Rattle.dw_line.specs.Names.{IsName}
use Rattle.dw_line.specs.ProgramTexts.{ProgramValue, with_begin, with_row, program_sequences, program_size, program_text, program_fails}
use Rattle.dw_line.specs.SequenceTexts.{BuiltSequence}
use Rattle.dw_line.specs.declared.line_string.FileInfo.{FileInfo}
use Rattle.dw_line.specs.declared.line_string.LineString.{LineString}
use Rattle.dw_line.specs.declared.file.FileEntry.{FileEntry}
use Rattle.dw_line.specs.declared.row.LineRow.{LineRow}

pub record LineProgramValue : Type 0 where
  pub program : Option ProgramValue
  -- the next row of the sequence
  pub row : LineRow

abbrev pub no_line_program : LineProgramValue
no_line_program = record { program = None; row = first_line_row true }

-- the parameters that no program has are the usual ones
abbrev pub usual_line_encoding : LineEncoding
usual_line_encoding = record { minimum_instruction_length = 1; maximum_operations_per_instruction = 1; default_is_stmt = true; line_base = negsuc 4; line_range = 14 }

abbrev pub encoding_of : Option ProgramValue → Encoding
encoding_of None = record { address_size = 0; format = Dwarf32; version = 2 }
encoding_of (Some p) = p.encoding

abbrev pub line_encoding_of : Option ProgramValue → LineEncoding
line_encoding_of None = usual_line_encoding
line_encoding_of (Some p) = p.line_encoding

abbrev pub is_in_sequence : Option ProgramValue → Bool
is_in_sequence None = false
is_in_sequence (Some p) = p.in_sequence

abbrev pub directories_of : Option ProgramValue → List LineString
directories_of None = []
directories_of (Some p) = p.directories

abbrev pub files_of : Option ProgramValue → List FileEntry
files_of None = []
files_of (Some p) = p.files

abbrev pub file_count_of : Option ProgramValue → ℕ
file_count_of None = 0
file_count_of (Some p) = length p.files

abbrev pub last_offset_of : Option ProgramValue → ℕ
last_offset_of None = 0
last_offset_of (Some p) = last_offset 0 p.rows

-- all sequences, the last of which may be open
abbrev pub sequences_of : Option ProgramValue → List BuiltSequence
sequences_of None = []
sequences_of (Some p) = program_sequences p

-- the text of a file can be written
abbrev pub IsInfo : Option FileInfo → Type 0
IsInfo info = IfSome info (λ i. IfSome i.source IsName)

-- the same with the parts of the program changed
abbrev pub changed : (ProgramValue → ProgramValue) → LineProgramValue → LineProgramValue
changed f v = record v { program = option_map f v.program }

abbrev pub begun : Option Address → LineProgramValue → LineProgramValue
begun address v = record {
  program = option_map (with_begin address) v.program;
  row = first_line_row (line_encoding_of v.program).default_is_stmt;
}

-- the discriminator and the marks hold for one row
abbrev pub next_row : LineRow → LineRow
next_row r = record r { discriminator = 0; basic_block = false; prologue_end = false; epilogue_begin = false }

abbrev pub generated : LineProgramValue → LineProgramValue
generated v = record { program = option_map (with_row v.row) v.program; row = next_row v.row }

-- what is written, if there is a program
abbrev pub line_program_size : LineProgramValue → ℕ
line_program_size v = option_map_or program_size v.program 0

module _ (strings line_strings : List (List ℕ)) where
  abbrev pub optional_text : Option ProgramValue → Model
  optional_text None big l = None
  optional_text (Some p) big l = program_text strings line_strings p big l

  abbrev pub line_program_text : LineProgramValue → Model
  line_program_text v = optional_text v.program

  abbrev pub optional_fails : Bool → Encoding → Option ProgramValue → Error → Bool
  optional_fails plain unit None IncompatibleLineProgramEncoding = true
  optional_fails plain unit None e = false
  optional_fails plain unit (Some p) e = program_fails strings line_strings plain unit p e

  -- why a program is refused for a unit of an encoding
  abbrev pub line_program_fails : Bool → Encoding → LineProgramValue → Error → Bool
  line_program_fails plain unit v e = optional_fails plain unit v.program e
