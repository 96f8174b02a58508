-- What the lines of a script make of a unit's line program (DWARF 5, 6.2).
use Rattle.std.specs.Prelude.{◌≡◌, ℕ, true, false, not, nat_lt, [], ◌∷◌, length, Option, Some, None, Ok, Err, is_none, if◌then◌else◌}
use Rattle.dw_base.specs.declared.address.Address.{Address}
use Rattle.dw_base.specs.declared.common.Encoding.{Encoding}
use Rattle.dw_line.specs.LinePrograms.{LineProgramValue, usual_line_encoding, encoding_of, line_encoding_of, is_in_sequence, directories_of, file_count_of, last_offset_of, changed, begun, generated}
use Rattle.dw_line.specs.LineRows.{first_line_row}
use Rattle.dw_line.specs.ProgramTexts.{with_directory, with_file, with_end}
use Rattle.dw_line.specs.declared.line_string.LineString.{LineString}
use Rattle.dw_ends.specs.Fields.{Outcome, ◌>>=◌}
use Rattle.dw_script.specs.declared.line_change.LineChange.{LineChange}
use Rattle.dw_script.specs.declared.line_change.LineChange.TheVariants as change
use Rattle.dw_script.specs.declared.line_change.LineText.{LineText}
use Rattle.dw_ends.specs.declared.reason.Reason.TheVariants.{NoLineProgram, NoSuchDirectory, InSequence, NotInSequence, NoSuchFile, AddressBack}
use Rattle.dw_tree.specs.UnitValue.{UnitValue}
use Rattle.dw_script_units.specs.Names.{name_of, listed_name}

-- a program whose smallest instruction has one byte, so that each offset may be one of a row; lines build no others
abbrev pub CountsBytes : LineProgramValue → Type 0
CountsBytes v = (line_encoding_of v.program).minimum_instruction_length ≡ 1

-- a program of no files and no sequences, whose first directory is the working directory
abbrev pub new_line_program : Encoding → LineString → LineProgramValue
new_line_program encoding working_directory = record {
  program = Some (record {
    encoding = encoding;
    line_encoding = usual_line_encoding;
    directories = working_directory ∷ [];
    files = [];
    sequences = [];
    in_sequence = false;
    address = None;
    rows = [];
  });
  row = first_line_row true;
}

abbrev pub program_of : Encoding → LineText → Outcome LineProgramValue
program_of encoding working_directory = name_of working_directory >>= λ name. Ok (new_line_program encoding name)

-- a program with one more directory, if none equals it
abbrev pub after_directory : LineText → LineProgramValue → Outcome LineProgramValue
after_directory directory v =
    if is_none v.program then Err NoLineProgram
    else (listed_name (encoding_of v.program).version directory >>= λ name. Ok (changed (with_directory name) v))

-- one with one more file of a directory, if none is the same
abbrev pub after_file : LineText → ℕ → LineProgramValue → Outcome LineProgramValue
after_file file directory v =
    if is_none v.program then Err NoLineProgram
    else (listed_name (encoding_of v.program).version file >>= λ name.
    if not (nat_lt directory (length (directories_of v.program))) then Err NoSuchDirectory
    else Ok (changed (with_file name (record { 0 = directory }) None) v))

-- one with a sequence begun
abbrev pub after_begin : Option Address → LineProgramValue → Outcome LineProgramValue
after_begin address v =
    if is_none v.program then Err NoLineProgram
    else (if is_in_sequence v.program then Err InSequence
    else Ok (begun address v))

-- one whose next row has these, and is otherwise as it was
abbrev pub with_next_row : ℕ → ℕ → ℕ → ℕ → LineProgramValue → LineProgramValue
with_next_row offset file line column v =
    record v { row = record v.row { address_offset = offset; file = record { 0 = file }; line = line; column = column } }

-- one with a row more
abbrev pub after_row : ℕ → ℕ → ℕ → ℕ → LineProgramValue → Outcome LineProgramValue
after_row offset file line column v =
    if is_none v.program then Err NoLineProgram
    else (if not (is_in_sequence v.program) then Err NotInSequence
    else (if not (nat_lt file (file_count_of v.program)) then Err NoSuchFile
    else (if nat_lt offset (last_offset_of v.program) then Err AddressBack
    else Ok (generated (with_next_row offset file line column v)))))

-- one with its sequence ended
abbrev pub after_end : ℕ → LineProgramValue → Outcome LineProgramValue
after_end offset v =
    if is_none v.program then Err NoLineProgram
    else (if not (is_in_sequence v.program) then Err NotInSequence
    else (if nat_lt offset (last_offset_of v.program) then Err AddressBack
    else Ok (changed (with_end offset) v)))

-- the line program of a unit of this encoding after a change
abbrev pub after_program_change : LineChange → Encoding → LineProgramValue → Outcome LineProgramValue
after_program_change (change.New working_directory) encoding v = program_of encoding working_directory
after_program_change (change.AddDirectory directory) encoding v = after_directory directory v
after_program_change (change.AddFile file directory) encoding v = after_file file directory v
after_program_change (change.BeginSequence address) encoding v = after_begin address v
after_program_change (change.AddRow offset file line column) encoding v = after_row offset file line column v
after_program_change (change.EndSequence offset) encoding v = after_end offset v

-- a unit after a change of its line program
abbrev pub after_line_change : LineChange → UnitValue → Outcome UnitValue
after_line_change c u = after_program_change c u.encoding u.line_program >>= λ v. Ok (record u { line_program = v })
