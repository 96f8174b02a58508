-- What the lines of a script ask of a unit's line program.
use Rattle.std.specs.Prelude.{ℕ, ◌^◌, List, Ok, Err, bytes_eq, codes, if◌then◌else◌}
use Rattle.dw_script.specs.declared.command.Command.{Command}
use Rattle.dw_script.specs.declared.command.Command.TheVariants as command
use Rattle.dw_script.specs.declared.line_change.LineChange.TheVariants as change
use Rattle.dw_script.specs.declared.line_change.LineText.{LineText}
use Rattle.dw_script.specs.declared.line_change.LineText.TheVariants as text
use Rattle.dw_ends.specs.declared.reason.Reason.TheVariants.{UnknownWord}
use Rattle.dw_ends.specs.Fields.{Fields, Outcome, ◌>>=◌, next_field, end_of_fields, number_field, hex_field}
use Rattle.dw_script_fields.specs.Fields.{made, address_or_none_field}

-- what a word and the field after it say: a name's own bytes, or the number of a string
abbrev pub text_of_word : List ℕ → Fields → Outcome (LineText × Fields)
text_of_word word fields =
    if bytes_eq word (codes "text") then made text.String (hex_field fields)
    else (if bytes_eq word (codes "str") then made text.StringRef (number_field (2 ^ 64) fields)
    else (if bytes_eq word (codes "line_str") then made text.LineStringRef (number_field (2 ^ 64) fields)
    else Err UnknownWord))

-- a name, and the fields after it
abbrev pub line_text_field : Fields → Outcome (LineText × Fields)
line_text_field fields = do
  (word, fields) ← next_field fields
  text_of_word word fields

-- the fields after `line`: the unit, and the working directory
abbrev pub line_program_line : Fields → Outcome Command
line_program_line fields = do
  (unit, fields) ← number_field (2 ^ 64) fields
  (working_directory, fields) ← line_text_field fields
  _ ← end_of_fields fields
  Ok (command.Line unit (change.New working_directory))

-- the fields after `dir`: the unit, and the directory
abbrev pub directory_line : Fields → Outcome Command
directory_line fields = do
  (unit, fields) ← number_field (2 ^ 64) fields
  (directory, fields) ← line_text_field fields
  _ ← end_of_fields fields
  Ok (command.Line unit (change.AddDirectory directory))

-- the fields after `file`: the unit, the file's name, and the number of its directory
abbrev pub file_line : Fields → Outcome Command
file_line fields = do
  (unit, fields) ← number_field (2 ^ 64) fields
  (name, fields) ← line_text_field fields
  (directory, fields) ← number_field (2 ^ 64) fields
  _ ← end_of_fields fields
  Ok (command.Line unit (change.AddFile name directory))

-- the fields after `sequence`: the unit, and the address, which may be missing
abbrev pub sequence_line : Fields → Outcome Command
sequence_line fields = do
  (unit, fields) ← number_field (2 ^ 64) fields
  (address, fields) ← address_or_none_field fields
  _ ← end_of_fields fields
  Ok (command.Line unit (change.BeginSequence address))

-- the fields after `row`: the unit, the offset from the sequence's address, the file's number, the line, and the column
abbrev pub row_line : Fields → Outcome Command
row_line fields = do
  (unit, fields) ← number_field (2 ^ 64) fields
  (offset, fields) ← number_field (2 ^ 64) fields
  (file, fields) ← number_field (2 ^ 64) fields
  (line, fields) ← number_field (2 ^ 64) fields
  (column, fields) ← number_field (2 ^ 64) fields
  _ ← end_of_fields fields
  Ok (command.Line unit (change.AddRow offset file line column))

-- the fields after `end`: the unit, and the offset from the sequence's address
abbrev pub end_line : Fields → Outcome Command
end_line fields = do
  (unit, fields) ← number_field (2 ^ 64) fields
  (offset, fields) ← number_field (2 ^ 64) fields
  _ ← end_of_fields fields
  Ok (command.Line unit (change.EndSequence offset))
