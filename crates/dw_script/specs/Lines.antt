-- What a line of a script asks for, or why it is refused.
use Rattle.std.specs.Prelude.{ℕ, ◌^◌, List, Option, Ok}
use Rattle.dw_script.specs.declared.change.Change.TheVariants as change
use Rattle.dw_script.specs.declared.command.Command.{Command}
use Rattle.dw_script.specs.declared.command.Command.TheVariants as command
use Rattle.dw_script.specs.declared.word.Word.{Word}
use Rattle.dw_script.specs.declared.word.Word.TheVariants as word
use Rattle.dw_ends.specs.Fields.{line_fields, said_by, Fields, Outcome, ◌>>=◌, end_of_fields, number_field, byte_order_field, hex_field}
use Rattle.dw_script_fields.specs.Fields.{format_field, flag_field}
use Rattle.dw_script.specs.Words.{word_field}
use Rattle.dw_script.specs.LinePrograms.{line_program_line, directory_line, file_line, sequence_line, row_line, end_line}
use Rattle.dw_script.specs.Lists.{range_list_line, location_list_line}
use Rattle.dw_script_fields.specs.Values.{tag_field, attribute_field, value_field}

-- the fields after `order`: the byte order
abbrev pub order_line : Fields → Outcome Command
order_line fields = do
  (order, fields) ← byte_order_field fields
  _ ← end_of_fields fields
  Ok (command.Order order)

-- the fields after `unit`: the version, the bytes of an address, and the format
abbrev pub unit_line : Fields → Outcome Command
unit_line fields = do
  (version, fields) ← number_field (2 ^ 16) fields
  (address_size, fields) ← number_field (2 ^ 8) fields
  (format, fields) ← format_field fields
  _ ← end_of_fields fields
  Ok (command.Unit (record { address_size = address_size; format = format; version = version }))

-- the fields after `str`: the bytes of a string of .debug_str
abbrev pub string_line : Fields → Outcome Command
string_line fields = do
  (bytes, fields) ← hex_field fields
  _ ← end_of_fields fields
  Ok (command.String bytes)

-- the fields after `line_str`: the bytes of a string of .debug_line_str
abbrev pub line_string_line : Fields → Outcome Command
line_string_line fields = do
  (bytes, fields) ← hex_field fields
  _ ← end_of_fields fields
  Ok (command.LineString bytes)

-- the fields after `add`: the unit, the entry above the new one, and the tag
abbrev pub add_line : Fields → Outcome Command
add_line fields = do
  (unit, fields) ← number_field (2 ^ 64) fields
  (parent, fields) ← number_field (2 ^ 64) fields
  (tag, fields) ← tag_field fields
  _ ← end_of_fields fields
  Ok (command.Change unit (change.Add parent tag))

-- the fields after `reserve`: the unit
abbrev pub reserve_line : Fields → Outcome Command
reserve_line fields = do
  (unit, fields) ← number_field (2 ^ 64) fields
  _ ← end_of_fields fields
  Ok (command.Change unit change.Reserve)

-- the fields after `add_reserved`: the unit, the reserved id, the entry above the new one, and the tag
abbrev pub add_reserved_line : Fields → Outcome Command
add_reserved_line fields = do
  (unit, fields) ← number_field (2 ^ 64) fields
  (entry, fields) ← number_field (2 ^ 64) fields
  (parent, fields) ← number_field (2 ^ 64) fields
  (tag, fields) ← tag_field fields
  _ ← end_of_fields fields
  Ok (command.Change unit (change.AddReserved entry parent tag))

-- the fields after `sibling`: the unit, the entry, and whether it names the place past its children
abbrev pub sibling_line : Fields → Outcome Command
sibling_line fields = do
  (unit, fields) ← number_field (2 ^ 64) fields
  (entry, fields) ← number_field (2 ^ 64) fields
  (sibling, fields) ← flag_field fields
  _ ← end_of_fields fields
  Ok (command.Change unit (change.Sibling entry sibling))

-- the fields after `set`: the unit, the entry, the attribute's name, and its value
abbrev pub set_line : Fields → Outcome Command
set_line fields = do
  (unit, fields) ← number_field (2 ^ 64) fields
  (entry, fields) ← number_field (2 ^ 64) fields
  (name, fields) ← attribute_field fields
  (value, fields) ← value_field fields
  _ ← end_of_fields fields
  Ok (command.Change unit (change.Set entry name value))

-- the fields after `delete`: the unit, the entry, and the attribute's name
abbrev pub delete_line : Fields → Outcome Command
delete_line fields = do
  (unit, fields) ← number_field (2 ^ 64) fields
  (entry, fields) ← number_field (2 ^ 64) fields
  (name, fields) ← attribute_field fields
  _ ← end_of_fields fields
  Ok (command.Change unit (change.Delete entry name))

-- the fields after `delete_child`: the unit, the entry above the child, and the child
abbrev pub delete_child_line : Fields → Outcome Command
delete_child_line fields = do
  (unit, fields) ← number_field (2 ^ 64) fields
  (parent, fields) ← number_field (2 ^ 64) fields
  (entry, fields) ← number_field (2 ^ 64) fields
  _ ← end_of_fields fields
  Ok (command.Change unit (change.DeleteChild parent entry))

-- what the fields after a word ask for
abbrev pub line_of : Word → Fields → Outcome Command
line_of word.Order fields = order_line fields
line_of word.Unit fields = unit_line fields
line_of word.Add fields = add_line fields
line_of word.Reserve fields = reserve_line fields
line_of word.AddReserved fields = add_reserved_line fields
line_of word.Sibling fields = sibling_line fields
line_of word.Set fields = set_line fields
line_of word.Delete fields = delete_line fields
line_of word.DeleteChild fields = delete_child_line fields
line_of word.Str fields = string_line fields
line_of word.LineStr fields = line_string_line fields
line_of word.Line fields = line_program_line fields
line_of word.Dir fields = directory_line fields
line_of word.File fields = file_line fields
line_of word.Sequence fields = sequence_line fields
line_of word.Row fields = row_line fields
line_of word.End fields = end_line fields
line_of word.Range fields = range_list_line fields
line_of word.Loc fields = location_list_line fields

-- what the fields of a line ask for, from its word on
abbrev pub command_of : Fields → Outcome Command
command_of fields = do
  (word, fields) ← word_field fields
  line_of word fields

-- what a line asks for
unfoldable pub parsed_line : List ℕ → Outcome (Option Command)
parsed_line line = line_fields line >>= said_by command_of
