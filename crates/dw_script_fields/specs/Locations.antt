-- Location lists, as the lines of a script have them (DWARF 5, 2.6.2).
use Rattle.std.specs.Prelude.{List, Ok, ok_or}
use Rattle.dw_script_fields.specs.declared.location.ScriptLocation.{ScriptLocation}
use Rattle.dw_script_fields.specs.declared.location.ScriptLocation.TheVariants as location
use Rattle.dw_script_fields.specs.declared.location_list.LocationItems.{LocationItems}
use Rattle.dw_script_fields.specs.declared.location_word.LocationWord.{LocationWord}
use Rattle.dw_script_fields.specs.declared.location_word.LocationWord.TheVariants as word
use Rattle.dw_script_fields.specs.declared.range.ScriptRange.{ScriptRange}
use Rattle.dw_script_fields.specs.declared.range.ScriptRange.TheVariants as range
use Rattle.dw_ends.specs.declared.reason.Reason.TheVariants.{UnknownWord}
use Rattle.dw_script_fields.specs.Expressions.{expression_field}
use Rattle.dw_ends.specs.Fields.{Fields, Outcome, ◌>>=◌, next_field}
use Rattle.dw_script_fields.specs.Fields.{made}
use Rattle.dw_script_fields.specs.Items.{items_of}
use Rattle.dw_script_fields.specs.LocationWords.{location_word_of}
use Rattle.dw_ends.specs.Pieces.{pieces_left}
use Rattle.dw_script_fields.specs.Ranges.{range_of_word}

-- the word of an item, and the fields after it
abbrev pub location_word_field : Fields → Outcome (LocationWord × Fields)
location_word_field fields = do
  (field, fields) ← next_field fields
  word ← ok_or (location_word_of field) UnknownWord
  Ok (word, fields)

-- the item of addresses, and the fields after it: an expression stands behind all but a base
abbrev pub location_of_range : ScriptRange → Fields → Outcome (ScriptLocation × Fields)
location_of_range (range.BaseAddress address) fields = Ok (location.BaseAddress address, fields)
location_of_range (range.OffsetPair begin end) fields = made (location.OffsetPair begin end) (expression_field fields)
location_of_range (range.StartEnd begin end) fields = made (location.StartEnd begin end) (expression_field fields)
location_of_range (range.StartLength begin length) fields = made (location.StartLength begin length) (expression_field fields)

-- the item whose addresses a word begins, and the fields after it
abbrev pub located : Outcome (ScriptRange × Fields) → Outcome (ScriptLocation × Fields)
located outcome = do
  (range, fields) ← outcome
  location_of_range range fields

-- the item of a word, and the fields after it
abbrev pub location_of_word : LocationWord → Fields → Outcome (ScriptLocation × Fields)
location_of_word (word.Range word) fields = located (range_of_word word fields)
location_of_word word.Default fields = made location.DefaultLocation (expression_field fields)

-- an item, its word before it, and the fields after it
abbrev pub location_field : Fields → Outcome (ScriptLocation × Fields)
location_field fields = do
  (word, fields) ← location_word_field fields
  location_of_word word fields

-- the items that are still to come
unfoldable pub locations_left : LocationItems → List ScriptLocation
locations_left i = (items_of location_field (pieces_left i.fields)).0
