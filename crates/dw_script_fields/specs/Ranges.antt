-- Range lists, as the lines of a script have them (DWARF 5, 2.17.3).
use Rattle.std.specs.Prelude.{◌^◌, List, Ok, ok_or}
use Rattle.dw_script_fields.specs.declared.range.ScriptRange.{ScriptRange}
use Rattle.dw_script_fields.specs.declared.range.ScriptRange.TheVariants as range
use Rattle.dw_script_fields.specs.declared.range_list.RangeItems.{RangeItems}
use Rattle.dw_script_fields.specs.declared.range_word.RangeWord.{RangeWord}
use Rattle.dw_script_fields.specs.declared.range_word.RangeWord.TheVariants as word
use Rattle.dw_ends.specs.declared.reason.Reason.TheVariants.{UnknownWord}
use Rattle.dw_ends.specs.Fields.{Fields, Outcome, ◌>>=◌, next_field, number_field}
use Rattle.dw_script_fields.specs.Fields.{made, address_field}
use Rattle.dw_script_fields.specs.Items.{items_of}
use Rattle.dw_script_fields.specs.Operations.{made_of_two}
use Rattle.dw_ends.specs.Pieces.{pieces_left}
use Rattle.dw_script_fields.specs.RangeWords.{range_word_of}

-- the word of an item, and the fields after it
abbrev pub range_word_field : Fields → Outcome (RangeWord × Fields)
range_word_field fields = do
  (field, fields) ← next_field fields
  word ← ok_or (range_word_of field) UnknownWord
  Ok (word, fields)

-- the item of a word, and the fields after it: a base; two offsets from the base; the two ends; the begin, and how many bytes follow it
abbrev pub range_of_word : RangeWord → Fields → Outcome (ScriptRange × Fields)
range_of_word word.Base fields = made range.BaseAddress (address_field fields)
range_of_word word.Pair fields = made_of_two range.OffsetPair (number_field (2 ^ 64) fields) (number_field (2 ^ 64))
range_of_word word.Ends fields = made_of_two range.StartEnd (address_field fields) address_field
range_of_word word.Length fields = made_of_two range.StartLength (address_field fields) (number_field (2 ^ 64))

-- an item, its word before it, and the fields after it
abbrev pub range_field : Fields → Outcome (ScriptRange × Fields)
range_field fields = do
  (word, fields) ← range_word_field fields
  range_of_word word fields

-- the items that are still to come
unfoldable pub ranges_left : RangeItems → List ScriptRange
ranges_left i = (items_of range_field (pieces_left i.fields)).0
