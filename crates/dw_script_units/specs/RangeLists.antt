-- The range lists that the lines of a script add to a unit (DWARF 5, 2.17.3).
use Rattle.std.specs.Prelude.{List, map, Ok}
use Rattle.dw_lists.specs.Equal.{list_eq}
use Rattle.dw_lists.specs.Lists.{with_list}
use Rattle.dw_lists.specs.declared.range.Range.{Range}
use Rattle.dw_lists.specs.declared.range.Range.TheVariants as stored
use Rattle.dw_ends.specs.Fields.{Outcome}
use Rattle.dw_script_fields.specs.declared.range.ScriptRange.{ScriptRange}
use Rattle.dw_script_fields.specs.declared.range.ScriptRange.TheVariants as range
use Rattle.dw_tree.specs.UnitValue.{UnitValue}

-- an item, as lists have it
abbrev pub stored_range : ScriptRange → Range
stored_range (range.BaseAddress address) = stored.BaseAddress address
stored_range (range.OffsetPair begin end) = stored.OffsetPair begin end
stored_range (range.StartEnd begin end) = stored.StartEnd begin end
stored_range (range.StartLength begin length) = stored.StartLength begin length

-- the list of a line
abbrev pub ranges_of : List ScriptRange → List Range
ranges_of ranges = map stored_range ranges

-- a unit with one more range list, if none equals it
abbrev pub after_range_list : List ScriptRange → UnitValue → Outcome UnitValue
after_range_list ranges u = Ok (record u { ranges = with_list list_eq u.ranges (ranges_of ranges) })
