-- The lists that the lines of a script add to a unit.
use Rattle.std.specs.Prelude.{◌^◌, Ok}
use Rattle.dw_script.specs.declared.command.Command.{Command}
use Rattle.dw_script.specs.declared.command.Command.TheVariants as command
use Rattle.dw_ends.specs.Fields.{Fields, Outcome, ◌>>=◌, number_field}
use Rattle.dw_script_fields.specs.Items.{list_of}
use Rattle.dw_script_fields.specs.Locations.{location_field}
use Rattle.dw_script_fields.specs.Ranges.{range_field}

-- the fields after `range`: the unit, and one item or more
abbrev pub range_list_line : Fields → Outcome Command
range_list_line fields = do
  (unit, fields) ← number_field (2 ^ 64) fields
  ranges ← list_of range_field fields
  Ok (command.RangeList unit ranges)

-- the fields after `loc`: the unit, and one item or more
abbrev pub location_list_line : Fields → Outcome Command
location_list_line fields = do
  (unit, fields) ← number_field (2 ^ 64) fields
  locations ← list_of location_field fields
  Ok (command.LocationList unit locations)
