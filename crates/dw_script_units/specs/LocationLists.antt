-- The location lists that the lines of a script add to a unit (DWARF 5, 2.6.2).
use Rattle.std.specs.Prelude.{List, map, Ok}
use Rattle.dw_lists.specs.EqualLocations.{locations_eq}
use Rattle.dw_lists.specs.Lists.{with_list}
use Rattle.dw_lists.specs.declared.location.Location.{Location}
use Rattle.dw_lists.specs.declared.location.Location.TheVariants as stored
use Rattle.dw_ends.specs.Fields.{Outcome}
use Rattle.dw_script_fields.specs.declared.location.ScriptLocation.{ScriptLocation}
use Rattle.dw_script_fields.specs.declared.location.ScriptLocation.TheVariants as location
use Rattle.dw_tree.specs.UnitValue.{UnitValue}
use Rattle.dw_script_units.specs.Expressions.{expression_of}

-- an item, as lists have it
abbrev pub stored_location : ScriptLocation → Location
stored_location (location.BaseAddress address) = stored.BaseAddress address
stored_location (location.OffsetPair begin end steps) = stored.OffsetPair begin end (expression_of steps)
stored_location (location.StartEnd begin end steps) = stored.StartEnd begin end (expression_of steps)
stored_location (location.StartLength begin length steps) = stored.StartLength begin length (expression_of steps)
stored_location (location.DefaultLocation steps) = stored.DefaultLocation (expression_of steps)

-- the list of a line
abbrev pub locations_of : List ScriptLocation → List Location
locations_of locations = map stored_location locations

-- a unit with one more location list, if none equals it
abbrev pub after_location_list : List ScriptLocation → UnitValue → Outcome UnitValue
after_location_list locations u = Ok (record u { locations = with_list locations_eq u.locations (locations_of locations) })
