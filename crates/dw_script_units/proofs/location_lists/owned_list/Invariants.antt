-- The list so far, and the items that are left, are the whole.
use Rattle.std.proofs.Common.{◌≡◌, ◌++◌}
use Rattle.dw_script_fields.specs.Locations.{locations_left}
use Rattle.dw_script_units.specs.LocationLists.{locations_of}
use Rattle.dw_script_units.proofs.location_lists.owned_list.Given as goal

abbrev pub invariant-loop-location : goal.invariant-loop-location
invariant-loop-location l = record {
  can_next : (goal.iterator-loop-location).can_next l.location-iterator;
  finite : (goal.iterator-loop-location).is_finite l.location-iterator;
  left : l.locations.items ++ locations_of (locations_left l.location-iterator) ≡ locations_of l.fields;
}
