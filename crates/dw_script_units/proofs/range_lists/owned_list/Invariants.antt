-- The list so far, and the items that are left, are the whole.
use Rattle.std.proofs.Common.{◌≡◌, ◌++◌}
use Rattle.dw_script_fields.specs.Ranges.{ranges_left}
use Rattle.dw_script_units.specs.RangeLists.{ranges_of}
use Rattle.dw_script_units.proofs.range_lists.owned_list.Given as goal

abbrev pub invariant-loop-range : goal.invariant-loop-range
invariant-loop-range l = record {
  can_next : (goal.iterator-loop-range).can_next l.range-iterator;
  finite : (goal.iterator-loop-range).is_finite l.range-iterator;
  left : l.ranges.items ++ ranges_of (ranges_left l.range-iterator) ≡ ranges_of l.fields;
}
