use Rattle.std.specs.Prelude.{◌≡◌, ◌++◌, take, drop, IsTrue}
use Rattle.std.specs.List.{list_all}
use Rattle.dw_arange_table.specs.Sets.{is_range}
use Rattle.dw_arange_table.specs.Covers.{is_addressed, descriptors_of}
use Rattle.dw_arange_table.proofs.units.descriptors.Given as goal

abbrev pub invariant-loop-range : goal.invariant-loop-range
invariant-loop-range l = record {
  is : l.found.items ++ descriptors_of (drop l.range-index l.ranges) ≡ descriptors_of l.ranges;
  fit : IsTrue (list_all (is_range l.size) l.found.items);
  addressed : IsTrue (list_all (is_addressed l.size) (take l.range-index l.ranges));
}
