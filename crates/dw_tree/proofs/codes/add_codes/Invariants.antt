use Rattle.std.proofs.Common.{◌≡◌, ◌++◌, map, drop}
use Rattle.dw_entries.specs.Tree.{marks}
use Rattle.dw_tree.specs.Coded.{shapes_of, code_at}
use Rattle.dw_tree.proofs.codes.add_codes.Given as goal

abbrev pub invariant-loop-item : goal.invariant-loop-item
invariant-loop-item l = record {
  table : shapes_of l.encoding l.entries l.table (drop l.item-index (marks l.items)) ≡ shapes_of l.encoding l.entries l.initial.table (marks l.items);
  codes : l.codes.items ++ map (code_at l.encoding l.entries (shapes_of l.encoding l.entries l.initial.table (marks l.items))) (drop l.item-index (marks l.items)) ≡ l.initial.codes.items ++ map (code_at l.encoding l.entries (shapes_of l.encoding l.entries l.initial.table (marks l.items))) (marks l.items);
}
