use Rattle.std.proofs.Common.{◌≡◌, map, take, false, []}
use Rattle.dw_entries.specs.Entries.{index_of}
use Rattle.dw_entries.specs.Settled.{bases_first, other_children}
use Rattle.dw_entries.proofs.settle.is_settled.Given as goal

abbrev pub invariant-children : goal.invariant-children
invariant-children l = record {
  settled : bases_first l.entries (map index_of (take l.child-index l.children)) ≡ map index_of (take l.child-index l.children);
  others : l.saw_other ≡ false → other_children l.entries (map index_of (take l.child-index l.children)) ≡ [];
}
