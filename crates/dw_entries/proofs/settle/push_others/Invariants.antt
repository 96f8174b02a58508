use Rattle.std.proofs.Common.{◌≡◌, ◌++◌, map, take}
use Rattle.dw_entries.specs.Entries.{index_of}
use Rattle.dw_entries.specs.Settled.{other_children}
use Rattle.dw_entries.proofs.settle.push_others.Given as goal

abbrev pub invariant-children : goal.invariant-children
invariant-children l =
    map index_of l.ordered.items ≡ map index_of l.fn.ordered.items ++ other_children l.entries (map index_of (take l.child-index l.children))
