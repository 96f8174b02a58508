use Rattle.std.proofs.Common.{◌≡◌, ◌++◌, ◌-◌, length, None}
use Rattle.dw_entries.specs.Tree.{marks, preorder}
use Rattle.dw_entries.specs.Walk.{IsPath, pending}
use Rattle.dw_entries.proofs.tree.flatten.Given as goal

abbrev pub invariant-walk : goal.invariant-walk
invariant-walk l = record {
  path : IsPath l.entries None l.frames.items;
  given : marks l.items.items ++ pending l.entries (length l.entries) l.frames.items ≡ preorder l.entries;
}

abbrev pub decreases-walk : goal.decreases-walk
decreases-walk l = length (preorder l.entries) - length l.items.items
