use Rattle.std.proofs.Common.{◌≡◌, ◌++◌, map, drop, nat_eq}
use Rattle.std.specs.HashSet.{contains}
use Rattle.dw_arange_table.specs.Find.{units_at}
use Rattle.dw_arange_table.proofs.FindSteps.{unseen}
use Rattle.dw_arange_table.proofs.table.find_in.Given as goal

-- what was found, and of what the other sets have what wasn't seen, are all
abbrev pub invariant-loop-set : goal.invariant-loop-set
invariant-loop-set l =
    map (λ u. u.0) l.found.items ++ unseen (contains nat_eq l.seen) (units_at l.address (drop l.set-index l.sets)) ≡ units_at l.address l.sets
