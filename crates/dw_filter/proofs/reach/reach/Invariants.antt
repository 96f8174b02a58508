use Rattle.std.proofs.Common.{◌+◌, length}
use Rattle.std.specs.Prelude.{nat_eq}
use Rattle.std.specs.List.{IsDistinct}
use Rattle.dw_filter.specs.Dependencies.{targets_at}
use Rattle.dw_filter.proofs.Ordered.{is_among, places}
use Rattle.dw_filter.proofs.Search.{Progress}
use Rattle.dw_filter.proofs.Weights.{weight}
use Rattle.dw_filter.proofs.reach.reach.Given as goal

abbrev pub invariant-entries : goal.invariant-entries
invariant-entries l = record {
  progress : Progress (targets_at l.fn.edges.entries) l.fn.pending.items (targets_at l.edges.entries) (is_among l.reached.items) l.pending.items;
  once : IsDistinct nat_eq (places l.reached.items);
}

abbrev pub decreases-entries : goal.decreases-entries
decreases-entries l = weight l.edges.entries + length l.pending.items
