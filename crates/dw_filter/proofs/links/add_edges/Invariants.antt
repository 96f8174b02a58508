use Rattle.std.proofs.Common.{◌≡◌, take}
use Rattle.std.specs.List.{Contains}
use Rattle.dw_filter.specs.Dependencies.{Known, targets}
use Rattle.dw_filter.specs.Links.{Grows}
use Rattle.dw_filter.proofs.links.add_edges.Given as goal

abbrev pub invariant-leads : goal.invariant-leads
invariant-leads l = record {
  known : Known (targets l.dependencies) l.place;
  grows : Grows l.initial.dependencies l.dependencies (λ q. l.place ≡ q) (λ p q. (p ≡ l.place) × Contains (take l.lead-index l.leads) q);
}
