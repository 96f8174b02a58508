use Rattle.std.proofs.Common.{◌≡◌, List, sym, subst, take}
use Rattle.std.specs.List.{Contains}
use Rattle.std.proofs.lemmas.List.{take_all, take_more}
use Rattle.dw_base.specs.declared.offsets.UnitSectionOffset.{UnitSectionOffset}
use Rattle.dw_filter.specs.Links.{Grows}
use Rattle.dw_filter.proofs.LinkSteps.{edge_put, edges_more, is_known_then}
use Rattle.dw_filter.proofs.links.add_edges.Goals as goal

pub leads-preserved : goal.leads-preserved
leads-preserved c =
    let w = c.leads.invariant in
    let put = c.in_ok-add_edge.ensures.ok in
    record {
      known = is_known_then c.leads.dependencies c.add_edge.new.self (λ q. ⊥) _ c.args.place (edge_put c.leads.dependencies c.add_edge.new.self c.args.place _ w.known put) w.known;
      grows = subst (λ (xs : List UnitSectionOffset). Grows c.args.dependencies.now c.add_edge.new.self (λ q. c.args.place ≡ q) (λ p q. (p ≡ c.args.place) × Contains xs q)) (sym (take_more c.args.leads.now c.leads.lead-index _ c.leads-test.true))
          (edges_more c.args.dependencies.now c.leads.dependencies c.add_edge.new.self c.args.place _ (take c.leads.lead-index c.args.leads.now) w.grows w.known put);
    }

pub returns-clause-ok : goal.returns-clause-ok
returns-clause-ok c =
    subst (λ (xs : List UnitSectionOffset). Grows c.args.dependencies.now c.leads.dependencies (λ q. c.args.place ≡ q) (λ p q. (p ≡ c.args.place) × Contains xs q)) (take_all c.leads.lead-index c.args.leads.now c.leads-test.false) c.leads.invariant.grows
