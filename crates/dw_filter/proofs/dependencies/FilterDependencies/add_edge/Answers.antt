use Rattle.std.proofs.Common.{◌≡◌, ◌∙◌, ap, sym, ℕ, List, Result, Ok, Err, OnErr}
use Rattle.std.specs.Prelude.{nat_eq}
use Rattle.std.specs.Map.{set_value}
use Rattle.dw_base.specs.declared.offsets.UnitSectionOffset.{UnitSectionOffset}
use Rattle.dw_filter.specs.Dependencies.{Dependencies, known_of}
use Rattle.dw_filter.proofs.Views.{entries_same}
use Rattle.dw_filter.proofs.dependencies.FilterDependencies.add_edge.Goals as goal

on_err : {T E P : Type 0} (r : Result T E) → P → OnErr r P
on_err (Ok x) p = tt
on_err (Err x) p = p

pub returns-in_err-push-clause-unchanged : goal.returns-in_err-push-clause-unchanged
returns-in_err-push-clause-unchanged c =
    let test = nat_eq c.args.from.0 in
    let written : (c.get_mut.follows.lender c.push.new.self).entries ≡ set_value test c.self.inside.edges.entries c.push.new.self = (c.get_mut.follows.holds c.push.new.self).0 in
    let same : known_of (c.get_mut.follows.lender c.push.new.self).entries ≡ known_of c.self.inside.edges.entries =
    ap known_of written ∙ entries_same test c.self.inside.edges.entries c.in-Some.leads.now c.push.new.self (sym c.in-Some.ensures.value) c.in_err-push.ensures.items in
    let made : List (ℕ × List UnitSectionOffset) → Dependencies = λ k. record { known = k; required = c.self.inside.required.items } in
    on_err c.from_residual.result (ap made same ∙ c.self.view_is)
