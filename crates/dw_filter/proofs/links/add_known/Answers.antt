use Rattle.std.proofs.Common.{◌≡◌, ◌∙◌, ap, subst, List, Option, Some}
use Rattle.std.specs.List.{Contains}
use Rattle.std.specs.Option.{option_map}
use Rattle.std.specs.declared.alloc.Global.{Global}
use Rattle.std.specs.declared.vec.Vec.{Vec}
use Rattle.dw_base.specs.declared.offsets.UnitSectionOffset.{UnitSectionOffset}
use Rattle.dw_filter.specs.Dependencies.{targets}
use Rattle.dw_filter.specs.Links.{Grows}
use Rattle.dw_filter.proofs.LinkSteps.{entry_joined, on_ok}
use Rattle.dw_filter.proofs.links.add_known.Goals as goal

pub returns-in-Some-clause-ok : goal.returns-in-Some-clause-ok
returns-in-Some-clause-ok c =
    let place = c.args.place in
    let was : targets c.args.dependencies.now place.0 ≡ Some c.in-Some.earlier.items =
    c.in_ok-put_entry.ensures.earlier ∙ ap (λ (o : Option (Vec UnitSectionOffset Global)). option_map (λ (v : Vec UnitSectionOffset Global). v.items) o) c.in-Some.is in
    on_ok c.add_edges.result _ _
    (λ g. entry_joined c.args.dependencies.now c.put_entry.new.self c.add_edges.new.dependencies place c.args.leads.items c.in-Some.earlier.items was c.in_ok-put_entry.ensures.ok
    (subst (λ (xs : List UnitSectionOffset). Grows c.put_entry.new.self c.add_edges.new.dependencies (λ q. place ≡ q) (λ p q. (p ≡ place) × Contains xs q)) c.deref.ensures.value g))
    c.add_edges.ensures.ok
