use Rattle.std.proofs.Common.{◌∙◌, refl, ap, Some}
use Rattle.std.specs.Prelude.{position}
use Rattle.dw_entries.specs.Attributes.{is_named, get_named, set_named}
use Rattle.dw_entries.proofs.Named.{get_named-found, none_named}
use Rattle.dw_entries.proofs.Replaced.{named_replaced, found_within, replaced_named}
use Rattle.dw_entries.proofs.attributes.Attributes.value_mut.Goals as goal

pub invariant_of-self-lent : goal.invariant_of-self-lent
invariant_of-self-lent c w =
    let xs = c.self.inside.items.items in
    let place = c.in-Some.ensures ∙ ap (position (is_named c.args.name.0)) c.deref.ensures.value in
    let a = c.index_mut-attribute.result.now in
    named_replaced c.in-Some.i a w xs (found_within c.args.name.0 c.in-Some.i a xs place) c.index_mut-attribute.ensures.value c.self.invariant

pub returns-in-Some : goal.returns-in-Some
returns-in-Some c =
    let xs = c.self.inside.items.items in
    let n = c.args.name.0 in
    let place = c.in-Some.ensures ∙ ap (position (is_named n)) c.deref.ensures.value in
    let a = c.index_mut-attribute.result.now in
    let read = c.index_mut-attribute.ensures.value in (
      (refl, (λ w. replaced_named n c.in-Some.i a w xs place read ∙ ap (set_named n w) c.self.view_is), refl),
      record { writes_back = tt; value = ap Some c.value_mut.ensures.value ∙ get_named-found n c.in-Some.i a xs place read ∙ ap (get_named n) c.self.view_is },
    )

pub returns-in-None : goal.returns-in-None
returns-in-None c =
    let xs = c.self.inside.items.items in
    let n = c.args.name.0 in (
      (refl, (λ w. tt), c.self.view_is),
      record { writes_back = tt; value = none_named n xs (c.in-None.ensures ∙ ap (position (is_named n)) c.deref.ensures.value) ∙ ap (get_named n) c.self.view_is },
    )
