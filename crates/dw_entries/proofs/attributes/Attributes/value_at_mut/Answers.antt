use Rattle.std.proofs.Common.{◌∙◌, ◌<◌, refl, ap, subst, sym, Some, length}
use Rattle.dw_entries.specs.Attributes.{with_value_at, value_at}
use Rattle.dw_entries.proofs.Replaced.{replaced_at, named_replaced, value_read}
use Rattle.dw_entries.proofs.attributes.Attributes.value_at_mut.Goals as goal

pub invariant_of-self-lent : goal.invariant_of-self-lent
invariant_of-self-lent c w =
    let xs = c.self.inside.items.items in
    let within : c.args.at < length xs = subst (λ ys. c.args.at < length ys) (sym c.self.view_is) c.requires in
    named_replaced c.args.at _ w xs within c.index_mut-attribute.ensures.value c.self.invariant

pub returns : goal.returns
returns c =
    let xs = c.self.inside.items.items in
    let within : c.args.at < length xs = subst (λ ys. c.args.at < length ys) (sym c.self.view_is) c.requires in
    let read = c.index_mut-attribute.ensures.value in (
      (refl, λ w. replaced_at c.args.at _ w xs within read ∙ ap (with_value_at c.args.at w) c.self.view_is),
      record { writes_back = tt; value = ap (λ ys. value_at ys c.args.at) (sym c.self.view_is) ∙ value_read c.args.at _ xs within read ∙ ap Some (sym c.value_mut.ensures.value) },
    )
