use Rattle.std.proofs.Common.{inl, inr, ⊎_elim}
use Rattle.dw_filter.proofs.Handing.{handed_on}
use Rattle.dw_filter.proofs.AttributeSteps.{one_more, one_refused}
use Rattle.dw_filter.proofs.attribute_places.add_entry_places.Goals as goal

pub returns-in_err-add_attribute_places-clause-err : goal.returns-in_err-add_attribute_places-clause-err
returns-in_err-add_attribute_places-clause-err g c =
    let e = c.in_err-add_attribute_places.field-0.0 in
    handed_on c.from_residual.result e _ c.from_residual.ensures
    (⊎_elim (λ n. inl n) (λ h. inr (one_refused _ _ g.R.Reader.reading c.args.unit c.args.attributes.now c.attributes.attribute-index c.attribute-item.result _ c.attributes-test.true c.attribute-item.is c.args.places.now.items c.attributes.places.items c.add_attribute_places.new.places.items c.attributes.invariant e h)) c.in_err-add_attribute_places.ensures.err)

pub attributes-preserved : goal.attributes-preserved
attributes-preserved g c =
    one_more _ _ g.R.Reader.reading c.args.unit c.args.attributes.now c.attributes.attribute-index c.attribute-item.result _ c.attributes-test.true c.attribute-item.is c.args.places.now.items c.attributes.places.items c.add_attribute_places.new.places.items c.attributes.invariant c.in_ok-add_attribute_places.ensures.ok
