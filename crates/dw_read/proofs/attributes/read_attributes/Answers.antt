use Rattle.std.proofs.Common.{◌≡◌, ◌∙◌, sym, ap, subst, map, get_or, None, List, Bool}
use Rattle.std.proofs.lemmas.Result.{err_from_is_err_and}
use Rattle.std.proofs.lemmas.List.{map-append, get_or-map, length-map}
use Rattle.std.proofs.lemmas.List.Elements.{All-push}
use Rattle.dw_base.specs.Entries.{ReadAttribute}
use Rattle.dw_read.specs.Attributes.{attribute_of}
use Rattle.dw_read.specs.Orders.{attribute_order, IsInOrder}
use Rattle.dw_read.specs.Specifications.{specification_of}
use Rattle.dw_read.specs.FormReasons.{attributes_read}
use Rattle.dw_read.specs.declared.abbreviation.AttributeSpecification.{AttributeSpecification}
use Rattle.dw_read.proofs.Chain.{reason, went_order}
use Rattle.dw_read.proofs.AttributeLaws.{so_more, so_err, so_end}
use Rattle.dw_read.proofs.attributes.read_attributes.Goals as goal

pub returns-in_err-attribute-clause-err : goal.returns-in_err-attribute-clause-err
returns-in_err-attribute-clause-err g c =
    let reading = g.R.Reader.reading in
    let xs = c.args.specifications.now in
    let i = c.loop-specification.specification-index in
    let d : AttributeSpecification = record { name = record { 0 = 0 }; form = record { 0 = 0 }; implicit_const_value = None } in
    let x : AttributeSpecification = get_or xs i d in
    let so = c.loop-specification.invariant.so in
    let p = err_from_is_err_and c.from_residual.result c.from_residual.ensures.1 in
    rw (p.1, p.2) (reason (List ReadAttribute) (attributes_read (g.R.Reader.reading c.args.input.now).is_big c.args.encoding (map specification_of xs)) (reading c.args.input.now) _
    (so_err _ _ c.args.encoding (map specification_of xs) i (specification_of x) _ _ _ _ so (rw length-map c.loop-specification-test.true) (sym (get_or-map specification_of xs i d (specification_of x) c.loop-specification-test.true)) (went_order _ _ so.went) c.in_err-attribute.ensures.err))

pub loop-specification-preserved : goal.loop-specification-preserved
loop-specification-preserved g c =
    let reading = g.R.Reader.reading in
    let xs = c.args.specifications.now in
    let i = c.loop-specification.specification-index in
    let d : AttributeSpecification = record { name = record { 0 = 0 }; form = record { 0 = 0 }; implicit_const_value = None } in
    let x : AttributeSpecification = get_or xs i d in
    let so = c.loop-specification.invariant.so in
    let front = map (attribute_of reading) c.loop-specification.attrs.items in
    record {
      so = so_more _ _ c.args.encoding (map specification_of xs) i (specification_of x) front _ _ _ _ _ so (rw length-map c.loop-specification-test.true) (sym (get_or-map specification_of xs i d (specification_of x) c.loop-specification-test.true)) (went_order _ _ so.went) c.in_ok-attribute.ensures.ok
          (ap (map (attribute_of reading)) c.in_ok-push.ensures.items ∙ map-append (attribute_of reading) c.loop-specification.attrs.items _);
      encoded = rw c.in_ok-push.ensures.items (All-push (λ a. a.encoding ≡ c.args.encoding) c.loop-specification.attrs.items c.in_ok-attribute.attribute c.loop-specification.invariant.encoded c.in_ok-attribute.ensures.encoded);
      in_order = rw c.in_ok-push.ensures.items (All-push (λ a. IsInOrder (reading c.args.input.now).is_big (attribute_order reading a)) c.loop-specification.attrs.items c.in_ok-attribute.attribute c.loop-specification.invariant.in_order
          (subst (λ (b : Bool). IsInOrder b (attribute_order reading c.in_ok-attribute.attribute)) (went_order _ _ so.went) c.in_ok-attribute.ensures.order));
    }

pub returns-clause-ok : goal.returns-clause-ok
returns-clause-ok g c = so_end _ _ _ _ _ _ _ c.loop-specification.invariant.so (rw length-map c.loop-specification-test.false)

pub returns-in_err-attribute-clause-ok : goal.returns-in_err-attribute-clause-ok
returns-in_err-attribute-clause-ok g c = rw (err_from_is_err_and c.from_residual.result c.from_residual.ensures.1).1 tt

pub returns-in_err-attribute-clause-encoded : goal.returns-in_err-attribute-clause-encoded
returns-in_err-attribute-clause-encoded g c = rw (err_from_is_err_and c.from_residual.result c.from_residual.ensures.1).1 tt

pub returns-in_err-attribute-clause-order : goal.returns-in_err-attribute-clause-order
returns-in_err-attribute-clause-order g c = rw (err_from_is_err_and c.from_residual.result c.from_residual.ensures.1).1 tt

pub returns-in_err-push-clause-ok : goal.returns-in_err-push-clause-ok
returns-in_err-push-clause-ok g c = rw (err_from_is_err_and c.from_residual-in_err-push.result c.from_residual-in_err-push.ensures.1).1 tt

pub returns-in_err-push-clause-encoded : goal.returns-in_err-push-clause-encoded
returns-in_err-push-clause-encoded g c = rw (err_from_is_err_and c.from_residual-in_err-push.result c.from_residual-in_err-push.ensures.1).1 tt

pub returns-in_err-push-clause-order : goal.returns-in_err-push-clause-order
returns-in_err-push-clause-order g c = rw (err_from_is_err_and c.from_residual-in_err-push.result c.from_residual-in_err-push.ensures.1).1 tt

pub returns-clause-err : goal.returns-clause-err
returns-clause-err g c = tt
