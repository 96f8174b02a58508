use Rattle.std.proofs.Common.{sym, refl, ◌∷◌, ◌++◌, [], map, get_or, None}
use Rattle.std.proofs.lemmas.Result.{err_from_is_err_and}
use Rattle.std.proofs.lemmas.List.{get_or-map, length-map}
use Rattle.dw_read.specs.Attributes.{attribute_of}
use Rattle.dw_read.specs.Specifications.{specification_of}
use Rattle.dw_read.specs.declared.abbreviation.AttributeSpecification.{AttributeSpecification}
use Rattle.dw_read.proofs.Chain.{went_order}
use Rattle.dw_read.proofs.AttributeLaws.{so_more, so_err, so_end, so_none}
use Rattle.dw_read.proofs.attributes.pass_attributes.Goals as goal

pub loop-specification-init : goal.loop-specification-init
loop-specification-init g c = ([], so_none _ _ _ _ (g.met.R.Reader.is_reading c.args.input.now))

pub returns-in_err-read_attribute-clause-err : goal.returns-in_err-read_attribute-clause-err
returns-in_err-read_attribute-clause-err g c =
    let reading = g.R.Reader.reading in
    let xs = c.args.specifications.now in
    let i = c.loop-specification.specification-index in
    let d : AttributeSpecification = record { name = record { 0 = 0 }; form = record { 0 = 0 }; implicit_const_value = None } in
    let x : AttributeSpecification = get_or xs i d in
    let so = c.loop-specification.invariant.1 in
    let p = err_from_is_err_and c.from_residual.result c.from_residual.ensures.1 in
    rw (p.1, p.2) (so_err _ _ c.args.encoding (map specification_of xs) i (specification_of x) _ _ _ _ so (rw length-map c.loop-specification-test.true) (sym (get_or-map specification_of xs i d (specification_of x) c.loop-specification-test.true)) (went_order _ _ so.went) c.in_err-read_attribute.ensures.err)

pub loop-specification-preserved : goal.loop-specification-preserved
loop-specification-preserved g c =
    let reading = g.R.Reader.reading in
    let xs = c.args.specifications.now in
    let i = c.loop-specification.specification-index in
    let d : AttributeSpecification = record { name = record { 0 = 0 }; form = record { 0 = 0 }; implicit_const_value = None } in
    let x : AttributeSpecification = get_or xs i d in
    let so = c.loop-specification.invariant.1 in
    let a = attribute_of reading c.in_ok-read_attribute.field-0 in
    (c.loop-specification.invariant.0 ++ a ∷ [], so_more _ _ c.args.encoding (map specification_of xs) i (specification_of x) _ _ a _ _ _ so (rw length-map c.loop-specification-test.true) (sym (get_or-map specification_of xs i d (specification_of x) c.loop-specification-test.true)) (went_order _ _ so.went) c.in_ok-read_attribute.ensures.ok refl)

pub returns-clause-ok : goal.returns-clause-ok
returns-clause-ok g c = (c.loop-specification.invariant.0, so_end _ _ _ _ _ _ _ c.loop-specification.invariant.1 (rw length-map c.loop-specification-test.false))

pub returns-in_err-read_attribute-clause-ok : goal.returns-in_err-read_attribute-clause-ok
returns-in_err-read_attribute-clause-ok g c = rw (err_from_is_err_and c.from_residual.result c.from_residual.ensures.1).1 tt

pub returns-clause-err : goal.returns-clause-err
returns-clause-err g c = tt
