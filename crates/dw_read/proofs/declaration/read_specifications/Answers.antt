use Rattle.std.proofs.Common.{◌∙◌, ap, subst, ◌∷◌, [], map, Option, List}
use Rattle.std.proofs.lemmas.Result.{err_from_is_err_and}
use Rattle.dw_base.specs.Abbreviations.{Specification}
use Rattle.dw_read.specs.Took.{Took, option_of}
use Rattle.dw_read.specs.Declarations.{specification_read, specifications_read}
use Rattle.dw_read.specs.Specifications.{specification_of}
use Rattle.dw_read.proofs.Chain.{took, went, went_then, reason}
use Rattle.dw_read.proofs.Items.{collects_more, collects_end, collects_err}
use Rattle.dw_read.proofs.Declared.{one_is_specification}
use Rattle.std.proofs.lemmas.List.{map-append}
use Rattle.dw_read.specs.declared.abbreviation.AttributeSpecification.{AttributeSpecification}
use Rattle.dw_read.proofs.declaration.read_specifications.Goals as goal

pub returns-in_err-specification-clause-err : goal.returns-in_err-specification-clause-err
returns-in_err-specification-clause-err g c =
    let p = err_from_is_err_and c.from_residual.result c.from_residual.ensures.1 in
    rw (p.1, p.2) (reason (List Specification) specifications_read (g.R.Reader.reading c.args.input.now) _ (collects_err Specification _ _ _ _ _ one_is_specification c.attributes.invariant.is c.in_err-specification.ensures.err))

pub returns-in_default-clause-ok : goal.returns-in_default-clause-ok
returns-in_default-clause-ok g c =
    let t = subst (λ (o : Option AttributeSpecification). Took (Option Specification) specification_read (g.R.Reader.reading c.attributes.input) (g.R.Reader.reading c.read_specification.new.input) (option_of specification_of o)) c.in_default.is c.in_ok-specification.ensures.ok in
    took (List Specification) specifications_read _ _ _ (went_then _ _ _ c.attributes.invariant.went (went (Option Specification) specification_read _ _ _ t))
    (collects_end Specification _ _ _ _ _ one_is_specification c.attributes.invariant.is t.value)

pub attributes-smaller : goal.attributes-smaller
attributes-smaller g c =
    let s = one_is_specification.shorter [] _ _ c.in_ok-specification.ensures.ok.value in
    s

pub attributes-preserved : goal.attributes-preserved
attributes-preserved g c =
    let t = subst (λ (o : Option AttributeSpecification). Took (Option Specification) specification_read (g.R.Reader.reading c.attributes.input) (g.R.Reader.reading c.read_specification.new.input) (option_of specification_of o)) c.in-Some.is c.in_ok-specification.ensures.ok in
    record {
      went = went_then _ _ _ c.attributes.invariant.went (went (Option Specification) specification_read _ _ _ t);
      is = collects_more Specification _ _ _ _ _ _ _ one_is_specification c.attributes.invariant.is t.value
          (ap (map specification_of) c.in_ok-push.ensures.items ∙ map-append specification_of c.attributes.specifications.items (c.in-Some.specification ∷ []));
    }

pub returns-in_err-specification-clause-ok : goal.returns-in_err-specification-clause-ok
returns-in_err-specification-clause-ok g c = rw (err_from_is_err_and c.from_residual.result c.from_residual.ensures.1).1 tt

pub returns-in_default-clause-err : goal.returns-in_default-clause-err
returns-in_default-clause-err g c = tt
