use Rattle.std.proofs.Common.{ℕ, List, Bool, arith, refl}
use Rattle.std.proofs.lemmas.Result.{err_from_is_err_and}
use Rattle.dw_base.specs.Abbreviations.{Specification, Shape}
use Rattle.dw_read.specs.Reasons.{uleb16_read}
use Rattle.dw_read.specs.Declarations.{specifications_read, children_read, shape_read}
use Rattle.dw_read.proofs.Chain.{took, went, went_then, reason, refused_of}
use Rattle.dw_read.proofs.Declared.{no_tag, tag_zero, no_children, no_attributes, one_shape}
use Rattle.dw_read.proofs.declaration.read_shape.Goals as goal

pub returns-in_err-tag-clause-err : goal.returns-in_err-tag-clause-err
returns-in_err-tag-clause-err g c =
    let p = err_from_is_err_and c.from_residual.result c.from_residual.ensures.1 in
    rw (p.1, p.2) (reason Shape shape_read (g.R.Reader.reading c.args.input.now) _ (no_tag _ _ c.in_err-tag.ensures.err))

pub returns-then-tag-eq0-clause-err : goal.returns-then-tag-eq0-clause-err
returns-then-tag-eq0-clause-err g c = reason Shape shape_read (g.R.Reader.reading c.args.input.now) _ (tag_zero _ _ _ c.in_ok-tag.ensures.ok.value (omega arith))

pub returns-in_err-has_children-clause-err : goal.returns-in_err-has_children-clause-err
returns-in_err-has_children-clause-err g c =
    let p = err_from_is_err_and c.from_residual-in_err-has_children.result c.from_residual-in_err-has_children.ensures.1 in
    rw (p.1, p.2) (reason Shape shape_read (g.R.Reader.reading c.args.input.now) _ (no_children _ _ _ _ c.in_ok-tag.ensures.ok.value (omega arith) c.in_err-has_children.ensures.err))

pub returns-in_err-attributes-clause-err : goal.returns-in_err-attributes-clause-err
returns-in_err-attributes-clause-err g c =
    let p = err_from_is_err_and c.from_residual-in_err-attributes.result c.from_residual-in_err-attributes.ensures.1 in
    rw (p.1, p.2) (refused_of (List Specification) Shape specifications_read shape_read (g.R.Reader.reading c.read_has_children.new.input) (g.R.Reader.reading c.args.input.now) _ (no_attributes _ _ _ _ _ _ c.in_ok-tag.ensures.ok.value (omega arith) c.in_ok-has_children.ensures.ok.value) c.in_err-attributes.ensures.err)

pub returns-clause-ok : goal.returns-clause-ok
returns-clause-ok g c =
    took Shape shape_read _ _ _
    (went_then _ _ _ (went_then _ _ _ (went ℕ uleb16_read _ _ _ c.in_ok-tag.ensures.ok) (went Bool children_read _ _ _ c.in_ok-has_children.ensures.ok)) (went (List Specification) specifications_read _ _ _ c.in_ok-attributes.ensures.ok))
    (one_shape _ _ _ _ _ _ _ c.in_ok-tag.ensures.ok.value (omega arith) c.in_ok-has_children.ensures.ok.value c.in_ok-attributes.ensures.ok.value)

pub returns-in_err-tag-clause-ok : goal.returns-in_err-tag-clause-ok
returns-in_err-tag-clause-ok g c = rw (err_from_is_err_and c.from_residual.result c.from_residual.ensures.1).1 tt

pub returns-in_err-tag-clause-code : goal.returns-in_err-tag-clause-code
returns-in_err-tag-clause-code g c = rw (err_from_is_err_and c.from_residual.result c.from_residual.ensures.1).1 tt

pub returns-in_err-has_children-clause-ok : goal.returns-in_err-has_children-clause-ok
returns-in_err-has_children-clause-ok g c = rw (err_from_is_err_and c.from_residual-in_err-has_children.result c.from_residual-in_err-has_children.ensures.1).1 tt

pub returns-in_err-has_children-clause-code : goal.returns-in_err-has_children-clause-code
returns-in_err-has_children-clause-code g c = rw (err_from_is_err_and c.from_residual-in_err-has_children.result c.from_residual-in_err-has_children.ensures.1).1 tt

pub returns-in_err-attributes-clause-ok : goal.returns-in_err-attributes-clause-ok
returns-in_err-attributes-clause-ok g c = rw (err_from_is_err_and c.from_residual-in_err-attributes.result c.from_residual-in_err-attributes.ensures.1).1 tt

pub returns-in_err-attributes-clause-code : goal.returns-in_err-attributes-clause-code
returns-in_err-attributes-clause-code g c = rw (err_from_is_err_and c.from_residual-in_err-attributes.result c.from_residual-in_err-attributes.ensures.1).1 tt

pub returns-then-tag-eq0-clause-ok : goal.returns-then-tag-eq0-clause-ok
returns-then-tag-eq0-clause-ok g c = tt

pub returns-then-tag-eq0-clause-code : goal.returns-then-tag-eq0-clause-code
returns-then-tag-eq0-clause-code g c = tt

pub returns-clause-err : goal.returns-clause-err
returns-clause-err g c = tt

pub returns-clause-code : goal.returns-clause-code
returns-clause-code g c = refl
