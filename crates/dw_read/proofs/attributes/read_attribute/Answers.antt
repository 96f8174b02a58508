use Rattle.std.proofs.Common.{ℕ}
use Rattle.std.proofs.lemmas.Result.{err_from_is_err_and}
use Rattle.dw_base.specs.Forms.{Operand}
use Rattle.dw_base.specs.Entries.{ReadAttribute}
use Rattle.dw_read.specs.Specifications.{specification_of}
use Rattle.dw_read.specs.FormReasons.{form_read, attribute_read}
use Rattle.dw_read.proofs.Chain.{took, went}
use Rattle.dw_read.proofs.AttributeLaws.{attribute_is, attribute_err}
use Rattle.dw_read.proofs.attributes.read_attribute.Goals as goal

pub returns-in_err-form-clause-err : goal.returns-in_err-form-clause-err
returns-in_err-form-clause-err g c =
    let p = err_from_is_err_and c.from_residual.result c.from_residual.ensures.1 in
    rw (p.1, p.2) (attribute_err (g.R.Reader.reading c.args.input.now).is_big c.args.encoding (specification_of c.args.specification) _ _ c.in_err-form.ensures.err)

pub returns-clause-ok : goal.returns-clause-ok
returns-clause-ok g c =
    let s = specification_of c.args.specification in
    took ReadAttribute (attribute_read (g.R.Reader.reading c.args.input.now).is_big c.args.encoding s) _ _ _ (went (ℕ × Operand) (form_read (g.R.Reader.reading c.args.input.now).is_big c.args.encoding s.form) _ _ _ c.in_ok-form.ensures.ok) (attribute_is (g.R.Reader.reading c.args.input.now).is_big c.args.encoding s _ _ _ _ c.in_ok-form.ensures.ok.value)

pub returns-in_err-form-clause-ok : goal.returns-in_err-form-clause-ok
returns-in_err-form-clause-ok g c = rw (err_from_is_err_and c.from_residual.result c.from_residual.ensures.1).1 tt

pub returns-in_err-form-clause-encoded : goal.returns-in_err-form-clause-encoded
returns-in_err-form-clause-encoded g c = rw (err_from_is_err_and c.from_residual.result c.from_residual.ensures.1).1 tt

pub returns-in_err-form-clause-order : goal.returns-in_err-form-clause-order
returns-in_err-form-clause-order g c = rw (err_from_is_err_and c.from_residual.result c.from_residual.ensures.1).1 tt

pub returns-clause-err : goal.returns-clause-err
returns-clause-err g c = tt
