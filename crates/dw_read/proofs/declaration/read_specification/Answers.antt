use Rattle.std.proofs.Common.{ℕ, ℤ, Option, arith}
use Rattle.std.proofs.lemmas.Result.{err_from_is_err_and}
use Rattle.dw_base.specs.Abbreviations.{Specification}
use Rattle.dw_read.specs.Reasons.{uleb16_read}
use Rattle.dw_read.specs.Declarations.{constant_read, specification_read}
use Rattle.dw_read.proofs.Chain.{took, went, went_then}
use Rattle.dw_read.proofs.Declared.{no_name, no_form, name_zero, two_zeros, no_constant, one_specification}
use Rattle.dw_read.proofs.declaration.read_specification.Goals as goal

pub returns-in_err-name-clause-err : goal.returns-in_err-name-clause-err
returns-in_err-name-clause-err g c =
    let p = err_from_is_err_and c.from_residual.result c.from_residual.ensures.1 in
    rw (p.1, p.2) (no_name _ _ c.in_err-name.ensures.err)

pub returns-in_err-form-clause-err : goal.returns-in_err-form-clause-err
returns-in_err-form-clause-err g c =
    let p = err_from_is_err_and c.from_residual-in_err-form.result c.from_residual-in_err-form.ensures.1 in
    rw (p.1, p.2) (no_form _ _ _ _ c.in_ok-name.ensures.ok.value c.in_err-form.ensures.err)

pub returns-then-form-ne0-clause-err : goal.returns-then-form-ne0-clause-err
returns-then-form-ne0-clause-err g c = name_zero _ _ _ _ _ c.in_ok-name.ensures.ok.value c.in_ok-form.ensures.ok.value (omega arith) (omega arith)

pub returns-then-name-eq0-clause-ok : goal.returns-then-name-eq0-clause-ok
returns-then-name-eq0-clause-ok g c =
    took (Option Specification) specification_read _ _ _ (went_then _ _ _ (went ℕ uleb16_read _ _ _ c.in_ok-name.ensures.ok) (went ℕ uleb16_read _ _ _ c.in_ok-form.ensures.ok))
    (two_zeros _ _ _ _ _ c.in_ok-name.ensures.ok.value c.in_ok-form.ensures.ok.value (omega arith) (omega arith))

pub returns-in_err-constant-clause-err : goal.returns-in_err-constant-clause-err
returns-in_err-constant-clause-err g c =
    let p = err_from_is_err_and c.from_residual-in_err-constant.result c.from_residual-in_err-constant.ensures.1 in
    rw (p.1, p.2) (no_constant _ _ _ _ _ _ c.in_ok-name.ensures.ok.value c.in_ok-form.ensures.ok.value (omega arith) c.in_err-constant.ensures.err)

pub returns-clause-ok : goal.returns-clause-ok
returns-clause-ok g c =
    took (Option Specification) specification_read _ _ _
    (went_then _ _ _ (went_then _ _ _ (went ℕ uleb16_read _ _ _ c.in_ok-name.ensures.ok) (went ℕ uleb16_read _ _ _ c.in_ok-form.ensures.ok)) (went (Option ℤ) (constant_read c.in_ok-form.form) _ _ _ c.in_ok-constant.ensures.ok))
    (one_specification _ _ _ _ _ _ _ c.in_ok-name.ensures.ok.value c.in_ok-form.ensures.ok.value (omega arith) c.in_ok-constant.ensures.ok.value)

pub returns-in_err-name-clause-ok : goal.returns-in_err-name-clause-ok
returns-in_err-name-clause-ok g c = rw (err_from_is_err_and c.from_residual.result c.from_residual.ensures.1).1 tt

pub returns-in_err-form-clause-ok : goal.returns-in_err-form-clause-ok
returns-in_err-form-clause-ok g c = rw (err_from_is_err_and c.from_residual-in_err-form.result c.from_residual-in_err-form.ensures.1).1 tt

pub returns-in_err-constant-clause-ok : goal.returns-in_err-constant-clause-ok
returns-in_err-constant-clause-ok g c = rw (err_from_is_err_and c.from_residual-in_err-constant.result c.from_residual-in_err-constant.ensures.1).1 tt

pub returns-then-form-ne0-clause-ok : goal.returns-then-form-ne0-clause-ok
returns-then-form-ne0-clause-ok g c = tt

pub returns-then-name-eq0-clause-err : goal.returns-then-name-eq0-clause-err
returns-then-name-eq0-clause-err g c = tt

pub returns-clause-err : goal.returns-clause-err
returns-clause-err g c = tt
