use Rattle.std.proofs.Common.{ℕ, arith}
use Rattle.std.proofs.lemmas.Result.{err_from_is_err_and}
use Rattle.dw_base.specs.Leb128.{uleb_at}
use Rattle.dw_read.specs.Reasons.{uleb_read, uleb16_read}
use Rattle.dw_read.proofs.Laws.{uleb_law}
use Rattle.dw_read.proofs.Chain.{took_of, took, went}
use Rattle.dw_read.proofs.Declared.{uleb16_is, uleb16_big, uleb16_err}
use Rattle.dw_read.proofs.declaration.read_uleb16.Goals as goal

pub returns-in_err-value-clause-err : goal.returns-in_err-value-clause-err
returns-in_err-value-clause-err g c =
    let p = err_from_is_err_and c.from_residual.result c.from_residual.ensures.1 in
    rw (p.1, p.2) (uleb16_err _ _ c.in_err-value.ensures.err.reason)

pub returns-then-value-gt65535-clause-err : goal.returns-then-value-gt65535-clause-err
returns-then-value-gt65535-clause-err g c = uleb16_big c.in_ok-value.value _ _ (took_of ℕ uleb_at uleb_read _ _ _ uleb_law c.in_ok-value.ensures.ok).value (omega arith)

pub returns-clause-ok : goal.returns-clause-ok
returns-clause-ok g c =
    let t = took_of ℕ uleb_at uleb_read _ _ _ uleb_law c.in_ok-value.ensures.ok in
    took ℕ uleb16_read _ _ _ (went ℕ uleb_read _ _ _ t) (uleb16_is _ _ _ t.value (omega arith))

pub returns-in_err-value-clause-ok : goal.returns-in_err-value-clause-ok
returns-in_err-value-clause-ok g c = rw (err_from_is_err_and c.from_residual.result c.from_residual.ensures.1).1 tt

pub returns-then-value-gt65535-clause-ok : goal.returns-then-value-gt65535-clause-ok
returns-then-value-gt65535-clause-ok g c = tt

pub returns-clause-err : goal.returns-clause-err
returns-clause-err g c = tt
