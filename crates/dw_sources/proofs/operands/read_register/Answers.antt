use Rattle.std.proofs.Common.{arith}
use Rattle.std.proofs.lemmas.Result.{err_from_is_err_and}
use Rattle.dw_sources.proofs.OperandLaws.{uleb16_is, uleb16_large, uleb16_not}
use Rattle.dw_sources.proofs.operands.read_register.Goals as goal

pub returns-in_err-number-clause-err : goal.returns-in_err-number-clause-err
returns-in_err-number-clause-err g c =
    let p = err_from_is_err_and c.from_residual.result c.from_residual.ensures.1 in
    rw (p.1, p.2) (uleb16_not _ _ c.in_err-number.ensures.err.reason)

pub returns-then-number-gt65535-clause-err : goal.returns-then-number-gt65535-clause-err
returns-then-number-gt65535-clause-err g c = uleb16_large c.in_ok-number.number _ _ c.in_ok-number.ensures.ok (omega arith)

pub returns-clause-ok : goal.returns-clause-ok
returns-clause-ok g c = uleb16_is c.in_ok-number.number _ _ c.in_ok-number.ensures.ok (omega arith)

pub returns-in_err-number-clause-ok : goal.returns-in_err-number-clause-ok
returns-in_err-number-clause-ok g c = rw (err_from_is_err_and c.from_residual.result c.from_residual.ensures.1).1 tt

pub returns-then-number-gt65535-clause-ok : goal.returns-then-number-gt65535-clause-ok
returns-then-number-gt65535-clause-ok g c = tt

pub returns-clause-err : goal.returns-clause-err
returns-clause-err g c = tt
