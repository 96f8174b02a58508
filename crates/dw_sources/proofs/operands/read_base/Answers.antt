use Rattle.std.proofs.Common.{arith}
use Rattle.std.proofs.lemmas.Result.{err_from_is_err_and}
use Rattle.dw_sources.proofs.OperandLaws.{base_took, base_not, base_typed, base_generic}
use Rattle.dw_sources.proofs.operands.read_base.Goals as goal

pub returns-in_err-place-clause-err : goal.returns-in_err-place-clause-err
returns-in_err-place-clause-err g c =
    let p = err_from_is_err_and c.from_residual.result c.from_residual.ensures.1 in
    rw (p.1, p.2) (base_not _ _ c.in_err-place.ensures.err.reason)

pub returns-then-place-eq0-clause-ok : goal.returns-then-place-eq0-clause-ok
returns-then-place-eq0-clause-ok g c = base_took c.in_ok-place.place _ _ _ (base_generic c.in_ok-place.place (omega arith)) c.in_ok-place.ensures.ok

pub returns-clause-ok : goal.returns-clause-ok
returns-clause-ok g c = base_took c.in_ok-place.place _ _ _ (base_typed c.in_ok-place.place (omega arith)) c.in_ok-place.ensures.ok

pub returns-in_err-place-clause-ok : goal.returns-in_err-place-clause-ok
returns-in_err-place-clause-ok g c = rw (err_from_is_err_and c.from_residual.result c.from_residual.ensures.1).1 tt

pub returns-then-place-eq0-clause-err : goal.returns-then-place-eq0-clause-err
returns-then-place-eq0-clause-err g c = tt

pub returns-clause-err : goal.returns-clause-err
returns-clause-err g c = tt
