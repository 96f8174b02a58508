use Rattle.std.proofs.Common.{arith}
use Rattle.std.proofs.lemmas.Result.{err_from_is_err_and}
use Rattle.dw_sources.proofs.OperandLaws.{info_old, info_old_not, info_new, info_new_not}
use Rattle.dw_sources.proofs.operands.read_info_place.Goals as goal

pub returns-in_err-place-clause-err : goal.returns-in_err-place-clause-err
returns-in_err-place-clause-err g c =
    let p = err_from_is_err_and c.from_residual.result c.from_residual.ensures.1 in
    rw (p.1, p.2) (info_old_not _ c.args.encoding _ _ (omega arith) c.in_err-place.ensures.err.reason)

pub returns-then-encoding-eq2-clause-ok : goal.returns-then-encoding-eq2-clause-ok
returns-then-encoding-eq2-clause-ok g c = info_old c.args.encoding _ _ _ (omega arith) c.in_ok-place.ensures.ok

pub returns-in_err-place-2-clause-err : goal.returns-in_err-place-2-clause-err
returns-in_err-place-2-clause-err g c =
    let p = err_from_is_err_and c.from_residual-in_err-place-2.result c.from_residual-in_err-place-2.ensures.1 in
    rw (p.1, p.2) (info_new_not _ c.args.encoding _ _ (omega arith) c.in_err-place-2.ensures.err.reason)

pub returns-clause-ok : goal.returns-clause-ok
returns-clause-ok g c = info_new c.args.encoding _ _ _ (omega arith) c.in_ok-place-2.ensures.ok

pub returns-in_err-place-clause-ok : goal.returns-in_err-place-clause-ok
returns-in_err-place-clause-ok g c = rw (err_from_is_err_and c.from_residual.result c.from_residual.ensures.1).1 tt

pub returns-then-encoding-eq2-clause-err : goal.returns-then-encoding-eq2-clause-err
returns-then-encoding-eq2-clause-err g c = tt

pub returns-in_err-place-2-clause-ok : goal.returns-in_err-place-2-clause-ok
returns-in_err-place-2-clause-ok g c = rw (err_from_is_err_and c.from_residual-in_err-place-2.result c.from_residual-in_err-place-2.ensures.1).1 tt

pub returns-clause-err : goal.returns-clause-err
returns-clause-err g c = tt
