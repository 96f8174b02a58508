use Rattle.std.proofs.Common.{rules}
use Rattle.std.proofs.lemmas.Result.{err_from_is_err_and}
use Rattle.std.proofs.lemmas.Int.{to_z-of_z}
use mir.Val.{SFits}
use mir.Syntax.{w8}
use Rattle.dw_sources.proofs.OperandLaws.{signed_took, signed_not}
use Rattle.dw_sources.proofs.operands.read_i8.Goals as goal

pub returns-in_err-number-clause-err : goal.returns-in_err-number-clause-err
returns-in_err-number-clause-err g c =
    let p = err_from_is_err_and c.from_residual.result c.from_residual.ensures.1 in
    rw (p.1, p.2) (signed_not (g.R.Reader.reading c.args.input.now).is_big 1 _ _ c.in_err-number.ensures.err.reason)

pub returns-clause-ok : goal.returns-clause-ok
returns-clause-ok g c =
    let fits : SFits w8 c.cast_signed.result = search rules in
    rw (to_z-of_z w8 c.cast_signed.result fits) (signed_took 1 _ _ _ _ c.cast_signed.ensures c.in_ok-number.ensures.ok)

pub returns-in_err-number-clause-ok : goal.returns-in_err-number-clause-ok
returns-in_err-number-clause-ok g c = rw (err_from_is_err_and c.from_residual.result c.from_residual.ensures.1).1 tt

pub returns-clause-err : goal.returns-clause-err
returns-clause-err g c = tt
