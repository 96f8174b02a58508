use Rattle.std.proofs.Common.{◌∙◌, sym}
use Rattle.std.proofs.lemmas.Result.{err_from_is_err_and}
use Rattle.dw_read_frames.proofs.CieLaws.{byte_not, byte_took, column_not, column_took}
use Rattle.dw_read_frames.proofs.cie.read_return_register.Goals as goal

pub returns-in_err-number-clause-err : goal.returns-in_err-number-clause-err
returns-in_err-number-clause-err g c =
    let p = err_from_is_err_and c.from_residual.result c.from_residual.ensures.1 in
    rw (p.1, p.2) (byte_not c.args.is_eh c.args.version _ _ _ (sym c.has_byte_register.ensures ∙ c.if-has_byte_register.true) c.in_err-number.ensures.err.reason)

pub returns-then-has_byte_register-clause-ok : goal.returns-then-has_byte_register-clause-ok
returns-then-has_byte_register-clause-ok g c = byte_took c.args.is_eh c.args.version c.in_ok-number.number _ _ (sym c.has_byte_register.ensures ∙ c.if-has_byte_register.true) c.in_ok-number.ensures.ok

pub returns-in_err-register-clause-err : goal.returns-in_err-register-clause-err
returns-in_err-register-clause-err g c =
    let p = err_from_is_err_and c.from_residual-in_err-register.result c.from_residual-in_err-register.ensures.1 in
    rw (p.1, p.2) (column_not c.args.is_eh c.args.version _ _ _ (sym c.has_byte_register.ensures ∙ c.if-has_byte_register.false) c.in_err-register.ensures.err)

pub returns-clause-ok : goal.returns-clause-ok
returns-clause-ok g c = column_took c.args.is_eh c.args.version _ _ _ (sym c.has_byte_register.ensures ∙ c.if-has_byte_register.false) c.in_ok-register.ensures.ok
