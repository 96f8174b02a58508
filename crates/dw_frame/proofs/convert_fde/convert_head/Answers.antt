use Rattle.std.proofs.Common.{◌≡◌, sym, inl, inr, Err}
use Rattle.dw_frame.proofs.ConvertLaws.{is_err}
use Rattle.dw_frame.proofs.convert_fde.convert_head.Goals as goal

pub returns-in_err-address-clause-ok : goal.returns-in_err-address-clause-ok
returns-in_err-address-clause-ok g c = rw (is_err _ _ c.from_residual.ensures) tt

pub returns-in_err-address-clause-steps : goal.returns-in_err-address-clause-steps
returns-in_err-address-clause-steps g c = rw (is_err _ _ c.from_residual.ensures) tt

pub returns-in_err-length-clause-ok : goal.returns-in_err-length-clause-ok
returns-in_err-length-clause-ok g c = rw (is_err _ _ c.from_residual-in_err-length.ensures) tt

pub returns-in_err-length-clause-steps : goal.returns-in_err-length-clause-steps
returns-in_err-length-clause-steps g c = rw (is_err _ _ c.from_residual-in_err-length.ensures) tt

pub returns-in_err-lsda-clause-ok : goal.returns-in_err-lsda-clause-ok
returns-in_err-lsda-clause-ok g c = rw (is_err _ _ c.from_residual-in_err-lsda.ensures) tt

pub returns-in_err-lsda-clause-steps : goal.returns-in_err-lsda-clause-steps
returns-in_err-lsda-clause-steps g c = rw (is_err _ _ c.from_residual-in_err-lsda.ensures) tt

pub returns-clause-err : goal.returns-clause-err
returns-clause-err g c = tt

pub returns-clause-steps : goal.returns-clause-steps
returns-clause-steps g c = c.new-fde.ensures.steps

pub returns-in_err-address-clause-err : goal.returns-in_err-address-clause-err
returns-in_err-address-clause-err g c =
    let e : c.from_residual.result ≡ Err c.in_err-address.field-0.0 = is_err _ _ c.from_residual.ensures in
    rw e (inl (rw c.initial_address.ensures at c.in_err-address.ensures))

pub returns-in_err-length-clause-err : goal.returns-in_err-length-clause-err
returns-in_err-length-clause-err g c =
    let e : c.from_residual-in_err-length.result ≡ Err c.in_err-length.field-0.0 = is_err _ _ c.from_residual-in_err-length.ensures in
    rw e (inr (inl (sym (rw c.len.ensures at c.in_err-length.ensures))))

pub returns-in_err-lsda-clause-err : goal.returns-in_err-lsda-clause-err
returns-in_err-lsda-clause-err g c =
    let e : c.from_residual-in_err-lsda.result ≡ Err c.in_err-lsda.field-0.0 = is_err _ _ c.from_residual-in_err-lsda.ensures in
    rw e (inr (inr (rw c.lsda.ensures at c.in_err-lsda.ensures)))
