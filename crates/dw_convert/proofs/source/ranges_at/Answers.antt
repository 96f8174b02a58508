use Rattle.std.proofs.Common.{◌≡◌, Err}
use Rattle.dw_convert.proofs.Addresses.{is_err}
use Rattle.dw_convert.proofs.source.ranges_at.Goals as goal

pub returns-in_err-list-clause-err : goal.returns-in_err-list-clause-err
returns-in_err-list-clause-err g c =
    let e : c.from_residual.result ≡ Err c.in_err-list.field-0.0 = is_err _ _ c.from_residual.ensures in
    rw e c.in_err-list.ensures.err

pub returns-in_err-list-clause-ok : goal.returns-in_err-list-clause-ok
returns-in_err-list-clause-ok g c = rw (is_err _ _ c.from_residual.ensures) tt

pub returns-in_err-list-clause-text : goal.returns-in_err-list-clause-text
returns-in_err-list-clause-text g c = rw (is_err _ _ c.from_residual.ensures) tt

pub returns-clause-ok : goal.returns-clause-ok
returns-clause-ok g c = c.in_ok-list.ensures.ok

pub returns-clause-text : goal.returns-clause-text
returns-clause-text g c = tt

pub returns-clause-err : goal.returns-clause-err
returns-clause-err g c = tt
