use Rattle.dw_convert.proofs.Addresses.{is_err}
use Rattle.dw_convert.proofs.exprloc.spelled.Goals as goal

pub returns-in_err-bytes-clause-ok : goal.returns-in_err-bytes-clause-ok
returns-in_err-bytes-clause-ok g c = rw (is_err _ _ c.from_residual.ensures) tt

pub returns-in_err-bytes-clause-err : goal.returns-in_err-bytes-clause-err
returns-in_err-bytes-clause-err g c = rw (is_err _ _ c.from_residual.ensures) c.in_err-bytes.ensures.err
