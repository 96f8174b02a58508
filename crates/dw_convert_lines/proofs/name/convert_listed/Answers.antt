use Rattle.dw_convert_lines.proofs.Reasons.{is_err}
use Rattle.dw_convert_lines.proofs.name.convert_listed.Goals as goal

pub returns-in_err-name-clause-ok : goal.returns-in_err-name-clause-ok
returns-in_err-name-clause-ok g c = rw (is_err _ _ c.from_residual.ensures) tt

pub returns-in_err-name-clause-text : goal.returns-in_err-name-clause-text
returns-in_err-name-clause-text g c = rw (is_err _ _ c.from_residual.ensures) tt

pub returns-in_err-name-clause-full : goal.returns-in_err-name-clause-full
returns-in_err-name-clause-full g c = rw (is_err _ _ c.from_residual.ensures) tt

pub returns-clause-err : goal.returns-clause-err
returns-clause-err g c = tt
