use Rattle.dw_convert_lines.proofs.Reasons.{is_err}
use Rattle.dw_convert_lines.proofs.entry.convert_source.Goals as goal

pub returns-in_err-text-in-Some-clause-ok : goal.returns-in_err-text-in-Some-clause-ok
returns-in_err-text-in-Some-clause-ok g c = rw (is_err _ _ c.from_residual.ensures) tt

pub returns-in_err-text-in-Some-clause-text : goal.returns-in_err-text-in-Some-clause-text
returns-in_err-text-in-Some-clause-text g c = rw (is_err _ _ c.from_residual.ensures) tt

pub returns-in_ok-text-in-Some-clause-err : goal.returns-in_ok-text-in-Some-clause-err
returns-in_ok-text-in-Some-clause-err g c = tt
