use Rattle.std.proofs.Common.{refl}
use Rattle.dw_convert_lines.proofs.Reasons.{is_err}
use Rattle.dw_convert_lines.proofs.program.read_line_program.Goals as goal

pub returns-in_err-target-clause-ok : goal.returns-in_err-target-clause-ok
returns-in_err-target-clause-ok g c = rw (is_err _ _ c.from_residual.ensures) tt

pub returns-in_err-target-clause-read : goal.returns-in_err-target-clause-read
returns-in_err-target-clause-read g c = rw (is_err _ _ c.from_residual.ensures) tt

pub returns-in_err-target-clause-err : goal.returns-in_err-target-clause-err
returns-in_err-target-clause-err g c = rw (is_err _ _ c.from_residual.ensures) c.in_err-target.ensures.err

pub returns-clause-ok : goal.returns-clause-ok
returns-clause-ok g c = c.in_ok-target.ensures.ok

pub returns-clause-read : goal.returns-clause-read
returns-clause-read g c = refl

pub returns-clause-err : goal.returns-clause-err
returns-clause-err g c = tt
