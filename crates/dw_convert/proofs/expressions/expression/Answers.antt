use Rattle.dw_convert.proofs.Nesting.{ok_then, err_then}
use Rattle.dw_convert.proofs.expressions.expression.Goals as goal

pub returns-clause-ok : goal.returns-clause-ok
returns-clause-ok g c = ok_then c.convert_within.result _ _ (λ x h. (512, h)) c.convert_within.ensures.ok

pub returns-clause-err : goal.returns-clause-err
returns-clause-err g c = err_then c.convert_within.result _ _ _ (λ e h. (512, h)) c.convert_within.ensures.err
