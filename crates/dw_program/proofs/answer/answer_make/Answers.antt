use Rattle.dw_program.proofs.Outcomes.{IfOk-map}
use Rattle.dw_program.proofs.answer.answer_make.Goals as goal

pub returns-in-Ok-clause-ok : goal.returns-in-Ok-clause-ok
returns-in-Ok-clause-ok c = IfOk-map c.answer_made.result c.answer_made.ensures.ok (λ a says. says c.args.count c.in-Ok.ensures.ok)
