use Rattle.std.proofs.Common.{ap}
use Rattle.dw_script_fields.specs.Expressions.{steps_left, walk_left}
use Rattle.dw_script_fields.proofs.Steps.{walked-yields, progress-first}
use Rattle.dw_script_fields.proofs.Walks.{walk-closed}
use Rattle.dw_script_fields.proofs.expression.ExpressionStepsIterator.next.Goals as goal

pub returns-in-Ok-clause-steps : goal.returns-in-Ok-clause-steps
returns-in-Ok-clause-steps c = walked-yields c.args.self.now c.in-Ok.step c.step.new.self c.in-Ok.ensures.walk

pub returns-in-Err-clause-steps : goal.returns-in-Err-clause-steps
unfolding steps_left walk_left
returns-in-Err-clause-steps c = (ap (λ w. w.0) c.in-Err.ensures.walk, ap (λ w. w.0) (walk-closed _ _ _))

pub returns-in-Ok-clause-goes : goal.returns-in-Ok-clause-goes
returns-in-Ok-clause-goes c = progress-first steps_left c.args.self.now c.in-Ok.step c.step.new.self tt (walked-yields c.args.self.now c.in-Ok.step c.step.new.self c.in-Ok.ensures.walk)
