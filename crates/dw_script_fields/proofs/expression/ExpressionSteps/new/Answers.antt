use Rattle.std.proofs.Common.{refl}
use Rattle.dw_script_fields.specs.Expressions.{walk_left}
use Rattle.dw_script_fields.proofs.expression.ExpressionSteps.new.Goals as goal

pub returns-clause-walk : goal.returns-clause-walk
unfolding walk_left
returns-clause-walk c = refl
