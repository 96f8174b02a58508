use Rattle.std.proofs.Common.{◌∙◌, ap, sym}
use Rattle.dw_script_fields.specs.Expressions.{steps_left}
use Rattle.dw_script_fields.specs.Targets.{is_expression}
use Rattle.dw_script_fields.proofs.expression.ExpressionFields.steps.Goals as goal

pub returns-clause-steps : goal.returns-clause-steps
unfolding steps_left
returns-clause-steps c = ap (λ w. w.0) c.new.ensures.walk ∙ c.self.view_is

pub returns-clause-whole : goal.returns-clause-whole
returns-clause-whole c = ap is_expression (sym c.self.view_is) ∙ c.self.invariant
