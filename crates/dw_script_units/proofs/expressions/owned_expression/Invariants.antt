-- The steps that are left, taken on from the expressions that are open, build the whole.
use Rattle.std.proofs.Common.{◌≡◌}
use Rattle.dw_script_fields.specs.Expressions.{steps_left}
use Rattle.dw_script_units.specs.Expressions.{built, expression_of}
use Rattle.dw_script_units.specs.OpenOperations.{open_in}
use Rattle.dw_script_units.proofs.expressions.owned_expression.Given as goal

abbrev pub invariant-loop-step : goal.invariant-loop-step
invariant-loop-step l = record {
  can_next : (goal.iterator-loop-step).can_next l.step-iterator;
  finite : (goal.iterator-loop-step).is_finite l.step-iterator;
  left : built (open_in l.open) (steps_left l.step-iterator) ≡ expression_of l.fields;
}
