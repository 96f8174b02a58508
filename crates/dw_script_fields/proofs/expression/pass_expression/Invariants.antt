-- The steps that are left, taken on from the expressions that are open, come to what the whole expression does.
use Rattle.std.proofs.Common.{◌≡◌, ◌+◌, ◌<◌, ◌≤◌, ◌^◌, length}
use Rattle.dw_script_fields.specs.Branches.{count_all}
use Rattle.dw_script_fields.specs.Expressions.{walk_left}
use Rattle.dw_ends.specs.Pieces.{pieces_left}
use Rattle.dw_script_fields.proofs.Kept.{kept_end}
use Rattle.dw_script_fields.proofs.expression.pass_expression.Given as goal

abbrev pub invariant-loop-step : goal.invariant-loop-step
invariant-loop-step l = record {
  depth : l.steps.depth ≡ length l.expressions;
  deep : l.steps.depth ≤ 64;
  few : count_all l.expressions + length (pieces_left l.steps.fields) < 2 ^ 64;
  same : kept_end l.expressions (walk_left l.steps) ≡ kept_end l.initial.expressions (walk_left l.initial.steps);
}

abbrev pub decreases-loop-step : goal.decreases-loop-step
decreases-loop-step l = length (pieces_left l.steps.fields)
