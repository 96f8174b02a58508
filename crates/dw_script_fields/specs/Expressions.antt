-- Expressions, read from the front of the fields that are left.
use Rattle.std.specs.Prelude.{◌≡◌, ℕ, ◌<◌, ◌≤◌, max, List, [], length, Option, Some, None, Ok, Err, if◌then◌else◌}
use Rattle.dw_script_fields.specs.declared.expression.ExpressionSteps.{ExpressionSteps}
use Rattle.dw_script_fields.specs.declared.expression_step.ExpressionStep.{ExpressionStep}
use Rattle.dw_ends.specs.declared.reason.Reason.TheVariants.{BadTarget}
use Rattle.dw_ends.specs.Fields.{Fields, Outcome, ◌>>=◌}
use Rattle.dw_ends.specs.Pieces.{pieces_left}
use Rattle.dw_script_fields.specs.Steps.{Walk, walk, step_before, depth_after, expression_walk, open_field}
use Rattle.dw_script_fields.specs.Targets.{have_targets}

-- the walk that is still to come
unfoldable pub walk_left : ExpressionSteps → Walk
walk_left s = walk (length (pieces_left s.fields)) s.depth s.is_first (pieces_left s.fields)

-- the steps that are still to come
unfoldable pub steps_left : ExpressionSteps → List ExpressionStep
steps_left s = (walk_left s).0

-- a step was read, or the end reached
abbrev pub IsWalked : ExpressionSteps → Option ExpressionStep → ExpressionSteps → Type 0
IsWalked old None new = (old ≡ new) × (walk_left old ≡ ([], Ok (pieces_left new.fields)))
IsWalked old (Some step) new = walk_left old ≡ step_before step (walk_left new)

-- how many expressions are open before a step, and after it
abbrev pub IsDeep : ℕ → ExpressionStep → ℕ → Type 0
IsDeep before step after = (0 < before) × (after ≡ depth_after before step) × (after ≤ max before 64)

-- what a walk comes to: an expression closes only with good targets, so a wrong one comes before the reason for which no more steps are read
abbrev pub judged : Walk → Outcome Fields
judged (steps, end) = if have_targets steps then end else Err BadTarget

-- the steps of an expression whose `[` was read, and the fields after its `]`
abbrev pub expression_rest : Fields → Outcome (List ExpressionStep × Fields)
expression_rest fields = do
  rest ← judged (expression_walk fields)
  Ok ((expression_walk fields).0, rest)

-- an expression: `[`, operations with their operands, and `]`; and the fields after it
abbrev pub expression_field : Fields → Outcome (List ExpressionStep × Fields)
expression_field fields = do
  (_, fields) ← open_field 0 fields
  expression_rest fields
