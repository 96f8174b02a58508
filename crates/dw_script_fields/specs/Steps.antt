-- The steps of expressions, each read from the front of the fields that are left.
use Rattle.std.specs.Prelude.{ℕ, zero, suc, ◌+◌, ◌-◌, Bool, true, false, List, [], ◌∷◌, length, ok_or, Ok, Err, nat_lt, bytes_eq, codes, if◌then◌else◌}
use Rattle.dw_script_fields.specs.declared.expression_step.ExpressionStep.{ExpressionStep}
use Rattle.dw_script_fields.specs.declared.expression_step.ExpressionStep.TheVariants as step
use Rattle.dw_script_fields.specs.declared.operation.ScriptOperation.{ScriptOperation}
use Rattle.dw_script_fields.specs.declared.operation.ScriptOperation.TheVariants as operation
use Rattle.dw_script_fields.specs.declared.operation_word.StepWord.{StepWord}
use Rattle.dw_script_fields.specs.declared.operation_word.StepWord.TheVariants as word
use Rattle.dw_ends.specs.declared.reason.Reason.TheVariants.{UnknownWord, WrongFields, TooDeep}
use Rattle.dw_ends.specs.Fields.{Fields, Outcome, ◌>>=◌, next_field, hex_field}
use Rattle.dw_script_fields.specs.Fields.{made}
use Rattle.dw_script_fields.specs.OperationWords.{step_word_of}
use Rattle.dw_script_fields.specs.Operations.{operation_of_word, pair_of_word}

-- the word of a step, and the fields after it
abbrev pub step_word_field : Fields → Outcome (StepWord × Fields)
step_word_field fields = do
  (field, fields) ← next_field fields
  word ← ok_or (step_word_of field) UnknownWord
  Ok (word, fields)

-- `[` within so many open ones, of which there are at most 64, and the fields after it
abbrev pub open_field : ℕ → Fields → Outcome (Unit {0} × Fields)
open_field depth fields = do
  (field, fields) ← next_field fields
  if bytes_eq field (codes "[") then (if nat_lt depth 64 then Ok (tt, fields) else Err TooDeep) else Err UnknownWord

-- bytes that are spelled already, which stand only first in their expression, and the fields after them
abbrev pub raw_field : Bool → Fields → Outcome (ScriptOperation × Fields)
raw_field first fields = if first then made operation.Raw (hex_field fields) else Err UnknownWord

-- the expression that an `entry_value` holds begins, and the fields after its `[`
abbrev pub opened_field : ℕ → Fields → Outcome (ExpressionStep × Fields)
opened_field depth fields = made (λ _. step.Open) (open_field depth fields)

-- the step of a word within so many open expressions, and the fields after it
abbrev pub step_of_word : ℕ → Bool → StepWord → Fields → Outcome (ExpressionStep × Fields)
step_of_word depth first word.Close fields = Ok (step.Close, fields)
step_of_word depth first word.EntryValue fields = opened_field depth fields
step_of_word depth first word.Raw fields = made step.Operation (raw_field first fields)
step_of_word depth first (word.Operation word) fields = made step.Operation (operation_of_word word fields)
step_of_word depth first (word.Pair word) fields = made step.Operation (pair_of_word word fields)

-- a step, and the fields after it
abbrev pub step_field : ℕ → Bool → Fields → Outcome (ExpressionStep × Fields)
step_field depth first fields = do
  (word, fields) ← step_word_field fields
  step_of_word depth first word fields

-- what is read of an expression: the steps as far as they can be read, and then the fields after the `]` that closes it, or the reason for which it isn't read on
abbrev pub Walk : Type 0
Walk = List ExpressionStep × Outcome Fields

-- a step before those of a walk
abbrev pub step_before : ExpressionStep → Walk → Walk
step_before step walk = (step ∷ walk.0, walk.1)

-- the walk from a step on, or none where the step can't be read
abbrev pub walk_on : (ExpressionStep → Fields → Walk) → Outcome (ExpressionStep × Fields) → Walk
walk_on next (Ok (step, fields)) = step_before step (next step fields)
walk_on next (Err reason) = ([], Err reason)

-- how many expressions are open after a step
abbrev pub depth_after : ℕ → ExpressionStep → ℕ
depth_after depth (step.Operation _) = depth
depth_after depth step.Open = depth + 1
depth_after depth step.Close = depth - 1

-- whether the step after a step is the first of its expression
abbrev pub is_open : ExpressionStep → Bool
is_open step.Open = true
is_open _ = false

-- the walk within so many open expressions, of at most so many steps; each step takes a field or more
unfoldable pub walk : ℕ → ℕ → Bool → Fields → Walk
walk zero zero first fields = ([], Ok fields)
walk zero (suc around) first fields = ([], Err WrongFields)
walk (suc most) zero first fields = ([], Ok fields)
walk (suc most) (suc around) first fields =
    walk_on (λ step. walk most (depth_after (suc around) step) (is_open step)) (step_field (suc around) first fields)

-- the walk of an expression whose `[` was read
abbrev pub expression_walk : Fields → Walk
expression_walk fields = walk (length fields) 1 true fields
