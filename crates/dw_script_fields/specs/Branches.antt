-- What is kept of the branches of open expressions while their operations are read.
use Rattle.std.specs.Prelude.{ℕ, ◌+◌, max, Bool, false, ◌&&◌, ◌||◌, not, List, [], ◌∷◌, Option, Some, None, nat_le, ◌==◌, if◌then◌else◌}
use Rattle.dw_script_fields.specs.declared.branches.Branches.{Branches}
use Rattle.dw_script_fields.specs.declared.expression_step.ExpressionStep.{ExpressionStep}
use Rattle.dw_script_fields.specs.declared.expression_step.ExpressionStep.TheVariants as step
use Rattle.dw_script_fields.specs.Operations.{target_of}

-- an expression without operations
abbrev pub no_branches : Branches
no_branches = record { count = 0; highest = 0; to_itself = false }

-- one operation more
abbrev pub with_operation : Option ℕ → Branches → Branches
with_operation None b = record b { count = b.count + 1 }
with_operation (Some target) b =
    record { count = b.count + 1; highest = max b.highest target; to_itself = b.to_itself || (target == b.count) }

-- each leads to another one, or to the end
abbrev pub closes : Branches → Bool
closes b = not b.to_itself && nat_le b.highest b.count

-- one operation more of the innermost expression
abbrev pub after_operation : Option ℕ → List Branches → List Branches
after_operation target [] = []
after_operation target (b ∷ around) = with_operation target b ∷ around

-- the innermost expression ends; none where one of its targets is wrong
abbrev pub after_closed : List Branches → Option (List Branches)
after_closed [] = Some []
after_closed (b ∷ around) = if closes b then Some around else None

-- the innermost expression has one operation more, in which another expression begins
abbrev pub after_opened : List Branches → List Branches
after_opened [] = []
after_opened (b ∷ around) = no_branches ∷ (with_operation None b ∷ around)

-- the expressions that are open after a step; none where the step closes an expression with a wrong target
abbrev pub after_kept : ExpressionStep → List Branches → Option (List Branches)
after_kept (step.Operation operation) opened = Some (after_operation (target_of operation) opened)
after_kept step.Open opened = Some (after_opened opened)
after_kept step.Close opened = after_closed opened

-- how many operations all of them have
abbrev pub count_all : List Branches → ℕ
count_all [] = 0
count_all (b ∷ around) = b.count + count_all around
