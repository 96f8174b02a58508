-- What makes steps an expression: brackets that match, and branches that lead somewhere.
use Rattle.std.specs.Prelude.{ℕ, zero, suc, Bool, true, false, ◌&&◌, not, List, [], ◌∷◌, length, Option, Some, None, nat_le, ◌==◌, if◌then◌else◌}
use Rattle.dw_script_fields.specs.declared.expression_step.ExpressionStep.{ExpressionStep}
use Rattle.dw_script_fields.specs.declared.expression_step.ExpressionStep.TheVariants as step
use Rattle.dw_script_fields.specs.Operations.{target_of}
use Rattle.dw_script_fields.specs.Steps.{depth_after}

-- where the operations of an expression lead, the last of them first; an operation that isn't a branch with a target leads nowhere
abbrev pub Targets : Type 0
Targets = List (Option ℕ)

-- the operation at an index leads to another one of so many, or to their end
abbrev pub leads_within : ℕ → ℕ → Option ℕ → Bool
leads_within count index None = true
leads_within count index (Some target) = not (target == index) && nat_le target count

-- each operation does
abbrev pub lead_within : ℕ → Targets → Bool
lead_within count [] = true
lead_within count (target ∷ before) = leads_within count (length before) target && lead_within count before

-- the expressions that are open after a step, the innermost first; none where the step closes an expression with a wrong target
abbrev pub after_step : ExpressionStep → List Targets → Option (List Targets)
after_step _ [] = Some []
after_step (step.Operation operation) (targets ∷ around) = Some ((target_of operation ∷ targets) ∷ around)
after_step step.Open (targets ∷ around) = Some ([] ∷ ((None ∷ targets) ∷ around))
after_step step.Close (targets ∷ around) = if lead_within (length targets) targets then Some around else None

-- what holds of a value, where there is one
abbrev pub if_there : {A : Type 0} → (A → Bool) → Option A → Bool
if_there holds None = false
if_there holds (Some x) = holds x

-- each step can be taken from the state that the steps before it lead to
abbrev pub passes : {S : Type 0} → (ExpressionStep → S → Option S) → S → List ExpressionStep → Bool
passes after state [] = true
passes after state (step ∷ steps) = if_there (λ next. passes after next steps) (after step state)

-- each branch of an expression, and of those within it, leads to another operation of its own expression, or to its end
abbrev pub have_targets : List ExpressionStep → Bool
have_targets steps = passes after_step ([] ∷ []) steps

-- so many expressions being open, the last of the steps closes the outermost of them
abbrev pub close_all : ℕ → List ExpressionStep → Bool
close_all zero [] = true
close_all zero (_ ∷ _) = false
close_all (suc around) [] = false
close_all (suc around) (step ∷ steps) = close_all (depth_after (suc around) step) steps

-- the steps are those of one expression, up to the `]` that closes it, with targets for its branches
abbrev pub is_expression : List ExpressionStep → Bool
is_expression steps = close_all 1 steps && have_targets steps
