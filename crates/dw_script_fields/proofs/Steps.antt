-- What an iterator over steps hands out.
use Rattle.std.proofs.Common.{◌≡◌, Option, Some, None, ap, subst, arith, length, List, []}
use Rattle.std.specs.Iterator.{YieldsFirst, MakesProgress, item_count}
use Rattle.std.proofs.iter.Next.{by_went}
use Rattle.dw_script_fields.specs.declared.expression.ExpressionSteps.{ExpressionSteps}
use Rattle.dw_script_fields.specs.declared.expression_step.ExpressionStep.{ExpressionStep}
use Rattle.dw_script_fields.specs.Expressions.{IsWalked, steps_left}

-- a step of the walk is the first of the steps that were left
pub walked-yields : (s : ExpressionSteps) (r : Option ExpressionStep) (t : ExpressionSteps) → IsWalked s r t → YieldsFirst steps_left s r t
unfolding steps_left
walked-yields s None t (same, ended) =
    let none : steps_left s ≡ [] = ap (λ w. w.0) ended in (none, subst (λ u. steps_left u ≡ []) same none)
walked-yields s (Some step) t walked = ap (λ w. w.0) walked

-- and one step less is left
pub progress-first : {S A : Type 0} {can : S → Type 0} (rest : S → List A) (s : S) (r : Option A) (t : S) → can t → YieldsFirst rest s r t → MakesProgress can (item_count rest) s r t
progress-first rest s None t may (none, ended) = by_went None (λ h. tt)
progress-first rest s (Some x) t may first = let shorter = ap length first in by_went (Some x) (may, λ h. (tt, omega arith))
