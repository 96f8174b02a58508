-- What was read whole is an expression.
use Rattle.std.proofs.Common.{◌≡◌, ◌∙◌, ℕ, zero, suc, Bool, true, false, ◌&&◌, length, Ok, Err, ap, refl, if◌then◌else◌}
use Rattle.dw_script_fields.specs.declared.expression_step.ExpressionStep.{ExpressionStep}
use Rattle.dw_ends.specs.declared.reason.Reason.TheVariants.{WrongFields, BadTarget}
use Rattle.dw_script_fields.specs.Expressions.{judged}
use Rattle.dw_ends.specs.Fields.{Fields, Outcome}
use Rattle.dw_script_fields.specs.Steps.{Walk, step_field, walk_on, walk, depth_after, is_open, expression_walk}
use Rattle.dw_script_fields.specs.Targets.{close_all, have_targets, is_expression}

-- a walk that ends has closed what was open
closes_on : (around : ℕ) (next : ExpressionStep → Fields → Walk) (rest : Fields) (o : Outcome (ExpressionStep × Fields)) → ((step : ExpressionStep) (fields : Fields) → (next step fields).1 ≡ Ok rest → close_all (depth_after (suc around) step) (next step fields).0 ≡ true) → (walk_on next o).1 ≡ Ok rest → close_all (suc around) (walk_on next o).0 ≡ true
closes_on around next rest (Ok read) closes e = closes read.0 read.1 e
closes_on around next rest (Err reason) closes e = absurd (let k : ◌≡◌ {A = Outcome Fields} (Err reason) (Ok rest) = e in cc)

walk-closes : (most depth : ℕ) (first : Bool) (fields rest : Fields) → (walk most depth first fields).1 ≡ Ok rest → close_all depth (walk most depth first fields).0 ≡ true
unfolding walk
walk-closes zero zero first fields rest e = refl
walk-closes zero (suc around) first fields rest e = absurd (let k : ◌≡◌ {A = Outcome Fields} (Err WrongFields) (Ok rest) = e in cc)
walk-closes (suc most) zero first fields rest e = refl
walk-closes (suc most) (suc around) first fields rest e =
    closes_on around (λ step. walk most (depth_after (suc around) step) (is_open step)) rest (step_field (suc around) first fields)
    (λ step read. walk-closes most (depth_after (suc around) step) (is_open step) read rest) e

-- what comes to the fields after it had good targets, and ended
judged_whole : (good : Bool) (end : Outcome Fields) (rest : Fields) → ◌≡◌ {A = Outcome Fields} (if good then end else Err BadTarget) (Ok rest) → (good ≡ true) × (end ≡ Ok rest)
judged_whole true end rest e = (refl, e)
judged_whole false end rest e = absurd (let k : ◌≡◌ {A = Outcome Fields} (Err BadTarget) (Ok rest) = e in cc)

pub judged-expression : (fields rest : Fields) → judged (expression_walk fields) ≡ Ok rest → is_expression (expression_walk fields).0 ≡ true
judged-expression fields rest e =
    let w = expression_walk fields in
    let whole = judged_whole (have_targets w.0) w.1 rest e in
    ap (λ b. b && have_targets w.0) (walk-closes (length fields) 1 true fields rest whole.1) ∙ whole.0
