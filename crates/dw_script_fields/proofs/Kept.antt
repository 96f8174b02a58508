-- What is kept of open expressions tells of their targets what the operations do.
use Rattle.std.proofs.Common.{◌≡◌, ◌∙◌, ℕ, ◌+◌, ◌-◌, ◌<◌, ◌≤◌, max, Bool, true, false, ◌&&◌, ◌||◌, not, List, [], ◌∷◌, length, map, Option, Some, None, option_map, Err, ap, sym, subst, refl, arith, ◌==◌, nat_le, if◌then◌else◌}
use Rattle.std.proofs.lemmas.Bool.Decides.{nat_tests}
use Rattle.dw_script_fields.specs.declared.branches.Branches.{Branches}
use Rattle.dw_script_fields.specs.declared.expression_step.ExpressionStep.{ExpressionStep}
use Rattle.dw_script_fields.specs.declared.expression_step.ExpressionStep.TheVariants as step
use Rattle.dw_ends.specs.declared.reason.Reason.TheVariants.{BadTarget}
use Rattle.dw_script_fields.specs.Branches.{no_branches, with_operation, closes, after_operation, after_kept, count_all}
use Rattle.dw_script_fields.specs.Expressions.{judged}
use Rattle.dw_ends.specs.Fields.{Fields, Outcome}
use Rattle.dw_script_fields.specs.Operations.{target_of}
use Rattle.dw_script_fields.specs.Steps.{Walk, step_before, depth_after}
use Rattle.dw_script_fields.specs.Targets.{Targets, lead_within, after_step, if_there, passes}

-- what a walk comes to from the expressions that are open, by what is kept of them
abbrev pub kept_end : List Branches → Walk → Outcome Fields
kept_end opened walk = if passes after_kept opened walk.0 then walk.1 else Err BadTarget

-- a step that can be taken
pub kept_end-step : (opened next : List Branches) (step : ExpressionStep) (walk : Walk) → after_kept step opened ≡ Some next → kept_end opened (step_before step walk) ≡ kept_end next walk
kept_end-step opened next step walk e =
    ap (λ o. if if_there (λ n. passes after_kept n walk.0) o then walk.1 else Err BadTarget) e

-- and one that can't
pub kept_end-none : (opened : List Branches) (step : ExpressionStep) (walk : Walk) → after_kept step opened ≡ None → kept_end opened (step_before step walk) ≡ Err BadTarget
kept_end-none opened step walk e =
    ap (λ o. if if_there (λ n. passes after_kept n walk.0) o then walk.1 else Err BadTarget) e

-- a step adds one operation at most
count-operation : (target : Option ℕ) (b : Branches) → (with_operation target b).count ≡ b.count + 1
count-operation None b = refl
count-operation (Some target) b = refl

count-after : (target : Option ℕ) (opened : List Branches) → count_all (after_operation target opened) ≤ count_all opened + 1
count-after target [] = omega arith
count-after target (b ∷ around) = omega (arith, count-operation target b)

count-closed : (b : Branches) (around next : List Branches) (good : Bool) → ◌≡◌ {A = Option (List Branches)} (if good then Some around else None) (Some next) → count_all next ≤ b.count + count_all around + 1
count-closed b around next true e = let same : around ≡ next = cc in subst (λ n. count_all n ≤ b.count + count_all around + 1) same (omega arith)
count-closed b around next false e = absurd cc

pub count-step : (step : ExpressionStep) (opened next : List Branches) → after_kept step opened ≡ Some next → count_all next ≤ count_all opened + 1
count-step (step.Operation o) opened next e = let same : after_operation (target_of o) opened ≡ next = cc in subst (λ n. count_all n ≤ count_all opened + 1) same (count-after (target_of o) opened)
count-step step.Open [] next e = let same : ◌≡◌ {A = List Branches} [] next = cc in subst (λ n. count_all n ≤ 0 + 1) same (omega arith)
count-step step.Open (b ∷ around) next e =
    let same : no_branches ∷ (with_operation None b ∷ around) ≡ next = cc in
    subst (λ n. count_all n ≤ b.count + count_all around + 1) same (omega arith)
count-step step.Close [] next e = let same : ◌≡◌ {A = List Branches} [] next = cc in subst (λ n. count_all n ≤ 0 + 1) same (omega arith)
count-step step.Close (b ∷ around) next e = count-closed b around next (closes b) e

-- and opens or closes as the depth tells
length-closed : (b : Branches) (around next : List Branches) (good : Bool) → ◌≡◌ {A = Option (List Branches)} (if good then Some around else None) (Some next) → length next ≡ length (b ∷ around) - 1
length-closed b around next true e = let same : around ≡ next = cc in subst (λ n. length n ≡ length (b ∷ around) - 1) same (omega arith)
length-closed b around next false e = absurd cc

pub length-step : (step : ExpressionStep) (opened next : List Branches) → 0 < length opened → after_kept step opened ≡ Some next → length next ≡ depth_after (length opened) step
length-step step [] next some e = absurd (omega arith)
length-step (step.Operation o) (b ∷ around) next some e = let same : with_operation (target_of o) b ∷ around ≡ next = cc in subst (λ n. length n ≡ length (b ∷ around)) same refl
length-step step.Open (b ∷ around) next some e =
    let same : no_branches ∷ (with_operation None b ∷ around) ≡ next = cc in
    subst (λ n. length n ≡ length (b ∷ around) + 1) same (omega arith)
length-step step.Close (b ∷ around) next some e = length-closed b around next (closes b) e

-- ---- the operations, and what is kept of them

-- what is kept of operations, by where they lead
pub kept : Targets → Branches
kept [] = no_branches
kept (target ∷ before) = with_operation target (kept before)

kept-count : (targets : Targets) → (kept targets).count ≡ length targets
unfolding kept
kept-count [] = refl
kept-count (target ∷ before) = omega (arith, count-operation target (kept before), kept-count before)

-- the highest of two targets
within-max : (n a b : ℕ) → nat_le (max a b) n ≡ (nat_le a n && nat_le b n)
within-max n a b = grind (arith, nat_tests)

both : (a b c d : Bool) → ((not a && b) && (not c && d)) ≡ (not (c || a) && (d && b))
both true b true d = refl
both true b false d = refl
both false true true d = refl
both false false true d = refl
both false true false true = refl
both false true false false = refl
both false false false true = refl
both false false false false = refl

lead-kept : (n : ℕ) (targets : Targets) → lead_within n targets ≡ (not (kept targets).to_itself && nat_le (kept targets).highest n)
unfolding kept
lead-kept n [] = grind (arith, nat_tests)
lead-kept n (None ∷ before) = lead-kept n before
lead-kept n (Some target ∷ before) =
    let k = kept before in
    ap (λ l. (not (target == length before) && nat_le target n) && l) (lead-kept n before)
    ∙ both (target == length before) (nat_le target n) k.to_itself (nat_le k.highest n)
    ∙ ap (λ c. not (k.to_itself || (target == c)) && (nat_le k.highest n && nat_le target n)) (sym (kept-count before))
    ∙ ap (λ m. not (k.to_itself || (target == k.count)) && m) (sym (within-max n k.highest target))

-- an expression's `]`
closes-kept : (targets : Targets) → lead_within (length targets) targets ≡ closes (kept targets)
closes-kept targets = lead-kept (length targets) targets ∙ ap (λ n. not (kept targets).to_itself && nat_le (kept targets).highest n) (sym (kept-count targets))

-- a step
step-kept : (step : ExpressionStep) (opened : List Targets) → option_map (map kept) (after_step step opened) ≡ after_kept step (map kept opened)
unfolding kept
step-kept (step.Operation o) [] = refl
step-kept step.Open [] = refl
step-kept step.Close [] = refl
step-kept (step.Operation o) (targets ∷ around) = refl
step-kept step.Open (targets ∷ around) = refl
step-kept step.Close (targets ∷ around) = closed (lead_within (length targets) targets) (closes (kept targets)) (closes-kept targets)
  where
    closed : (a b : Bool) → a ≡ b → option_map (map kept) (if a then Some around else None) ≡ (if b then Some (map kept around) else None)
    closed true b e = ap (λ c. if c then Some (map kept around) else None) e
    closed false b e = ap (λ c. if c then Some (map kept around) else None) e

-- all steps
there-map : {A B : Type 0} (f : A → B) (p : B → Bool) (q : A → Bool) (o : Option A) → ((x : A) → q x ≡ p (f x)) → if_there q o ≡ if_there p (option_map f o)
there-map f p q None same = refl
there-map f p q (Some x) same = same x

pub passes-kept : (steps : List ExpressionStep) (opened : List Targets) → passes after_step opened steps ≡ passes after_kept (map kept opened) steps
passes-kept [] opened = refl
passes-kept (step ∷ steps) opened =
    there-map (map kept) (λ next. passes after_kept next steps) (λ next. passes after_step next steps) (after_step step opened) (passes-kept steps)
    ∙ ap (if_there (λ next. passes after_kept next steps)) (step-kept step opened)

-- an expression
pub judged-kept : (walk : Walk) → judged walk ≡ kept_end (no_branches ∷ []) walk
unfolding kept
judged-kept walk = ap (λ b. if b then walk.1 else Err BadTarget) (passes-kept walk.0 ([] ∷ []))

-- what is left of a walk comes to what the whole one does
pub judged-so_far : (whole started now : Walk) (start opened : List Branches) → started ≡ whole → start ≡ no_branches ∷ [] → kept_end opened now ≡ kept_end start started → judged whole ≡ kept_end opened now
judged-so_far whole started now start opened e begun same =
    judged-kept whole ∙ ap (kept_end (no_branches ∷ [])) (sym e) ∙ ap (λ o. kept_end o started) (sym begun) ∙ sym same
