-- Each item of a location list takes a field or more.
use Rattle.std.proofs.Common.{◌≡◌, ℕ, zero, suc, ◌<◌, ◌≤◌, Bool, true, false, [], ◌∷◌, length, Ok, Err, ok_or, ap, subst, refl, arith, if◌then◌else◌}
use Rattle.dw_script_fields.specs.declared.expression_step.ExpressionStep.{ExpressionStep}
use Rattle.dw_script_fields.specs.declared.location.ScriptLocation.{ScriptLocation}
use Rattle.dw_script_fields.specs.declared.location_word.LocationWord.{LocationWord}
use Rattle.dw_script_fields.specs.declared.location_word.LocationWord.TheVariants as word
use Rattle.dw_script_fields.specs.declared.range.ScriptRange.{ScriptRange}
use Rattle.dw_script_fields.specs.declared.range.ScriptRange.TheVariants as range
use Rattle.dw_ends.specs.declared.reason.Reason.TheVariants.{UnknownWord, WrongFields, BadTarget}
use Rattle.dw_script_fields.specs.Expressions.{expression_field, expression_rest, judged}
use Rattle.dw_ends.specs.Fields.{Fields, Outcome, ◌>>=◌}
use Rattle.dw_script_fields.specs.LocationWords.{location_word_of}
use Rattle.dw_script_fields.specs.Locations.{located, location_field, location_of_range, location_of_word}
use Rattle.dw_script_fields.specs.Ranges.{range_of_word}
use Rattle.dw_script_fields.specs.Steps.{Walk, depth_after, expression_walk, is_open, open_field, step_field, walk, walk_on}
use Rattle.dw_script_fields.specs.Targets.{have_targets}
use Rattle.dw_script_fields.proofs.Items.{TakesSome}
use Rattle.dw_script_fields.proofs.Ranges.{range_leaves}
use Rattle.dw_script_fields.proofs.Walks.{LeavesUpTo, leaves_made, open_leaves, step_field-shorter}

-- where a walk ends no more than so many fields are left
abbrev EndsUpTo : ℕ → Outcome Fields → Type 0
EndsUpTo n (Ok rest) = length rest ≤ n
EndsUpTo n (Err _) = Unit {0}

ends_on : (n : ℕ) (next : ExpressionStep → Fields → Walk) (o : Outcome (ExpressionStep × Fields)) → ((got : ExpressionStep × Fields) → o ≡ Ok got → EndsUpTo n (next got.0 got.1).1) → EndsUpTo n (walk_on next o).1
ends_on n next (Ok got) ends = ends got refl
ends_on n next (Err _) ends = tt

walk_ends : (n most depth : ℕ) (first : Bool) (fields : Fields) → length fields ≤ n → EndsUpTo n (walk most depth first fields).1
unfolding walk
walk_ends n zero zero first fields few = few
walk_ends n zero (suc around) first fields few = tt
walk_ends n (suc most) zero first fields few = few
walk_ends n (suc most) (suc around) first fields few =
    ends_on n (λ step. walk most (depth_after (suc around) step) (is_open step)) (step_field (suc around) first fields) (λ got e.
    let shorter : length got.1 < length fields = step_field-shorter (suc around) first fields got e in
    walk_ends n most (depth_after (suc around) got.0) (is_open got.0) got.1 (omega arith))

judged_ends : (n : ℕ) (good : Bool) (end : Outcome Fields) → EndsUpTo n end → EndsUpTo n (if good then end else Err BadTarget)
judged_ends n true end few = few
judged_ends n false end few = tt

-- an expression
rest_leaves : {A : Type 0} (n : ℕ) (x : A) (end : Outcome Fields) → EndsUpTo n end → LeavesUpTo n (end >>= λ rest. Ok (x, rest))
rest_leaves n x (Ok rest) few = few
rest_leaves n x (Err _) few = tt

inside_leaves : (n : ℕ) (fields : Fields) → length fields ≤ n → LeavesUpTo n (expression_rest fields)
inside_leaves n fields few =
    let w = expression_walk fields in
    rest_leaves n w.0 (judged w) (judged_ends n (have_targets w.0) w.1 (walk_ends n (length fields) 1 true fields few))

opened_leaves : (n : ℕ) (o : Outcome (Unit {0} × Fields)) → LeavesUpTo n o → LeavesUpTo n (o >>= λ r. expression_rest r.1)
opened_leaves n (Ok r) few = inside_leaves n r.1 few
opened_leaves n (Err _) few = tt

expression_leaves : (n : ℕ) (fields : Fields) → length fields ≤ n → LeavesUpTo n (expression_field fields)
expression_leaves n fields few = opened_leaves n (open_field 0 fields) (open_leaves n 0 fields few)

-- the items
range_location_leaves : (n : ℕ) (r : ScriptRange) (fields : Fields) → length fields ≤ n → LeavesUpTo n (location_of_range r fields)
range_location_leaves n (range.BaseAddress address) fields few = few
range_location_leaves n (range.OffsetPair begin end) fields few = leaves_made n _ (expression_field fields) (expression_leaves n fields few)
range_location_leaves n (range.StartEnd begin end) fields few = leaves_made n _ (expression_field fields) (expression_leaves n fields few)
range_location_leaves n (range.StartLength begin length) fields few = leaves_made n _ (expression_field fields) (expression_leaves n fields few)

located_leaves : (n : ℕ) (o : Outcome (ScriptRange × Fields)) → LeavesUpTo n o → LeavesUpTo n (located o)
located_leaves n (Ok r) few = range_location_leaves n r.0 r.1 few
located_leaves n (Err _) few = tt

location_leaves : (n : ℕ) (w : LocationWord) (fields : Fields) → length fields ≤ n → LeavesUpTo n (location_of_word w fields)
location_leaves n (word.Range w) fields few = located_leaves n (range_of_word w fields) (range_leaves n w fields few)
location_leaves n word.Default fields few = leaves_made n _ (expression_field fields) (expression_leaves n fields few)

word_leaves : (o : Outcome LocationWord) (fields : Fields) → LeavesUpTo (length fields) (◌>>=◌ {A = LocationWord × Fields} (◌>>=◌ {B = LocationWord × Fields} o (λ w. Ok (w, fields))) (λ r. location_of_word r.0 r.1))
word_leaves (Ok w) fields = location_leaves (length fields) w fields (omega arith)
word_leaves (Err _) fields = tt

pub location_field-takes : TakesSome location_field
location_field-takes [] got e = absurd (let k : ◌≡◌ {A = Outcome (ScriptLocation × Fields)} (Err WrongFields) (Ok got) = e in cc)
location_field-takes (field ∷ fields) got e =
    let few : length got.1 ≤ length fields = subst (λ o. LeavesUpTo (length fields) o) e (word_leaves (ok_or (location_word_of field) UnknownWord) fields) in omega arith
