-- Each step takes a field or more, so that a walk needs no more steps than there are fields.
use Rattle.std.proofs.Common.{◌≡◌, ◌∙◌, ℕ, zero, suc, ◌<◌, ◌≤◌, Bool, true, false, List, [], ◌∷◌, length, Ok, Err, ok_or, ap, sym, subst, refl, arith, nat_lt, bytes_eq, codes, if◌then◌else◌}
use Rattle.dw_script_fields.specs.declared.expression_step.ExpressionStep.{ExpressionStep}
use Rattle.dw_script_fields.specs.declared.operation_word.OperationWord.{OperationWord}
use Rattle.dw_script_fields.specs.declared.operation_word.OperationWord.TheVariants as word
use Rattle.dw_script_fields.specs.declared.operation_word.PairWord.{PairWord}
use Rattle.dw_script_fields.specs.declared.operation_word.PairWord.TheVariants as pair
use Rattle.dw_script_fields.specs.declared.operation_word.StepWord.{StepWord}
use Rattle.dw_script_fields.specs.declared.operation_word.StepWord.TheVariants as step_word
use Rattle.dw_ends.specs.declared.reason.Reason.{Reason}
use Rattle.dw_ends.specs.declared.reason.Reason.TheVariants.{UnknownWord, WrongFields, TooDeep}
use Rattle.dw_ends.specs.Fields.{Fields, Outcome, ◌>>=◌, next_field}
use Rattle.dw_script_fields.specs.Fields.{made}
use Rattle.dw_script_fields.specs.OperationWords.{step_word_of}
use Rattle.dw_script_fields.specs.Operations.{made_of_two, operation_of_word, pair_of_word}
use Rattle.dw_script_fields.specs.Steps.{open_field, raw_field, step_field, step_of_word, step_before, walk_on, walk, depth_after, is_open}

-- no more than so many fields are left
abbrev pub LeavesUpTo : {A : Type 0} → ℕ → Outcome (A × Fields) → Type 0
LeavesUpTo n (Ok read) = length read.1 ≤ n
LeavesUpTo n (Err _) = Unit {0}

-- a value is made of what was read
pub leaves_made : {A B : Type 0} (n : ℕ) (make : A → B) (o : Outcome (A × Fields)) → LeavesUpTo n o → LeavesUpTo n (made make o)
leaves_made n make (Ok read) few = few
leaves_made n make (Err _) few = tt

-- a value is made of two that were read
leaves_two : {A B C : Type 0} (n : ℕ) (make : A → B → C) (first : Outcome (A × Fields)) (second : Fields → Outcome (B × Fields)) → LeavesUpTo n first → ((fields : Fields) → length fields ≤ n → LeavesUpTo n (second fields)) → LeavesUpTo n (made_of_two make first second)
leaves_two n make (Ok read) second few on = leaves_made n (make read.0) (second read.1) (on read.1 few)
leaves_two n make (Err _) second few on = tt

-- what is read of one field
leaves_read : {A B : Type 0} (n : ℕ) (make : A → B) (o : Outcome A) (fields : Fields) → length fields ≤ n → LeavesUpTo n (o >>= λ x. Ok (make x, fields))
leaves_read n make (Ok x) fields few = few
leaves_read n make (Err _) fields few = tt

pub leaves_field : {A B : Type 0} (n : ℕ) (make : A → B) (f : List ℕ → Outcome A) (fields : Fields) → length fields ≤ n → LeavesUpTo n (next_field fields >>= λ r. f r.0 >>= λ x. Ok (make x, r.1))
leaves_field n make f [] few = tt
leaves_field n make f (field ∷ fields) few = leaves_read n make (f field) fields (omega arith)

-- the operations
operation_leaves : (n : ℕ) (w : OperationWord) (fields : Fields) → length fields ≤ n → LeavesUpTo n (operation_of_word w fields)
operation_leaves n word.Deref fields few = few
operation_leaves n word.SpaceDeref fields few = few
operation_leaves n _ fields few = leaves_made n _ _ (leaves_field n _ _ fields few)

-- two operands
pub operands_leave : {A B C : Type 0} (n : ℕ) (make : A → B → C) (f : List ℕ → Outcome A) (g : List ℕ → Outcome B) (fields : Fields) → length fields ≤ n → LeavesUpTo n (made_of_two make (next_field fields >>= λ r. f r.0 >>= λ x. Ok (x, r.1)) (λ rest. next_field rest >>= λ r. g r.0 >>= λ y. Ok (y, r.1)))
operands_leave n make f g fields few = leaves_two n make _ _ (leaves_field n (λ x. x) f fields few) (λ rest h. leaves_field n (λ y. y) g rest h)

pair_leaves : (n : ℕ) (w : PairWord) (fields : Fields) → length fields ≤ n → LeavesUpTo n (pair_of_word w fields)
pair_leaves n pair.ConstantType fields few = operands_leave n _ _ _ fields few
pair_leaves n pair.RegisterOffset fields few = operands_leave n _ _ _ fields few
pair_leaves n pair.RegisterType fields few = operands_leave n _ _ _ fields few
pair_leaves n pair.DerefType fields few = operands_leave n _ _ _ fields few
pair_leaves n pair.SpaceDerefType fields few = operands_leave n _ _ _ fields few
pair_leaves n pair.ImplicitPointer fields few = operands_leave n _ _ _ fields few
pair_leaves n pair.BitPiece fields few = operands_leave n _ _ _ fields few

-- an expression within
opened_leaves : (n : ℕ) (fields : Fields) (bracket room : Bool) → length fields ≤ n → LeavesUpTo {A = Unit {0}} n (if bracket then (if room then Ok (tt, fields) else Err TooDeep) else Err UnknownWord)
opened_leaves n fields true true few = few
opened_leaves n fields true false few = tt
opened_leaves n fields false room few = tt

pub open_leaves : (n depth : ℕ) (fields : Fields) → length fields ≤ n → LeavesUpTo n (open_field depth fields)
open_leaves n depth [] few = tt
open_leaves n depth (field ∷ fields) few = opened_leaves n fields (bytes_eq field (codes "[")) (nat_lt depth 64) (omega arith)

raw_leaves : (n : ℕ) (first : Bool) (fields : Fields) → length fields ≤ n → LeavesUpTo n (raw_field first fields)
raw_leaves n true fields few = leaves_made n _ _ (leaves_field n _ _ fields few)
raw_leaves n false fields few = tt

-- the steps
step_leaves : (n depth : ℕ) (first : Bool) (w : StepWord) (fields : Fields) → length fields ≤ n → LeavesUpTo n (step_of_word depth first w fields)
step_leaves n depth first step_word.Close fields few = few
step_leaves n depth first step_word.EntryValue fields few = leaves_made n _ (open_field depth fields) (open_leaves n depth fields few)
step_leaves n depth first step_word.Raw fields few = leaves_made n _ (raw_field first fields) (raw_leaves n first fields few)
step_leaves n depth first (step_word.Operation w) fields few = leaves_made n _ (operation_of_word w fields) (operation_leaves n w fields few)
step_leaves n depth first (step_word.Pair w) fields few = leaves_made n _ (pair_of_word w fields) (pair_leaves n w fields few)

word_leaves : (depth : ℕ) (first : Bool) (o : Outcome StepWord) (fields : Fields) → LeavesUpTo (length fields) (◌>>=◌ {A = StepWord × Fields} (◌>>=◌ {B = StepWord × Fields} o (λ w. Ok (w, fields))) (λ r. step_of_word depth first r.0 r.1))
word_leaves depth first (Ok w) fields = step_leaves (length fields) depth first w fields (omega arith)
word_leaves depth first (Err _) fields = tt

-- a step leaves fewer fields
pub step_field-shorter : (depth : ℕ) (first : Bool) (fields : Fields) (read : ExpressionStep × Fields) → step_field depth first fields ≡ Ok read → length read.1 < length fields
step_field-shorter depth first [] read e = absurd (let k : ◌≡◌ {A = Outcome (ExpressionStep × Fields)} (Err WrongFields) (Ok read) = e in cc)
step_field-shorter depth first (field ∷ fields) read e =
    let few : length read.1 ≤ length fields = subst (λ o. LeavesUpTo (length fields) o) e (word_leaves depth first (ok_or (step_word_of field) UnknownWord) fields) in omega arith

-- a walk that is at its end
pub walk-closed : (most : ℕ) (first : Bool) (fields : Fields) → walk most 0 first fields ≡ ([], Ok fields)
unfolding walk
walk-closed zero first fields = refl
walk-closed (suc most) first fields = refl

-- a walk goes on alike, whatever step comes next
on_alike : (depth m n : ℕ) (o : Outcome (ExpressionStep × Fields)) → ((read : ExpressionStep × Fields) → o ≡ Ok read → walk m (depth_after depth read.0) (is_open read.0) read.1 ≡ walk n (depth_after depth read.0) (is_open read.0) read.1) →
    walk_on (λ step. walk m (depth_after depth step) (is_open step)) o ≡ walk_on (λ step. walk n (depth_after depth step) (is_open step)) o
on_alike depth m n (Ok read) alike = ap (step_before read.0) (alike read refl)
on_alike depth m n (Err _) alike = refl

-- so many steps as there are fields are enough
walk-enough : (m n depth : ℕ) (first : Bool) (fields : Fields) → length fields ≤ m → length fields ≤ n → walk m depth first fields ≡ walk n depth first fields
unfolding walk
walk-enough m n zero first fields few enough = walk-closed m first fields ∙ sym (walk-closed n first fields)
walk-enough zero zero (suc depth) first fields few enough = refl
walk-enough zero (suc n) (suc depth) first [] few enough = refl
walk-enough zero (suc n) (suc depth) first (field ∷ fields) few enough = absurd (omega arith)
walk-enough (suc m) zero (suc depth) first [] few enough = refl
walk-enough (suc m) zero (suc depth) first (field ∷ fields) few enough = absurd (omega arith)
walk-enough (suc m) (suc n) (suc depth) first fields few enough =
    on_alike (suc depth) m n (step_field (suc depth) first fields) (λ read e.
    let shorter : length read.1 < length fields = step_field-shorter (suc depth) first fields read e in
    walk-enough m n (depth_after (suc depth) read.0) (is_open read.0) read.1 (omega arith) (omega arith))

-- a step of a walk
pub walk-step : (depth : ℕ) (first : Bool) (fields : Fields) (step : ExpressionStep) (rest : Fields) → 0 < depth → step_field depth first fields ≡ Ok (step, rest) →
    walk (length fields) depth first fields ≡ step_before step (walk (length rest) (depth_after depth step) (is_open step) rest)
unfolding walk
walk-step zero first fields step rest inside e = absurd (omega arith)
walk-step (suc depth) first [] step rest inside e = absurd (let k : ◌≡◌ {A = Outcome (ExpressionStep × Fields)} (Err WrongFields) (Ok (step, rest)) = e in cc)
walk-step (suc depth) first (field ∷ fields) step rest inside e =
    let shorter : length rest < length (field ∷ fields) = step_field-shorter (suc depth) first (field ∷ fields) (step, rest) e in
    let enough = walk-enough (length fields) (length rest) (depth_after (suc depth) step) (is_open step) rest (omega arith) (omega arith) in
    ap (walk_on (λ s. walk (length fields) (depth_after (suc depth) s) (is_open s))) e ∙ ap (step_before step) enough

-- a walk that can't go on
pub walk-failed : (depth : ℕ) (first : Bool) (fields : Fields) (reason : Reason) → 0 < depth → step_field depth first fields ≡ Err reason → walk (length fields) depth first fields ≡ ([], Err reason)
unfolding walk
walk-failed zero first fields reason inside e = absurd (omega arith)
walk-failed (suc depth) first [] reason inside e = let k : ◌≡◌ {A = Outcome (ExpressionStep × Fields)} (Err WrongFields) (Err reason) = e in ap (walk_on (λ s f. ([], Ok f))) k
walk-failed (suc depth) first (field ∷ fields) reason inside e =
    ap (walk_on (λ s. walk (length fields) (depth_after (suc depth) s) (is_open s))) e
