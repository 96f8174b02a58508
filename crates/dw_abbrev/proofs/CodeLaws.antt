-- What codes tell: a code stands for one shape, and keeps it as the table grows.
use Rattle.std.specs.Prelude.{◌≡◌, ◌≢◌, ◌↔◌, ℕ, zero, suc, ◌+◌, ◌≤◌, ◌<◌, Bool, true, false, not, ◌||◌, ◌==◌, List, [], ◌∷◌, ◌++◌, length, slice_index_or, Option, None, Some, position, if◌then◌else◌, Contains, refl}
use Rattle.std.specs.List.{list_any, position_or_len, IsDistinct}
use Rattle.std.proofs.Common.{sym, ◌∙◌, ap, arith, cond, true≢false, eq-eqb}
use Rattle.std.proofs.lemmas.Bool.{ne_eqb}
use Rattle.std.proofs.lemmas.List.Elements.{All-from_recursion, All-weaker}
use Rattle.std.proofs.lemmas.List.Kept.{AllPairs-cons}
use Rattle.indexmap.specs.IndexSet.{insert_key}
use Rattle.dw_base.specs.Abbreviations.{Shape, shape_of_code}
use Rattle.dw_abbrev.specs.Equal.{shape_eq}
use Rattle.dw_abbrev.specs.EqualLaws.{shape_Decides}
use Rattle.dw_abbrev.specs.Codes.{code_in, with_shape, numbered, declarations, AllDiffer, KeepsCodes}

code_step : (b : Bool) (n m : ℕ) → n + 1 ≡ m → (if not b then 1 + n else 0) + 1 ≡ (if b then 1 else suc m)
code_step true n m e = refl
code_step false n m e = omega arith

-- the place in an ordered set is the code, less 1
pub position-code : (xs : List Shape) (s : Shape) → position_or_len (shape_eq s) xs + 1 ≡ code_in xs s
position-code [] s = refl
position-code (x ∷ xs) s = code_step (shape_eq s x) (position_or_len (shape_eq s) xs) (code_in xs s) (position-code xs s)

with_step : (b c : Bool) (x s : Shape) (xs ys : List Shape) → (if c then xs else xs ++ s ∷ []) ≡ ys → (if b || c then x ∷ xs else (x ∷ xs) ++ s ∷ []) ≡ (if b then x ∷ xs else x ∷ ys)
with_step true c x s xs ys e = refl
with_step false true x s xs ys e = ap (λ l. x ∷ l) e
with_step false false x s xs ys e = ap (λ l. x ∷ l) e

-- what an ordered set holds after it took a shape
pub insert_key-with : (xs : List Shape) (s : Shape) → insert_key shape_eq xs s ≡ with_shape xs s
insert_key-with [] s = refl
insert_key-with (x ∷ xs) s = with_step (shape_eq s x) (list_any (shape_eq s) xs) x s xs (with_shape xs s) (insert_key-with xs s)

-- a shape that is there is not added
present : (xs : List Shape) (s : Shape) → position_or_len (shape_eq s) xs < length xs → with_shape xs s ≡ xs
present [] s h = absurd (omega arith)
present (x ∷ xs) s h = step (shape_eq s x) h (present xs s)
  where
    step : (b : Bool) → cond (not b) (1 + position_or_len (shape_eq s) xs) 0 < suc (length xs) → (position_or_len (shape_eq s) xs < length xs → with_shape xs s ≡ xs) → (if b then x ∷ xs else x ∷ with_shape xs s) ≡ x ∷ xs
    step true h rest = refl
    step false h rest = ap (λ l. x ∷ l) (rest (omega arith))

-- a shape that was found has the code of its place, and is not added
pub found_code : (xs : List Shape) (s : Shape) (i : ℕ) → Some i ≡ position (shape_eq s) xs → (i + 1 ≡ code_in xs s) × (with_shape xs s ≡ xs)
found_code xs s i e =
    let at : i ≡ position_or_len (shape_eq s) xs = grind arith in
    let within : i < length xs = grind arith in
    (ap (λ k. k + 1) at ∙ position-code xs s, present xs s (omega arith))

at_step : (b : Bool) (i n : ℕ) (s x : Shape) (xs ys : List Shape) → (b ≡ true → s ≡ x) → x ≢ s → (i + 1 ≡ n) × (ys ≡ xs) → (suc i + 1 ≡ (if b then 1 else suc n)) × ((if b then x ∷ xs else x ∷ ys) ≡ x ∷ xs)
at_step true i n s x xs ys same apart rest = absurd (apart (sym (same refl)))
at_step false i n s x xs ys same apart rest = let k = rest.0 in (omega arith, ap (λ l. x ∷ l) rest.1)

-- a shape that stands at a place has the code of that place, and is not added
pub code_at_place : (xs : List Shape) (s : Shape) (i : ℕ) → AllDiffer xs → i < length xs → slice_index_or xs i s ≡ s → (i + 1 ≡ code_in xs s) × (with_shape xs s ≡ xs)
code_at_place [] s i differ within is = absurd (omega arith)
code_at_place (x ∷ xs) s zero differ within is =
    let same : shape_eq s x ≡ true = (shape_Decides s x).1 (sym is) in
    (sym (ap (λ b. if b then 1 else suc (code_in xs s)) same), ap (λ b. if b then x ∷ xs else x ∷ with_shape xs s) same)
code_at_place (x ∷ xs) s (suc i) differ within is =
    at_step (shape_eq s x) i (code_in xs s) s x xs (with_shape xs s) (shape_Decides s x).0
    (λ same. differ 0 (suc i) s (omega arith) within (same ∙ sym is))
    (code_at_place xs s i (λ j k d before inside. differ (suc j) (suc k) d (omega arith) (omega arith)) (omega arith) is)

-- keys of an ordered set differ
pub distinct_differ : (xs : List Shape) → IsDistinct shape_eq xs → AllDiffer xs
unfolding IsDistinct
distinct_differ [] h = λ i j d before within. absurd (omega arith)
distinct_differ (x ∷ xs) h =
    let apart = λ (y : Shape) (e : shape_eq x y ≡ false) (same : x ≡ y). true≢false (sym ((shape_Decides x y).1 same) ∙ e) in
    AllPairs-cons (λ a b. a ≢ b) x xs
    (All-weaker (λ y. shape_eq x y ≡ false) (λ y. x ≢ y) apart xs (All-from_recursion (λ y. shape_eq x y ≡ false) xs h.0))
    (distinct_differ xs h.1)

code_step-positive : (b : Bool) (n : ℕ) → 0 < (if b then 1 else suc n)
code_step-positive true n = omega arith
code_step-positive false n = omega arith

pub code_in-positive : (xs : List Shape) (s : Shape) → 0 < code_in xs s
code_in-positive [] s = omega arith
code_in-positive (x ∷ xs) s = code_step-positive (shape_eq s x) (code_in xs s)

same_step : (b c : Bool) (s t x : Shape) (m n : ℕ) → (b ≡ true → s ≡ x) → (c ≡ true → t ≡ x) → 0 < m → 0 < n → (b ≡ false → m ≡ n → s ≡ t) → (if b then 1 else suc m) ≡ (if c then 1 else suc n) → s ≡ t
same_step true true s t x m n p q i j r e = p refl ∙ sym (q refl)
same_step true false s t x m n p q i j r e = absurd (omega arith)
same_step false true s t x m n p q i j r e = absurd (omega arith)
same_step false false s t x m n p q i j r e = r refl (omega arith)

within_step : (b : Bool) (m n : ℕ) → (b ≡ false → m ≤ n) → (if b then 1 else suc m) ≤ suc n
within_step true m n h = omega arith
within_step false m n h = let k = h refl in omega arith

within_at : (xs : List Shape) (s : Shape) (k : ℕ) → k < length xs → slice_index_or xs k s ≡ s → code_in xs s ≤ length xs
within_at [] s k below e = absurd (omega arith)
within_at (x ∷ xs) s zero below e =
    let same : shape_eq s x ≡ true = (shape_Decides s x).1 (sym e) in
    within_step (shape_eq s x) (code_in xs s) (length xs) (λ differ. absurd (true≢false (sym same ∙ differ)))
within_at (x ∷ xs) s (suc k) below e = within_step (shape_eq s x) (code_in xs s) (length xs) (λ _. within_at xs s k (omega arith) e)

-- the code of a shape that is there is that of a place
pub code_in-within : (xs : List Shape) (s : Shape) → Contains xs s → code_in xs s ≤ length xs
code_in-within xs s h = within_at xs s h.0 h.1 h.2

below_step : (b : Bool) (m n : ℕ) → (if b then 1 else suc m) ≤ suc n → b ≡ false → m ≤ n
below_step true m n h e = absurd (true≢false e)
below_step false m n h e = omega arith

same_within : (xs : List Shape) (s t : Shape) → code_in xs s ≤ length xs → code_in xs s ≡ code_in xs t → s ≡ t
same_within [] s t h e = absurd (omega arith)
same_within (x ∷ xs) s t h e =
    same_step (shape_eq s x) (shape_eq t x) s t x (code_in xs s) (code_in xs t)
    (shape_Decides s x).0 (shape_Decides t x).0 (code_in-positive xs s) (code_in-positive xs t)
    (λ differ. same_within xs s t (below_step (shape_eq s x) (code_in xs s) (length xs) h differ)) e

-- Two shapes have the same code exactly where they are equal.
pub code_in-same : (xs : List Shape) (s t : Shape) → Contains xs s → (code_in xs s ≡ code_in xs t) ↔ (s ≡ t)
code_in-same xs s t h = (same_within xs s t (code_in-within xs s h), λ e. ap (code_in xs) e)

declared_step : (b : Bool) (n code : ℕ) (x s : Shape) (xs ys : List Shape) → (b ≡ true → s ≡ x) → 0 < code →
    shape_of_code (numbered (suc (suc n)) ys) (suc n + code) ≡ Some s →
    shape_of_code (numbered (suc n) (if b then x ∷ xs else x ∷ ys)) (n + (if b then 1 else suc code)) ≡ Some s
unfolding shape_of_code
declared_step true n code x s xs ys same positive h =
    ap (λ b. if b then Some x else shape_of_code (numbered (suc (suc n)) xs) (n + 1)) (eq-eqb (suc n) (n + 1) (omega arith)) ∙ ap Some (sym (same refl))
declared_step false n code x s xs ys same positive h =
    ap (λ b. if b then Some x else shape_of_code (numbered (suc (suc n)) ys) (n + suc code)) (ne_eqb (suc n) (n + suc code) (λ e. omega (arith, e)))
    ∙ ap (shape_of_code (numbered (suc (suc n)) ys)) (omega arith)
    ∙ h

declared_from : (n : ℕ) (xs : List Shape) (s : Shape) → shape_of_code (numbered (suc n) (with_shape xs s)) (n + code_in xs s) ≡ Some s
unfolding shape_of_code
declared_from n [] s = ap (λ b. if b then Some s else None) (eq-eqb (suc n) (n + 1) (omega arith))
declared_from n (x ∷ xs) s =
    declared_step (shape_eq s x) n (code_in xs s) x s xs (with_shape xs s) (shape_Decides s x).0 (code_in-positive xs s) (declared_from (suc n) xs s)

-- the code of a shape stands for it, once it is there
pub declared : (xs : List Shape) (s : Shape) → shape_of_code (declarations (with_shape xs s)) (code_in xs s) ≡ Some s
declared xs s = ap (shape_of_code (declarations (with_shape xs s))) (omega arith) ∙ declared_from 0 xs s

keep_step : (c : Bool) (x t : Shape) (p q : Option Shape) → (p ≡ Some t → q ≡ Some t) → (if c then Some x else p) ≡ Some t → (if c then Some x else q) ≡ Some t
keep_step true x t p q f h = h
keep_step false x t p q f h = f h

stays_step : (b : Bool) (n code : ℕ) (x t : Shape) (xs ys : List Shape) → (shape_of_code (numbered (suc n) xs) code ≡ Some t → shape_of_code (numbered (suc n) ys) code ≡ Some t) →
    shape_of_code (numbered n (x ∷ xs)) code ≡ Some t → shape_of_code (numbered n (if b then x ∷ xs else x ∷ ys)) code ≡ Some t
unfolding shape_of_code
stays_step true n code x t xs ys f h = h
stays_step false n code x t xs ys f h = keep_step (n == code) x t _ _ f h

stays_from : (n : ℕ) (xs : List Shape) (s : Shape) (code : ℕ) (t : Shape) → shape_of_code (numbered n xs) code ≡ Some t → shape_of_code (numbered n (with_shape xs s)) code ≡ Some t
unfolding shape_of_code
stays_from n [] s code t h = cc
stays_from n (x ∷ xs) s code t h = stays_step (shape_eq s x) n code x t xs (with_shape xs s) (stays_from (suc n) xs s code t) h

-- a shape that is added takes no other's code
pub with_shape-keeps : (xs : List Shape) (s : Shape) → KeepsCodes xs (with_shape xs s)
with_shape-keeps xs s code t h = stays_from 1 xs s code t h
