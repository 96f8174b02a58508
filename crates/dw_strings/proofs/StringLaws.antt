-- Strings of a section are read again, and those of a table differ.
use Rattle.std.specs.Prelude.{◌≡◌, ◌≢◌, ℕ, zero, suc, ◌==◌, ◌<◌, Bool, true, false, ◌||◌, List, [], ◌∷◌, ◌++◌, length, take, Option, Some, None, slice_get, refl, if◌then◌else◌}
use Rattle.std.specs.List.{All, IsDistinct, list_any}
use Rattle.std.specs.Cmp.{unsigned_Decides}
use Rattle.std.specs.Cmp.Lexicographic.{pointwise_decides}
use Rattle.std.proofs.Common.{sym, ◌∙◌, ap, arith, true≢false, append_assoc, length-append}
use Rattle.std.proofs.Math.Seq.{drop-append-add}
use Rattle.std.proofs.lemmas.List.Elements.{All-nil, All-cons, All-head, All-tail, All-from_recursion, All-weaker}
use Rattle.std.proofs.lemmas.List.Kept.{AllPairs-cons}
use Rattle.dw_base.specs.Numbers.{◌>>=◌}
use Rattle.dw_base.specs.Forms.{text_at}
use Rattle.dw_base.specs.Spellable.{IsText}
use Rattle.dw_base.proofs.NumberLaws.{bind_is}
use Rattle.dw_strings.specs.Strings.{KeepStrings, is_same_string, closed, string_bytes, string_place, string_at, with_string, AllDiffer}

pub text-again : (t rest : List ℕ) → IsText t → text_at (t ++ 0 ∷ rest) ≡ Some (t, rest)
unfolding text_at
text-again [] rest h = refl
text-again (zero ∷ t) rest h = absurd (omega (arith, All-head (λ b. 0 < b) zero t h))
text-again (suc b ∷ t) rest h =
    bind_is _ (t, rest) (λ x. Some (suc b ∷ x.0, x.1)) (text-again t rest (All-tail (λ b. 0 < b) (suc b) t h))

-- at the place of a string stands this string
pub string_at-place : (strings : List (List ℕ)) (i : ℕ) → All IsText strings → i < length strings → string_at (string_place strings i) (string_bytes strings) ≡ slice_get strings i
string_at-place [] i texts below = absurd (omega arith)
string_at-place (s ∷ ss) zero texts below =
    ap (λ bs. text_at bs >>= λ x. Some x.0) (append_assoc s (0 ∷ []) (string_bytes ss))
    ∙ bind_is _ (s, string_bytes ss) (λ x. Some x.0) (text-again s (string_bytes ss) (All-head IsText s ss texts))
string_at-place (s ∷ ss) (suc i) texts below =
    ap (λ p. string_at p (string_bytes (s ∷ ss))) (length-append (closed s) (string_bytes (take i ss)))
    ∙ ap (λ bs. text_at bs >>= λ x. Some x.0) (drop-append-add (closed s) (string_bytes ss) (string_place ss i))
    ∙ string_at-place ss i (All-tail IsText s ss texts) (omega arith)

-- strings stay where others are added behind them
string_behind : (xs ys : List (List ℕ)) (i : ℕ) (s : List ℕ) → slice_get xs i ≡ Some s → (slice_get (xs ++ ys) i ≡ Some s) × (string_place (xs ++ ys) i ≡ string_place xs i)
string_behind [] ys i s h = absurd (let k : ◌≡◌ {A = Option (List ℕ)} None (Some s) = h in cc)
string_behind (x ∷ xs) ys zero s h = (h, refl)
string_behind (x ∷ xs) ys (suc i) s h =
    let rest = string_behind xs ys i s h in
    (rest.0, omega (arith, rest.1, length-append (closed x) (string_bytes (take i (xs ++ ys))), length-append (closed x) (string_bytes (take i xs))))

pub KeepStrings-same : (xs : List (List ℕ)) → KeepStrings xs xs
KeepStrings-same xs i s h = (h, refl)

pub KeepStrings-with : (xs : List (List ℕ)) (s : List ℕ) → KeepStrings xs (with_string xs s)
KeepStrings-with xs s = by_test (list_any (is_same_string s) xs)
  where
    by_test : (b : Bool) → KeepStrings xs (if b then xs else xs ++ s ∷ [])
    by_test true = KeepStrings-same xs
    by_test false = string_behind xs (s ∷ [])

-- the keys of an ordered set differ
pub distinct_differ : (strings : List (List ℕ)) → IsDistinct is_same_string strings → AllDiffer strings
unfolding IsDistinct
distinct_differ [] h = λ i j d before within. absurd (omega arith)
distinct_differ (s ∷ ss) h =
    let apart = λ (t : List ℕ) (e : is_same_string s t ≡ false) (same : s ≡ t). true≢false (sym ((pointwise_decides unsigned_Decides s t).1 same) ∙ e) in
    AllPairs-cons (λ a b. a ≢ b) s ss
    (All-weaker (λ t. is_same_string s t ≡ false) (λ t. s ≢ t) apart ss (All-from_recursion (λ t. is_same_string s t ≡ false) ss h.0))
    (distinct_differ ss h.1)

or_rest : (a b : Bool) → (a || b) ≡ false → b ≡ false
or_rest true b h = absurd (true≢false h)
or_rest false b h = h

-- a string in which no zero was found
pub text_of : (s : List ℕ) → list_any (λ b. b == 0) s ≡ false → IsText s
text_of [] e = All-nil (λ b. 0 < b)
text_of (zero ∷ bs) e = absurd (true≢false e)
text_of (suc b ∷ bs) e = All-cons (λ b. 0 < b) (suc b) bs (omega arith) (text_of bs (or_rest (suc b == 0) (list_any (λ c. c == 0) bs) e))
