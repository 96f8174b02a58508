-- The words of the command line.
use Rattle.std.proofs.Common.{◌≡◌, sym, ap, refl, ℕ, ◌+◌, ◌<◌, ◌≤◌, Bool, true, false, List, [], ◌∷◌, length, map, get_or, String, arith}
use Rattle.std.specs.Prelude.{Option, Some, None, codes, nat_lt, string_bytes, bytes_eq, if◌then◌else◌}
use Rattle.std.specs.Option.{option_and_then}
use Rattle.std.proofs.lemmas.Bool.{ltb-true}
use Rattle.dw_ends.specs.Numbers.{below, number_of, number_below}
use Rattle.dw_build.specs.Generated.{most_variables}
use Rattle.dw_program.specs.Answers.{made_of}

-- words that are one
pub one_word : {Z : Type 0} (words : List (String Z)) (word : String Z) → 1 ≤ length words → length words < 2 → word ≡ get_or words 0 word → map string_bytes words ≡ string_bytes word ∷ []
one_word [] word some few at = absurd (omega arith)
one_word (w ∷ v ∷ ws) word some few at = absurd (omega arith)
one_word (w ∷ []) word some few at = ap (λ x. string_bytes x ∷ []) (sym at)

below_few : (n limit k : ℕ) → below (limit + 1) n ≡ Some k → k ≤ limit
below_few n limit k e = by_test (nat_lt n (limit + 1)) refl e
  where
    by_test : (b : Bool) → nat_lt n (limit + 1) ≡ b → (if b then Some n else None) ≡ Some k → k ≤ limit
    by_test true less h = let same : n ≡ k = cc in omega (arith, ltb-true n (limit + 1) less, same)
    by_test false less h = let clash : ◌≡◌ {A = Option ℕ} None (Some k) = h in cc

-- the words ask for no more than the most
pub asked_few : (words : List (List ℕ)) (n : ℕ) → made_of words ≡ Some n → n ≤ most_variables
asked_few [] n e = cc
asked_few (word ∷ []) n e = cc
asked_few (word ∷ field ∷ []) n e = by_word (bytes_eq word (codes "make")) e
  where
    by_number : (o : Option ℕ) → option_and_then (below (most_variables + 1)) o ≡ Some n → n ≤ most_variables
    by_number None h = cc
    by_number (Some k) h = below_few k most_variables n h

    by_word : (b : Bool) → (if b then number_below (most_variables + 1) field else None) ≡ Some n → n ≤ most_variables
    by_word true h = by_number (number_of field) h
    by_word false h = cc
asked_few (word ∷ field ∷ more ∷ words) n e = cc
