-- The first byte that passes a test.
use Rattle.std.proofs.Common.{◌≡◌, ℕ, Bool, List, length, Option, Some, None, refl, arith, subst}
use Rattle.std.specs.Prelude.{position}
use Rattle.std.specs.List.{position_or_len}
use Rattle.std.proofs.lemmas.List.Sums.{position_or_len_is}
use Rattle.std.proofs.lemmas.Bool.{cond_above, cond_below, false_from_ne_true}
use Rattle.memchr.specs.Find.{IsFirstByte}

-- it stands at the place of the first
pub first_byte : (p : ℕ → Bool) (bytes : List ℕ) (found : Option ℕ) → IsFirstByte p bytes found → found ≡ position p bytes
first_byte p bytes None none =
    let len = length bytes in
    let e = position_or_len_is p bytes len 0 (omega arith) (λ k lt. false_from_ne_true _ (none k (omega arith) lt)) (λ lt. absurd (omega (arith, lt))) in
    cond_above (position_or_len p bytes) len (Some (position_or_len p bytes)) None None (omega (arith, e)) refl
first_byte p bytes (Some at) (low, passes) =
    let e = position_or_len_is p bytes at 0 (omega (arith, low.high)) (λ k lt. false_from_ne_true _ (low.before k (omega arith) lt)) (λ _. passes) in
    let inside = cond_below (position_or_len p bytes) (length bytes) (Some (position_or_len p bytes)) None (omega (arith, e, low.high)) in
    subst (λ (n : ℕ). Some n ≡ position p bytes) e inside
