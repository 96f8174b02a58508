-- Numbers of 64 bits with a sign.
use Rattle.std.proofs.Common.{◌≡◌, ◌∙◌, ℕ, zero, suc, ◌^◌, ◌<◌, ◌≤◌, ℤ, pos, neg_ℤ, ◌-ℤ◌, FitsSigned, w64, Option, Some, None, Result, Ok, Err, option_map, option_and_then, ap, sym, refl, arith, subst, inl, inr}
use Rattle.std.specs.Result.{OkIff, result_ok}
use Rattle.std.specs.Prelude.{SomeIff}
use Rattle.std.proofs.lemmas.Bool.{cases_lt}
use Rattle.std.proofs.lemmas.Grind.{common_steps}
use Rattle.std.proofs.lemmas.Int.{ints, fits_signed_from_abs}
use Rattle.dw_ends.proofs.Limits.{below_some, past-below}
use Rattle.dw_ends.specs.Numbers.{below}
use Rattle.dw_script_fields.specs.Numbers.{within_i64}

-- numbers from 0 on
within-small : (n : ℕ) → n < 2 ^ 63 → within_i64 (pos n) ≡ Some (pos n)
within-small n h = grind (arith, common_steps)

within-large : (n : ℕ) → 2 ^ 63 ≤ n → within_i64 (pos n) ≡ None
within-large n h = grind (arith, common_steps)

-- and numbers below
within-neg-small : (n : ℕ) → n ≤ 2 ^ 63 → within_i64 (neg_ℤ (pos n)) ≡ Some (neg_ℤ (pos n))
within-neg-small zero h = refl
within-neg-small (suc n) h = grind (arith, common_steps)

within-neg-large : (n : ℕ) → 2 ^ 63 < n → within_i64 (neg_ℤ (pos n)) ≡ None
within-neg-large zero h = absurd (omega arith)
within-neg-large (suc n) h = grind (arith, common_steps)

-- a number from 0 on, converted
result_ok-within : {E : Type 0} (r : Result ℤ E) (n : ℕ) → OkIff r (FitsSigned w64 (pos n)) (pos n) → result_ok r ≡ within_i64 (pos n)
result_ok-within (Ok z) n h = ap Some h.1 ∙ sym (within-small n (omega (arith, ints, h.0)))
result_ok-within (Err e) n h =
    elim (cases_lt n (2 ^ 63)) [ inl small ↦ absurd (h (fits_signed_from_abs w64 (pos n) small)) | inr large ↦ sym (within-large n large) ]

-- the number that lies n below 0
zero-minus : (n : ℕ) → pos 0 -ℤ pos n ≡ neg_ℤ (pos n)
zero-minus n = omega (arith, ints)

-- has a spelling up to 2^63
fits-neg : (n : ℕ) → n ≤ 2 ^ 63 → FitsSigned w64 (neg_ℤ (pos n))
fits-neg zero h = record { sfits = omega arith }
fits-neg (suc n) h = record { sfits = omega arith }

below-neg : (n : ℕ) → FitsSigned w64 (neg_ℤ (pos n)) → n ≤ 2 ^ 63
below-neg zero h = omega arith
below-neg (suc n) h = omega (arith, h.sfits)

-- and is what the subtraction gives
some-neg : (r : Option ℤ) (n : ℕ) → SomeIff r (FitsSigned w64 (neg_ℤ (pos n))) (neg_ℤ (pos n)) → r ≡ within_i64 (neg_ℤ (pos n))
some-neg (Some z) n h = ap Some h.1 ∙ sym (within-neg-small n (below-neg n h.0))
some-neg None n h =
    elim (cases_lt (2 ^ 63) n) [ inl large ↦ sym (within-neg-large n large) | inr small ↦ absurd (h (fits-neg n small)) ]

some-within : (r : Option ℤ) (n : ℕ) → SomeIff r (FitsSigned w64 (pos 0 -ℤ pos n)) (pos 0 -ℤ pos n) → r ≡ within_i64 (neg_ℤ (pos n))
some-within r n h = some-neg r n (subst (λ z. SomeIff r (FitsSigned w64 z) z) (zero-minus n) h)

-- a number below 2^64, converted
pub positive_narrowed : {E : Type 0} (r : Result ℤ E) (n : ℕ) (number : Option ℕ) → option_and_then (below (2 ^ 64)) number ≡ Some n → OkIff r (FitsSigned w64 (pos n)) (pos n) → result_ok r ≡ option_and_then within_i64 (option_map pos number)
positive_narrowed r n number e h = rw (below_some (2 ^ 64) n number e) (result_ok-within r n h)

pub negative_narrowed : (r : Option ℤ) (n : ℕ) (number : Option ℕ) → option_and_then (below (2 ^ 64)) number ≡ Some n → SomeIff r (FitsSigned w64 (pos 0 -ℤ pos n)) (pos 0 -ℤ pos n) → r ≡ option_and_then within_i64 (option_map (λ m. neg_ℤ (pos m)) number)
negative_narrowed r n number e h = rw (below_some (2 ^ 64) n number e) (some-within r n h)

-- one that is not below it
pub positive_wide : (number : Option ℕ) → option_and_then (below (2 ^ 64)) number ≡ None → option_and_then within_i64 (option_map pos number) ≡ None
positive_wide None e = refl
positive_wide (Some n) e =
    let wide : 2 ^ 64 ≤ n = past-below (2 ^ 64) n e in within-large n (omega arith)

pub negative_wide : (number : Option ℕ) → option_and_then (below (2 ^ 64)) number ≡ None → option_and_then within_i64 (option_map (λ m. neg_ℤ (pos m)) number) ≡ None
negative_wide None e = refl
negative_wide (Some n) e =
    let wide : 2 ^ 64 ≤ n = past-below (2 ^ 64) n e in within-neg-large n (omega arith)
