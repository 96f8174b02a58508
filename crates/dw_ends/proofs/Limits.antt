-- Numbers below a limit, and below a smaller one.
use Rattle.std.proofs.Common.{◌≡◌, ◌∙◌, ℕ, ◌<◌, ◌≤◌, true, Option, Some, None, Result, Ok, Err, option_and_then, nat_lt, ap, sym, arith, inl, inr}
use Rattle.std.specs.Result.{OkIff, result_ok}
use Rattle.std.proofs.lemmas.Option.{cond_some}
use Rattle.std.proofs.lemmas.Bool.{cases_lt}
use Rattle.std.proofs.lemmas.Bool.Decides.{nat_tests}
use Rattle.std.proofs.lemmas.Grind.{common_steps}
use Rattle.dw_ends.specs.Numbers.{below}

-- a number that is not below the limit
pub below-past : (limit n : ℕ) → limit ≤ n → below limit n ≡ None
below-past limit n h = grind (arith, common_steps)

-- a number that is
pub below-within : (limit n : ℕ) → n < limit → below limit n ≡ Some n
below-within limit n h = grind (arith, common_steps)

-- and the other way round
pub past-below : (limit n : ℕ) → below limit n ≡ None → limit ≤ n
past-below limit n e =
    elim (cases_lt n limit) [ inl h ↦ absurd (grind (arith, nat_tests, e, h)) | inr h ↦ h ]

-- what was below a limit was the number itself
pub below_some : (limit n : ℕ) (number : Option ℕ) → option_and_then (below limit) number ≡ Some n → number ≡ Some n
below_some limit n None e = cc
below_some limit n (Some m) e = let p : (nat_lt m limit ≡ true) × (m ≡ n) = cond_some _ _ _ e in ap Some p.1

-- a conversion to a type with fewer numbers
result_ok-below : {E : Type 0} (r : Result ℕ E) (limit n : ℕ) → OkIff r (n < limit) n → result_ok r ≡ below limit n
result_ok-below (Ok x) limit n h = ap Some h.1 ∙ sym (below-within limit n h.0)
result_ok-below (Err reason) limit n h = sym (below-past limit n (omega arith))

-- a number below a limit, converted to a type with fewer numbers
pub result_ok_narrowed : {E : Type 0} (r : Result ℕ E) (large small n : ℕ) (number : Option ℕ) → option_and_then (below large) number ≡ Some n → OkIff r (n < small) n → result_ok r ≡ option_and_then (below small) number
result_ok_narrowed r large small n number e h = rw (below_some large n number e) (result_ok-below r small n h)
