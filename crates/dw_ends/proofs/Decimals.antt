-- Numbers that are printed in decimal are read back.
use Rattle.std.proofs.Common.{◌≡◌, ℕ, ◌-◌, ◌^◌, ◌<◌, true, false, nat_le, nat_eq, List, [], ◌∷◌, length, map, Some, decimal, codes, refl, ap, arith}
use Rattle.std.specs.Int.{IsInRange}
use Rattle.std.specs.List.{All, starts_with}
use Rattle.std.specs.Str.Parse.{AllDigits}
use Rattle.std.proofs.lemmas.Bool.Decides.{nat_tests}
use Rattle.std.proofs.lemmas.Fmt.{decimal_is_IsNumeral, digits_value-decimal}
use Rattle.std.proofs.lemmas.Grind.{common_steps}
use Rattle.std.proofs.lemmas.List.{length-map}
use Rattle.std.proofs.lemmas.List.Elements.{All-cons, All-nil}
use Rattle.std.proofs.lemmas.Str.Parse.{WeighsDigits, digit_from_value, numerals_by_weight, tells_digits}
use Rattle.dw_ends.specs.Numbers.{digit_in, digits_in, number_below, number_in, value_in}
use Rattle.dw_ends.proofs.Limits.{below-within}
use Rattle.dw_ends.proofs.Visible.{IsVisible}

-- what each digit counts
abbrev counted : List ℕ → List ℕ
counted bs = map (λ b. b - 48) bs

digit_read : (b : ℕ) → IsInRange 48 57 b → digit_in 10 b ≡ Some (b - 48)
digit_read b within =
    let first : nat_le 48 b ≡ true = grind (arith, nat_tests, within.0) in
    let last : nat_le b 57 ≡ true = grind (arith, nat_tests, within.1) in
    rw (first, last) (below-within 10 (b - 48) (omega (arith, within.0, within.1)))

digits_read : (bs : List ℕ) → AllDigits 10 bs → digits_in 10 bs ≡ Some (counted bs)
digits_read [] all = refl
digits_read (b ∷ bs) all = rw (digit_read b (digit_from_value b all.0), digits_read bs all.1) refl

weighs : WeighsDigits (λ bs. value_in 10 (counted bs))
weighs = record {
  empty = refl;
  more = λ b bs within. rw (length-map bs (λ c. c - 48)) refl;
}

number_read : (bs : List ℕ) (n : ℕ) → 0 < length bs → AllDigits 10 bs → value_in 10 (counted bs) ≡ n → number_in 10 bs ≡ Some n
number_read [] n some all value = absurd (omega arith)
number_read (b ∷ bs) n some all value = rw (digits_read (b ∷ bs) all) (ap Some value)

-- digits of base 10 don't begin with `0x`
no_prefix : (bs : List ℕ) → AllDigits 10 bs → starts_with nat_eq bs (codes "0x") ≡ false
no_prefix [] all = refl
no_prefix (a ∷ []) all = grind (arith, nat_tests, common_steps)
no_prefix (a ∷ b ∷ bs) all =
    let within = digit_from_value b all.1.0 in
    let unlike : nat_eq 120 b ≡ false = grind (arith, nat_tests, within.1) in
    rw unlike (grind (arith, nat_tests, common_steps))

-- a number below 2^64 in decimal is read as the number
pub decimal_read : (n : ℕ) → n < 2 ^ 64 → number_below (2 ^ 64) (decimal n) ≡ Some n
decimal_read n small =
    let is = decimal_is_IsNumeral n small in
    let value = digits_value-decimal (numerals_by_weight (AllDigits 10) tells_digits (λ bs. value_in 10 (counted bs)) weighs) n small in
    let number = number_read (decimal n) n is.0.0 is.0.1 value in
    rw (no_prefix (decimal n) is.0.1, number) (below-within (2 ^ 64) n small)

digits_visible : (bs : List ℕ) → AllDigits 10 bs → All IsVisible bs
digits_visible [] all = All-nil IsVisible
digits_visible (b ∷ bs) all =
    let within = digit_from_value b all.0 in
    All-cons IsVisible b bs (omega (arith, within.0), omega (arith, within.1)) (digits_visible bs all.1)

-- its digits are visible
pub decimal_visible : (n : ℕ) → n < 2 ^ 64 → All IsVisible (decimal n)
decimal_visible n small = digits_visible (decimal n) (decimal_is_IsNumeral n small).0.1
