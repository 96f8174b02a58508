-- Numbers of several bytes, one byte after the other from either end.
use Rattle.std.proofs.Common.{◌≡◌, ◌∙◌, ap, ℕ, ◌+◌, ◌-◌, ◌*◌, ◌^◌, ◌<◌, ◌≤◌, List, length, drop, get_or, refl, arith, add-one, subst}
use Rattle.std.proofs.Math.Nat.{pow-suc, pow-le-pow_right}
use Rattle.std.proofs.Math.Seq.{drop-cons}
use Rattle.dw_base.specs.Numbers.{high_first, low_first}

pub step_fits : (v b i : ℕ) → v < 256 ^ i → b < 256 → v * 256 + b < 256 ^ (i + 1)
step_fits v b i h l = let e : 256 ^ (i + 1) ≡ 256 ^ i * 256 = rw add-one (pow-suc 256 i) in omega arith

pub word_fits : (n i : ℕ) → i ≤ n → 256 ^ i ≤ 256 ^ n
word_fits n i h = let p : 0 < 256 = omega arith in pow-le-pow_right p h

pub high_step : (v i : ℕ) (xs : List ℕ) → i < length xs → high_first v (drop i xs) ≡ high_first (v * 256 + get_or xs i 0) (drop (i + 1) xs)
high_step v i xs h = rw (add-one, drop-cons xs i 0) refl

low_step : (i : ℕ) (xs : List ℕ) → i < length xs → low_first (drop i xs) ≡ low_first (drop (i + 1) xs) * 256 + get_or xs i 0
low_step i xs h = rw (add-one, drop-cons xs i 0) (omega arith)

-- a number of at most n bytes with one byte more
pub high_fits : (n v b i : ℕ) → v < 256 ^ i → b < 256 → i < n → v * 256 + b < 256 ^ n
high_fits n v b i h l k = let s : v * 256 + b < 256 ^ (i + 1) = step_fits v b i h l in let w : 256 ^ (i + 1) ≤ 256 ^ n = word_fits n (i + 1) (omega arith) in omega (arith, s, w)

-- one more byte before those that are read from the end
pub low_more : (xs : List ℕ) (n v j : ℕ) → n ≡ j + 1 → j < length xs → low_first (drop n xs) ≡ v → low_first (drop j xs) ≡ v * 256 + get_or xs j 0
low_more xs n v j e h l = low_step j xs h ∙ ap (λ x. x * 256 + get_or xs j 0) (subst (λ m. low_first (drop m xs) ≡ v) e l)

pub low_fits : (len n v j b : ℕ) → n ≡ j + 1 → j < len → v < 256 ^ (len - n) → b < 256 → v * 256 + b < 256 ^ (len - j)
low_fits len n v j b e h l k = let m : len - j ≡ len - n + 1 = omega arith in rw m (step_fits v b (len - n) l k)
