-- A number that is spelled in so many bytes, and an initial length, are read again, whatever follows them.
use Rattle.std.proofs.Common.{◌≡◌, ◌∙◌, sym, ap, ap₂, subst, ℕ, zero, suc, ◌+◌, ◌*◌, ◌/◌, ◌%◌, ◌^◌, ◌<◌, Bool, true, false, List, ◌++◌, length, take, drop, Option, Some, None, refl, arith, IsTrue, nat_eq, nat_le, if◌then◌else◌, length-append, pow-suc, add-zero, div-one}
use Rattle.std.specs.Int.{byte_at, bytes_low_first, bytes_high_first}
use Rattle.std.proofs.Math.Nat.{div-div-eq-div-mul, div-eq_of_lt}
use Rattle.std.proofs.Math.Pow.{pow-add}
use Rattle.std.proofs.lemmas.Bool.{le-leb, ltb-true}
use Rattle.std.proofs.lemmas.List.{take_at, drop_at}
use Rattle.std.proofs.lemmas.Option.{none-some}
use Rattle.dw_base.specs.Numbers.{◌>>=◌, when, bytes_at, low_first, high_first, value_of, number_at, num, fits, word_of, escape_of, length_fits, length_after, initial_length_at}
use Rattle.dw_base.specs.declared.common.Format.{Format}
use Rattle.dw_base.specs.declared.common.Format.TheVariants.{Dwarf32, Dwarf64}

-- the next step after a value
pub bind_is : {A B : Type 0} (x : Option A) (v : A) (f : A → Option B) → x ≡ Some v → (x >>= f) ≡ f v
bind_is x v f e = ap (λ y. y >>= f) e

-- the value before a step that gave a value
pub bind_parts : {A B : Type 0} (x : Option A) (f : A → Option B) (v : B) → (x >>= f) ≡ Some v → (a : A) × (x ≡ Some a) × (f a ≡ Some v)
bind_parts None f v e = absurd (none-some v e)
bind_parts (Some a) f v e = (a, refl, e)

-- a value that passed a test is the one that was tested
pub when_same : {A : Type 0} (b : Bool) (x : Option A) (v : A) → when b x ≡ Some v → x ≡ Some v
when_same true x v e = e
when_same false x v e = absurd (none-some v e)

length-low_first : (i w n : ℕ) → length (bytes_low_first i w n) ≡ w
length-low_first i zero n = refl
length-low_first i (suc w) n = ap suc (length-low_first (suc i) w n)

length-high_first : (w n : ℕ) → length (bytes_high_first w n) ≡ w
length-high_first zero n = refl
length-high_first (suc w) n = ap suc (length-high_first w n)

pub length-num : (big : Bool) (w n : ℕ) → length (num big w n) ≡ w
unfolding num
length-num true w n = length-high_first w n
length-num false w n = length-low_first 0 w n

byte_at-is : (i n : ℕ) → byte_at i n ≡ n / 256 ^ i % 256
byte_at-is zero n = ap (λ x. x % 256) (sym (div-one n))
byte_at-is (suc i) n = refl

-- the digits above the next one
div-pow_suc : (i n : ℕ) → n / 256 ^ suc i ≡ n / 256 ^ i / 256
div-pow_suc i n = ap (λ p. n / p) (pow-suc 256 i) ∙ sym (div-div-eq-div-mul n (256 ^ i) 256)

low_first-again : (w i n : ℕ) → n < 256 ^ (i + w) → low_first (bytes_low_first i w n) ≡ n / 256 ^ i
low_first-again zero i n h = sym (div-eq_of_lt (subst (λ k. n < 256 ^ k) (add-zero i) h))
low_first-again (suc w) i n h =
    let more : low_first (bytes_low_first (suc i) w n) ≡ n / 256 ^ suc i = low_first-again w (suc i) n (subst (λ k. n < 256 ^ k) (omega arith) h) in
    omega (arith, more, byte_at-is i n, div-pow_suc i n)

high_first-again : (w n : ℕ) → high_first (n / 256 ^ w) (bytes_high_first w n) ≡ n
high_first-again zero n = div-one n
high_first-again (suc w) n =
    let step : n / 256 ^ suc w * 256 + byte_at w n ≡ n / 256 ^ w = omega (arith, byte_at-is w n, div-pow_suc w n) in
    ap (λ x. high_first x (bytes_high_first w n)) step ∙ high_first-again w n

pub value_of-num : (big : Bool) (w n : ℕ) → n < 256 ^ w → value_of big (num big w n) ≡ n
unfolding num
value_of-num true w n h =
    ap (λ x. high_first x (bytes_high_first w n)) (sym (div-eq_of_lt h)) ∙ high_first-again w n
value_of-num false w n h = low_first-again w 0 n (subst (λ k. n < 256 ^ k) (omega arith) h) ∙ div-one n

-- so many bytes in front
pub bytes_at_is : (n : ℕ) (xs rest : List ℕ) → length xs ≡ n → bytes_at n (xs ++ rest) ≡ Some (xs, rest)
unfolding bytes_at
bytes_at_is n xs rest e =
    let long : nat_le n (length (xs ++ rest)) ≡ true = le-leb _ _ (omega (arith, length-append xs rest)) in
    ap (λ b. when b (Some (take n (xs ++ rest), drop n (xs ++ rest)))) long
    ∙ ap₂ (λ a b. Some (a, b)) (take_at xs rest n e) (drop_at xs rest n e)

pub bytes_at-again : (xs rest : List ℕ) → bytes_at (length xs) (xs ++ rest) ≡ Some (xs, rest)
bytes_at-again xs rest = bytes_at_is (length xs) xs rest refl

pub number_at_is : (big : Bool) (w : ℕ) (xs rest : List ℕ) → length xs ≡ w → number_at big w (xs ++ rest) ≡ Some (value_of big xs, rest)
unfolding number_at
number_at_is big w xs rest e = bind_is _ (xs, rest) (λ x. Some (value_of big x.0, x.1)) (bytes_at_is w xs rest e)

pub number-again : (big : Bool) (w n : ℕ) (rest : List ℕ) → n < 256 ^ w → number_at big w (num big w n ++ rest) ≡ Some (n, rest)
number-again big w n rest h =
    number_at_is big w (num big w n) rest (length-num big w n) ∙ ap (λ v. Some (v, rest)) (value_of-num big w n h)

-- so many bytes hold so many numbers
pub pow_of_bytes : (w : ℕ) → 2 ^ (8 * w) ≡ 256 ^ w
pow_of_bytes zero = refl
pow_of_bytes (suc w) =
    ap (λ k. 2 ^ k) (omega arith) ∙ pow-add 2 (8 * w) 8 ∙ ap (λ x. x * 256) (pow_of_bytes w) ∙ sym (pow-suc 256 w)

pub lt_from_fits : (w n : ℕ) → IsTrue (fits w n) → n < 256 ^ w
lt_from_fits w n h = subst (λ x. n < x) (pow_of_bytes w) (ltb-true _ _ h)

pub number-fits-again : (big : Bool) (w n : ℕ) (rest : List ℕ) → IsTrue (fits w n) → number_at big w (num big w n ++ rest) ≡ Some (n, rest)
number-fits-again big w n rest h = number-again big w n rest (lt_from_fits w n h)

value_of-escape_of : (big : Bool) → value_of big (escape_of Dwarf64) ≡ 0xffff_ffff
value_of-escape_of true = refl
value_of-escape_of false = refl

pub initial_length-again : (big : Bool) (format : Format) (n : ℕ) (rest : List ℕ) → IsTrue (length_fits format n) → initial_length_at big (escape_of format ++ (num big (word_of format) n ++ rest)) ≡ Some ((format, n), rest)
unfolding initial_length_at
initial_length-again big Dwarf32 n rest h =
    let small : n < 0xffff_fff0 = ltb-true _ _ h in
    bind_is _ (n, rest) (length_after big) (number-again big 4 n rest (omega arith))
    ∙ ap (λ (b : Bool). if b then Some ((Dwarf32, n), rest) else when (nat_eq n 0xffff_ffff) (number_at big 8 rest >>= λ y. Some ((Dwarf64, y.0), y.1))) h
initial_length-again big Dwarf64 n rest h =
    let tail = num big 8 n ++ rest in
    let small : n < 2 ^ 64 = ltb-true _ _ h in
    bind_is _ (value_of big (escape_of Dwarf64), tail) (length_after big) (number_at_is big 4 (escape_of Dwarf64) tail refl)
    ∙ ap (λ v. length_after big (v, tail)) (value_of-escape_of big)
    ∙ bind_is _ (n, rest) (λ y. Some ((Dwarf64, y.0), y.1)) (number-again big 8 n rest (omega arith))
