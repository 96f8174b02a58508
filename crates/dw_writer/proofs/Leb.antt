-- LEB128 numbers, group by group.
use Rattle.std.specs.Prelude.{◌≡◌, ℕ, suc, zero, ◌+◌, ◌*◌, ◌^◌, ◌/◌, ◌%◌, ◌<◌, ◌≤◌, Bool, true, false, List, [], ◌∷◌, ◌++◌, length, take, nat_lt, ℤ, pos, negsuc, if◌then◌else◌, refl}
use Rattle.std.proofs.Common.{sym, ◌∙◌, ap, arith, append_assoc, set, length-set}
use Rattle.std.proofs.lemmas.Bool.Decides.{nat_tests}
use Rattle.std.proofs.lemmas.List.{take_more_set}
use Rattle.std.proofs.Math.Nat.{pow-suc}
use Rattle.dw_base.specs.Leb128.{uleb, uleb_groups, sleb, sleb_groups, low_seven, without_seven, fits_seven}

if_true : (b : Bool) (xs ys : List ℕ) → b ≡ true → (if b then xs else ys) ≡ xs
if_true true xs ys e = refl
if_true false xs ys e = cc

if_false : (b : Bool) (xs ys : List ℕ) → b ≡ false → (if b then xs else ys) ≡ ys
if_false true xs ys e = cc
if_false false xs ys e = refl

lt-true : (n k : ℕ) → n < k → nat_lt n k ≡ true
lt-true n k h = grind (arith, nat_tests)

lt-false : (n k : ℕ) → k ≤ n → nat_lt n k ≡ false
lt-false n k h = grind (arith, nat_tests)

-- one more byte in a buffer
more : (buffer tail : List ℕ) (len b : ℕ) → len < length buffer → take (len + 1) (set buffer len b) ++ tail ≡ take len buffer ++ b ∷ tail
more buffer tail len b h = ap (λ xs. xs ++ tail) (take_more_set buffer len b h) ∙ append_assoc (take len buffer) (b ∷ []) tail

last : (buffer : List ℕ) (len b : ℕ) → len < length buffer → take (len + 1) (set buffer len b) ≡ take len buffer ++ b ∷ []
last buffer len b h = take_more_set buffer len b h

-- the first groups of an unsigned number stand in a buffer, and so many more may follow
pub record UlebPart (buffer : List ℕ) (len n rest : ℕ) : Type 0 where
  pub sized : length buffer ≡ 10
  pub room : ℕ
  pub places : len + room ≡ 9
  pub spelled : take len buffer ++ uleb_groups room rest ≡ uleb n
  pub small : rest < 128 ^ suc room

pub UlebPart-none : (buffer : List ℕ) (n : ℕ) → length buffer ≡ 10 → n < 2 ^ 64 → UlebPart buffer 0 n n
unfolding uleb
UlebPart-none buffer n sized h = record { sized = sized; room = 9; places = refl; spelled = refl; small = omega arith }

pub UlebPart-room : (buffer : List ℕ) (len n rest : ℕ) → UlebPart buffer len n rest → 128 ≤ rest → len < 9
UlebPart-room buffer len n rest p h = elim (p.room) as (λ k. len + k ≡ 9 → rest < 128 ^ suc k → len < 9) [
  | zero ↦ λ places small. absurd (omega (arith, pow-suc 128 0))
  | suc k ↦ λ places small. omega arith
] p.places p.small

pub UlebPart-more : (buffer : List ℕ) (len n rest : ℕ) → UlebPart buffer len n rest → 128 ≤ rest →
    UlebPart (set buffer len (128 + rest % 128)) (len + 1) n (rest / 128)
unfolding uleb_groups
UlebPart-more buffer len n rest p h = elim (p.room) as (λ k. len + k ≡ 9 → take len buffer ++ uleb_groups k rest ≡ uleb n → rest < 128 ^ suc k → UlebPart (set buffer len (128 + rest % 128)) (len + 1) n (rest / 128)) [
  | zero ↦ λ places spelled small. absurd (omega (arith, pow-suc 128 0))
  | suc k ↦ λ places spelled small. record {
    sized = length-set buffer len _ ∙ p.sized;
    room = k;
    places = omega arith;
    spelled = more buffer (uleb_groups k (rest / 128)) len (128 + rest % 128) (omega (arith, p.sized))
        ∙ sym (ap (λ xs. take len buffer ++ xs) (if_false (nat_lt rest 128) (rest ∷ []) ((128 + rest % 128) ∷ uleb_groups k (rest / 128)) (lt-false rest 128 h))) ∙ spelled;
    small = omega (arith, pow-suc 128 (suc k));
  }
] p.places p.spelled p.small

uleb_groups-small : (k n : ℕ) → n < 128 → uleb_groups k n ≡ n ∷ []
unfolding uleb_groups
uleb_groups-small zero n h = refl
uleb_groups-small (suc k) n h = if_true (nat_lt n 128) (n ∷ []) ((128 + n % 128) ∷ uleb_groups k (n / 128)) (lt-true n 128 h)

pub UlebPart-last : (buffer : List ℕ) (len n rest : ℕ) → UlebPart buffer len n rest → rest < 128 →
    take (len + 1) (set buffer len rest) ≡ uleb n
UlebPart-last buffer len n rest p h =
    let within : len < length buffer = omega (arith, p.places, p.sized) in
    last buffer len rest within ∙ ap (λ xs. take len buffer ++ xs) (sym (uleb_groups-small p.room rest h)) ∙ p.spelled

-- a number below 128 is its only byte
pub uleb-small : (n : ℕ) → n < 128 → uleb n ≡ n ∷ []
unfolding uleb
uleb-small n h = uleb_groups-small 9 n h

-- n, or -1 less n
abbrev pub signed_of : Bool → ℕ → ℤ
signed_of negative n = if negative then negsuc n else pos n

-- the same of a signed number, where rest stands for the groups that may follow
pub record SlebPart (buffer : List ℕ) (len : ℕ) (z : ℤ) (negative : Bool) (rest : ℕ) : Type 0 where
  pub sized : length buffer ≡ 10
  pub room : ℕ
  pub places : len + room ≡ 9
  pub spelled : take len buffer ++ sleb_groups room (signed_of negative rest) ≡ sleb z
  pub small : rest < 64 * 128 ^ room

pub SlebPart-none : (buffer : List ℕ) (z : ℤ) (negative : Bool) (n : ℕ) → length buffer ≡ 10 → n < 2 ^ 63 → z ≡ signed_of negative n → SlebPart buffer 0 z negative n
unfolding sleb
SlebPart-none buffer z negative n sized h e = record { sized = sized; room = 9; places = refl; spelled = ap (sleb_groups 9) (sym e); small = omega arith }

pub SlebPart-room : (buffer : List ℕ) (len : ℕ) (z : ℤ) (negative : Bool) (rest : ℕ) → SlebPart buffer len z negative rest → 64 ≤ rest → len < 9
SlebPart-room buffer len z negative rest p h = elim (p.room) as (λ k. len + k ≡ 9 → rest < 64 * 128 ^ k → len < 9) [
  | zero ↦ λ places small. absurd (omega arith)
  | suc k ↦ λ places small. omega arith
] p.places p.small

fits_seven-signed : (negative : Bool) (n : ℕ) → fits_seven (signed_of negative n) ≡ nat_lt n 64
fits_seven-signed true n = refl
fits_seven-signed false n = refl

without_seven-signed : (negative : Bool) (n : ℕ) → without_seven (signed_of negative n) ≡ signed_of negative (n / 128)
without_seven-signed true n = refl
without_seven-signed false n = refl

pub SlebPart-more : (buffer : List ℕ) (len : ℕ) (z : ℤ) (negative : Bool) (rest b : ℕ) → SlebPart buffer len z negative rest → 64 ≤ rest →
    b ≡ 128 + low_seven (signed_of negative rest) → SlebPart (set buffer len b) (len + 1) z negative (rest / 128)
unfolding sleb_groups
SlebPart-more buffer len z negative rest b p h e =
    let y : ℤ = signed_of negative rest in
    elim (p.room) as (λ k. len + k ≡ 9 → take len buffer ++ sleb_groups k y ≡ sleb z → rest < 64 * 128 ^ k → SlebPart (set buffer len b) (len + 1) z negative (rest / 128)) [
      | zero ↦ λ places spelled small. absurd (omega arith)
      | suc k ↦ λ places spelled small. record {
        sized = length-set buffer len _ ∙ p.sized;
        room = k;
        places = omega arith;
        spelled = more buffer (sleb_groups k (signed_of negative (rest / 128))) len b (omega (arith, p.sized))
            ∙ ap (λ w. take len buffer ++ w ∷ sleb_groups k (signed_of negative (rest / 128))) e
            ∙ ap (λ w. take len buffer ++ (128 + low_seven y) ∷ sleb_groups k w) (sym (without_seven-signed negative rest))
            ∙ sym (ap (λ xs. take len buffer ++ xs) (if_false (fits_seven y) (low_seven y ∷ []) ((128 + low_seven y) ∷ sleb_groups k (without_seven y)) (fits_seven-signed negative rest ∙ lt-false rest 64 h)))
            ∙ spelled;
        small = omega (arith, pow-suc 128 k);
      }
    ] p.places p.spelled p.small

sleb_groups-small : (k : ℕ) (z : ℤ) → fits_seven z ≡ true → sleb_groups k z ≡ low_seven z ∷ []
unfolding sleb_groups
sleb_groups-small zero z h = refl
sleb_groups-small (suc k) z h = if_true (fits_seven z) (low_seven z ∷ []) ((128 + low_seven z) ∷ sleb_groups k (without_seven z)) h

pub SlebPart-last : (buffer : List ℕ) (len : ℕ) (z : ℤ) (negative : Bool) (rest b : ℕ) → SlebPart buffer len z negative rest → rest < 64 →
    b ≡ low_seven (signed_of negative rest) → take (len + 1) (set buffer len b) ≡ sleb z
SlebPart-last buffer len z negative rest b p h e =
    let within : len < length buffer = omega (arith, p.places, p.sized) in
    last buffer len b within ∙ ap (λ w. take len buffer ++ w ∷ []) e
    ∙ ap (λ xs. take len buffer ++ xs) (sym (sleb_groups-small p.room (signed_of negative rest) (fits_seven-signed negative rest ∙ lt-true rest 64 h))) ∙ p.spelled
