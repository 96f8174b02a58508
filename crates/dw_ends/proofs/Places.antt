-- Numbers as they are read: digit by digit, from a value so far.
use Rattle.std.proofs.Common.{◌≡◌, ◌∙◌, ℕ, suc, ◌+◌, ◌*◌, ◌^◌, ◌<◌, ◌≤◌, List, [], ◌∷◌, length, Option, Some, None, option_map, option_and_then, refl, sym, ap, arith, drop, get_or}
use Rattle.std.proofs.Math.Nat.{pow-zero, pow-succ', one-le-pow, mul-le-mul_left}
use Rattle.std.proofs.lemmas.List.{at_drop_more, at_drop_all}
use Rattle.dw_ends.proofs.Limits.{below-past}
use Rattle.dw_ends.specs.Numbers.{below, digit_in, digits_in, value_in, number_in}

-- the number that a value so far and the digits behind it spell
abbrev pub read_on : ℕ → ℕ → List ℕ → Option ℕ
read_on base value bs = option_map (λ ds. value * base ^ length ds + value_in base ds) (digits_in base bs)

-- with no digit left it is the value
read_on-nil : (base value : ℕ) → read_on base value [] ≡ Some value
read_on-nil base value = ap Some (rw pow-zero (omega arith))

-- what a value and a digit count in front of some digits
shifted : (base value d : ℕ) (ds : List ℕ) → value * base ^ suc (length ds) + (d * base ^ length ds + value_in base ds) ≡ (value * base + d) * base ^ length ds + value_in base ds
shifted base value d ds = rw (pow-succ' base (length ds)) (grind arith)

-- a digit in front of the rest moves the value one place on
onto-read_on : (base value d : ℕ) (rest : Option (List ℕ)) → option_map (λ ds. value * base ^ length ds + value_in base ds) (option_map (λ ds. d ∷ ds) rest) ≡ option_map (λ ds. (value * base + d) * base ^ length ds + value_in base ds) rest
onto-read_on base value d None = refl
onto-read_on base value d (Some ds) = ap Some (shifted base value d ds)

-- the first digit, read
read_on-cons : (base value b : ℕ) (bs : List ℕ) (d : ℕ) → digit_in base b ≡ Some d → read_on base value (b ∷ bs) ≡ read_on base (value * base + d) bs
read_on-cons base value b bs d e = rw e (onto-read_on base value d (digits_in base bs))

-- the same in what is left of some bytes
read_on-drop : (base value : ℕ) (bs : List ℕ) (i d : ℕ) → i < length bs → digit_in base (get_or bs i 0) ≡ Some d → read_on base value (drop i bs) ≡ read_on base (value * base + d) (drop (i + 1) bs)
read_on-drop base value bs i d h e = at_drop_more (read_on base value) bs i 0 h ∙ read_on-cons base value (get_or bs i 0) (drop (i + 1) bs) d e

-- and where nothing is left
pub read_on-drop_all : (base value : ℕ) (bs : List ℕ) (i : ℕ) → length bs ≤ i → read_on base value (drop i bs) ≡ Some value
read_on-drop_all base value bs i h = at_drop_all (read_on base value) bs i h ∙ read_on-nil base value

-- one digit on, in the number of some bytes that is read so far
pub number_in_step : (base value : ℕ) (bs : List ℕ) (i d : ℕ) → i < length bs → read_on base value (drop i bs) ≡ number_in base bs → digit_in base (get_or bs i 0) ≡ Some d → number_in base bs ≡ read_on base (value * base + d) (drop (i + 1) bs)
number_in_step base value bs i d h so_far e = sym so_far ∙ read_on-drop base value bs i d h e

-- a value that is past the limit stays past it, whatever digits follow
past : (limit base value : ℕ) (rest : Option (List ℕ)) → 0 < base → limit ≤ value → option_and_then (below limit) (option_map (λ ds. value * base ^ length ds + value_in base ds) rest) ≡ None
past limit base value None _ h = refl
past limit base value (Some ds) positive h =
    let power : 1 ≤ base ^ length ds = one-le-pow (length ds) base positive in
    let grows : value * 1 ≤ value * base ^ length ds = mul-le-mul_left value power in
    below-past limit _ (omega arith)

-- and so does what is read on from it
pub below-read_on : (limit base value : ℕ) (bs : List ℕ) → 0 < base → limit ≤ value → option_and_then (below limit) (read_on base value bs) ≡ None
below-read_on limit base value bs positive h = past limit base value (digits_in base bs) positive h
