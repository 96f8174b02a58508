-- Numbers as they are spelled: decimal digits, or `0x` and digits of base 16.
use Rattle.std.specs.Prelude.{ℕ, ◌+◌, ◌-◌, ◌*◌, ◌^◌, List, [], ◌∷◌, length, drop, Option, Some, None, option_map, option_and_then, nat_lt, nat_le, nat_eq, ◌&&◌, if◌then◌else◌, codes}
use Rattle.std.specs.List.{starts_with}

-- the number, if it is below the limit
abbrev pub below : ℕ → ℕ → Option ℕ
below limit n = if nat_lt n limit then Some n else None

-- what a byte counts as a digit: `0` to `9`, `a` to `f`, `A` to `F`
abbrev pub digit_value : ℕ → Option ℕ
digit_value b =
    if nat_le 48 b && nat_le b 57 then Some (b - 48)
    else (if nat_le 97 b && nat_le b 102 then Some (b - 87)
    else (if nat_le 65 b && nat_le b 70 then Some (b - 55) else None))

-- what a byte counts as a digit of a base
abbrev pub digit_in : ℕ → ℕ → Option ℕ
digit_in base b = option_and_then (below base) (digit_value b)

-- the digits of a base that the bytes are, if each is one
abbrev pub digits_in : ℕ → List ℕ → Option (List ℕ)
digits_in base [] = Some []
digits_in base (b ∷ bs) = option_and_then (λ d. option_map (λ ds. d ∷ ds) (digits_in base bs)) (digit_in base b)

-- the number of some digits: each counts the base's power by the number of digits after it
abbrev pub value_in : ℕ → List ℕ → ℕ
value_in base [] = 0
value_in base (d ∷ ds) = d * base ^ length ds + value_in base ds

-- the number that one or more digits of a base spell
abbrev pub number_in : ℕ → List ℕ → Option ℕ
number_in base [] = None
number_in base (b ∷ bs) = option_map (value_in base) (digits_in base (b ∷ bs))

-- the number that a field spells: in base 16 after `0x`, else in base 10
abbrev pub number_of : List ℕ → Option ℕ
number_of field = if starts_with nat_eq field (codes "0x") then number_in 16 (drop 2 field) else number_in 10 field

-- the number that a field spells, if it is below the limit
abbrev pub number_below : ℕ → List ℕ → Option ℕ
number_below limit field = option_and_then (below limit) (number_of field)
