-- Signed numbers of a width, in two's complement.
use Rattle.std.specs.Prelude.{ℕ, suc, ◌-◌, ◌*◌, ◌^◌, Bool, nat_lt, List, ℤ, pos, negsuc}
use Rattle.dw_base.specs.Numbers.{num}

-- whether w bytes hold a signed number
abbrev pub signed_fits : ℕ → ℤ → Bool
signed_fits w (pos n) = nat_lt n (2 ^ (8 * w - 1))
signed_fits w (negsuc n) = nat_lt n (2 ^ (8 * w - 1))

-- the unsigned number with the same w bytes
abbrev pub twos_complement : ℕ → ℤ → ℕ
twos_complement w (pos n) = n
twos_complement w (negsuc n) = 2 ^ (8 * w) - suc n

-- the w bytes of a signed number in an order
unfoldable pub signed_num : Bool → ℕ → ℤ → List ℕ
signed_num big w z = num big w (twos_complement w z)
