-- LEB128 numbers: groups of seven bits, the lowest first, each byte but the last with the bit 0x80 (DWARF 5, 7.6).
use Rattle.std.specs.Prelude.{ℕ, zero, suc, ◌+◌, ◌-◌, ◌*◌, ◌/◌, ◌%◌, ◌^◌, Bool, nat_lt, List, [], ◌∷◌, Some, None, ℤ, pos, negsuc, if◌then◌else◌}
use Rattle.dw_base.specs.Numbers.{Parser, ◌>>=◌, when}

-- the groups of an unsigned number
unfoldable pub groups_at : Parser ℕ
groups_at [] = None
groups_at (b ∷ bs) = if nat_lt b 128 then Some (b, bs) else (groups_at bs >>= λ x. Some (b - 128 + 128 * x.0, x.1))

-- an unsigned number of 64 bits, in any spelling
unfoldable pub uleb_at : Parser ℕ
uleb_at bytes = groups_at bytes >>= λ x. when (nat_lt x.0 (2 ^ 64)) (Some x)

-- an unsigned number of 16 bits, in any spelling: tags, names and forms are such numbers, of which none above 0xffff is
-- defined or free for use (DWARF 5, 7.5.3 with tables 7.3, 7.5 and 7.6)
unfoldable pub uleb16_at : Parser ℕ
uleb16_at bytes = uleb_at bytes >>= λ x. when (nat_lt x.0 (2 ^ 16)) (Some x)

-- the last seven bits of a signed number, of which bit 0x40 is the sign
abbrev pub signed_seven : ℕ → ℤ
signed_seven b = if nat_lt b 64 then pos b else negsuc (127 - b)

-- a signed number in the seven bits above those of low, in two's complement
abbrev pub above_seven : ℕ → ℤ → ℤ
above_seven low (pos n) = pos (128 * n + low)
above_seven low (negsuc n) = negsuc (128 * n + (127 - low))

-- the groups of a signed number
unfoldable pub signed_groups_at : Parser ℤ
signed_groups_at [] = None
signed_groups_at (b ∷ bs) = if nat_lt b 128 then Some (signed_seven b, bs) else (signed_groups_at bs >>= λ x. Some (above_seven (b - 128) x.0, x.1))

-- whether a signed number fits 64 bits
abbrev pub fits_i64 : ℤ → Bool
fits_i64 (pos n) = nat_lt n (2 ^ 63)
fits_i64 (negsuc n) = nat_lt n (2 ^ 63)

-- a signed number of 64 bits, in any spelling
unfoldable pub sleb_at : Parser ℤ
sleb_at bytes = signed_groups_at bytes >>= λ x. when (fits_i64 x.0) (Some x)

-- the shortest groups of an unsigned number, at most k and one more
unfoldable pub uleb_groups : ℕ → ℕ → List ℕ
uleb_groups zero n = n ∷ []
uleb_groups (suc k) n = if nat_lt n 128 then n ∷ [] else (128 + n % 128) ∷ uleb_groups k (n / 128)

-- the shortest spelling of an unsigned number of 64 bits
unfoldable pub uleb : ℕ → List ℕ
uleb n = uleb_groups 9 n

-- the lowest seven bits of a signed number, and the number above them
abbrev pub low_seven : ℤ → ℕ
low_seven (pos n) = n % 128
low_seven (negsuc n) = 127 - n % 128

abbrev pub without_seven : ℤ → ℤ
without_seven (pos n) = pos (n / 128)
without_seven (negsuc n) = negsuc (n / 128)

-- whether seven bits hold a signed number
abbrev pub fits_seven : ℤ → Bool
fits_seven (pos n) = nat_lt n 64
fits_seven (negsuc n) = nat_lt n 64

-- the shortest groups of a signed number, at most k and one more
unfoldable pub sleb_groups : ℕ → ℤ → List ℕ
sleb_groups zero z = low_seven z ∷ []
sleb_groups (suc k) z = if fits_seven z then low_seven z ∷ [] else (128 + low_seven z) ∷ sleb_groups k (without_seven z)

-- the shortest spelling of a signed number of 64 bits
unfoldable pub sleb : ℤ → List ℕ
sleb z = sleb_groups 9 z
