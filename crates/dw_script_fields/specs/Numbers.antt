-- Numbers as they are spelled, `-` before them where they may be below 0, and words in the place of an index.
use Rattle.std.specs.Prelude.{ℕ, ◌^◌, List, drop, Option, Some, None, option_map, option_and_then, nat_eq, bytes_eq, if◌then◌else◌, codes, ℤ, pos, neg_ℤ}
use Rattle.std.specs.List.{starts_with}
use Rattle.dw_base.specs.Leb128.{fits_i64}
use Rattle.dw_ends.specs.Numbers.{number_below, number_of}

-- the index that a field spells, a number below 2^64, or `none`
abbrev pub index_or_none : List ℕ → Option (Option ℕ)
index_or_none field =
    if bytes_eq field (codes "none") then Some None else option_map Some (number_below (2 ^ 64) field)

-- the index that a branch leads to, a number below 2^64, or `-` where it has no target
abbrev pub target_or_none : List ℕ → Option (Option ℕ)
target_or_none field =
    if bytes_eq field (codes "-") then Some None else option_map Some (number_below (2 ^ 64) field)

-- the number that a field spells, `-` before it where it is below 0
abbrev pub signed_of : List ℕ → Option ℤ
signed_of field =
    if starts_with nat_eq field (codes "-") then option_map (λ n. neg_ℤ (pos n)) (number_of (drop 1 field))
    else option_map pos (number_of field)

-- the number, if it has a spelling in 64 bits
abbrev pub within_i64 : ℤ → Option ℤ
within_i64 z = if fits_i64 z then Some z else None

-- the number from -2^63 to 2^63 - 1 that a field spells
abbrev pub signed_number : List ℕ → Option ℤ
signed_number field = option_and_then within_i64 (signed_of field)
