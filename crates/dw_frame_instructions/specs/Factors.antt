-- Offsets that are divided by an alignment factor (DWARF 5, 6.4.1).
use Rattle.std.specs.Prelude.{ℕ, not, ◌&&◌, Option, Some, None, ℤ, pos, negsuc, ◌*ℤ◌, int_div}
use Rattle.std.specs.Ordering.{int_eq}
use Rattle.dw_base.specs.Numbers.{when}
use Rattle.dw_writer.specs.SignedNumbers.{signed_fits}

-- how often the factor goes into an offset: it isn't zero, nothing is left over, and the number has 32 bits
abbrev pub factored : ℤ → ℤ → Option ℤ
factored factor offset =
    let q = int_div offset factor in
    when (not (int_eq factor (pos 0)) && int_eq (q *ℤ factor) offset && signed_fits 4 q) (Some q)

-- a number that isn't below zero
abbrev pub natural : ℤ → Option ℕ
natural (pos n) = Some n
natural (negsuc n) = None
