-- Sums of numbers of 64 bits.
use Rattle.std.specs.Prelude.{ℕ, ◌+◌, ◌^◌, nat_lt, Option, Some, None, if◌then◌else◌}

-- a place of .debug_info, a unit's number or an entry's id, where it has room
abbrev pub sum : ℕ → ℕ → Option ℕ
sum m n = if nat_lt (m + n) (2 ^ 64) then Some (m + n) else None
