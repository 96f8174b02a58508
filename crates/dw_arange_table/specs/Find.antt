-- Which units have an address (DWARF 5, 6.1.2).
use Rattle.std.specs.Prelude.{ℕ, ◌+◌, Bool, not, ◌&&◌, ◌==◌, nat_le, nat_lt, List, [], ◌∷◌, filter, if◌then◌else◌}
use Rattle.std.specs.List.{list_any}
use Rattle.dw_arange_table.specs.declared.range.RangeDescriptor.{RangeDescriptor}
use Rattle.dw_arange_table.specs.Sets.{RangeSet}

-- a range has an address that isn't before its first, and is before its end
abbrev pub range_has : ℕ → RangeDescriptor → Bool
range_has a r = nat_le r.address a && nat_lt a (r.address + r.length)

-- a set has an address where one of its ranges has
abbrev pub set_has : ℕ → RangeSet → Bool
set_has a s = list_any (range_has a) s.ranges

-- the places of the units whose sets have an address, each once, in the order of sets
abbrev pub units_at : ℕ → List RangeSet → List ℕ
units_at a [] = []
units_at a (s ∷ ss) = if set_has a s then s.unit ∷ filter (λ u. not (s.unit == u)) (units_at a ss) else units_at a ss
