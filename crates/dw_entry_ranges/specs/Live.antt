-- Addresses that are live, and the ranges that have one of them (DWARF 5, 2.17).
use Rattle.std.specs.Prelude.{Bool, ◌&&◌, nat_lt, List, map, filter}
use Rattle.std.specs.List.{list_any}
use Rattle.std.specs.List.Sorted.{IsPermutation, IsNonDecreasing}
use Rattle.dw_entry_ranges.specs.declared.live.LiveRange.{LiveRange}
use Rattle.dw_entry_ranges.specs.declared.live.LiveRanges.{LiveRanges}
use Rattle.dw_entry_ranges.specs.declared.range.AddressRange.{AddressRange}

-- a live range has an address where its end is above its begin
abbrev pub has_address : LiveRange → Bool
has_address l = nat_lt l.begin l.end

-- A range meets a live one where each begins before the other ends; what has no address meets nothing.
abbrev pub meets_one : AddressRange → LiveRange → Bool
meets_one r l = nat_lt r.begin r.end && has_address l && nat_lt l.begin r.end && nat_lt r.begin l.end

-- it meets one of some
abbrev pub meets : List LiveRange → AddressRange → Bool
meets live r = list_any (meets_one r) live

-- the begins and the ends of those live ranges that have an address, each in ascending order
pub record IsMadeOf (ranges : LiveRanges) (live : List LiveRange) : Type 0 where
  pub begins : IsPermutation (map (λ l. l.begin) (filter has_address live)) ranges.begins.items
  pub ends : IsPermutation (map (λ l. l.end) (filter has_address live)) ranges.ends.items
  pub begins_ascend : IsNonDecreasing ranges.begins.items
  pub ends_ascend : IsNonDecreasing ranges.ends.items
