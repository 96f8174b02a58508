-- Sets of address ranges, one for each unit that has code or data (DWARF 5, 6.1.2).
use Rattle.std.specs.Prelude.{ℕ, Bool, not, ◌&&◌, ◌==◌, List, [], ◌∷◌, ◌++◌, if◌then◌else◌, IsFalse}
use Rattle.std.specs.List.{list_all}
use Rattle.dw_base.specs.Numbers.{is_width, fits}
use Rattle.dw_base.specs.declared.common.Format.{Format}
use Rattle.dw_base.specs.declared.error.Error.{Error}
use Rattle.dw_base.specs.declared.error.Error.TheVariants as errors
use Rattle.dw_arange_table.specs.declared.range.RangeDescriptor.{RangeDescriptor}

pub record RangeSet : Type 0 where
  pub format : Format
  -- the bytes of an address
  pub address_size : ℕ
  -- where the unit's header stands in .debug_info
  pub unit : ℕ
  pub ranges : List RangeDescriptor

-- both numbers fit an address
abbrev pub range_fits : ℕ → RangeDescriptor → Bool
range_fits w r = fits w r.address && fits w r.length

-- the pair of zeros that ends a set
abbrev pub is_end : RangeDescriptor → Bool
is_end r = r.address == 0 && r.length == 0

-- a range that a set of such addresses can hold
abbrev pub is_range : ℕ → RangeDescriptor → Bool
is_range w r = range_fits w r && not (is_end r)

-- what holds of each set: its addresses have a size that addresses may have, and it can hold its ranges
abbrev pub is_set : RangeSet → Bool
is_set s = is_width s.address_size && list_all (is_range s.address_size) s.ranges

abbrev pub empty_set : Format → ℕ → ℕ → RangeSet
empty_set format w unit = record { format = format; address_size = w; unit = unit; ranges = [] }

-- a set with a range more, unless that holds no address
abbrev pub with_range : RangeSet → RangeDescriptor → RangeSet
with_range s r = if r.length == 0 then s else (record s { ranges = s.ranges ++ r ∷ [] })

-- a range is refused where it doesn't fit, or for want of memory
abbrev pub RangeRefused : RangeSet → RangeDescriptor → Error → Type 0
RangeRefused s r errors.ValueTooLarge = IsFalse (range_fits s.address_size r)
RangeRefused s r errors.NoMemory = Unit {0}
RangeRefused s r e = ⊥
