-- The ranges that range lists give (DWARF 5, 2.17.3, 7.25 and 7.28; DWARF 4, 2.17.3).
use Rattle.std.specs.Prelude.{ℕ, zero, suc, ◌+◌, ◌^◌, nat_lt, List, [], ◌++◌, length, Option, Some, None, Result, Ok, Err}
use Rattle.dw_base.specs.declared.constants.TheConstants.{DW_AT_ranges}
use Rattle.dw_base.specs.declared.offsets.RangeListsOffset.{RangeListsOffset}
use Rattle.dw_read.specs.Reading.{Reading, Read, left}
use Rattle.dw_read.specs.Reasons.{◌=>>◌, if_so, bytes_read, number_read}
use Rattle.dw_read.specs.Values.{Value}
use Rattle.dw_read.specs.declared.error.ReadError.{ReadError}
use Rattle.dw_read.specs.declared.error.ReadError.TheVariants.{UnexpectedEof, OffsetOutOfBounds}
use Rattle.dw_read.specs.declared.value.AttributeValue.TheVariants.{RangeListsRef, DebugRngListsIndex}
use Rattle.dw_read_units.specs.Lookups.{bytes_from, indexed}
use Rattle.dw_read_units.specs.Roots.{last_value}
use Rattle.dw_read_units.specs.Units.{word_in}
use Rattle.dw_read_units.specs.declared.unit_ref.UnitRef.{UnitRef}
use Rattle.dw_sources.specs.RawLists.{Span, range_read}
use Rattle.dw_sources.specs.RawListIters.{encoding_in, ranges_section}
use Rattle.dw_entry_ranges.specs.Addresses.{if_any, indexed_address}
use Rattle.dw_entry_ranges.specs.Items.{item_read, base_behind, range_in}
use Rattle.dw_entry_ranges.specs.declared.range.AddressRange.{AddressRange}

-- what comes of an item; behind the close of a list there is none
abbrev pub if_open : {A : Type 0} → Option A → (A → Result (List AddressRange) ReadError) → Result (List AddressRange) ReadError
if_open None f = Ok []
if_open (Some x) f = f x

module _ (read : Read (Option Span)) (address : ℕ → Result ℕ ReadError) where
  -- the ranges of the items of a list, one after the other up to its close, or the reason why there are none
  unfoldable pub ranges_from : ℕ → ℕ → List ℕ → Result (List AddressRange) ReadError
  ranges_from zero base bytes = Err UnexpectedEof
  ranges_from (suc fuel) base bytes =
      read bytes =>> λ x. if_open x.0 (λ s. item_read address base s =>> λ item.
      ranges_from fuel (base_behind base item) x.1 =>> λ more. Ok (range_in item ++ more))

module _ {R E : Type 0} (reading : R → Reading) (u : UnitRef R E) where
  -- the ranges of the list at an offset of the section of the unit's range lists: each item takes a byte at least
  unfoldable pub ranges_at : ℕ → Result (List AddressRange) ReadError
  ranges_at offset =
      bytes_read offset (left (ranges_section reading u)) =>> λ x.
      ranges_from (range_read (ranges_section reading u).is_big (encoding_in u)) (indexed_address reading u) (suc (length x.1)) u.unit.now.low_pc x.1

  -- the place of the list of an index in the unit's part of .debug_rnglists: the word there counts from the unit's base
  unfoldable pub indexed_list : ℕ → Result RangeListsOffset ReadError
  indexed_list i =
      number_read (reading u.dwarf.now.debug_rnglists).is_big (word_in u) (bytes_from (indexed u.unit.now.rnglists_base i (word_in u)) (reading u.dwarf.now.debug_rnglists)) =>> λ x.
      if_so (nat_lt (u.unit.now.rnglists_base + x.0) (2 ^ 64)) (OffsetOutOfBounds x.0) (Ok (record { 0 = u.unit.now.rnglists_base + x.0 }))

  -- the place of the list that a value leads to; other values lead to none
  abbrev pub list_in : Value → Result (Option RangeListsOffset) ReadError
  list_in (RangeListsRef p) = Ok (Some p)
  list_in (DebugRngListsIndex i) = indexed_list i =>> λ p. Ok (Some p)
  list_in v = Ok None

  -- that of the last value under DW_AT_ranges
  abbrev pub list_of : List (ℕ × Value) → Result (Option RangeListsOffset) ReadError
  list_of xs = if_any (last_value DW_AT_ranges.0 DW_AT_ranges.0 xs) list_in

  -- its ranges
  unfoldable pub list_ranges : List (ℕ × Value) → Result (Option (List AddressRange)) ReadError
  list_ranges xs = list_of xs =>> λ list. if_any list (λ p. ranges_at p.0 =>> λ ranges. Ok (Some ranges))
