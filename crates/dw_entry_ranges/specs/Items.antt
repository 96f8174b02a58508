-- What the items of range lists say (DWARF 5, 2.17.3 and 7.25; DWARF 4, 2.17.3).
use Rattle.std.specs.Prelude.{ℕ, ◌+◌, List, [], ◌∷◌, Result, Ok}
use Rattle.dw_read.specs.Reasons.{◌=>>◌}
use Rattle.dw_read.specs.declared.error.ReadError.{ReadError}
use Rattle.dw_sources.specs.RawLists.{Span, BaseAddress, BaseAddressx, AddressOrOffsetPair, StartxEndx, StartxLength, OffsetPair, StartEnd, StartLength, DefaultLocation}
use Rattle.dw_entry_ranges.specs.Ranges.{from_to, with_length}
use Rattle.dw_entry_ranges.specs.declared.item.Item.{Item}
use Rattle.dw_entry_ranges.specs.declared.item.Item.TheVariants.{Base, Range}
use Rattle.dw_entry_ranges.specs.declared.range.AddressRange.{AddressRange}

-- the range between two offsets from a base
abbrev pub offset_range : ℕ → ℕ → ℕ → Item
offset_range base m n = Range (from_to (base + m) (base + n))

-- What an item says where offsets count from a base. The numbers of a pair are offsets in version 5 where its kind says so, and
-- always up to version 4. No range list has a default location.
abbrev pub item_read : (ℕ → Result ℕ ReadError) → ℕ → Span → Result Item ReadError
item_read address base (BaseAddress a) = Ok (Base a)
item_read address base (BaseAddressx i) = address i =>> λ a. Ok (Base a)
item_read address base (AddressOrOffsetPair m n) = Ok (offset_range base m n)
item_read address base (OffsetPair m n) = Ok (offset_range base m n)
item_read address base (StartxEndx i j) = address i =>> λ a. address j =>> λ b. Ok (Range (from_to a b))
item_read address base (StartxLength i n) = address i =>> λ a. Ok (Range (with_length a n))
item_read address base (StartEnd a b) = Ok (Range (from_to a b))
item_read address base (StartLength a n) = Ok (Range (with_length a n))
item_read address base DefaultLocation = Ok (Base base)

-- what offsets count from behind an item
abbrev pub base_behind : ℕ → Item → ℕ
base_behind base (Base a) = a
base_behind base (Range r) = base

abbrev pub range_in : Item → List AddressRange
range_in (Base a) = []
range_in (Range r) = r ∷ []
