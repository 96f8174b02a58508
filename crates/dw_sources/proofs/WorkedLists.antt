-- Rows that compute: bytes of items of lists, and what they are read as.
use Rattle.std.proofs.Common.{◌≡◌, [], ◌∷◌, Some, None, Err, true, false, refl}
use Rattle.dw_base.specs.Numbers.{bytes_at, number_at}
use Rattle.dw_base.specs.Leb128.{groups_at}
use Rattle.dw_base.specs.declared.common.Encoding.{Encoding}
use Rattle.dw_base.specs.declared.common.Format.TheVariants.{Dwarf32}
use Rattle.dw_read.specs.Reasons.{bytes_read, number_read, uleb_read, address_read}
use Rattle.dw_read.specs.declared.error.ReadError.TheVariants.{UnexpectedEof, UnknownRangeListsEntry, UnknownLocListsEntry}
use Rattle.dw_sources.specs.Operands.{block_read}
use Rattle.dw_sources.specs.RawLists.{BaseAddress, AddressOrOffsetPair, StartxLength, OffsetPair, StartLength, DefaultLocation, pair_read, range_row, location_row, range_behind, location_behind, range_read, location_span_read, expression_read, location_read, range_at, location_at}
use Rattle.dw_sources.specs.RawListViews.{located_item, base_item}

abbrev five : Encoding
five = record { address_size = 4; format = Dwarf32; version = 5 }

abbrev four : Encoding
four = record { address_size = 2; format = Dwarf32; version = 4 }

offsets : range_at false five (4 ∷ 0x81 ∷ 1 ∷ 2 ∷ 0 ∷ []) ≡ Some (Some (OffsetPair 129 2), 0 ∷ [])
unfolding range_at range_read range_behind range_row uleb_read groups_at number_read number_at bytes_at
offsets = refl

indexed : range_at false five (3 ∷ 1 ∷ 0x10 ∷ []) ≡ Some (Some (StartxLength 1 16), [])
unfolding range_at range_read range_behind range_row uleb_read groups_at number_read number_at bytes_at
indexed = refl

start : range_at true five (7 ∷ 0 ∷ 0 ∷ 0x10 ∷ 0 ∷ 0x20 ∷ []) ≡ Some (Some (StartLength 0x1000 32), [])
unfolding range_at range_read range_behind range_row address_read uleb_read groups_at number_read number_at bytes_at
start = refl

closed : range_at false five (0 ∷ 0xff ∷ []) ≡ Some (None, 0xff ∷ [])
unfolding range_at range_read range_behind range_row number_read number_at bytes_at
closed = refl

-- equal ends close no list, two zeros do, and all bits one come before a base
equal : range_at false four (5 ∷ 0 ∷ 5 ∷ 0 ∷ []) ≡ Some (Some (AddressOrOffsetPair 5 5), [])
unfolding range_at range_read pair_read address_read number_read number_at bytes_at
equal = refl

zeros : range_at false four (0 ∷ 0 ∷ 0 ∷ 0 ∷ []) ≡ Some (None, [])
unfolding range_at range_read pair_read address_read number_read number_at bytes_at
zeros = refl

base : range_at false four (0xff ∷ 0xff ∷ 0 ∷ 0x10 ∷ []) ≡ Some (Some (BaseAddress 0x1000), [])
unfolding range_at range_read pair_read address_read number_read number_at bytes_at
base = refl

no_kind : range_read false five (8 ∷ []) ≡ Err (UnknownRangeListsEntry 8)
unfolding range_read range_behind range_row number_read number_at bytes_at
no_kind = refl

-- a location that is the default, an older one with its bytes counted in two, and a base, which has no expression
default : location_at false five (5 ∷ 1 ∷ 0x96 ∷ []) ≡ Some (Some (located_item DefaultLocation (0x96 ∷ [])), [])
unfolding location_at location_read location_span_read location_behind location_row expression_read block_read uleb_read groups_at bytes_read number_read number_at bytes_at
default = refl

old_location : location_at false four (1 ∷ 0 ∷ 2 ∷ 0 ∷ 1 ∷ 0 ∷ 0x96 ∷ []) ≡ Some (Some (located_item (AddressOrOffsetPair 1 2) (0x96 ∷ [])), [])
unfolding location_at location_read location_span_read pair_read expression_read address_read bytes_read number_read number_at bytes_at
old_location = refl

location_base : location_at false five (6 ∷ 0 ∷ 0x10 ∷ 0 ∷ 0 ∷ []) ≡ Some (Some (base_item (BaseAddress 0x1000)), [])
unfolding location_at location_read location_span_read location_behind location_row address_read number_read number_at bytes_at
location_base = refl

no_location_kind : location_read false five (9 ∷ []) ≡ Err (UnknownLocListsEntry 9)
unfolding location_read location_span_read location_behind location_row number_read number_at bytes_at
no_location_kind = refl

cut : location_read false five (5 ∷ 2 ∷ 0x96 ∷ []) ≡ Err UnexpectedEof
unfolding location_read location_span_read location_behind location_row expression_read block_read uleb_read groups_at bytes_read number_read number_at bytes_at
cut = refl
