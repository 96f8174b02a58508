-- Rows of bytes, by hand from the standard (DWARF 5, 6.1.2 and 7.4).
use Rattle.std.proofs.Common.{◌≡◌, ℕ, List, [], ◌∷◌, Ok, Err, true, false, refl}
use Rattle.dw_base.specs.Numbers.{bytes_at, number_at, num}
use Rattle.dw_base.specs.declared.common.Format.TheVariants.{Dwarf32, Dwarf64}
use Rattle.dw_read.specs.Reasons.{bytes_read, number_read, initial_length_read}
use Rattle.dw_read.specs.declared.error.ReadError.TheVariants.{UnexpectedEof, UnknownReservedLength, UnknownVersion, UnsupportedAddressSize, UnsupportedSegmentSize}
use Rattle.dw_writer.specs.Texts.{zeros}
use Rattle.dw_arange_table.specs.Sets.{RangeSet}
use Rattle.dw_arange_table.specs.Bytes.{padding, rest_bytes, content_bytes, set_bytes, aranges_bytes}
use Rattle.dw_arange_table.specs.Reading.{range_of, range_at, ranges_up_to, fields_read, set_read, sets_up_to, sets_read}
use Rattle.dw_entry_ranges.specs.declared.range.AddressRange.{AddressRange}
use Rattle.dw_arange_table.specs.Covers.{is_addressed, descriptors_of}
use Rattle.dw_arange_table.specs.Find.{units_at}

-- a unit at 0 with sixteen bytes at 0x1000, in addresses of 8 bytes
abbrev one : RangeSet
one = record { format = Dwarf32; address_size = 8; unit = 0; ranges = range_of 0x1000 0x10 ∷ [] }

abbrev one_bytes : List ℕ
one_bytes =
    0x2c ∷ 0 ∷ 0 ∷ 0 ∷ 2 ∷ 0 ∷ 0 ∷ 0 ∷ 0 ∷ 0 ∷ 8 ∷ 0 ∷ 0 ∷ 0 ∷ 0 ∷ 0 ∷ 0 ∷ 0x10 ∷ 0 ∷ 0 ∷ 0 ∷ 0 ∷ 0 ∷ 0 ∷ 0x10 ∷ 0 ∷ 0 ∷ 0 ∷ 0 ∷ 0 ∷ 0 ∷ 0 ∷ zeros 16

write-one : aranges_bytes false (one ∷ []) ≡ one_bytes
unfolding set_bytes content_bytes rest_bytes num
write-one = refl

-- the 64-bit format, the highest byte first, addresses of 4 bytes, no padding
abbrev wide : RangeSet
wide = record { format = Dwarf64; address_size = 4; unit = 0x20; ranges = range_of 0x1000 4 ∷ [] }

abbrev wide_bytes : List ℕ
wide_bytes =
    0xff ∷ 0xff ∷ 0xff ∷ 0xff ∷ 0 ∷ 0 ∷ 0 ∷ 0 ∷ 0 ∷ 0 ∷ 0 ∷ 0x1c ∷ 0 ∷ 2 ∷ 0 ∷ 0 ∷ 0 ∷ 0 ∷ 0 ∷ 0 ∷ 0 ∷ 0x20 ∷ 4 ∷ 0 ∷ 0 ∷ 0 ∷ 0x10 ∷ 0 ∷ 0 ∷ 0 ∷ 0 ∷ 4 ∷ zeros 8

write-wide : aranges_bytes true (wide ∷ []) ≡ wide_bytes
unfolding set_bytes content_bytes rest_bytes num
write-wide = refl

read-wide : sets_read true wide_bytes ≡ Ok (wide ∷ [])
unfolding sets_up_to set_read fields_read ranges_up_to range_at initial_length_read number_read bytes_read number_at bytes_at
read-wide = refl

-- behind 12 bytes, and behind 24, up to a multiple of two addresses
paddings : (padding Dwarf32 1 ≡ 0) × (padding Dwarf32 2 ≡ 0) × (padding Dwarf32 4 ≡ 4) × (padding Dwarf32 8 ≡ 4) × (padding Dwarf64 4 ≡ 0) × (padding Dwarf64 8 ≡ 8)
paddings = (refl, refl, refl, refl, refl, refl)

-- two zeros in the midst end the ranges, and the set behind is read; in it less than a pair is left
read-ends : sets_read false
    (18 ∷ 0 ∷ 0 ∷ 0 ∷ 2 ∷ 0 ∷ 0 ∷ 0 ∷ 0 ∷ 0 ∷ 2 ∷ 0 ∷ 5 ∷ 0 ∷ 1 ∷ 0 ∷ 0 ∷ 0 ∷ 0 ∷ 0 ∷ 7 ∷ 0 ∷ 11 ∷ 0 ∷ 0 ∷ 0 ∷ 2 ∷ 0 ∷ 9 ∷ 0 ∷ 0 ∷ 0 ∷ 1 ∷ 0 ∷ 6 ∷ 3 ∷ 8 ∷ [])
    ≡ Ok (record { format = Dwarf32; address_size = 2; unit = 0; ranges = range_of 5 1 ∷ [] } ∷ record { format = Dwarf32; address_size = 1; unit = 9; ranges = range_of 6 3 ∷ [] } ∷ [])
unfolding sets_up_to set_read fields_read ranges_up_to range_at initial_length_read number_read bytes_read number_at bytes_at
read-ends = refl

-- the first field that is wrong
refusals : (sets_read false (3 ∷ 0 ∷ 0 ∷ 0 ∷ 3 ∷ 0 ∷ 0 ∷ []) ≡ Err (UnknownVersion 3))
    × (sets_read false (8 ∷ 0 ∷ 0 ∷ 0 ∷ 2 ∷ 0 ∷ 0 ∷ 0 ∷ 0 ∷ 0 ∷ 3 ∷ 1 ∷ []) ≡ Err (UnsupportedAddressSize 3))
    × (sets_read false (8 ∷ 0 ∷ 0 ∷ 0 ∷ 2 ∷ 0 ∷ 0 ∷ 0 ∷ 0 ∷ 0 ∷ 8 ∷ 1 ∷ []) ≡ Err (UnsupportedSegmentSize 1))
    × (sets_read false (8 ∷ 0 ∷ 0 ∷ 0 ∷ 2 ∷ 0 ∷ 0 ∷ 0 ∷ 0 ∷ 0 ∷ 8 ∷ 0 ∷ []) ≡ Err UnexpectedEof)
    × (sets_read false (9 ∷ 0 ∷ 0 ∷ 0 ∷ 3 ∷ 0 ∷ []) ≡ Err UnexpectedEof)
    × (sets_read false (0xf0 ∷ 0xff ∷ 0xff ∷ 0xff ∷ []) ≡ Err UnknownReservedLength)
unfolding sets_up_to set_read fields_read initial_length_read number_read bytes_read number_at bytes_at
refusals = (refl, refl, refl, refl, refl, refl)

-- the end of a range isn't in it, and a unit with two sets comes once
abbrev again : RangeSet
again = record one { ranges = range_of 0x100f 2 ∷ [] }

found : (units_at 0x100f (one ∷ wide ∷ again ∷ []) ≡ 0 ∷ []) × (units_at 0x1003 (one ∷ wide ∷ again ∷ []) ≡ 0 ∷ 0x20 ∷ []) × (units_at 0x1010 (one ∷ wide ∷ []) ≡ [])
found = (refl, refl, refl)

-- a list's ranges: one of length 0 is left out, one whose end is below its begin isn't addressed, nor is one that ends past
-- the last address
abbrev range : ℕ → ℕ → AddressRange
range begin end = record { begin = begin; end = end }

covers : (descriptors_of (range 0x1010 0x1020 ∷ range 8 8 ∷ range 0 1 ∷ []) ≡ range_of 0x1010 0x10 ∷ range_of 0 1 ∷ []) × (is_addressed 8 (range 16 8) ≡ false) × (is_addressed 1 (range 16 0x100) ≡ false) × (is_addressed 1 (range 16 0xff) ≡ true)
covers = (refl, refl, refl, refl)
