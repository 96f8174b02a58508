-- Worked rows: the bytes of range lists and of locations, attributes, and the ranges that they give.
use Rattle.std.proofs.Common.{◌≡◌, ℕ, zero, suc, [], ◌∷◌, Some, None, Result, Ok, Err, false, true, refl, negsuc}
use Rattle.dw_base.specs.Numbers.{bytes_at, number_at}
use Rattle.dw_base.specs.Leb128.{groups_at}
use Rattle.dw_base.specs.declared.common.Encoding.{Encoding}
use Rattle.dw_base.specs.declared.common.Format.TheVariants.{Dwarf32}
use Rattle.dw_read.specs.Reasons.{number_read, uleb_read, address_read}
use Rattle.dw_read.specs.declared.error.ReadError.{ReadError}
use Rattle.dw_read.specs.declared.error.ReadError.TheVariants.{UnexpectedEof}
use Rattle.dw_read.specs.declared.value.AttributeValue.TheVariants.{Addr, DebugAddrIndex, Data4, Data8, Sdata, Exprloc}
use Rattle.dw_read_units.specs.Roots.{last_value}
use Rattle.dw_sources.specs.OperationTable.{plain_of, is_simple, literals, behind, operation_read, operation_at}
use Rattle.dw_sources.specs.RawLists.{pair_read, range_row, range_behind, range_read}
use Rattle.dw_entry_ranges.specs.Bounds.{low_high}
use Rattle.dw_entry_ranges.specs.Lists.{ranges_from}
use Rattle.dw_entry_ranges.specs.Live.{meets}
use Rattle.dw_entry_ranges.specs.Locations.{first_address, location_address}
use Rattle.dw_entry_ranges.specs.Ranges.{from_to}
use Rattle.dw_entry_ranges.specs.declared.live.LiveRange.{LiveRange}
use Rattle.dw_entry_ranges.specs.declared.range.CodeAddresses.TheVariants.{Single, Contiguous}

abbrev four : Encoding
four = record { address_size = 2; format = Dwarf32; version = 4 }

abbrev five : Encoding
five = record { address_size = 2; format = Dwarf32; version = 5 }

abbrev wide : Encoding
wide = record { address_size = 8; format = Dwarf32; version = 5 }

-- a section that has one address, and one without any
abbrev one_address : ℕ → Result ℕ ReadError
one_address zero = Ok 0x3000
one_address (suc i) = Err UnexpectedEof

abbrev no_address : ℕ → Result ℕ ReadError
no_address i = Err UnexpectedEof

-- up to version 4 a pair counts from the unit's low address, and behind a base from that
pairs : ranges_from (range_read false four) no_address 4 0x1000 (0x10 ∷ 0 ∷ 0x20 ∷ 0 ∷ 0xff ∷ 0xff ∷ 0 ∷ 0x20 ∷ 1 ∷ 0 ∷ 2 ∷ 0 ∷ 0 ∷ 0 ∷ 0 ∷ 0 ∷ [])
    ≡ Ok (from_to 0x1010 0x1020 ∷ from_to 0x2001 0x2002 ∷ [])
unfolding ranges_from range_read pair_read address_read number_read number_at bytes_at
pairs = refl

-- In version 5 offset pairs alone do (04); a base (05), a begin with an end (06) and with a length (07) are addresses.
kinds : ranges_from (range_read true five) no_address 6 0x1000 (4 ∷ 1 ∷ 2 ∷ 5 ∷ 0x20 ∷ 0 ∷ 4 ∷ 1 ∷ 2 ∷ 6 ∷ 0x30 ∷ 0 ∷ 0x30 ∷ 0x10 ∷ 7 ∷ 0x40 ∷ 0 ∷ 8 ∷ 0 ∷ [])
    ≡ Ok (from_to 0x1001 0x1002 ∷ from_to 0x2001 0x2002 ∷ from_to 0x3000 0x3010 ∷ from_to 0x4000 0x4008 ∷ [])
unfolding ranges_from range_read range_behind range_row uleb_read address_read number_read number_at bytes_at groups_at
kinds = refl

-- by indices: a base (01), a begin with an end (02) and with a length (03)
indices : ranges_from (range_read false five) one_address 5 0 (3 ∷ 0 ∷ 8 ∷ 2 ∷ 0 ∷ 0 ∷ 1 ∷ 0 ∷ 4 ∷ 1 ∷ 2 ∷ 0 ∷ [])
    ≡ Ok (from_to 0x3000 0x3008 ∷ from_to 0x3000 0x3000 ∷ from_to 0x3001 0x3002 ∷ [])
unfolding ranges_from range_read range_behind range_row uleb_read number_read number_at bytes_at groups_at
indices = refl

no_index : ranges_from (range_read false five) one_address 2 0 (1 ∷ 1 ∷ 0 ∷ []) ≡ Err UnexpectedEof
unfolding ranges_from range_read range_behind range_row uleb_read number_read number_at bytes_at groups_at
no_index = refl

-- a sum is a whole number
past : ranges_from (range_read false wide) no_address 2 0 (7 ∷ 0xff ∷ 0xff ∷ 0xff ∷ 0xff ∷ 0xff ∷ 0xff ∷ 0xff ∷ 0xff ∷ 2 ∷ 0 ∷ []) ≡ Ok (from_to 0xffff_ffff_ffff_ffff 0x1_0000_0000_0000_0001 ∷ [])
unfolding ranges_from range_read range_behind range_row uleb_read address_read number_read number_at bytes_at groups_at
past = refl

-- low addresses (11) with high ones (12): a constant, an address by an index, a constant below 0, none
constant : low_high no_address ((0x11, Addr 0x1000) ∷ (0x12, Data4 16) ∷ []) ≡ Ok (Some (Contiguous (from_to 0x1000 0x1010)))
unfolding low_high last_value
constant = refl

index : low_high one_address ((0x12, DebugAddrIndex 0) ∷ (0x11, Addr 0x1000) ∷ []) ≡ Ok (Some (Contiguous (from_to 0x1000 0x3000)))
unfolding low_high last_value
index = refl

negative : low_high no_address ((0x11, Addr 0x1000) ∷ (0x12, Sdata (negsuc 0)) ∷ []) ≡ Ok (Some (Single 0x1000))
unfolding low_high last_value
negative = refl

alone : low_high one_address ((0x11, DebugAddrIndex 0) ∷ []) ≡ Ok (Some (Single 0x3000))
unfolding low_high last_value
alone = refl

-- of each name the last counts, and without a low address the high one isn't looked at
doubled : low_high no_address ((0x11, Addr 0x1000) ∷ (0x11, Data8 1) ∷ (0x12, DebugAddrIndex 0) ∷ []) ≡ Ok None
unfolding low_high last_value
doubled = refl

-- locations (02) that begin with an address (03), with an index (a1), and with another operation (30)
address : location_address no_address false five ((2, Exprloc (record { 0 = 3 ∷ 0 ∷ 0x10 ∷ 0x9f ∷ [] })) ∷ []) ≡ Ok (Some 0x1000)
unfolding location_address first_address last_value operation_at operation_read behind plain_of is_simple literals address_read number_read number_at bytes_at
address = refl

address_index : location_address one_address false five ((2, Exprloc (record { 0 = 0xa1 ∷ 0 ∷ [] })) ∷ []) ≡ Ok (Some 0x3000)
unfolding location_address first_address last_value operation_at operation_read behind plain_of is_simple literals uleb_read groups_at number_read number_at bytes_at
address_index = refl

other : location_address no_address false five ((2, Exprloc (record { 0 = 0x30 ∷ 3 ∷ 0 ∷ 0x10 ∷ [] })) ∷ []) ≡ Ok None
unfolding location_address first_address last_value operation_at operation_read behind plain_of number_read number_at bytes_at
other = refl

-- live ranges: one that overlaps, one that touches at each end, one within, one around, and what has no address
abbrev live : ℕ → ℕ → LiveRange
live m n = record { begin = m; end = n }

overlaps : meets (live 1 2 ∷ live 0x100f 0x1011 ∷ []) (from_to 0x1000 0x1010) ≡ true
overlaps = refl

touches : meets (live 0xf00 0x1000 ∷ live 0x1010 0x1020 ∷ []) (from_to 0x1000 0x1010) ≡ false
touches = refl

within : meets (live 0x1008 0x1009 ∷ []) (from_to 0x1000 0x1010) ≡ true
within = refl

around : meets (live 0 0xffff_ffff_ffff_ffff ∷ []) (from_to 0x1000 0x1010) ≡ true
around = refl

without : meets (live 0x1008 0x1008 ∷ live 0x100a 0x1002 ∷ []) (from_to 0x1000 0x1010) ≡ false
without = refl

empty : meets (live 0 0x2000 ∷ []) (from_to 0x1000 0x1000) ≡ false
empty = refl

-- the last address has a whole number behind it
last : meets (live 0 0xffff_ffff_ffff_ffff ∷ []) (from_to 0xffff_ffff_ffff_ffff 0x1_0000_0000_0000_0000) ≡ false
last = refl
