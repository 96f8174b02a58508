-- All ranges of an entry (DWARF 5, 2.17 and 2.6).
use Rattle.std.specs.Prelude.{ℕ, Bool, List, [], ◌∷◌, ◌++◌, Option, Some, None, Result, Ok, unwrap_or}
use Rattle.dw_read.specs.Reading.{Reading}
use Rattle.dw_read.specs.Reasons.{◌=>>◌}
use Rattle.dw_read.specs.Values.{Value}
use Rattle.dw_read.specs.declared.error.ReadError.{ReadError}
use Rattle.dw_read_units.specs.declared.unit_ref.UnitRef.{UnitRef}
use Rattle.dw_sources.specs.RawListIters.{encoding_in}
use Rattle.dw_entry_ranges.specs.Addresses.{indexed_address}
use Rattle.dw_entry_ranges.specs.Bounds.{low_high}
use Rattle.dw_entry_ranges.specs.Lists.{list_ranges}
use Rattle.dw_entry_ranges.specs.Locations.{location_address}
use Rattle.dw_entry_ranges.specs.Ranges.{range_of}
use Rattle.dw_entry_ranges.specs.declared.range.AddressRange.{AddressRange}
use Rattle.dw_entry_ranges.specs.declared.range.CodeAddresses.{CodeAddresses}
use Rattle.dw_entry_ranges.specs.declared.range.CodeAddresses.TheVariants.{Single}

abbrev pub ranges_of : Option CodeAddresses → List AddressRange
ranges_of None = []
ranges_of (Some c) = range_of c ∷ []

abbrev pub single : Option ℕ → Option CodeAddresses
single None = None
single (Some a) = Some (Single a)

-- the ranges of a list, then that of a low and a high address, then that of the address with which a location begins
abbrev pub gathered : Option (List AddressRange) → Option CodeAddresses → Option ℕ → List AddressRange
gathered listed code location = unwrap_or listed [] ++ ranges_of code ++ ranges_of (single location)

module _ {R E : Type 0} (reading : R → Reading) (u : UnitRef R E) (big : Bool) where
  -- those of its range list, of its low and high address, and of the address with which its location begins
  unfoldable pub entry_ranges : List (ℕ × Value) → Result (List AddressRange) ReadError
  entry_ranges xs =
      low_high (indexed_address reading u) xs =>> λ code. location_address (indexed_address reading u) big (encoding_in u) xs =>> λ location.
      list_ranges reading u xs =>> λ listed. Ok (gathered listed code location)
