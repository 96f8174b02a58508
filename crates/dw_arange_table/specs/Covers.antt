-- Which addresses the units of a file cover (DWARF 5, 2.17 and 6.1.2).
use Rattle.std.specs.Prelude.{◌≡◌, ◌⊎◌, ℕ, ◌-◌, ◌<◌, Bool, not, ◌&&◌, ◌==◌, nat_le, nat_lt, List, [], ◌∷◌, length, map, filter, Option, Some, None, Result, Ok, Err, IsTrue, IsFalse}
use Rattle.std.specs.List.{list_all, list_any, flat_map}
use Rattle.dw_base.specs.Numbers.{fits}
use Rattle.dw_base.specs.declared.common.Encoding.{Encoding}
use Rattle.dw_read.specs.Reading.{Reading, left}
use Rattle.dw_read.specs.Reasons.{◌=>>◌}
use Rattle.dw_read.specs.Headers.{header_read}
use Rattle.dw_read.specs.UnitHeaders.{IsHeaderRead}
use Rattle.dw_read.specs.Values.{Value}
use Rattle.dw_read.specs.declared.unit_header.UnitHeader.{UnitHeader}
use Rattle.dw_read.specs.declared.error.ReadError.{ReadError}
use Rattle.dw_read.specs.declared.error.ReadError.TheVariants.{NoMemory}
use Rattle.dw_read_units.specs.Roots.{named_of}
use Rattle.dw_read_units.specs.UnitReads.{IsUnit, MissesUnit}
use Rattle.dw_read_units.specs.declared.dwarf.Dwarf.{Dwarf}
use Rattle.dw_read_units.specs.declared.dwarf.Unit.{Unit as UnitFields}
use Rattle.dw_read_units.specs.declared.unit_ref.UnitRef.{UnitRef}
use Rattle.dw_sources.specs.declared.convert_error.ConvertError.{ConvertError}
use Rattle.dw_sources.specs.declared.convert_error.ConvertError.TheVariants as errors
use Rattle.dw_entry_ranges.specs.Addresses.{indexed_address}
use Rattle.dw_entry_ranges.specs.Bounds.{low_high}
use Rattle.dw_entry_ranges.specs.Lists.{list_ranges}
use Rattle.dw_entry_ranges.specs.declared.range.AddressRange.{AddressRange}
use Rattle.dw_entry_ranges.specs.declared.range.CodeAddresses.{CodeAddresses}
use Rattle.dw_entry_ranges.specs.declared.range.CodeAddresses.TheVariants.{Single, Contiguous}
use Rattle.dw_arange_table.specs.declared.range.RangeDescriptor.{RangeDescriptor}
use Rattle.dw_arange_table.specs.Sets.{RangeSet}
use Rattle.dw_arange_table.specs.Find.{units_at}

-- the addresses from a low one to a high one; a low one alone covers nothing
abbrev pub contiguous : Option CodeAddresses → List AddressRange
contiguous None = []
contiguous (Some (Single a)) = []
contiguous (Some (Contiguous r)) = r ∷ []

module _ {R E : Type 0} (reading : R → Reading) (u : UnitRef R E) (xs : List (ℕ × Value)) where
  -- the ranges of a list, or else those between two addresses
  abbrev pub listed_or : Option (List AddressRange) → Result (List AddressRange) ReadError
  listed_or (Some ranges) = Ok ranges
  listed_or None = low_high (indexed_address reading u) xs =>> λ code. Ok (contiguous code)

  -- What a unit covers whose root has these names and values: the ranges of its list, where it leads to one, and else the
  -- addresses from its low one to its high one.
  unfoldable pub covered : Result (List AddressRange) ReadError
  covered = list_ranges reading u xs =>> listed_or

-- the end isn't below the begin, and is an address of w bytes
abbrev pub is_addressed : ℕ → AddressRange → Bool
is_addressed w r = nat_le r.begin r.end && fits w r.end

abbrev pub descriptor_of : AddressRange → RangeDescriptor
descriptor_of r = record { address = r.begin; length = r.end - r.begin }

-- the descriptors of ranges, but for those of length 0
abbrev pub descriptors_of : List AddressRange → List RangeDescriptor
descriptors_of ranges = filter (λ d. not (d.length == 0)) (map descriptor_of ranges)

-- the set of a unit whose header stands at a place
abbrev pub unit_set : Encoding → ℕ → List AddressRange → RangeSet
unit_set e place ranges = record { format = e.format; address_size = e.address_size; unit = place; ranges = descriptors_of ranges }

-- a set, unless it has no range
abbrev pub set_if_any : RangeSet → List RangeSet
set_if_any s = unless_none s s.ranges where
  unless_none : RangeSet → List RangeDescriptor → List RangeSet
  unless_none s [] = []
  unless_none s (d ∷ ds) = s ∷ []

-- a unit with what it covers
pub record Covered (R E : Type 0) : Type 0 where
  pub header : UnitHeader R E
  pub ranges : List AddressRange

-- the sets of units that cover anything, in the order of units
abbrev pub sets_of : {R E : Type 0} → List (Covered R E) → List RangeSet
sets_of units = flat_map (λ c. set_if_any (unit_set c.header.fields.encoding c.header.offset.0 c.ranges)) units

-- a unit covers an address that isn't before the begin of one of its ranges, and is before its end
abbrev pub covers_address : {R E : Type 0} → ℕ → Covered R E → Bool
covers_address a c = list_any (λ r. nat_le r.begin a && nat_lt a r.end) c.ranges

-- the places of the units that cover an address, in the order of units
abbrev pub places_at : {R E : Type 0} → ℕ → List (Covered R E) → List ℕ
places_at a units = map (λ c. c.header.offset.0) (filter (covers_address a) units)

module _ {R E : Type 0} (reading : R → Reading) (d : Dwarf R E) where
  -- the unit of a header has a table and a root, and covers these ranges
  pub record CoversUnit (h : UnitHeader R E) (ranges : List AddressRange) : Type 0 where
    pub fields : UnitFields R E
    pub unit : IsUnit reading d h fields
    pub at : UnitRef R E
    pub file : at.dwarf.now ≡ d
    pub is : at.unit.now ≡ fields
    pub covers : covered reading at (map (named_of h.fields.encoding) unit.root.attributes) ≡ Ok ranges

  -- it has them, and what its root leads to can't be read, for this reason
  pub record MissesRanges (h : UnitHeader R E) (e : ReadError) : Type 0 where
    pub fields : UnitFields R E
    pub unit : IsUnit reading d h fields
    pub at : UnitRef R E
    pub file : at.dwarf.now ≡ d
    pub is : at.unit.now ≡ fields
    pub misses : covered reading at (map (named_of h.fields.encoding) unit.root.attributes) ≡ Err e

  -- the ranges that the unit at a place covers are addresses
  pub record CoversNext (old new : Reading) (c : Covered R E) : Type 0 where
    pub header : IsHeaderRead reading old new c.header
    pub unit : CoversUnit c.header c.ranges
    pub addressed : IsTrue (list_all (is_addressed c.header.fields.encoding.address_size) c.ranges)

  -- units one behind another, from a place to another
  abbrev pub CoversUnits : Reading → Reading → List (Covered R E) → Type 0
  CoversUnits old new [] = new ≡ old
  CoversUnits old new (c ∷ cs) = (next : Reading) × CoversNext old next c × CoversUnits next new cs

  -- .debug_info is read to its end, and the sets are those of its units: by them exactly the units are found that cover an address
  pub record CoversAll (table : List RangeSet) : Type 0 where
    pub units : List (Covered R E)
    pub end : Reading
    pub read : CoversUnits (reading d.debug_info) end units
    pub whole : length (left end) ≡ 0
    pub sets : table ≡ sets_of units
    pub found : (a : ℕ) → units_at a table ≡ places_at a units

  -- no header can be read at a place, for this reason
  abbrev pub MissesHeader : Reading → ReadError → Type 0
  MissesHeader at e = (0 < length (left at)) × (header_read at.is_big (left at) ≡ Err e)

  -- the unit there can't be read, or what its root leads to
  pub record MissesNext (at : Reading) (e : ReadError) : Type 0 where
    pub next : Reading
    pub header : UnitHeader R E
    pub read : IsHeaderRead reading at next header
    pub misses : MissesUnit reading d header e ⊎ MissesRanges header e

  -- a range of the unit there isn't one of addresses
  pub record PassesAddresses (at : Reading) : Type 0 where
    pub next : Reading
    pub covers : Covered R E
    pub read : IsHeaderRead reading at next covers.header
    pub unit : CoversUnit covers.header covers.ranges
    pub passes : IsFalse (list_all (is_addressed covers.header.fields.encoding.address_size) covers.ranges)

  -- why what the unit at a place covers isn't told; want of memory is one error, whichever call wants it
  abbrev pub FailsNext : Reading → ConvertError → Type 0
  FailsNext at (errors.Read NoMemory) = ⊥
  FailsNext at (errors.Read e) = MissesHeader at e ⊎ MissesNext at e
  FailsNext at errors.IntegerOverflow = PassesAddresses at
  FailsNext at errors.NoMemory = Unit {0}
  FailsNext at e = ⊥

  -- the first units are covered, and the one behind them is the reason
  pub record FailsAfter (e : ConvertError) : Type 0 where
    pub units : List (Covered R E)
    pub at : Reading
    pub read : CoversUnits (reading d.debug_info) at units
    pub why : FailsNext at e
