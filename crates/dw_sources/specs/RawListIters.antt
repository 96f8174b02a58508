-- What iteration over the items of a list answers (DWARF 5, 7.25 to 7.29).
use Rattle.std.specs.Prelude.{◌≡◌, ℕ, ◌<◌, ◌==◌, true, false, Option, Some, None, Result, Ok, Err, if◌then◌else◌}
use Rattle.dw_base.specs.declared.common.Encoding.{Encoding}
use Rattle.dw_read.specs.Reading.{Reading, Passes, Reads, Refuses}
use Rattle.dw_read.specs.declared.error.ReadError.{ReadError}
use Rattle.dw_read_units.specs.declared.unit_ref.UnitRef.{UnitRef}
use Rattle.dw_sources.specs.RawLists.{Span, Item, range_at, range_read, location_at, location_read}
use Rattle.dw_sources.specs.RawListViews.{span_of, location_of, HoldsExpression}
use Rattle.dw_sources.specs.declared.range_item.RawRngListEntry.{RawRngListEntry}
use Rattle.dw_sources.specs.declared.location_item.RawLocListEntry.{RawLocListEntry}
use Rattle.dw_sources.specs.declared.raw_lists.RawRngListIter.{RawRngListIter}
use Rattle.dw_sources.specs.declared.raw_lists.RawLocListIter.{RawLocListIter}

-- how a unit's values are encoded
abbrev pub encoding_in : {R E : Type 0} → UnitRef R E → Encoding
encoding_in u = u.unit.now.header.fields.encoding

-- the section of a unit's range lists, and that of its location lists
abbrev pub ranges_section : {R E : Type 0} → (R → Reading) → UnitRef R E → Reading
ranges_section reading u =
    if (encoding_in u).version == 5 then reading u.dwarf.now.debug_rnglists else reading u.dwarf.now.debug_ranges

abbrev pub locations_section : {R E : Type 0} → (R → Reading) → UnitRef R E → Reading
locations_section reading u =
    if (encoding_in u).version == 5 then reading u.dwarf.now.debug_loclists else reading u.dwarf.now.debug_loc

module _ {R E : Type 0} (reading : R → Reading) where
  -- the items of the list at an offset, from the first on
  pub record BeginsRanges (u : UnitRef R E) (offset : ℕ) (i : RawRngListIter R E) : Type 0 where
    pub input : Passes offset (ranges_section reading u) (reading i.input)
    pub encoding : i.encoding ≡ encoding_in u
    pub not_ended : i.has_ended ≡ false

  pub record BeginsLocations (u : UnitRef R E) (offset : ℕ) (i : RawLocListIter R E) : Type 0 where
    pub input : Passes offset (locations_section reading u) (reading i.input)
    pub encoding : i.encoding ≡ encoding_in u
    pub not_ended : i.has_ended ≡ false

module _ {R E : Type 0} (reading : R → Reading) (old new : RawRngListIter R E) where
  -- the item at the place is what the grammar reads there, and is passed
  pub record PassesRange (x : RawRngListEntry) : Type 0 where
    pub went_on : (old.has_ended ≡ false) × (new.has_ended ≡ false)
    pub encoding : new.encoding ≡ old.encoding
    pub item : Reads (Option Span) (range_at (reading old.input).is_big old.encoding) (reading old.input) (reading new.input) (Some (span_of x))
    pub progress : (reading old.input).place < (reading new.input).place

  -- the list is closed at the place, or was before
  pub record ClosesRanges : Type 0 where
    pub ended : new.has_ended ≡ true
    pub again : old.has_ended ≡ true → new ≡ old
    pub is : old.has_ended ≡ false → Reads (Option Span) (range_at (reading old.input).is_big old.encoding) (reading old.input) (reading new.input) None

  -- the grammar reads no item at the place, for this reason, and iteration ends there
  pub record RefusesRange (e : ReadError) : Type 0 where
    pub not_ended : old.has_ended ≡ false
    pub kept : new ≡ record old { has_ended = true }
    pub refused : Refuses (Option Span) (range_at (reading old.input).is_big old.encoding) (range_read (reading old.input).is_big old.encoding) (reading old.input) e

  abbrev pub ReadsRange : Result (Option RawRngListEntry) ReadError → Type 0
  ReadsRange (Ok None) = ClosesRanges
  ReadsRange (Ok (Some x)) = PassesRange x
  ReadsRange (Err e) = RefusesRange e

module _ {R E : Type 0} (reading : R → Reading) (old new : RawLocListIter R E) where
  -- the same of location lists
  pub record PassesLocation (x : RawLocListEntry R E) : Type 0 where
    pub went_on : (old.has_ended ≡ false) × (new.has_ended ≡ false)
    pub encoding : new.encoding ≡ old.encoding
    pub item : Reads (Option Item) (location_at (reading old.input).is_big old.encoding) (reading old.input) (reading new.input) (Some (location_of reading x))
    pub part : HoldsExpression reading (reading old.input) x
    pub progress : (reading old.input).place < (reading new.input).place

  pub record ClosesLocations : Type 0 where
    pub ended : new.has_ended ≡ true
    pub again : old.has_ended ≡ true → new ≡ old
    pub is : old.has_ended ≡ false → Reads (Option Item) (location_at (reading old.input).is_big old.encoding) (reading old.input) (reading new.input) None

  pub record RefusesLocation (e : ReadError) : Type 0 where
    pub not_ended : old.has_ended ≡ false
    pub kept : new ≡ record old { has_ended = true }
    pub refused : Refuses (Option Item) (location_at (reading old.input).is_big old.encoding) (location_read (reading old.input).is_big old.encoding) (reading old.input) e

  abbrev pub ReadsLocation : Result (Option (RawLocListEntry R E)) ReadError → Type 0
  ReadsLocation (Ok None) = ClosesLocations
  ReadsLocation (Ok (Some x)) = PassesLocation x
  ReadsLocation (Err e) = RefusesLocation e
