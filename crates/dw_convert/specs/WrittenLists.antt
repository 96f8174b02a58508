-- Lists that are converted, as the definition of written lists tells them: what is written is what is read (DWARF 4, 2.6.2 and 2.17.3;
-- DWARF 5, 2.6.2 and 2.17.3).
use Rattle.std.specs.Prelude.{◌≡◌, ℕ, Bool, true, false, List, map, Option, Some, None, Result}
use Rattle.dw_base.specs.declared.address.Address.{Address}
use Rattle.dw_base.specs.declared.address.DebugInfoRef.{DebugInfoRef}
use Rattle.dw_base.specs.declared.common.Encoding.{Encoding}
use Rattle.dw_base.specs.declared.ids.UnitEntryId.{UnitEntryId}
use Rattle.dw_lists.specs.Items.{items_at}
use Rattle.dw_lists.specs.Items as written
use Rattle.dw_lists.specs.declared.location.Location.{Location}
use Rattle.dw_lists.specs.declared.range.Range.{Range}
use Rattle.dw_read.specs.Reading.{Reading, left}
use Rattle.dw_read_units.specs.declared.unit_ref.UnitRef.{UnitRef}
use Rattle.dw_sources.specs.RawLists.{Span, Item, BaseAddress, BaseAddressx, AddressOrOffsetPair, StartxEndx, StartxLength, OffsetPair, StartEnd, StartLength, DefaultLocation}
use Rattle.dw_sources.specs.RawListIters.{encoding_in, ranges_section, locations_section}
use Rattle.dw_sources.specs.declared.convert_error.ConvertError.{ConvertError}
use Rattle.dw_convert.specs.Lists.{AreImages}
use Rattle.dw_convert.specs.LocationLists.{ItemOutcome}
use Rattle.dw_convert.specs.Locations.{is_base_item, kept_locations}
use Rattle.dw_convert.specs.Lookups.{address_of}
use Rattle.dw_convert.specs.RangeLists.{has_base}
use Rattle.dw_convert.specs.Ranges.{RangeOutcome, is_base, kept}

-- the same addresses among those of written items, where a pair is one in every version
abbrev pub written_span : Span → written.Span
written_span (BaseAddress n) = written.Base n
written_span (BaseAddressx i) = written.BaseIndex i
written_span (AddressOrOffsetPair m n) = written.Pair m n
written_span (StartxEndx i j) = written.IndexEnd i j
written_span (StartxLength i n) = written.IndexLength i n
written_span (OffsetPair m n) = written.Pair m n
written_span (StartEnd m n) = written.StartEnd m n
written_span (StartLength m n) = written.StartLength m n
written_span DefaultLocation = written.Default

abbrev pub written_range : Span → written.Item
written_range s = record { span = written_span s; expression = None }

abbrev pub written_location : Item → written.Item
written_location x = record { span = written_span x.span; expression = x.expression }

module _ {A B : Type 0} (Outcome : Bool → A → Result B ConvertError → Type 0) (is_base : A → Bool) (as_written : A → written.Item) where
  -- the items of the list at a place, as those of written lists are told, and what they become
  pub record AreWrittenImages (loc big : Bool) (e : Encoding) (base : Bool) (section : List ℕ) (place : ℕ) (images : List B) : Type 0 where
    pub items : List A
    pub read : items_at loc big e section place ≡ Some (map as_written items)
    pub are : AreImages Outcome is_base base items images

module _ {R E : Type 0} (reading : R → Reading) (answers : ℕ → Option Address → Type 0) (u : UnitRef R E) (offset : ℕ) where
  -- a range list, by what is told of written ones
  pub record IsWrittenRangeList (list : List Range) : Type 0 where
    pub images : List Range
    pub become : AreWrittenImages (RangeOutcome answers (address_of reading u)) is_base written_range false (ranges_section reading u).is_big (encoding_in u) (has_base u) (left (ranges_section reading u)) offset images
    pub is : list ≡ kept images

module _ {R E : Type 0} (reading : R → Reading) (answers : ℕ → Option Address → Type 0) (entries : ℕ → Option UnitEntryId) (infos : ℕ → Option DebugInfoRef) (u : UnitRef R E) (offset : ℕ) where
  -- a location list, by what is told of written ones
  pub record IsWrittenLocationList (list : List Location) : Type 0 where
    pub images : List Location
    pub become : AreWrittenImages (ItemOutcome reading answers entries infos u (locations_section reading u).is_big) is_base_item written_location true (locations_section reading u).is_big (encoding_in u) (has_base u) (left (locations_section reading u)) offset images
    pub is : list ≡ kept_locations images
