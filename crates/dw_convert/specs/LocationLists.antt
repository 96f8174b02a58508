-- What location lists become.
use Rattle.std.specs.Prelude.{◌≡◌, ◌⊎◌, ℕ, Bool, List, Option, Result}
use Rattle.dw_base.specs.declared.address.Address.{Address}
use Rattle.dw_base.specs.declared.address.DebugInfoRef.{DebugInfoRef}
use Rattle.dw_base.specs.declared.ids.UnitEntryId.{UnitEntryId}
use Rattle.dw_lists.specs.declared.location.Location.{Location}
use Rattle.dw_read.specs.Reading.{Reading}
use Rattle.dw_read_units.specs.Lookups.{bytes_from}
use Rattle.dw_read_units.specs.declared.unit_ref.UnitRef.{UnitRef}
use Rattle.dw_sources.specs.RawLists.{Item, location_at, location_read}
use Rattle.dw_sources.specs.RawListIters.{encoding_in, locations_section}
use Rattle.dw_sources.specs.declared.convert_error.ConvertError.{ConvertError}
use Rattle.dw_convert.specs.Expressions.{ExpressionOutcome}
use Rattle.dw_convert.specs.Lists.{Converted, Refused}
use Rattle.dw_convert.specs.Locations.{LocationOutcome, is_base_item, kept_locations}
use Rattle.dw_convert.specs.Lookups.{address_of}
use Rattle.dw_convert.specs.RangeLists.{IsPast, has_base}

module _ {R E : Type 0} (reading : R → Reading) (answers : ℕ → Option Address → Type 0) (entries : ℕ → Option UnitEntryId) (infos : ℕ → Option DebugInfoRef) (u : UnitRef R E) where
  -- what an item of the unit becomes, its expression being in this byte order
  abbrev pub ItemOutcome : Bool → Bool → Item → Result Location ConvertError → Type 0
  ItemOutcome big base item r = LocationOutcome answers (address_of reading u) (ExpressionOutcome answers (address_of reading u) entries infos big (encoding_in u)) base item r

module _ {R E : Type 0} (reading : R → Reading) (answers : ℕ → Option Address → Type 0) (entries : ℕ → Option UnitEntryId) (infos : ℕ → Option DebugInfoRef) (u : UnitRef R E) (offset : ℕ) where
  -- what the items at the offset become, but for those that are for no address
  pub record IsLocationList (list : List Location) : Type 0 where
    pub images : List Location
    pub converted : Converted (ItemOutcome reading answers entries infos u (locations_section reading u).is_big) is_base_item (location_at (locations_section reading u).is_big (encoding_in u)) (has_base u) (bytes_from offset (locations_section reading u)) images
    pub is : list ≡ kept_locations images

  -- no list is at the offset, or one of its items can't be read or becomes nothing
  abbrev pub RefusesLocationList : ConvertError → Type 0
  RefusesLocationList e = IsPast offset (locations_section reading u) e ⊎
      Refused (ItemOutcome reading answers entries infos u (locations_section reading u).is_big) is_base_item (location_at (locations_section reading u).is_big (encoding_in u)) (location_read (locations_section reading u).is_big (encoding_in u)) (has_base u) (bytes_from offset (locations_section reading u)) e
