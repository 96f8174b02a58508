-- What strings and lists become that values lead to (DWARF 5, 7.26 to 7.29).
use Rattle.std.specs.Prelude.{ℕ, List, Option, Result, Ok, Err}
use Rattle.dw_base.specs.declared.address.Address.{Address}
use Rattle.dw_base.specs.declared.address.DebugInfoRef.{DebugInfoRef}
use Rattle.dw_base.specs.declared.ids.UnitEntryId.{UnitEntryId}
use Rattle.dw_lists.specs.declared.location.Location.{Location}
use Rattle.dw_lists.specs.declared.range.Range.{Range}
use Rattle.dw_read.specs.Reading.{Reading}
use Rattle.dw_read_units.specs.declared.unit_ref.UnitRef.{UnitRef}
use Rattle.dw_sources.specs.declared.convert_error.ConvertError.{ConvertError}
use Rattle.dw_convert.specs.Images.{Image}
use Rattle.dw_convert.specs.LocationLists.{IsLocationList, RefusesLocationList}
use Rattle.dw_convert.specs.Outcomes.{After}
use Rattle.dw_convert.specs.RangeLists.{IsRangeList, RefusesRangeList}
use Rattle.dw_convert.specs.Sources.{string_in, line_string_in, string_of, ranges_of, locations_of}
use Rattle.dw_convert.specs.Values.{MadeOf}
use Rattle.dw_convert.specs.declared.image.Image.TheVariants as image

module _ {R E : Type 0} (reading : R → Reading) (u : UnitRef R E) where
  -- the string at an offset of .debug_str
  abbrev pub StringOutcome : ℕ → Result Image ConvertError → Type 0
  StringOutcome p r = MadeOf (string_in reading u p) image.String r

  -- the string at an offset of .debug_line_str
  abbrev pub LineStringOutcome : ℕ → Result Image ConvertError → Type 0
  LineStringOutcome p r = MadeOf (line_string_in reading u p) image.LineString r

  -- the string of an index
  abbrev pub IndexedStringOutcome : ℕ → Result Image ConvertError → Type 0
  IndexedStringOutcome i r = MadeOf (string_of reading u i) image.String r

-- an image that is a range list of some kind
abbrev pub HoldsRanges : (List Range → Type 0) → Image → Type 0
HoldsRanges P (image.Ranges xs) = P xs
HoldsRanges P i = ⊥

-- an image that is a location list of some kind
abbrev pub HoldsLocations : (List Location → Type 0) → Image → Type 0
HoldsLocations P (image.Locations xs) = P xs
HoldsLocations P i = ⊥

module _ {R E : Type 0} (reading : R → Reading) (answers : ℕ → Option Address → Type 0) (u : UnitRef R E) where
  -- the range list at a place
  abbrev pub RangesFound : ℕ → Result Image ConvertError → Type 0
  RangesFound p (Ok i) = HoldsRanges (IsRangeList reading answers u p) i
  RangesFound p (Err e) = RefusesRangeList reading answers u p e

  -- the range list of an index
  abbrev pub IndexedRangesFound : ℕ → Result Image ConvertError → Type 0
  IndexedRangesFound i r = After (ranges_of reading u i) RangesFound r

module _ {R E : Type 0} (reading : R → Reading) (answers : ℕ → Option Address → Type 0) (entries : ℕ → Option UnitEntryId) (infos : ℕ → Option DebugInfoRef) (u : UnitRef R E) where
  -- the location list at a place
  abbrev pub LocationsFound : ℕ → Result Image ConvertError → Type 0
  LocationsFound p (Ok i) = HoldsLocations (IsLocationList reading answers entries infos u p) i
  LocationsFound p (Err e) = RefusesLocationList reading answers entries infos u p e

  -- the location list of an index
  abbrev pub IndexedLocationsFound : ℕ → Result Image ConvertError → Type 0
  IndexedLocationsFound i r = After (locations_of reading u i) LocationsFound r
