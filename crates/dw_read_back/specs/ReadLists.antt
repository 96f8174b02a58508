-- What is read of the whole lists of a unit, and that it is what the definition of written lists tells.
use Rattle.std.specs.Prelude.{◌≡◌, ◌⊎◌, ℕ, true, false, List, map, Option, Some, None}
use Rattle.dw_base.specs.Numbers.{Parser}
use Rattle.dw_read.specs.Reading.{Reading, left}
use Rattle.dw_read.specs.declared.error.ReadError.{ReadError}
use Rattle.dw_read.specs.declared.error.ReadError.TheVariants.{NoMemory}
use Rattle.dw_read_units.specs.Lookups.{bytes_from}
use Rattle.dw_read_units.specs.declared.unit_ref.UnitRef.{UnitRef}
use Rattle.dw_lists.specs.Items.{Item, items_at, is_five}
use Rattle.dw_sources.specs.RawLists.{range_at, location_at}
use Rattle.dw_sources.specs.RawListIters.{encoding_in, ranges_section, locations_section}
use Rattle.dw_sources.specs.RawListViews.{span_of, location_of}
use Rattle.dw_sources.specs.declared.range_item.RawRngListEntry.{RawRngListEntry}
use Rattle.dw_sources.specs.declared.location_item.RawLocListEntry.{RawLocListEntry}
use Rattle.dw_read_back.specs.Walks.{AreItems}
use Rattle.dw_read_back.specs.Views.{raw_range, raw_location}
use Rattle.dw_read_back.specs.Laws.{HasAddressSize}

-- these are all items up to a close
pub record AreRead {A : Type 0} (grammar : Parser (Option A)) (bytes : List ℕ) (ys : List A) : Type 0 where
  pub behind : List ℕ
  pub items : AreItems grammar bytes ys behind

-- these are the items that are told to be written, in the words of the reader
pub record AreTold {A : Type 0} (view : Item → A) (told : Option (List Item)) (ys : List A) : Type 0 where
  pub items : List Item
  pub is : told ≡ Some items
  pub same : map view items ≡ ys

module _ {R E : Type 0} (reading : R → Reading) (u : UnitRef R E) (offset : ℕ) where
  -- the items that the range list at an offset is told to have, and those of the location list
  abbrev pub ranges_told : Option (List Item)
  ranges_told = items_at false (ranges_section reading u).is_big (encoding_in u) (left (ranges_section reading u)) offset

  abbrev pub locations_told : Option (List Item)
  locations_told = items_at true (locations_section reading u).is_big (encoding_in u) (left (locations_section reading u)) offset

  -- the range list at an offset
  abbrev pub AreReadRanges : List RawRngListEntry → Type 0
  AreReadRanges entries = AreRead (range_at (ranges_section reading u).is_big (encoding_in u)) (bytes_from offset (ranges_section reading u)) (map span_of entries)

  abbrev pub AreToldRanges : List RawRngListEntry → Type 0
  AreToldRanges entries = HasAddressSize (encoding_in u) → AreTold (raw_range (is_five (encoding_in u))) ranges_told (map span_of entries)

  -- no range list is told to be there, or there was no memory
  abbrev pub MissesRanges : ReadError → Type 0
  MissesRanges e = (e ≡ NoMemory) ⊎ (HasAddressSize (encoding_in u) → ranges_told ≡ None)

  -- the location list at an offset
  abbrev pub AreReadLocations : List (RawLocListEntry R E) → Type 0
  AreReadLocations entries = AreRead (location_at (locations_section reading u).is_big (encoding_in u)) (bytes_from offset (locations_section reading u)) (map (location_of reading) entries)

  abbrev pub AreToldLocations : List (RawLocListEntry R E) → Type 0
  AreToldLocations entries = HasAddressSize (encoding_in u) → AreTold (raw_location (is_five (encoding_in u))) locations_told (map (location_of reading) entries)

  -- no location list is told to be there, or there was no memory
  abbrev pub MissesLocations : ReadError → Type 0
  MissesLocations e = (e ≡ NoMemory) ⊎ (HasAddressSize (encoding_in u) → locations_told ≡ None)
