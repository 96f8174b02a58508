-- The tables that strings and lists go into, each once.
use Rattle.std.specs.Prelude.{◌≡◌, ℕ, List, Some, slice_get}
use Rattle.dw_entries.specs.declared.value.AttributeValue.{AttributeValue}
use Rattle.dw_entries.specs.declared.value.AttributeValue.TheVariants as built
use Rattle.dw_lists.specs.Equal.{list_eq}
use Rattle.dw_lists.specs.EqualLocations.{locations_eq}
use Rattle.dw_lists.specs.Lists.{list_index, with_list}
use Rattle.dw_lists.specs.declared.location.Location.{Location}
use Rattle.dw_lists.specs.declared.range.Range.{Range}
use Rattle.dw_strings.specs.Strings.{string_index, with_string}
use Rattle.dw_convert.specs.Images.{Image}
use Rattle.dw_convert.specs.declared.image.Image.TheVariants.{Value, String, LineString, Ranges, Locations}

-- the strings of a file that is written, and the lists of one of its units
pub record Tables : Type 0 where
  pub strings : List (List ℕ)
  pub line_strings : List (List ℕ)
  pub ranges : List (List Range)
  pub locations : List (List Location)

abbrev pub tables : List (List ℕ) → List (List ℕ) → List (List Range) → List (List Location) → Tables
tables strings line_strings ranges locations = record { strings = strings; line_strings = line_strings; ranges = ranges; locations = locations }

-- the value that names what goes into a table, with the tables that have it: nothing else is added
abbrev pub stored : Tables → Image → AttributeValue × Tables
stored t (Value v) = (v, t)
stored t (String xs) = (built.StringRef (record { 0 = string_index t.strings xs }), record t { strings = with_string t.strings xs })
stored t (LineString xs) = (built.LineStringRef (record { 0 = string_index t.line_strings xs }), record t { line_strings = with_string t.line_strings xs })
stored t (Ranges xs) = (built.RangeListRef (record { 0 = list_index list_eq t.ranges xs }), record t { ranges = with_list list_eq t.ranges xs })
stored t (Locations xs) = (built.LocationListRef (record { 0 = list_index locations_eq t.locations xs }), record t { locations = with_list locations_eq t.locations xs })

-- a value names this string or list in tables, or is this value
abbrev pub Means : Tables → AttributeValue → Image → Type 0
Means t v (Value w) = v ≡ w
Means t (built.StringRef i) (String xs) = slice_get t.strings i.0 ≡ Some xs
Means t (built.LineStringRef i) (LineString xs) = slice_get t.line_strings i.0 ≡ Some xs
Means t (built.RangeListRef i) (Ranges xs) = slice_get t.ranges i.0 ≡ Some xs
Means t (built.LocationListRef i) (Locations xs) = slice_get t.locations i.0 ≡ Some xs
Means t v i = ⊥
