-- The bytes of strings that line programs name (DWARF 5, 6.2.4.1).
use Rattle.std.specs.Prelude.{ℕ, ◌<◌, List, length, Option, Some, slice_get}
use Rattle.dw_line.specs.declared.line_string.LineString.{LineString}
use Rattle.dw_line.specs.declared.line_string.LineString.TheVariants.{String, StringRef, LineStringRef}

module _ (line_strings strings : List (List ℕ)) where
  -- a string is there: in itself, or in its table
  abbrev pub IsThere : LineString → Type 0
  IsThere (String s) = Unit {0}
  IsThere (StringRef i) = i.0 < length strings
  IsThere (LineStringRef i) = i.0 < length line_strings

  abbrev pub bytes_of : LineString → Option (List ℕ)
  bytes_of (String s) = Some s
  bytes_of (StringRef i) = slice_get strings i.0
  bytes_of (LineStringRef i) = slice_get line_strings i.0
