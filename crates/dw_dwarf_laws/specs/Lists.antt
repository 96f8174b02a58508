-- Range lists and location lists in which symbols have values.
use Rattle.std.specs.Prelude.{ℕ, List, map}
use Rattle.dw_lists.specs.declared.range.Range.{Range}
use Rattle.dw_lists.specs.declared.range.Range.TheVariants as ranges
use Rattle.dw_lists.specs.declared.location.Location.{Location}
use Rattle.dw_lists.specs.declared.location.Location.TheVariants as locations
use Rattle.dw_dwarf_laws.specs.Addresses.{numbered_address, numbered_expression}

-- where symbols have these values
module _ (symbols : List ℕ) where
  abbrev pub numbered_range : Range → Range
  numbered_range (ranges.BaseAddress a) = ranges.BaseAddress (numbered_address symbols a)
  numbered_range (ranges.OffsetPair m n) = ranges.OffsetPair m n
  numbered_range (ranges.StartEnd a b) = ranges.StartEnd (numbered_address symbols a) (numbered_address symbols b)
  numbered_range (ranges.StartLength a k) = ranges.StartLength (numbered_address symbols a) k

  abbrev pub numbered_location : Location → Location
  numbered_location (locations.BaseAddress a) = locations.BaseAddress (numbered_address symbols a)
  numbered_location (locations.OffsetPair m n x) = locations.OffsetPair m n (numbered_expression symbols x)
  numbered_location (locations.StartEnd a b x) = locations.StartEnd (numbered_address symbols a) (numbered_address symbols b) (numbered_expression symbols x)
  numbered_location (locations.StartLength a k x) = locations.StartLength (numbered_address symbols a) k (numbered_expression symbols x)
  numbered_location (locations.DefaultLocation x) = locations.DefaultLocation (numbered_expression symbols x)

  abbrev pub numbered_ranges : List (List Range) → List (List Range)
  numbered_ranges xs = map (map numbered_range) xs

  abbrev pub numbered_locations : List (List Location) → List (List Location)
  numbered_locations xs = map (map numbered_location) xs
