-- What items of range lists and of location lists have in common: a range, which only the default location has none of, and
-- an expression, which no item of a range list has and no base.
use Rattle.std.specs.Prelude.{ℕ, List, map, get_or, Option, Some, None}
use Rattle.dw_expr.specs.Trees.{Node}
use Rattle.dw_lists.specs.declared.range.Range.{Range}
use Rattle.dw_lists.specs.declared.range.Range.TheVariants as built
use Rattle.dw_lists.specs.declared.location.Location.{Location}
use Rattle.dw_lists.specs.declared.location.Location.TheVariants as located

pub record Part : Type 0 where
  pub range : Option Range
  pub expression : Option (List Node)

abbrev pub range_part : Range → Part
range_part r = record { range = Some r; expression = None }

abbrev pub location_part : Location → Part
location_part (located.BaseAddress a) = record { range = Some (built.BaseAddress a); expression = None }
location_part (located.OffsetPair m n x) = record { range = Some (built.OffsetPair m n); expression = Some x }
location_part (located.StartEnd a b x) = record { range = Some (built.StartEnd a b); expression = Some x }
location_part (located.StartLength a k x) = record { range = Some (built.StartLength a k); expression = Some x }
location_part (located.DefaultLocation x) = record { range = None; expression = Some x }

abbrev pub ranges_parts : List Range → List Part
ranges_parts rs = map range_part rs

abbrev pub locations_parts : List Location → List Part
locations_parts ls = map location_part ls

-- the part at an index that is there
abbrev pub part_at : List Part → ℕ → Part
part_at ps i = get_or ps i (record { range = None; expression = None })
