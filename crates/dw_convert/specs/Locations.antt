-- What the items of location lists become (DWARF 5, 2.6.2).
use Rattle.std.specs.Prelude.{◌≡◌, ℕ, ◌==◌, Bool, false, not, List, [], Option, Some, None, Result, Ok}
use Rattle.std.specs.List.{filter}
use Rattle.dw_base.specs.declared.address.Address.{Address}
use Rattle.dw_expr.specs.Trees.{Node}
use Rattle.dw_lists.specs.Equal.{address_eq}
use Rattle.dw_lists.specs.declared.location.Location.{Location}
use Rattle.dw_lists.specs.declared.location.Location.TheVariants as located
use Rattle.dw_lists.specs.declared.range.Range.{Range}
use Rattle.dw_lists.specs.declared.range.Range.TheVariants as built
use Rattle.dw_sources.specs.RawLists.{Span, Item, DefaultLocation}
use Rattle.dw_sources.specs.declared.convert_error.ConvertError.{ConvertError}
use Rattle.dw_convert.specs.Outcomes.{Then}
use Rattle.dw_convert.specs.Ranges.{RangeOutcome, is_base}

-- the item of a range with an expression; a base has none
abbrev pub location_at_range : Range → List Node → Location
location_at_range (built.BaseAddress a) x = located.BaseAddress a
location_at_range (built.OffsetPair m n) x = located.OffsetPair m n x
location_at_range (built.StartEnd a b) x = located.StartEnd a b x
location_at_range (built.StartLength a n) x = located.StartLength a n x

-- Expressions become what `Expression` says.
module _ (answers : ℕ → Option Address → Type 0) (addresses : ℕ → Result ℕ ConvertError) (Expression : List ℕ → Result (List Node) ConvertError → Type 0) where
  -- what becomes of addresses and of the expression that is for them
  abbrev pub SpotOutcome : Bool → Span → Option (List ℕ) → Result Location ConvertError → Type 0
  SpotOutcome base s None r = Then (RangeOutcome answers addresses base s) (λ range x. x ≡ Ok (location_at_range range [])) r
  SpotOutcome base DefaultLocation (Some bytes) r = Then (Expression bytes) (λ nodes x. x ≡ Ok (located.DefaultLocation nodes)) r
  SpotOutcome base s (Some bytes) r = Then (RangeOutcome answers addresses base s) (λ range. Then (Expression bytes) (λ nodes x. x ≡ Ok (location_at_range range nodes))) r

  -- the location that an item becomes, where a base is in force or none
  abbrev pub LocationOutcome : Bool → Item → Result Location ConvertError → Type 0
  LocationOutcome base item r = SpotOutcome base item.span item.expression r

-- from such an item on a base is in force
abbrev pub is_base_item : Item → Bool
is_base_item item = is_base item.span

-- a location for no address
abbrev pub is_nowhere : Location → Bool
is_nowhere (located.BaseAddress a) = false
is_nowhere (located.OffsetPair m n x) = m == n
is_nowhere (located.StartEnd a b x) = address_eq a b
is_nowhere (located.StartLength a n x) = n == 0
is_nowhere (located.DefaultLocation x) = false

abbrev pub kept_locations : List Location → List Location
kept_locations xs = filter (λ x. not (is_nowhere x)) xs
