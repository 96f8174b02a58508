-- Items of lists that were read, as the grammar has them.
use Rattle.std.specs.Prelude.{List, ℕ, Some, None}
use Rattle.dw_read.specs.Reading.{Reading, left}
use Rattle.dw_sources.specs.RawLists.{Span, Item, BaseAddress, BaseAddressx, AddressOrOffsetPair, StartxEndx, StartxLength, OffsetPair, StartEnd, StartLength, DefaultLocation}
use Rattle.dw_sources.specs.OperationViews.{IsWithin}
use Rattle.dw_sources.specs.declared.range_item.RawRngListEntry.{RawRngListEntry}
use Rattle.dw_sources.specs.declared.range_item.RawRngListEntry.TheVariants as range
use Rattle.dw_sources.specs.declared.location_item.RawLocListEntry.{RawLocListEntry}
use Rattle.dw_sources.specs.declared.location_item.RawLocListEntry.TheVariants as location
use Rattle.dw_sources.specs.declared.location_item.Before.{Before}
use Rattle.dw_sources.specs.declared.location_item.Before.TheVariants as before
use Rattle.dw_sources.specs.declared.location_item.Spot.{Spot}
use Rattle.dw_sources.specs.declared.location_item.Spot.TheVariants as spot

abbrev pub span_of : RawRngListEntry → Span
span_of (range.AddressOrOffsetPair m n) = AddressOrOffsetPair m n
span_of (range.BaseAddress n) = BaseAddress n
span_of (range.BaseAddressx n) = BaseAddressx n
span_of (range.StartxEndx m n) = StartxEndx m n
span_of (range.StartxLength m n) = StartxLength m n
span_of (range.OffsetPair m n) = OffsetPair m n
span_of (range.StartEnd m n) = StartEnd m n
span_of (range.StartLength m n) = StartLength m n

-- an item with the bytes of an expression, and one without
abbrev pub located_item : Span → List ℕ → Item
located_item s bytes = record { span = s; expression = Some bytes }

abbrev pub base_item : Span → Item
base_item s = record { span = s; expression = None }

abbrev pub location_of : {R E : Type 0} → (R → Reading) → RawLocListEntry R E → Item
location_of reading (location.AddressOrOffsetPair m n x) = located_item (AddressOrOffsetPair m n) (left (reading x.0))
location_of reading (location.BaseAddress n) = base_item (BaseAddress n)
location_of reading (location.BaseAddressx n) = base_item (BaseAddressx n)
location_of reading (location.StartxEndx m n x) = located_item (StartxEndx m n) (left (reading x.0))
location_of reading (location.StartxLength m n x) = located_item (StartxLength m n) (left (reading x.0))
location_of reading (location.OffsetPair m n x) = located_item (OffsetPair m n) (left (reading x.0))
location_of reading (location.DefaultLocation x) = located_item DefaultLocation (left (reading x.0))
location_of reading (location.StartEnd m n x) = located_item (StartEnd m n) (left (reading x.0))
location_of reading (location.StartLength m n x) = located_item (StartLength m n) (left (reading x.0))

-- the expression of an item is a part of what the item is read from
abbrev pub HoldsExpression : {R E : Type 0} → (R → Reading) → Reading → RawLocListEntry R E → Type 0
HoldsExpression reading old (location.AddressOrOffsetPair m n x) = IsWithin old (reading x.0)
HoldsExpression reading old (location.BaseAddress n) = Unit
HoldsExpression reading old (location.BaseAddressx n) = Unit
HoldsExpression reading old (location.StartxEndx m n x) = IsWithin old (reading x.0)
HoldsExpression reading old (location.StartxLength m n x) = IsWithin old (reading x.0)
HoldsExpression reading old (location.OffsetPair m n x) = IsWithin old (reading x.0)
HoldsExpression reading old (location.DefaultLocation x) = IsWithin old (reading x.0)
HoldsExpression reading old (location.StartEnd m n x) = IsWithin old (reading x.0)
HoldsExpression reading old (location.StartLength m n x) = IsWithin old (reading x.0)

-- what stands before an expression
abbrev pub spot_span : Spot → Span
spot_span (spot.Pair m n) = AddressOrOffsetPair m n
spot_span (spot.StartxEndx m n) = StartxEndx m n
spot_span (spot.StartxLength m n) = StartxLength m n
spot_span (spot.OffsetPair m n) = OffsetPair m n
spot_span spot.Default = DefaultLocation
spot_span (spot.StartEnd m n) = StartEnd m n
spot_span (spot.StartLength m n) = StartLength m n

abbrev pub before_span : Before → Span
before_span (before.Base n) = BaseAddress n
before_span (before.Basex n) = BaseAddressx n
before_span (before.Spot l) = spot_span l
