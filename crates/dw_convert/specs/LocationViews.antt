-- What calls inside the crate make of the items of location lists.
use Rattle.std.specs.Prelude.{Bool, false}
use Rattle.dw_read.specs.Reading.{Reading, left}
use Rattle.dw_sources.specs.RawLists.{Item, DefaultLocation}
use Rattle.dw_sources.specs.RawListViews.{span_of, located_item, base_item}
use Rattle.dw_sources.specs.declared.location_item.RawLocListEntry.{RawLocListEntry}
use Rattle.dw_sources.specs.declared.location_item.RawLocListEntry.TheVariants as held
use Rattle.dw_convert.specs.declared.location.Parts.{Parts}
use Rattle.dw_convert.specs.declared.location.Parts.TheVariants as parts

-- the byte order of an item's expression
abbrev pub item_order : {R E : Type 0} → (R → Reading) → RawLocListEntry R E → Bool
item_order reading (held.BaseAddress n) = false
item_order reading (held.BaseAddressx n) = false
item_order reading (held.AddressOrOffsetPair m n x) = (reading x.0).is_big
item_order reading (held.StartxEndx m n x) = (reading x.0).is_big
item_order reading (held.StartxLength m n x) = (reading x.0).is_big
item_order reading (held.OffsetPair m n x) = (reading x.0).is_big
item_order reading (held.DefaultLocation x) = (reading x.0).is_big
item_order reading (held.StartEnd m n x) = (reading x.0).is_big
item_order reading (held.StartLength m n x) = (reading x.0).is_big

-- the item that has these parts, and the byte order of its expression
abbrev pub item_in : {R E : Type 0} → (R → Reading) → Parts R E → Item
item_in reading (parts.Base s) = base_item (span_of s)
item_in reading (parts.Range s x) = located_item (span_of s) (left (reading x.0))
item_in reading (parts.Default x) = located_item DefaultLocation (left (reading x.0))

abbrev pub order_in : {R E : Type 0} → (R → Reading) → Parts R E → Bool
order_in reading (parts.Base s) = false
order_in reading (parts.Range s x) = (reading x.0).is_big
order_in reading (parts.Default x) = (reading x.0).is_big
