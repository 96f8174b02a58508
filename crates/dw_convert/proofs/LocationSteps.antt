-- One step over the items of a location list.
use Rattle.std.proofs.Common.{◌≡◌, sym, subst, ℕ, Bool, false, List, Option, Some, None, Result, Ok, Err, refl}
use Rattle.dw_base.specs.declared.address.Address.{Address}
use Rattle.dw_base.specs.declared.address.DebugInfoRef.{DebugInfoRef}
use Rattle.dw_base.specs.declared.common.Encoding.{Encoding}
use Rattle.dw_base.specs.declared.ids.UnitEntryId.{UnitEntryId}
use Rattle.dw_expr.specs.Trees.{Node}
use Rattle.dw_lists.specs.declared.location.Location.{Location}
use Rattle.dw_lists.specs.declared.location.Location.TheVariants as located
use Rattle.dw_lists.specs.declared.range.Range.{Range}
use Rattle.dw_read.specs.Reading.{Reading, left}
use Rattle.dw_read.specs.declared.value.Expression.{Expression}
use Rattle.dw_read_units.specs.declared.unit_ref.UnitRef.{UnitRef}
use Rattle.dw_read.specs.declared.error.ReadError.{ReadError}
use Rattle.dw_sources.specs.RawLists.{Item, location_at, location_read}
use Rattle.dw_sources.specs.RawListViews.{span_of, location_of, HoldsExpression}
use Rattle.dw_sources.specs.RawListIters.{encoding_in, PassesLocation, ClosesLocations, RefusesLocation, ReadsLocation}
use Rattle.dw_sources.specs.declared.convert_error.ConvertError.{ConvertError}
use Rattle.dw_sources.specs.declared.location_item.RawLocListEntry.{RawLocListEntry}
use Rattle.dw_sources.specs.declared.location_item.RawLocListEntry.TheVariants as held
use Rattle.dw_sources.specs.declared.range_item.RawRngListEntry.{RawRngListEntry}
use Rattle.dw_sources.specs.declared.range_item.RawRngListEntry.TheVariants as range
use Rattle.dw_sources.specs.declared.raw_lists.RawLocListIter.{RawLocListIter}
use Rattle.dw_convert.specs.Expressions.{ExpressionOutcome}
use Rattle.dw_convert.specs.LocationLists.{ItemOutcome}
use Rattle.dw_convert.specs.LocationViews.{item_order, item_in, order_in}
use Rattle.dw_convert.specs.Locations.{SpotOutcome, location_at_range}
use Rattle.dw_convert.specs.Lookups.{address_of}
use Rattle.dw_convert.specs.Outcomes.{Then}
use Rattle.dw_convert.specs.Ranges.{RangeOutcome}
use Rattle.dw_convert.specs.declared.location.Parts.{Parts}
use Rattle.dw_convert.specs.declared.location.Parts.TheVariants as parts

module _ (R E : Type 0) (reading : R → Reading) (old new : RawLocListIter R E) where
  pub passes : (o : Option (RawLocListEntry R E)) (x : RawLocListEntry R E) → ReadsLocation reading old new (Ok o) → o ≡ Some x → PassesLocation reading old new x
  passes o x h e = subst (λ p. ReadsLocation reading old new (Ok p)) e h

  pub closes : (o : Option (RawLocListEntry R E)) → ReadsLocation reading old new (Ok o) → o ≡ None → ClosesLocations reading old new
  closes o h e = subst (λ p. ReadsLocation reading old new (Ok p)) e h

  -- what is read, by the order and the encoding of the list
  pub read_here : (big : Bool) (e : Encoding) (x : RawLocListEntry R E) → (reading old.input).is_big ≡ big → old.encoding ≡ e → PassesLocation reading old new x
      → location_at big e (left (reading old.input)) ≡ Some (Some (location_of reading x), left (reading new.input))
  read_here big e x b n h = subst (λ (y : Encoding). location_at big y (left (reading old.input)) ≡ Some (Some (location_of reading x), left (reading new.input))) n
      (subst (λ (y : Bool). location_at y old.encoding (left (reading old.input)) ≡ Some (Some (location_of reading x), left (reading new.input))) b h.item.value)

  pub closed_here : (big : Bool) (e : Encoding) → (reading old.input).is_big ≡ big → old.encoding ≡ e → old.has_ended ≡ false → ClosesLocations reading old new
      → location_at big e (left (reading old.input)) ≡ Some (None, left (reading new.input))
  closed_here big e b n o h = subst (λ (y : Encoding). location_at big y (left (reading old.input)) ≡ Some (None, left (reading new.input))) n
      (subst (λ (y : Bool). location_at y old.encoding (left (reading old.input)) ≡ Some (None, left (reading new.input))) b (h.is o).value)

  pub refused_here : (big : Bool) (e : Encoding) (r : ReadError) → (reading old.input).is_big ≡ big → old.encoding ≡ e → RefusesLocation reading old new r
      → location_read big e (left (reading old.input)) ≡ Err r
  refused_here big e r b n h = subst (λ (y : Encoding). location_read big y (left (reading old.input)) ≡ Err r) n
      (subst (λ (y : Bool). location_read y old.encoding (left (reading old.input)) ≡ Err r) b h.refused.reason)

module _ (R E : Type 0) (reading : R → Reading) (answers : ℕ → Option Address → Type 0) (entries : ℕ → Option UnitEntryId) (infos : ℕ → Option DebugInfoRef) (u : UnitRef R E) (base : Bool) (y : Result Location ConvertError) where
  -- what an item becomes, its expression being read in an order
  abbrev pub Becomes : Bool → RawLocListEntry R E → Type 0
  Becomes big x = ItemOutcome reading answers entries infos u big base (location_of reading x) y

  -- the expression of an item has the order of the list
  pub reordered : (old : Reading) (x : RawLocListEntry R E) → HoldsExpression reading old x → Becomes (item_order reading x) x → Becomes old.is_big x
  reordered old (held.BaseAddress n) h k = k
  reordered old (held.BaseAddressx n) h k = k
  reordered old (held.AddressOrOffsetPair m n x) h k = subst (λ (b : Bool). Becomes b (held.AddressOrOffsetPair m n x)) h.order k
  reordered old (held.StartxEndx m n x) h k = subst (λ (b : Bool). Becomes b (held.StartxEndx m n x)) h.order k
  reordered old (held.StartxLength m n x) h k = subst (λ (b : Bool). Becomes b (held.StartxLength m n x)) h.order k
  reordered old (held.OffsetPair m n x) h k = subst (λ (b : Bool). Becomes b (held.OffsetPair m n x)) h.order k
  reordered old (held.DefaultLocation x) h k = subst (λ (b : Bool). Becomes b (held.DefaultLocation x)) h.order k
  reordered old (held.StartEnd m n x) h k = subst (λ (b : Bool). Becomes b (held.StartEnd m n x)) h.order k
  reordered old (held.StartLength m n x) h k = subst (λ (b : Bool). Becomes b (held.StartLength m n x)) h.order k

  -- the same of its parts
  pub from_parts : (old : Reading) (big : Bool) (x : RawLocListEntry R E) (p : Parts R E) → item_in reading p ≡ location_of reading x → order_in reading p ≡ item_order reading x → old.is_big ≡ big → HoldsExpression reading old x
      → ItemOutcome reading answers entries infos u (order_in reading p) base (item_in reading p) y → Becomes big x
  from_parts old big x p i o b h k =
      let one : ItemOutcome reading answers entries infos u (order_in reading p) base (location_of reading x) y = subst (λ (t : Item). ItemOutcome reading answers entries infos u (order_in reading p) base t y) i k in
      subst (λ (z : Bool). Becomes z x) b (reordered old x h (subst (λ (z : Bool). Becomes z x) o one))

-- an item with an expression that isn't the default location
pub ranged : (answers : ℕ → Option Address → Type 0) (addresses : ℕ → Result ℕ ConvertError) (Expression : List ℕ → Result (List Node) ConvertError → Type 0) (base : Bool) (s : RawRngListEntry) (bytes : List ℕ) (r : Result Location ConvertError)
    → Then (RangeOutcome answers addresses base (span_of s)) (λ range. Then (Expression bytes) (λ nodes x. x ≡ Ok (location_at_range range nodes))) r → SpotOutcome answers addresses Expression base (span_of s) (Some bytes) r
ranged answers addresses Expression base (range.BaseAddress n) bytes r h = h
ranged answers addresses Expression base s bytes r h = h

module _ (R E : Type 0) (reading : R → Reading) (answers : ℕ → Option Address → Type 0) (entries : ℕ → Option UnitEntryId) (infos : ℕ → Option DebugInfoRef) (u : UnitRef R E) (base : Bool) (p : Parts R E) (x : Expression R E) (e : Encoding) (same : e ≡ encoding_in u) where
  -- what the expression becomes
  abbrev pub Inner : Encoding → Result (List Node) ConvertError → Type 0
  Inner y r = ExpressionOutcome answers (address_of reading u) entries infos (reading x.0).is_big y (left (reading x.0)) r

  -- what the item becomes
  abbrev pub Whole : Parts R E → Result Location ConvertError → Type 0
  Whole q r = ItemOutcome reading answers entries infos u (order_in reading q) base (item_in reading q) r

  here : (r : Result (List Node) ConvertError) → Inner e r → Inner (encoding_in u) r
  here r k = subst (λ (y : Encoding). Inner y r) same k

  -- an item of which the range and the expression became something
  pub range_converted : (s : RawRngListEntry) (range : Range) (nodes : List Node) → p ≡ parts.Range s x → RangeOutcome answers (address_of reading u) base (span_of s) (Ok range) → Inner e (Ok nodes)
      → Whole p (Ok (location_at_range range nodes))
  range_converted s range nodes is h k =
      subst (λ (q : Parts R E). Whole q (Ok (location_at_range range nodes))) (sym is)
      (ranged answers (address_of reading u) (ExpressionOutcome answers (address_of reading u) entries infos (reading x.0).is_big (encoding_in u)) base s (left (reading x.0)) (Ok (location_at_range range nodes)) (Ok range, h, (Ok nodes, here (Ok nodes) k, refl)))

  pub range_refused : (s : RawRngListEntry) (range : Range) (why : ConvertError) → p ≡ parts.Range s x → RangeOutcome answers (address_of reading u) base (span_of s) (Ok range) → Inner e (Err why)
      → Whole p (Err why)
  range_refused s range why is h k =
      subst (λ (q : Parts R E). Whole q (Err why)) (sym is)
      (ranged answers (address_of reading u) (ExpressionOutcome answers (address_of reading u) entries infos (reading x.0).is_big (encoding_in u)) base s (left (reading x.0)) (Err why) (Ok range, h, (Err why, here (Err why) k, refl)))

  pub default_converted : (nodes : List Node) → p ≡ parts.Default x → Inner e (Ok nodes)
      → Whole p (Ok (located.DefaultLocation nodes))
  default_converted nodes is k =
      subst (λ (q : Parts R E). Whole q (Ok (located.DefaultLocation nodes))) (sym is) (Ok nodes, here (Ok nodes) k, refl)

  pub default_refused : (why : ConvertError) → p ≡ parts.Default x → Inner e (Err why)
      → Whole p (Err why)
  default_refused why is k =
      subst (λ (q : Parts R E). Whole q (Err why)) (sym is) (Err why, here (Err why) k, refl)
