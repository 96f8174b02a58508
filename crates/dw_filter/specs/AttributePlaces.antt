-- The entries that attributes name (DWARF 5, 2.2 and 7.5.5): each by its value itself, by its expression, or by its location list.
use Rattle.std.specs.Prelude.{◌≡◌, ◌⊎◌, ℕ, Bool, false, List, [], ◌∷◌, ◌++◌, Option, Some, None}
use Rattle.dw_base.specs.Entries.{ReadAttribute}
use Rattle.dw_base.specs.declared.common.Encoding.{Encoding}
use Rattle.dw_base.specs.declared.offsets.UnitSectionOffset.{UnitSectionOffset}
use Rattle.dw_read.specs.Attributes.{attribute_of}
use Rattle.dw_read.specs.Orders.{attribute_order}
use Rattle.dw_read.specs.Reading.{Reading}
use Rattle.dw_read.specs.Values.{Value, named_value, raw_value_of}
use Rattle.dw_read.specs.declared.attribute.Attribute.{Attribute}
use Rattle.dw_read.specs.declared.error.ReadError.{ReadError}
use Rattle.dw_read.specs.declared.value.AttributeValue.TheVariants as read
use Rattle.dw_read_units.specs.Lookups.{FindsList, MissesList}
use Rattle.dw_read_units.specs.Units.{word_in}
use Rattle.dw_read_units.specs.declared.unit_ref.UnitRef.{UnitRef}
use Rattle.dw_sources.specs.ConvertErrors.{from_read}
use Rattle.dw_sources.specs.RawListIters.{encoding_in}
use Rattle.dw_sources.specs.declared.convert_error.ConvertError.{ConvertError}
use Rattle.dw_filter.specs.PlaceViews.{AddsFaultyList, AddsList, bounds_of, named_by_list}
use Rattle.dw_filter.specs.Places.{expression_places, if_any, place_in, section_place}

-- an attribute, with the encoding of its unit and the byte order of its bytes, where it has some
abbrev pub Seen : Type 0
Seen = Encoding × ReadAttribute × Option Bool

abbrev pub seen : {R E : Type 0} → (R → Reading) → Attribute R E → Seen
seen reading a = (a.encoding, attribute_of reading a, attribute_order reading a)

-- what has no bytes is no expression
abbrev pub order_or_little : Option Bool → Bool
order_or_little None = false
order_or_little (Some big) = big

module _ {R E : Type 0} (reading : R → Reading) (u : UnitRef R E) where
  -- the list of an index stands at this place
  abbrev pub StandsAtIndex : ℕ → ℕ → Type 0
  StandsAtIndex index place = FindsList (word_in u) u.unit.now.loclists_base index (reading u.dwarf.now.debug_loclists) place

  module _ (old new : List UnitSectionOffset) where
    -- the list of an index was found, and what it names added
    pub record AddsIndexed (index : ℕ) : Type 0 where
      pub place : ℕ
      pub found : StandsAtIndex index place
      pub adds : AddsList old new (named_by_list reading u place)

    -- the list of an index was found, and can't be read up to its close
    pub record AddsFaultyIndexed (index : ℕ) (e : ConvertError) : Type 0 where
      pub place : ℕ
      pub found : StandsAtIndex index place
      pub adds : AddsFaultyList old new (named_by_list reading u place) e

    -- no list is found by an index, for this reason
    pub record MissesIndexed (index : ℕ) (e : ConvertError) : Type 0 where
      pub error : ReadError
      pub misses : MissesList (word_in u) u.unit.now.loclists_base index (reading u.dwarf.now.debug_loclists) error
      pub is : e ≡ from_read error
      pub kept : new ≡ old

    -- what a value names, whose bytes are in this order, stands behind what was there
    abbrev pub AddsValue : Bool → Value → Type 0
    AddsValue big (read.UnitRef p) = new ≡ old ++ if_any (place_in (bounds_of reading u) p.0)
    AddsValue big (read.DebugInfoRef p) = new ≡ old ++ if_any (section_place p.0)
    AddsValue big (read.Exprloc x) = new ≡ old ++ expression_places (bounds_of reading u) big (encoding_in u) x.0
    AddsValue big (read.LocationListsRef p) = AddsList old new (named_by_list reading u p.0)
    AddsValue big (read.DebugLocListsIndex i) = AddsIndexed i
    AddsValue big v = new ≡ old

    -- a value's location list can't be found or read, for this reason
    abbrev pub RefusesValue : Value → ConvertError → Type 0
    RefusesValue (read.LocationListsRef p) e = AddsFaultyList old new (named_by_list reading u p.0) e
    RefusesValue (read.DebugLocListsIndex i) e = MissesIndexed i e ⊎ AddsFaultyIndexed i e
    RefusesValue v e = ⊥

    -- the same of an attribute
    abbrev pub AddsAttribute : Seen → Type 0
    AddsAttribute a = AddsValue (order_or_little a.2) (named_value a.1.name (raw_value_of a.0 a.1))

    abbrev pub RefusesAttribute : Seen → ConvertError → Type 0
    RefusesAttribute a e = RefusesValue (named_value a.1.name (raw_value_of a.0 a.1)) e

  -- what attributes name, one after the other, stands behind what was there
  abbrev pub AddsAttributes : List Seen → List UnitSectionOffset → List UnitSectionOffset → Type 0
  AddsAttributes [] old new = new ≡ old
  AddsAttributes (a ∷ attributes) old new = (mid : List UnitSectionOffset) × AddsAttribute old mid a × AddsAttributes attributes mid new

  -- one of them is refused, behind what those before it name
  pub record RefusesOne (attributes : List Seen) (old new : List UnitSectionOffset) (e : ConvertError) : Type 0 where
    pub front : List Seen
    pub attribute : Seen
    pub back : List Seen
    pub is : attributes ≡ front ++ attribute ∷ back
    pub mid : List UnitSectionOffset
    pub before : AddsAttributes front old mid
    pub refused : RefusesAttribute mid new attribute e
