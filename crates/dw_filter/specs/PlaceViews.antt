-- What units, expressions and lists that readers stand for name.
use Rattle.std.specs.Prelude.{◌≡◌, ℕ, List, [], ◌++◌, length, Option, Some, None}
use Rattle.dw_base.specs.declared.offsets.UnitSectionOffset.{UnitSectionOffset}
use Rattle.dw_read.specs.Reading.{Reading, left}
use Rattle.dw_read.specs.UnitHeaders.{header_size}
use Rattle.dw_read.specs.declared.error.ReadError.{ReadError}
use Rattle.dw_read.specs.declared.value.Expression.{Expression}
use Rattle.dw_read_units.specs.declared.unit_ref.UnitRef.{UnitRef}
use Rattle.dw_sources.specs.ConvertErrors.{from_read}
use Rattle.dw_sources.specs.RawListIters.{encoding_in, locations_section}
use Rattle.dw_sources.specs.declared.convert_error.ConvertError.{ConvertError}
use Rattle.dw_sources.specs.declared.location_item.RawLocListEntry.{RawLocListEntry}
use Rattle.dw_sources.specs.declared.location_item.RawLocListEntry.TheVariants as held
use Rattle.dw_sources.specs.declared.operation.Operation.{Operation as HeldOperation}
use Rattle.dw_sources.specs.declared.operation.Operation.TheVariants as operation
use Rattle.dw_filter.specs.Places.{UnitBounds, ListPlaces, expression_places, list_at}

-- where a unit lies in .debug_info
abbrev pub bounds_of : {R E : Type 0} → (R → Reading) → UnitRef R E → UnitBounds
bounds_of reading u = record {
  start = u.unit.now.header.offset.0;
  header = header_size reading u.unit.now.header;
  body = length (left (reading u.unit.now.header.body));
}

-- the places that an expression of a unit names
abbrev pub named_by : {R E : Type 0} → (R → Reading) → UnitRef R E → Expression R E → List UnitSectionOffset
named_by reading u x = expression_places (bounds_of reading u) (reading x.0).is_big (encoding_in u) (left (reading x.0))

-- the places that the location list at an offset names
abbrev pub named_by_list : {R E : Type 0} → (R → Reading) → UnitRef R E → ℕ → ListPlaces
named_by_list reading u offset =
    list_at (bounds_of reading u) (locations_section reading u).is_big (encoding_in u) offset (left (locations_section reading u))

-- the expression of an item; a base has none
abbrev pub held_expression : {R E : Type 0} → RawLocListEntry R E → Option (Expression R E)
held_expression (held.AddressOrOffsetPair m n x) = Some x
held_expression (held.BaseAddress n) = None
held_expression (held.BaseAddressx n) = None
held_expression (held.StartxEndx m n x) = Some x
held_expression (held.StartxLength m n x) = Some x
held_expression (held.OffsetPair m n x) = Some x
held_expression (held.DefaultLocation x) = Some x
held_expression (held.StartEnd m n x) = Some x
held_expression (held.StartLength m n x) = Some x

-- the places that the expression of an item names
abbrev pub named_by_item : {R E : Type 0} → (R → Reading) → UnitRef R E → Option (Expression R E) → List UnitSectionOffset
named_by_item reading u None = []
named_by_item reading u (Some x) = named_by reading u x

-- the list is read up to its close, and what it names stands behind what was there
pub record AddsList (old new : List UnitSectionOffset) (list : ListPlaces) : Type 0 where
  pub whole : list.fault ≡ None
  pub added : new ≡ old ++ list.places

-- the list can't be read up to its close, for this reason, and what it names before that stands behind what was there
pub record AddsFaultyList (old new : List UnitSectionOffset) (list : ListPlaces) (e : ConvertError) : Type 0 where
  pub error : ReadError
  pub fault : list.fault ≡ Some error
  pub added : new ≡ old ++ list.places
  pub is : e ≡ from_read error

-- the expression that stands within an operation
abbrev pub held_within : {R E : Type 0} → HeldOperation R E → Option (Expression R E)
held_within (operation.EntryValue x) = Some x
held_within o = None
