-- The entries of the units of a file that were read, where they lead, and which of them are kept.
use Rattle.std.specs.Prelude.{◌≡◌, ℕ, Bool, List, [], slice_get, map, filter, not, Option, Some, None, Ok, Err}
use Rattle.std.specs.Option.{unwrap_or}
use Rattle.std.specs.List.{Contains}
use Rattle.dw_base.specs.Entries.{ReadEntry, Row}
use Rattle.dw_base.specs.Forms.{Operand, Bytes, Text}
use Rattle.dw_base.specs.declared.common.Encoding.{Encoding}
use Rattle.dw_base.specs.declared.offsets.UnitSectionOffset.{UnitSectionOffset}
use Rattle.dw_read.specs.Reading.{Reading}
use Rattle.dw_read.specs.declared.error.ReadError.{ReadError}
use Rattle.dw_read_units.specs.Passes.{rows_reading}
use Rattle.dw_read_units.specs.declared.dwarf.Dwarf.{Dwarf}
use Rattle.dw_read_units.specs.declared.dwarf.Unit.{Unit as UnitFields}
use Rattle.dw_read_units.specs.declared.unit_ref.UnitRef.{UnitRef}
use Rattle.dw_entry_ids.specs.KeptRows.{IsClosed}
use Rattle.dw_sources.specs.ConvertErrors.{from_read}
use Rattle.dw_sources.specs.Dropped.{is_left_out}
use Rattle.dw_sources.specs.declared.convert_error.ConvertError.{ConvertError}
use Rattle.dw_filter.specs.AttributePlaces.{AddsAttributes, RefusesOne, Seen}
use Rattle.dw_filter.specs.Kept.{IsKept, IsLeastClosed}
use Rattle.dw_filter.specs.UnitGraph.{Placed, placed_in, IsRead, IsKnown, HasEdge}

-- the byte order of an operand, where it has bytes
abbrev pub order_in : Bool → Operand → Option Bool
order_in big (Bytes xs) = Some big
order_in big (Text xs) = Some big
order_in big o = None

-- the attributes of an entry, without those that conversions leave out, such as a sibling
abbrev pub counting : Encoding → Bool → ReadEntry → List Seen
counting e big x = map (λ a. (e, a, order_in big a.operand)) (filter (λ a. not (is_left_out a.name)) x.attributes)

-- how many entries behind the root were read of a unit
abbrev pub count_at : List ℕ → ℕ → ℕ
count_at counts i = unwrap_or (slice_get counts i) 0

module _ {R E : Type 0} (reading : R → Reading) where
  -- the rows of a unit can't be read, for this reason
  pub record CannotRead (u : UnitFields R E) (e : ConvertError) : Type 0 where
    pub reason : ReadError
    pub read : rows_reading reading u.header u.abbreviations ≡ Err reason
    pub is : e ≡ from_read reason

  -- unit i, and its rows
  pub record HasUnit (units : List (UnitFields R E)) (i : ℕ) : Type 0 where
    pub unit : UnitFields R E
    pub stands : slice_get units i ≡ Some unit
    pub rows : List Row
    pub are : rows_reading reading unit.header unit.abbreviations ≡ Ok rows

  -- among the entries of a unit's rows, with one its own parent is kept, unless that is the root
  abbrev pub IsClosedIn : (ℕ → Bool) → UnitFields R E → Type 0
  IsClosedIn keep u = (rows : List Row) → rows_reading reading u.header u.abbreviations ≡ Ok rows → IsClosed keep u.header.offset.0 rows

  -- an entry that was read begins at q
  abbrev pub KnownIn : List (UnitFields R E) → List ℕ → UnitSectionOffset → Type 0
  KnownIn units counts q = (i : ℕ) × (u : HasUnit units i) × IsKnown (placed_in u.unit.header.offset.0 u.rows) (count_at counts i) q

  -- the rows of one of the units can't be read, for this reason
  pub record MissesRows (units : List (UnitFields R E)) (e : ConvertError) : Type 0 where
    pub index : ℕ
    pub unit : UnitFields R E
    pub stands : slice_get units index ≡ Some unit
    pub cannot : CannotRead unit e

module _ {R E : Type 0} (reading : R → Reading) (d : Dwarf R E) where
  -- a unit, in its file
  pub record IsOf (u : UnitFields R E) (read : UnitRef R E) : Type 0 where
    pub file : read.dwarf.now ≡ d
    pub unit : read.unit.now ≡ u

  abbrev pub counting_in : UnitFields R E → ReadEntry → List Seen
  counting_in u x = counting u.header.fields.encoding (reading u.header.body).is_big x

  -- the attributes of an entry of a unit name q
  pub record Names (u : UnitFields R E) (x : ReadEntry) (q : UnitSectionOffset) : Type 0 where
    pub read : UnitRef R E
    pub of : IsOf u read
    pub places : List UnitSectionOffset
    pub adds : AddsAttributes reading read (counting_in u x) [] places
    pub is : Contains places q

  -- it can be told what they name
  pub record CanName (u : UnitFields R E) (x : ReadEntry) : Type 0 where
    pub read : UnitRef R E
    pub of : IsOf u read
    pub places : List UnitSectionOffset
    pub adds : AddsAttributes reading read (counting_in u x) [] places

  -- the location list of one of them can't be found or read, for this reason
  pub record CannotName (u : UnitFields R E) (x : ReadEntry) (e : ConvertError) : Type 0 where
    pub read : UnitRef R E
    pub of : IsOf u read
    pub places : List UnitSectionOffset
    pub refuses : RefusesOne reading read (counting_in u x) [] places e

  -- that is so of one of the first so many entries behind the root
  pub record RefusesEntry (u : UnitFields R E) (rows : List Row) (count : ℕ) (e : ConvertError) : Type 0 where
    pub number : ℕ
    pub entry : Placed
    pub counted : IsRead (placed_in u.header.offset.0 rows) count number entry
    pub cannot : CannotName u entry.0.entry e

  module _ (units : List (UnitFields R E)) (counts : List ℕ) where
    -- an entry that was read leads from p to q, or its parent does
    abbrev pub LeadsIn : UnitSectionOffset → UnitSectionOffset → Type 0
    LeadsIn p q = (i : ℕ) × (u : HasUnit reading units i) × HasEdge (placed_in u.unit.header.offset.0 u.rows) (Names u.unit) (count_at counts i) p q

    -- q is kept, where these are required
    abbrev pub KeptIn : List UnitSectionOffset → UnitSectionOffset → Type 0
    KeptIn required = IsKept (KnownIn reading units counts) LeadsIn (Contains required)

    -- these are the least set with the required entries that were read which is closed along edges
    abbrev pub IsLeastKeptIn : List UnitSectionOffset → List UnitSectionOffset → Type 0
    IsLeastKeptIn required kept = IsLeastClosed (KnownIn reading units counts) LeadsIn (Contains required) (Contains kept)

    -- the rows of all units can be read, and it can be told what the entries that were read name
    pub record IsWhole : Type 0 where
      pub rows : (i : ℕ) (u : UnitFields R E) → slice_get units i ≡ Some u → HasUnit reading units i
      pub names : (i : ℕ) (u : HasUnit reading units i) (n : ℕ) (x : Placed) → IsRead (placed_in u.unit.header.offset.0 u.rows) (count_at counts i) n x → CanName u.unit x.0.entry

    -- the location list of an entry that was read can't be found or read, for this reason
    pub record MissesPlaces (e : ConvertError) : Type 0 where
      pub index : ℕ
      pub unit : HasUnit reading units index
      pub refuses : RefusesEntry unit.unit unit.rows (count_at counts index) e
