-- What a user sees of a file, and what the grammar has there.
use Rattle.std.specs.Prelude.{◌≡◌, ℕ, ◌-◌, List, map, Some, Ok, ℤ, Bool}
use Rattle.dw_base.specs.Abbreviations.{Declaration}
use Rattle.dw_base.specs.Headers.{Header}
use Rattle.dw_base.specs.Entries.{ReadAttribute, ReadEntry, Mark, Open, Null, Row as ReadRow}
use Rattle.dw_base.specs.Info.{ReadUnit}
use Rattle.dw_read.specs.Reading.{Reading}
use Rattle.dw_read.specs.Attributes.{attribute_of}
use Rattle.dw_read.specs.Fields.{header_of}
use Rattle.dw_read.specs.Rows.{shown_depth}
use Rattle.dw_read.specs.declared.entries.EntriesRaw.{EntriesRaw}
use Rattle.dw_read.specs.declared.unit_header.UnitHeader.{UnitHeader}
use Rattle.dw_read_units.specs.Passes.{rows_reading, unit_reading, units_there, PassesRow}
use Rattle.dw_read_units.specs.declared.dwarf.Dwarf.{Dwarf}
use Rattle.example_read.specs.declared.row.Row.{Row}
use Rattle.example_read.specs.declared.row.Row.TheVariants.{Entry as HeldEntry, Null as HeldNull}
use Rattle.example_read.specs.declared.row.UnitRows.{UnitRows}

-- an entry with its place in the unit and its depth
pub record SeenEntry : Type 0 where
  pub offset : ℕ
  pub depth : ℤ
  pub tag : ℕ
  pub has_children : Bool
  pub attributes : List ReadAttribute

-- a row: an entry, or a null entry at its place
pub data Seen : Type 0 where
  Entry : SeenEntry → Seen
  Closing : ℕ → Seen

pub record SeenUnit : Type 0 where
  pub from : ℕ
  pub header : Header
  pub table : List Declaration
  pub rows : List Seen

-- what a user sees of a mark that stands at a place and a depth
abbrev pub shown_mark : ℕ → ℕ → Mark ReadEntry → Seen
shown_mark from depth (Open x) =
    Entry (record { offset = from; depth = shown_depth depth; tag = x.tag; has_children = x.has_children; attributes = x.attributes })
shown_mark from depth Null = Closing from

abbrev pub shown_row : ReadRow → Seen
shown_row r = shown_mark r.from r.depth r.mark

abbrev pub shown_unit : ReadUnit → SeenUnit
shown_unit u = record { from = u.from; header = u.header; table = u.table; rows = map shown_row u.rows }

-- what a user holds
abbrev pub seen_row : {R E : Type 0} → (R → Reading) → Row R E → Seen
seen_row reading (HeldEntry d) =
    Entry (record { offset = d.offset.0; depth = d.depth; tag = d.tag.0; has_children = d.has_children; attributes = map (attribute_of reading) d.attrs.items })
seen_row reading (HeldNull offset) = Closing offset.0

abbrev pub seen_unit : {R E : Type 0} → (R → Reading) → UnitRows R E → SeenUnit
seen_unit reading u =
    record { from = u.unit.header.offset.0; header = header_of u.unit.header.fields; table = u.unit.abbreviations; rows = map (seen_row reading) u.rows.items }

-- the row at the place is read and passed
pub record SeesRow {R E : Type 0} (reading : R → Reading) (old new : EntriesRaw R E) (row : Row R E) : Type 0 where
  pub mark : Mark ReadEntry
  pub passes : PassesRow reading old new mark
  pub seen : seen_row reading row ≡ shown_mark ((reading old.input).place - old.start) old.open_lists mark

-- all rows of a unit
pub record SeesRows {R E : Type 0} (reading : R → Reading) (h : UnitHeader R E) (table : List Declaration) (rows : List (Row R E)) : Type 0 where
  pub all : List ReadRow
  pub is : rows_reading reading h table ≡ Ok all
  pub seen : map (seen_row reading) rows ≡ map shown_row all

pub record SeesUnit {R E : Type 0} (reading : R → Reading) (d : Dwarf R E) (h : UnitHeader R E) (u : UnitRows R E) : Type 0 where
  pub unit : ReadUnit
  pub is : unit_reading reading d h ≡ Ok unit
  pub seen : seen_unit reading u ≡ shown_unit unit

-- what a user holds are all units that the grammar reads, each with its table and its rows
abbrev pub AreSeen : {R E : Type 0} → (R → Reading) → List (UnitRows R E) → List ReadUnit → Type 0
AreSeen reading us units = map (seen_unit reading) us ≡ map shown_unit units

pub record SeesUnits {R E : Type 0} (reading : R → Reading) (d : Dwarf R E) (us : List (UnitRows R E)) : Type 0 where
  pub units : List ReadUnit
  pub is : units_there reading d ≡ Some units
  pub seen : AreSeen reading us units
