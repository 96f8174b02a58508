-- What walks over units and rows read, from what the calls of a reader answer.
use Rattle.std.specs.Prelude.{◌≡◌, ℕ, ◌-◌, List, length, Option, Result}
use Rattle.dw_base.specs.Abbreviations.{Declaration}
use Rattle.dw_base.specs.Entries.{ReadEntry, Mark, Open, Null, Row}
use Rattle.dw_base.specs.Info.{ReadUnit, read_info}
use Rattle.dw_read.specs.Reading.{Reading, left}
use Rattle.dw_read.specs.Took.{Took}
use Rattle.dw_read.specs.Fields.{header_of}
use Rattle.dw_read.specs.UnitHeaders.{header_size}
use Rattle.dw_read.specs.Rows.{deeper, IsSameUnit, row_read}
use Rattle.dw_read.specs.declared.entries.EntriesRaw.{EntriesRaw}
use Rattle.dw_read.specs.declared.unit_header.UnitHeader.{UnitHeader}
use Rattle.dw_read.specs.declared.error.ReadError.{ReadError}
use Rattle.dw_read_units.specs.Walks.{rows_read, unit_read, units_in, units_read}
use Rattle.dw_read_units.specs.declared.dwarf.Dwarf.{Dwarf}

-- how many lists of children are open after a row
abbrev pub lists_after : Mark ReadEntry → ℕ → ℕ
lists_after (Open x) lists = deeper x.has_children lists
lists_after Null lists = lists - 1

-- the row at the place is read and passed
pub record PassesRow {R E : Type 0} (reading : R → Reading) (old new : EntriesRaw R E) (mark : Mark ReadEntry) : Type 0 where
  pub unit : IsSameUnit old new
  pub took : Took (Mark ReadEntry) (row_read reading old new) (reading old.input) (reading new.input) mark
  pub lists : new.open_lists ≡ lists_after mark old.open_lists

-- the rows of a unit, or the reason why one can't be read
abbrev pub rows_reading : {R E : Type 0} → (R → Reading) → UnitHeader R E → List Declaration → Result (List Row) ReadError
rows_reading reading h table =
    rows_read (length (left (reading h.body))) (reading h.body).is_big h.fields.encoding table (header_size reading h) 0 (left (reading h.body))

-- the unit of a header
abbrev pub unit_reading : {R E : Type 0} → (R → Reading) → Dwarf R E → UnitHeader R E → Result ReadUnit ReadError
unit_reading reading d h =
    unit_read (reading h.body).is_big (reading d.debug_abbrev) (reading d.debug_addr) h.offset.0 (header_of h.fields) (header_size reading h) (left (reading h.body))

-- the units of the sections, each with the table that its header names
abbrev pub units_there : {R E : Type 0} → (R → Reading) → Dwarf R E → Option (List ReadUnit)
units_there reading d =
    units_in (length (left (reading d.debug_info))) (reading d.debug_info).is_big (left (reading d.debug_abbrev)) (reading d.debug_info).place (left (reading d.debug_info))

-- the same with their roots' addresses, or the reason why one can't be read
abbrev pub units_reading : {R E : Type 0} → (R → Reading) → Dwarf R E → Result (List ReadUnit) ReadError
units_reading reading d =
    units_read (length (left (reading d.debug_info))) (reading d.debug_info).is_big (reading d.debug_abbrev) (reading d.debug_addr) (reading d.debug_info).place (left (reading d.debug_info))

-- the units of the sections where units and tables stand without a gap and each unit is one tree
abbrev pub info_there : {R E : Type 0} → (R → Reading) → Dwarf R E → Option (List ReadUnit)
info_there reading d = read_info (reading d.debug_info).is_big (left (reading d.debug_info)) (left (reading d.debug_abbrev))
