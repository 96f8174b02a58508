use Rattle.std.proofs.Common.{◌≡◌, List, Option, length, false}
use Rattle.dw_base.specs.Entries.{Row}
use Rattle.dw_read.specs.Reading.{left}
use Rattle.dw_read.specs.declared.error.ReadError.{ReadError}
use Rattle.dw_read_units.specs.declared.dwarf.Unit.{Unit as UnitFields}
use Rattle.dw_entry_ids.specs.AnyUnit.{StandsAmong}
use Rattle.dw_entry_ids.proofs.Cursor.{PassedNulls}
use Rattle.dw_entry_ids.proofs.unit_rows.UnitRows.next.Given as goal

abbrev pub invariant-rows : goal.invariant-rows
invariant-rows g l =
    ((u : UnitFields g.row.R.Denot g.row.R-Endian.Denot) (front rest : List Row) (fault : Option ReadError) → StandsAmong g.R.Reader.reading u l.initial.self front rest fault → PassedNulls g.R.Reader.reading u l.self front rest fault)
    × (l.self.is_ended ≡ false)

abbrev pub decreases-rows : goal.decreases-rows
decreases-rows g l = length (left (g.R.Reader.reading l.self.rows.input))
