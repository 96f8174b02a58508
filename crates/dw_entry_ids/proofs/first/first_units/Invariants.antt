use Rattle.std.proofs.Common.{◌≤◌, length}
use Rattle.std.specs.Prelude.{vec_len}
use Rattle.dw_read.specs.Reading.{left}
use Rattle.dw_entry_ids.specs.FirstUnits.{AreUpTo}
use Rattle.dw_entry_ids.proofs.first.first_units.Given as goal

abbrev pub invariant-units : goal.invariant-units
invariant-units g l = AreUpTo g.R.Reader.reading l.dwarf l.units.items l.headers × (vec_len l.units ≤ l.count)

abbrev pub decreases-units : goal.decreases-units
decreases-units g l = length (left (g.R.Reader.reading l.headers.input))
