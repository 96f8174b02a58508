use Rattle.std.proofs.Common.{length}
use Rattle.dw_read.specs.Reading.{left}
use Rattle.dw_entry_ids.specs.FirstUnits.{AreUpTo}
use Rattle.dw_live_code.proofs.file_units.file_units.Given as goal

abbrev pub invariant-units : goal.invariant-units
invariant-units g l = AreUpTo g.R.Reader.reading l.dwarf l.units.items l.headers

abbrev pub decreases-units : goal.decreases-units
decreases-units g l = length (left (g.R.Reader.reading l.headers.input))
