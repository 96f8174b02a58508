use Rattle.std.proofs.Common.{length}
use Rattle.dw_read.specs.Reading.{left}
use Rattle.dw_entry_ids.proofs.UnitSteps.{Numbered}
use Rattle.dw_entry_ids.proofs.units.number_units.Given as goal

abbrev pub invariant-units : goal.invariant-units
invariant-units g l = Numbered g.R.Reader.reading l.dwarf l.headers l.units.items l.ids

abbrev pub decreases-units : goal.decreases-units
decreases-units g l = length (left (g.R.Reader.reading l.headers.input))
