use Rattle.std.proofs.Common.{length}
use Rattle.dw_read.specs.Reading.{left}
use Rattle.dw_arange_table.proofs.UnitSteps.{CoveredSoFar}
use Rattle.dw_arange_table.proofs.units.unit_sets.Given as goal

abbrev pub invariant-units : goal.invariant-units
invariant-units g l = CoveredSoFar g.R.Reader.reading l.dwarf l.headers l.sets.items

abbrev pub decreases-units : goal.decreases-units
decreases-units g l = length (left (g.R.Reader.reading l.headers.input))
