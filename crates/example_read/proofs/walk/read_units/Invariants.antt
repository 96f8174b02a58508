use Rattle.std.proofs.Common.{length}
use Rattle.dw_read.specs.Reading.{left}
use Rattle.example_read.proofs.UnitWalk.{Walked}
use Rattle.example_read.proofs.walk.read_units.Given as goal

abbrev pub invariant-units : goal.invariant-units
invariant-units g l = Walked g.R.Reader.reading l.dwarf l.headers l.units.items

abbrev pub decreases-units : goal.decreases-units
decreases-units g l = length (left (g.R.Reader.reading l.headers.input))
