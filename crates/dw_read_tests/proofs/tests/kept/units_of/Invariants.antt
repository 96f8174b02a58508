use Rattle.std.proofs.Common.{◌≤◌, All, length}
use Rattle.dw_read.specs.Reading.{left}
use Rattle.dw_read_tests.proofs.tests.kept.units_of.Given as goal

abbrev pub invariant-units : goal.invariant-units
invariant-units g l = All (λ u. u.header.offset.0 ≤ (g.R.Reader.reading u.header.body).place) l.units.items

abbrev pub decreases-units : goal.decreases-units
decreases-units g l = length (left (g.R.Reader.reading l.headers.input))
