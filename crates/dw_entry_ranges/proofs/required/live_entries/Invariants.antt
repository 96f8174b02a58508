use Rattle.std.proofs.Common.{length}
use Rattle.dw_read.specs.Reading.{left}
use Rattle.dw_entry_ranges.proofs.RequiredSteps.{UnitsSoFar}
use Rattle.dw_entry_ranges.proofs.required.live_entries.Given as goal

abbrev pub invariant-units : goal.invariant-units
invariant-units g l = UnitsSoFar g.R.Reader.reading l.dwarf l.live l.headers l.required.items

abbrev pub decreases-units : goal.decreases-units
decreases-units g l = length (left (g.R.Reader.reading l.headers.input))
