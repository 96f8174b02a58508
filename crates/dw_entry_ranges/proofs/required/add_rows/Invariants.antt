use Rattle.std.proofs.Common.{length}
use Rattle.dw_read.specs.Reading.{left}
use Rattle.dw_entry_ranges.proofs.RequiredRowSteps.{SoFar}
use Rattle.dw_entry_ranges.proofs.required.add_rows.Given as goal

abbrev pub invariant-rows : goal.invariant-rows
invariant-rows g l = SoFar g.R.Reader.reading l.fn.unit l.live l.initial.required.items l.rows l.required.items

abbrev pub decreases-rows : goal.decreases-rows
decreases-rows g l = length (left (g.R.Reader.reading l.rows.input))
