use Rattle.std.proofs.Common.{◌+◌, ◌-◌}
use Rattle.dw_filter.proofs.UnitReading.{SoFar}
use Rattle.dw_filter.proofs.file_graph.add_unit.Given as goal

abbrev pub invariant-rows : goal.invariant-rows
invariant-rows g l = SoFar g.R.Reader.reading l.fn.unit l.count l.fn.dependencies l.rows l.read.items l.dependencies

abbrev pub decreases-rows : goal.decreases-rows
decreases-rows g l = (l.count + 1) - l.rows.count
