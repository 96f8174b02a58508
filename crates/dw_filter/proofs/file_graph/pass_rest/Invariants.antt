use Rattle.std.proofs.Common.{◌-◌, ◌^◌}
use Rattle.dw_filter.specs.Links.{StandsInUnit}
use Rattle.dw_filter.proofs.file_graph.pass_rest.Given as goal

abbrev pub invariant-rows : goal.invariant-rows
invariant-rows g l = StandsInUnit g.R.Reader.reading l.fn.unit.unit.now l.rows

abbrev pub decreases-rows : goal.decreases-rows
decreases-rows g l = 2 ^ 64 - l.rows.count
