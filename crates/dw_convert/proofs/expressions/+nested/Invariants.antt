use Rattle.std.proofs.Common.{◌+◌, ◌*◌, ◌-◌}
use Rattle.dw_expr.specs.Views.{nodes_in}
use Rattle.dw_convert.specs.Lookups.{addresses_in}
use Rattle.dw_convert.proofs.Nesting.{AreSoFar}
use Rattle.dw_convert.proofs.expressions.+nested.Given as goal

abbrev pub decreases-convert_within : goal.decreases-convert_within
decreases-convert_within g l = 2 * l.depth

abbrev pub decreases-convert_operation : goal.decreases-convert_operation
decreases-convert_operation g l = 2 * l.depth + 1

abbrev pub invariant-convert_within-steps : goal.invariant-convert_within-steps
invariant-convert_within-steps g l = AreSoFar _ _ g.R.Reader.reading (goal.F-post g l.convert_address) (addresses_in g.R.Reader.reading l.unit) (g.C.ConvertDebugInfoRef.entries l.refs) (g.C.ConvertDebugInfoRef.infos l.refs) (g.R.Reader.reading l.fn.expression.0) l.fn.encoding l.step-items (l.depth - 1) l.step-index (nodes_in l.operations.items)
