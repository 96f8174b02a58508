use Rattle.std.proofs.Common.{length}
use Rattle.dw_read.specs.Reading.{left}
use Rattle.dw_convert.proofs.Stepping.{Stands}
use Rattle.dw_convert.proofs.listing.read_listing.Given as goal

abbrev pub invariant-operations : goal.invariant-operations
invariant-operations g l = Stands _ _ g.R.Reader.reading (g.R.Reader.reading l.fn.expression.0) l.encoding l.begin l.operations l.steps.items l.begins.items

abbrev pub decreases-operations : goal.decreases-operations
decreases-operations g l = length (left (g.R.Reader.reading l.operations.input))
