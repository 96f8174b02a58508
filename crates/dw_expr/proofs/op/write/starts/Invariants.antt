use Rattle.dw_expr.specs.Places.{known_by}
use Rattle.dw_expr.proofs.Kept.{Found}
use Rattle.dw_expr.proofs.op.write.starts.Given as goal

abbrev pub invariant-loop-operation : goal.invariant-loop-operation
invariant-loop-operation g l = Found l.encoding (known_by g.P.EntryPlaces.places l.places) l.operations l.operation-index l.all.items l.at
