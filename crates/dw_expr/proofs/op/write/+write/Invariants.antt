use Rattle.dw_expr.specs.Places.{known_by}
use Rattle.dw_expr.proofs.Kept.{Written}
use Rattle.dw_expr.proofs.op.write.+write.Given as goal

abbrev pub invariant-write_operations-loop-i : goal.invariant-write_operations-loop-i
invariant-write_operations-loop-i g l =
    Written l.encoding (known_by g.P.EntryPlaces.places l.places) l.keeps l.begins l.operations l.i (g.W.Writer.meaning l.initial.w) (g.W.Writer.meaning l.w) l.initial.fixups l.fixups
