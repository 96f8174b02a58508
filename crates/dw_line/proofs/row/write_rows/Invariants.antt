use Rattle.dw_line.proofs.LineRowsSteps.{AreRowsWritten}
use Rattle.dw_line.proofs.row.write_rows.Given as goal

abbrev pub invariant-loop-row : goal.invariant-loop-row
invariant-loop-row g l = AreRowsWritten (g.W.Writer.meaning l.initial.w) (g.W.Writer.meaning l.w) l.version l.minimum_length l.fn.first l.rows l.last l.row-index
