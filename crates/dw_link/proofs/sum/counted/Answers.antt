use Rattle.std.proofs.Common.{arith}
use Rattle.dw_link.proofs.Sums.{counted-place, counted-zero}
use Rattle.dw_link.proofs.sum.counted.Goals as goal

pub returns-then-application : goal.returns-then-application
returns-then-application c = counted-place c.args.eh_pe.0 _ c.args.place c.args.address c.application.ensures c.if-application.true (omega arith)

pub returns-else-application : goal.returns-else-application
returns-else-application c = counted-zero c.args.eh_pe.0 _ c.args.place c.args.address c.application.ensures c.if-application.false
