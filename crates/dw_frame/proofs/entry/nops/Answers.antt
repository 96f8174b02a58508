use Rattle.std.proofs.Common.{arith}
use Rattle.dw_frame.proofs.EntrySteps.{take-zeros}
use Rattle.dw_frame.proofs.entry.nops.Goals as goal

pub returns : goal.returns
returns c =
    take-zeros c.args.count 8 (omega (arith, c.requires))
