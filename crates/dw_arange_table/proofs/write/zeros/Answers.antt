use Rattle.std.proofs.Common.{arith}
use Rattle.dw_arange_table.proofs.WriteSteps.{take-zeros}
use Rattle.dw_arange_table.proofs.write.zeros.Goals as goal

pub returns : goal.returns
returns c = take-zeros c.args.count 16 (omega (arith, c.requires))
