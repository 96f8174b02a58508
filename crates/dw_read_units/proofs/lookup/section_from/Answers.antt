use Rattle.std.proofs.Common.{arith}
use Rattle.dw_read.proofs.Reasoned.{enough}
use Rattle.dw_read_units.proofs.LookupLaws.{from_passed}
use Rattle.dw_read_units.proofs.lookup.section_from.Goals as goal

pub returns-in-Ok : goal.returns-in-Ok
returns-in-Ok g c = from_passed c.args.offset _ _ _ _ _ c.duplicate-input.ensures c.len.ensures c.min-passed.ensures c.in-Ok.ensures.ok

pub returns-in-Err : goal.returns-in-Err
returns-in-Err g c = absurd (enough c.min-passed.result _ _ (omega (arith, c.min-passed.ensures, c.len.ensures)) c.in-Err.ensures.err)
