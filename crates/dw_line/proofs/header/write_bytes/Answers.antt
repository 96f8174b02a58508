use Rattle.dw_line.proofs.Steps.{left_out}
use Rattle.dw_line.proofs.FrontSteps.{Front-either, Front-none}
use Rattle.dw_line.proofs.header.write_bytes.Goals as goal

pub returns-clause-ok : goal.returns-clause-ok
returns-clause-ok g c = left_out c.args.is_needed c.args.bytes.now c.if-is_needed.false

pub returns-then-is_needed-clause-front : goal.returns-then-is_needed-clause-front
returns-then-is_needed-clause-front g c = Front-either _ _ c.write.result c.write.ensures.ok c.write.ensures.partly

pub returns-clause-front : goal.returns-clause-front
returns-clause-front g c = Front-none _

pub returns-clause-err : goal.returns-clause-err
returns-clause-err g c = tt

pub returns-then-is_needed-clause-err : goal.returns-then-is_needed-clause-err
returns-then-is_needed-clause-err g c = c.write.ensures.err

pub returns-then-is_needed-clause-same : goal.returns-then-is_needed-clause-same
returns-then-is_needed-clause-same g c = c.write.ensures.same
