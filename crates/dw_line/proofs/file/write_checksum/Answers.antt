use Rattle.dw_line.proofs.Steps.{left_out}
use Rattle.dw_line.proofs.FrontSteps.{Front-either, Front-none}
use Rattle.dw_line.proofs.file.write_checksum.Goals as goal

pub returns-then-not-is_needed-clause-ok : goal.returns-then-not-is_needed-clause-ok
returns-then-not-is_needed-clause-ok g c = left_out c.args.is_needed _ c.if-not-is_needed.true

pub returns-then-not-is_needed-clause-front : goal.returns-then-not-is_needed-clause-front
returns-then-not-is_needed-clause-front g c = Front-none _

pub returns-in-Some-clause-front : goal.returns-in-Some-clause-front
returns-in-Some-clause-front g c = Front-either _ _ c.write.result c.write.ensures.ok c.write.ensures.partly

pub returns-in-None-clause-front : goal.returns-in-None-clause-front
returns-in-None-clause-front g c = Front-either _ _ c.write-in-None.result c.write-in-None.ensures.ok c.write-in-None.ensures.partly

pub returns-then-not-is_needed-clause-err : goal.returns-then-not-is_needed-clause-err
returns-then-not-is_needed-clause-err g c = tt

pub returns-in-Some-clause-err : goal.returns-in-Some-clause-err
returns-in-Some-clause-err g c = c.write.ensures.err

pub returns-in-Some-clause-same : goal.returns-in-Some-clause-same
returns-in-Some-clause-same g c = c.write.ensures.same

pub returns-in-None-clause-err : goal.returns-in-None-clause-err
returns-in-None-clause-err g c = c.write-in-None.ensures.err

pub returns-in-None-clause-same : goal.returns-in-None-clause-same
returns-in-None-clause-same g c = c.write-in-None.ensures.same
