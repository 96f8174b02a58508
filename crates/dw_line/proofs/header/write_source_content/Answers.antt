use Rattle.dw_line.proofs.Steps.{Adds-none}
use Rattle.dw_line.proofs.FrontSteps.{Front-none}
use Rattle.dw_line.proofs.header.write_source_content.Goals as goal

pub returns-in-None-clause-ok : goal.returns-in-None-clause-ok
returns-in-None-clause-ok g c = rw c.in-None.is (Adds-none _)

pub returns-in-None-clause-front : goal.returns-in-None-clause-front
returns-in-None-clause-front g c = Front-none _

pub returns-in-None-clause-err : goal.returns-in-None-clause-err
returns-in-None-clause-err g c = tt

pub returns-in-Some-clause-err : goal.returns-in-Some-clause-err
returns-in-Some-clause-err g c = c.write_content.ensures.err

pub returns-in-Some-clause-same : goal.returns-in-Some-clause-same
returns-in-Some-clause-same g c = c.write_content.ensures.same
