use Rattle.dw_frame.proofs.PartSteps.{Puts-nothing}
use Rattle.dw_frame.proofs.table.write.write_new_cie.Goals as goal

pub returns-in-Some-clause-part : goal.returns-in-Some-clause-part
returns-in-Some-clause-part g c =
    rw c.in-Some.is (Puts-nothing (g.W.Writer.meaning c.args.w.now))

pub returns-in-None-clause-part : goal.returns-in-None-clause-part
returns-in-None-clause-part g c =
    rw c.in-None.is c.write.ensures.part
