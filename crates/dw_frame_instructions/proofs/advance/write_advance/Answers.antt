use Rattle.std.proofs.Common.{subst}
use Rattle.dw_frame_instructions.specs.Pieces.{IsWritten}
use Rattle.dw_frame_instructions.proofs.Steps.{written-nothing}
use Rattle.dw_frame_instructions.proofs.AdvanceSteps.{advance_stays, advance_none}
use Rattle.dw_frame_instructions.proofs.advance.write_advance.Goals as goal

pub returns-then-to-from : goal.returns-then-to-from
returns-then-to-from g c =
    let m = g.W.Writer.meaning c.args.w.now in
    (subst (IsWritten m m) (advance_stays c.args.factor c.args.from c.args.to c.if-to-from.true) (written-nothing m), advance_none c.args.factor c.args.from c.args.to c.if-to-from.true)
