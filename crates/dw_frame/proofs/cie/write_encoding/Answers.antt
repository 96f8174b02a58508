use Rattle.std.specs.Prelude.{refl}
use Rattle.dw_frame_instructions.proofs.Steps.{written-nothing, Writes-bytes}
use Rattle.dw_frame.proofs.cie.write_encoding.Goals as goal

pub returns-in-None : goal.returns-in-None
returns-in-None g c = rw c.in-None.is (written-nothing (g.W.Writer.meaning c.args.w.now), λ e. refl)

pub returns-in-Some : goal.returns-in-Some
returns-in-Some g c = rw c.in-Some.is (Writes-bytes c.write.result _ _ _ c.write.ensures.ok c.write.ensures.err)
