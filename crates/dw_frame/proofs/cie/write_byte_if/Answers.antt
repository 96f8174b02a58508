use Rattle.std.specs.Prelude.{refl, [], ◌∷◌}
use Rattle.dw_frame_instructions.specs.Pieces.{bytes}
use Rattle.dw_frame_instructions.specs.Causes.{never}
use Rattle.dw_frame.specs.Cies.{byte_if}
use Rattle.dw_frame_instructions.proofs.Steps.{Writes-none, Writes-as, Writes-bytes}
use Rattle.dw_frame.proofs.CieSteps.{byte_none, byte_some}
use Rattle.dw_frame.proofs.cie.write_byte_if.Goals as goal

pub returns-then-not-holds : goal.returns-then-not-holds
returns-then-not-holds g c =
    Writes-none (g.W.Writer.meaning c.args.w.now) (byte_if c.args.holds c.args.byte) (byte_none c.args.holds c.args.byte c.if-not-holds.true)

pub returns : goal.returns
returns g c =
    let bytes-written = Writes-bytes c.write.result (g.W.Writer.meaning c.args.w.now) (g.W.Writer.meaning c.write.new.self) (c.args.byte ∷ []) c.write.ensures.ok c.write.ensures.err in
    Writes-as c.write.result (g.W.Writer.meaning c.args.w.now) (g.W.Writer.meaning c.write.new.self) (bytes (c.args.byte ∷ [])) (byte_if c.args.holds c.args.byte) never never bytes-written (byte_some c.args.holds c.args.byte c.if-not-holds.false) refl
