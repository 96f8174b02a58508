use Rattle.std.specs.Prelude.{[], ◌∷◌}
use Rattle.dw_frame_instructions.specs.Pieces.{bytes}
use Rattle.dw_frame.specs.Parts.{free}
use Rattle.dw_frame.specs.PointerParts.{pointer}
use Rattle.dw_frame_instructions.proofs.Steps.{bytes_written}
use Rattle.dw_frame.proofs.PartSteps.{Puts-then, Puts-nothing}
use Rattle.dw_frame.proofs.NumberSteps.{Puts-pointer}
use Rattle.dw_frame.proofs.cie.CommonInformationEntry.write_personality.Goals as goal

pub returns-in-None : goal.returns-in-None
returns-in-None g c =
    rw c.in-None.is (Puts-nothing (g.W.Writer.meaning c.args.w.now))

pub returns-in_ok-write-in-Some : goal.returns-in_ok-write-in-Some
returns-in_ok-write-in-Some g c =
    let w = c.args.self.now.encoding.address_size in
    let e = c.in-Some.encoding in
    let x = c.write_eh_pointer.ensures in
    let pointed = Puts-pointer c.write_eh_pointer.result (g.W.Writer.meaning c.write.new.self) (g.W.Writer.meaning c.write_eh_pointer.new.self) w e.0 c.in-Some.address x.fits x.ok x.err in
    rw c.in-Some.is
    (Puts-then {T = Unit {0}} c.write_eh_pointer.result (g.W.Writer.meaning c.args.w.now) (g.W.Writer.meaning c.write.new.self) (g.W.Writer.meaning c.write_eh_pointer.new.self) (free (bytes (e.0 ∷ []))) (pointer w e.0 c.in-Some.address) (bytes_written c.in_ok-write-in-Some.ensures.ok) pointed)
