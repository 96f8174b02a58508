use Rattle.std.specs.Prelude.{Ok, Err}
use Rattle.std.proofs.lemmas.Result.{err_from_is_err_and}
use Rattle.dw_frame.specs.Parts.{numbered}
use Rattle.dw_frame.proofs.PartSteps.{Puts-then, Puts-first}
use Rattle.dw_frame.specs.PointerParts.{address}
use Rattle.dw_frame.proofs.NumberSteps.{Puts-address, Puts-number}
use Rattle.dw_frame.proofs.fde.FrameDescriptionEntry.write_plain_range.Goals as goal

pub returns : goal.returns
returns g c =
    Puts-then {T = Unit {0}} c.write_udata.result (g.W.Writer.meaning c.args.w.now) (g.W.Writer.meaning c.write_address.new.self) (g.W.Writer.meaning c.write_udata.new.self) (address c.args.size c.args.self.now.address) ((numbered c.args.size c.args.self.now.length)) (Puts-address {T = Unit {0}} (Ok tt) (g.W.Writer.meaning c.args.w.now) (g.W.Writer.meaning c.write_address.new.self) c.args.size c.args.self.now.address c.in_ok-write_address.ensures.fits c.in_ok-write_address.ensures.ok tt)
    ((Puts-number c.write_udata.result (g.W.Writer.meaning c.write_address.new.self) (g.W.Writer.meaning c.write_udata.new.self) c.args.size c.args.self.now.length (rw c.from.ensures at c.write_udata.ensures.fits) (rw c.from.ensures at c.write_udata.ensures.ok) (rw c.from.ensures at c.write_udata.ensures.err)))

pub returns-in_err-write_address : goal.returns-in_err-write_address
returns-in_err-write_address g c =
    let e = c.in_err-write_address.field-0.0 in
    let p = err_from_is_err_and c.from_residual.result c.from_residual.ensures.1 in
    rw (p.1, p.2) (Puts-first (Unit {0}) (g.W.Writer.meaning c.args.w.now) (g.W.Writer.meaning c.write_address.new.self) (address c.args.size c.args.self.now.address) ((numbered c.args.size c.args.self.now.length)) e (Puts-address {T = Unit {0}} (Err e) (g.W.Writer.meaning c.args.w.now) (g.W.Writer.meaning c.write_address.new.self) c.args.size c.args.self.now.address tt tt c.in_err-write_address.ensures.err))
