use Rattle.std.specs.Prelude.{Ok, Err}
use Rattle.std.proofs.Common.{◌≡◌, ◌∙◌}
use Rattle.std.proofs.lemmas.Result.{err_from_is_err_and}
use Rattle.dw_base.specs.Pointers.{format_of}
use Rattle.dw_writer.proofs.PointerSteps.{format-and}
use Rattle.dw_frame.proofs.PartSteps.{Puts-then, Puts-first}
use Rattle.dw_frame.specs.PointerParts.{pointer, pointer_data}
use Rattle.dw_frame.proofs.NumberSteps.{Puts-pointer, Puts-data}
use Rattle.dw_frame.proofs.fde.FrameDescriptionEntry.write_encoded_range.Goals as goal

pub returns : goal.returns
returns g c =
    let format : c.format.result.0 ≡ format_of c.args.encoding.0 = c.format.ensures ∙ format-and c.args.encoding.0 in
    Puts-then {T = Unit {0}} c.write_eh_pointer_data.result (g.W.Writer.meaning c.args.w.now) (g.W.Writer.meaning c.write_eh_pointer.new.self) (g.W.Writer.meaning c.write_eh_pointer_data.new.self) (pointer c.args.size c.args.encoding.0 c.args.self.now.address) ((pointer_data c.args.size (format_of c.args.encoding.0) c.args.self.now.length)) (Puts-pointer {T = Unit {0}} (Ok tt) (g.W.Writer.meaning c.args.w.now) (g.W.Writer.meaning c.write_eh_pointer.new.self) c.args.size c.args.encoding.0 c.args.self.now.address c.in_ok-write_eh_pointer.ensures.fits c.in_ok-write_eh_pointer.ensures.ok tt)
    ((Puts-data c.write_eh_pointer_data.result (g.W.Writer.meaning c.write_eh_pointer.new.self) (g.W.Writer.meaning c.write_eh_pointer_data.new.self) c.args.size (format_of c.args.encoding.0) c.args.self.now.length (rw (c.from.ensures, format) at c.write_eh_pointer_data.ensures.fits) (rw (c.from.ensures, format) at c.write_eh_pointer_data.ensures.ok) (rw (c.from.ensures, format) at c.write_eh_pointer_data.ensures.err)))

pub returns-in_err-write_eh_pointer : goal.returns-in_err-write_eh_pointer
returns-in_err-write_eh_pointer g c =
    let e = c.in_err-write_eh_pointer.field-0.0 in
    let p = err_from_is_err_and c.from_residual.result c.from_residual.ensures.1 in
    rw (p.1, p.2) (Puts-first (Unit {0}) (g.W.Writer.meaning c.args.w.now) (g.W.Writer.meaning c.write_eh_pointer.new.self) (pointer c.args.size c.args.encoding.0 c.args.self.now.address) ((pointer_data c.args.size (format_of c.args.encoding.0) c.args.self.now.length)) e (Puts-pointer {T = Unit {0}} (Err e) (g.W.Writer.meaning c.args.w.now) (g.W.Writer.meaning c.write_eh_pointer.new.self) c.args.size c.args.encoding.0 c.args.self.now.address tt tt c.in_err-write_eh_pointer.ensures.err))
