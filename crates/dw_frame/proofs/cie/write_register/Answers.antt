use Rattle.std.proofs.Common.{sym, ◌∙◌}
use Rattle.dw_base.specs.Leb128.{uleb}
use Rattle.dw_frame_instructions.specs.Pieces.{bytes}
use Rattle.dw_frame.specs.Parts.{free, numbered}
use Rattle.dw_frame.specs.Cies.{has_byte_register}
use Rattle.dw_frame.proofs.PartSteps.{Puts-if, Puts-else, Puts-bytes}
use Rattle.dw_frame.proofs.NumberSteps.{Puts-number}
use Rattle.dw_frame.proofs.cie.write_register.Goals as goal

pub returns-then-has_byte_register : goal.returns-then-has_byte_register
returns-then-has_byte_register g c =
    let n = c.args.register.0 in
    let x = c.write_udata.ensures in
    Puts-if c.write_udata.result (g.W.Writer.meaning c.args.w.now) (g.W.Writer.meaning c.write_udata.new.self) (has_byte_register c.args.kind c.args.version) (numbered 1 n) (free (bytes (uleb n))) (sym c.has_byte_register.ensures ∙ c.if-has_byte_register.true)
    (Puts-number c.write_udata.result (g.W.Writer.meaning c.args.w.now) (g.W.Writer.meaning c.write_udata.new.self) 1 n (rw c.from-column.ensures at x.fits) (rw c.from-column.ensures at x.ok) (rw c.from-column.ensures at x.err))

pub returns-else-has_byte_register : goal.returns-else-has_byte_register
returns-else-has_byte_register g c =
    let n = c.args.register.0 in
    let x = c.write_uleb128.ensures in
    Puts-else c.write_uleb128.result (g.W.Writer.meaning c.args.w.now) (g.W.Writer.meaning c.write_uleb128.new.self) (has_byte_register c.args.kind c.args.version) (numbered 1 n) (free (bytes (uleb n))) (sym c.has_byte_register.ensures ∙ c.if-has_byte_register.false)
    (Puts-bytes c.write_uleb128.result (g.W.Writer.meaning c.args.w.now) (g.W.Writer.meaning c.write_uleb128.new.self) (uleb n) (rw c.from-column.ensures at x.ok) x.err)
