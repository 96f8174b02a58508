use Rattle.std.proofs.Common.{sym, ◌∙◌, ◌+◌, ap}
use Rattle.dw_base.specs.Numbers.{is_width, word_of}
use Rattle.dw_writer.specs.Texts.{zeros}
use Rattle.dw_expr.specs.Causes.{width_fails}
use Rattle.dw_frame_instructions.specs.Pieces.{bytes, missing}
use Rattle.dw_frame.specs.Parts.{free, caused}
use Rattle.dw_frame.specs.Entries.{padding}
use Rattle.dw_frame.proofs.PartSteps.{Puts-if, Puts-bytes}
use Rattle.dw_frame.proofs.entry.write_padding.Goals as goal

pub returns : goal.returns
returns g c =
    let n = padding c.args.encoding.address_size (word_of c.args.encoding.format + c.args.size) in
    let nops = c.nops.ensures ∙ ap zeros c.padding.ensures.is in
    Puts-if c.write.result (g.W.Writer.meaning c.args.w.now) (g.W.Writer.meaning c.write.new.self) (is_width c.args.encoding.address_size) (free (bytes (zeros n))) (caused missing (width_fails c.args.encoding.address_size)) (sym c.is_width.ensures ∙ c.if-not-is_width.false)
    (Puts-bytes c.write.result (g.W.Writer.meaning c.args.w.now) (g.W.Writer.meaning c.write.new.self) (zeros n) (rw nops at c.write.ensures.ok) c.write.ensures.err)
