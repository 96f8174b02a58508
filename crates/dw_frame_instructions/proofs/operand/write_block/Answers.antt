use Rattle.std.proofs.lemmas.Result.{err_from_is_err_and}
use Rattle.dw_frame_instructions.specs.Causes.{never}
use Rattle.dw_frame_instructions.proofs.Steps.{Writes-then, bytes_written}
use Rattle.dw_frame_instructions.proofs.OperandSteps.{Writes-expression, size_refused}
use Rattle.dw_frame_instructions.proofs.operand.write_block.Goals as goal

pub returns-in_err-size : goal.returns-in_err-size
returns-in_err-size g c =
    let p = err_from_is_err_and c.from_residual.result c.from_residual.ensures.1 in
    let plain = (g.W.Writer.meaning c.args.w.now).is_plain in
    rw (p.1, p.2)
    (size_refused (g.W.Writer.meaning c.args.w.now) (g.W.Writer.meaning c.args.w.now) c.args.encoding plain c.args.expression.now c.in_err-size.field-0.0 c.in_err-size.ensures.err)

pub returns : goal.returns
returns g c =
    let size = c.in_ok-size.ensures.ok in
    let first = rw size at c.in_ok-write_uleb128.ensures.ok in
    let kind = rw c.in_ok-write_uleb128.ensures.ok.same.kind at c.write.ensures in
    Writes-then c.write.result _ _ _ _ _ never _ (bytes_written first)
    (Writes-expression c.write.result _ _ c.args.encoding (g.W.Writer.meaning c.args.w.now).is_plain c.args.expression.now kind.ok kind.sound kind.err)
