use Rattle.std.specs.Prelude.{◌≡◌, Err, refl}
use Rattle.std.proofs.Common.{rules, arith, to_z, of_z, w8}
use Rattle.std.proofs.lemmas.Result.{err_from_is_err_and}
use Rattle.dw_frame_instructions.specs.Causes.{never, either}
use Rattle.dw_frame_instructions.specs.Operands.{operand_in, operand_fails}
use Rattle.dw_frame_instructions.specs.Instructions.{spelling_in, instruction_fails}
use Rattle.dw_frame_instructions.proofs.Steps.{Writes-then, bytes_written, bytes_refused_in, refused_in, or_here}
use Rattle.dw_frame_instructions.proofs.InstructionSteps.{Writes-spelled, spelling_refused}
use Rattle.dw_frame_instructions.proofs.instruction.CallFrameInstruction.write.Goals as goal

pub returns : goal.returns
returns g c =
    let s = c.in_ok-spelling.spelling in
    let code = c.in_ok-write.ensures.ok in
    let first = rw code.same.kind at c.in_ok-write-2.ensures in
    let second = rw (first.0.same.kind, code.same.kind) at c.write-3.ensures in
    let factor : to_z w8 (of_z w8 c.args.factor) ≡ c.args.factor = search rules in
    let is = rw factor at c.in_ok-spelling.ensures in
    Writes-spelled c.write-3.result _ _ c.args.encoding c.args.factor (g.W.Writer.meaning c.args.w.now).is_plain c.args.self.now (spelling_in s) is
    (Writes-then c.write-3.result _ _ _ _ _ never _ (bytes_written code) (Writes-then c.write-3.result _ _ _ _ _ _ _ first second))

pub returns-in_err-spelling : goal.returns-in_err-spelling
returns-in_err-spelling g c =
    let m = g.W.Writer.meaning c.args.w.now in
    let factor : to_z w8 (of_z w8 c.args.factor) ≡ c.args.factor = search rules in
    let p = err_from_is_err_and c.from_residual.result c.from_residual.ensures.1 in
    rw (p.1, p.2) (spelling_refused m c.args.encoding c.args.factor m.is_plain c.args.self.now c.in_err-spelling.field-0.0 (rw factor at c.in_err-spelling.ensures))

pub returns-in_err-write : goal.returns-in_err-write
returns-in_err-write g c =
    let m = g.W.Writer.meaning c.args.w.now in
    let p = err_from_is_err_and c.from_residual-in_err-write.result c.from_residual-in_err-write.ensures.1 in
    rw (p.1, p.2)
    (bytes_refused_in m m (g.W.Writer.meaning c.write.new.self) (instruction_fails c.args.encoding c.args.factor m.is_plain c.args.self.now) (record { order = refl; kind = refl; faults = omega arith }) c.in_err-write.field-0.0 c.in_err-write.ensures.err)

pub returns-in_err-write-2 : goal.returns-in_err-write-2
returns-in_err-write-2 g c =
    let m = g.W.Writer.meaning c.args.w.now in
    let n = g.W.Writer.meaning c.write.new.self in
    let o = g.W.Writer.meaning c.write-2.new.w in
    let s = c.in_ok-spelling.spelling in
    let code = c.in_ok-write.ensures.ok in
    let e = c.in_err-write-2.field-0.0 in
    let factor : to_z w8 (of_z w8 c.args.factor) ≡ c.args.factor = search rules in
    let is = rw factor at c.in_ok-spelling.ensures in
    let first = operand_fails c.args.encoding m.is_plain (operand_in s.first) in
    let second = operand_fails c.args.encoding m.is_plain (operand_in s.second) in
    let p = err_from_is_err_and c.from_residual-in_err-write-2.result c.from_residual-in_err-write-2.ensures.1 in
    rw (p.1, p.2)
    (Writes-spelled {T = Unit {0}} (Err e) m o c.args.encoding c.args.factor m.is_plain c.args.self.now (spelling_in s) is
    (refused_in m n o first (either first second) code.same (λ k. or_here (first k) (second k)) e (rw code.same.kind at c.in_err-write-2.ensures)))
