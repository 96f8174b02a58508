use Rattle.std.specs.Prelude.{Ok, Err, refl, ◌+◌, drop}
use Rattle.std.proofs.Common.{◌≡◌, sym, subst, rules, to_z, of_z, w8}
use Rattle.std.proofs.lemmas.Result.{err_from_is_err_and}
use Rattle.dw_writer.proofs.Steps.{IsSameWriter-trans}
use Rattle.dw_frame_instructions.specs.Programs.{instructions_piece, instructions_fail}
use Rattle.dw_frame_instructions.specs.Instructions.{instruction_fails}
use Rattle.dw_frame_instructions.specs.Causes.{Writes}
use Rattle.dw_frame_instructions.proofs.Steps.{Writes-then, written-nothing, refused_first}
use Rattle.dw_frame_instructions.proofs.ProgramSteps.{drop_cons, drop_all}
use Rattle.dw_frame_instructions.proofs.program.write_instructions.Goals as goal

pub returns-in_err-write : goal.returns-in_err-write
returns-in_err-write g c =
    let factor : to_z w8 (of_z w8 c.args.data_factor) ≡ c.args.data_factor = search rules in
    let rest = rw factor at c.loop-instruction.invariant.rest in
    let before = c.loop-instruction.invariant in
    let split = drop_cons c.args.instructions.now c.loop-instruction.instruction-index c.instruction-item.result c.loop-instruction-test.true c.instruction-item.is in
    let m = g.W.Writer.meaning c.loop-instruction.w in
    let n = g.W.Writer.meaning c.write.new.w in
    let plain = (g.W.Writer.meaning c.args.w.now).is_plain in
    let says = instruction_fails c.args.encoding c.args.data_factor plain c.instruction-item.result in
    let more = instructions_fail c.args.encoding c.args.data_factor plain (drop (c.loop-instruction.instruction-index + 1) c.args.instructions.now) in
    let e = c.in_err-write.field-0.0 in
    let p = err_from_is_err_and c.from_residual.result c.from_residual.ensures.1 in
    let refused = rw (before.same.kind, factor) at c.in_err-write.ensures in
    rw (p.1, p.2)
    (rest (Err e) n
    (subst (λ ys. Writes {T = Unit {0}} (Err e) m n (instructions_piece c.args.encoding c.args.data_factor ys) (instructions_fail c.args.encoding c.args.data_factor plain ys))
    (sym split) (refused_first m n says more e refused)))

pub loop-instruction-preserved : goal.loop-instruction-preserved
loop-instruction-preserved g c =
    let factor : to_z w8 (of_z w8 c.args.data_factor) ≡ c.args.data_factor = search rules in
    let rest = rw factor at c.loop-instruction.invariant.rest in
    let before = c.loop-instruction.invariant in
    let first = rw (before.same.kind, factor) at c.in_ok-write.ensures in
    let split = drop_cons c.args.instructions.now c.loop-instruction.instruction-index c.instruction-item.result c.loop-instruction-test.true c.instruction-item.is in
    rw factor
    (record {
      same = IsSameWriter-trans before.same first.0.same;
      rest = λ r b h. rest r b
          (subst (λ ys. Writes r (g.W.Writer.meaning c.loop-instruction.w) b (instructions_piece c.args.encoding c.args.data_factor ys) (instructions_fail c.args.encoding c.args.data_factor (g.W.Writer.meaning c.args.w.now).is_plain ys))
          (sym split) (Writes-then r _ _ _ _ _ _ _ first h));
    })

pub returns : goal.returns
returns g c =
    let factor : to_z w8 (of_z w8 c.args.data_factor) ≡ c.args.data_factor = search rules in
    let rest = rw factor at c.loop-instruction.invariant.rest in
    let m = g.W.Writer.meaning c.loop-instruction.w in
    rest (Ok tt) m
    (subst (λ ys. Writes {T = Unit {0}} (Ok tt) m m (instructions_piece c.args.encoding c.args.data_factor ys) (instructions_fail c.args.encoding c.args.data_factor (g.W.Writer.meaning c.args.w.now).is_plain ys))
    (sym (drop_all c.args.instructions.now c.loop-instruction.instruction-index c.loop-instruction-test.false)) (written-nothing m, λ e. refl))
