use Rattle.std.specs.Prelude.{Ok, Err, refl, ◌+◌, drop}
use Rattle.std.proofs.Common.{◌≡◌, sym, subst, rules, to_z, of_z, w8}
use Rattle.std.proofs.lemmas.Result.{err_from_is_err_and}
use Rattle.dw_writer.proofs.Steps.{IsSameWriter-trans}
use Rattle.dw_frame_instructions.specs.Programs.{program_piece, program_fails}
use Rattle.dw_frame_instructions.specs.Advances.{advance_fails}
use Rattle.dw_frame_instructions.specs.Instructions.{instruction_fails}
use Rattle.dw_frame_instructions.specs.Causes.{either, Writes}
use Rattle.dw_frame_instructions.proofs.Steps.{Writes-then, written-nothing, refused_first, refused_second}
use Rattle.dw_frame_instructions.proofs.ProgramSteps.{drop_cons, drop_all}
use Rattle.dw_frame_instructions.proofs.program.write_steps.Goals as goal

pub returns-in_err-write_advance : goal.returns-in_err-write_advance
returns-in_err-write_advance g c =
    let factor : to_z w8 (of_z w8 c.args.data_factor) ≡ c.args.data_factor = search rules in
    let rest = rw factor at c.loop-step.invariant.rest in
    let before = c.loop-step.invariant in
    let split = drop_cons c.args.steps.now c.loop-step.step-index c.step-item.result c.loop-step-test.true c.step-item.is in
    let m = g.W.Writer.meaning c.loop-step.w in
    let n = g.W.Writer.meaning c.write_advance.new.w in
    let plain = (g.W.Writer.meaning c.args.w.now).is_plain in
    let moves = advance_fails c.args.code_factor c.loop-step.from c.step-item.result.offset in
    let says = instruction_fails c.args.encoding c.args.data_factor plain c.step-item.result.instruction in
    let more = program_fails c.args.encoding c.args.code_factor c.args.data_factor plain c.step-item.result.offset (drop (c.loop-step.step-index + 1) c.args.steps.now) in
    let e = c.in_err-write_advance.field-0.0 in
    let p = err_from_is_err_and c.from_residual.result c.from_residual.ensures.1 in
    rw (p.1, p.2)
    (rest (Err e) n
    (subst (λ ys. Writes {T = Unit {0}} (Err e) m n (program_piece c.args.encoding c.args.code_factor c.args.data_factor c.loop-step.from ys) (program_fails c.args.encoding c.args.code_factor c.args.data_factor (g.W.Writer.meaning c.args.w.now).is_plain c.loop-step.from ys))
    (sym split) (refused_first m n moves (either says more) e c.in_err-write_advance.ensures)))

pub returns-in_err-write : goal.returns-in_err-write
returns-in_err-write g c =
    let factor : to_z w8 (of_z w8 c.args.data_factor) ≡ c.args.data_factor = search rules in
    let rest = rw factor at c.loop-step.invariant.rest in
    let before = c.loop-step.invariant in
    let split = drop_cons c.args.steps.now c.loop-step.step-index c.step-item.result c.loop-step-test.true c.step-item.is in
    let m = g.W.Writer.meaning c.loop-step.w in
    let n = g.W.Writer.meaning c.write_advance.new.w in
    let o = g.W.Writer.meaning c.write.new.w in
    let plain = (g.W.Writer.meaning c.args.w.now).is_plain in
    let moves = advance_fails c.args.code_factor c.loop-step.from c.step-item.result.offset in
    let says = instruction_fails c.args.encoding c.args.data_factor plain c.step-item.result.instruction in
    let more = program_fails c.args.encoding c.args.code_factor c.args.data_factor plain c.step-item.result.offset (drop (c.loop-step.step-index + 1) c.args.steps.now) in
    let e = c.in_err-write.field-0.0 in
    let first = c.in_ok-write_advance.ensures in
    let second = rw (first.0.same.kind, before.same.kind, factor) at c.in_err-write.ensures in
    let p = err_from_is_err_and c.from_residual-in_err-write.result c.from_residual-in_err-write.ensures.1 in
    rw (p.1, p.2)
    (rest (Err e) o
    (subst (λ ys. Writes {T = Unit {0}} (Err e) m o (program_piece c.args.encoding c.args.code_factor c.args.data_factor c.loop-step.from ys) (program_fails c.args.encoding c.args.code_factor c.args.data_factor (g.W.Writer.meaning c.args.w.now).is_plain c.loop-step.from ys))
    (sym split) (refused_second m n o moves (either says more) first.0.same e (refused_first n o says more e second))))

pub loop-step-preserved : goal.loop-step-preserved
loop-step-preserved g c =
    let factor : to_z w8 (of_z w8 c.args.data_factor) ≡ c.args.data_factor = search rules in
    let rest = rw factor at c.loop-step.invariant.rest in
    let before = c.loop-step.invariant in
    let first = c.in_ok-write_advance.ensures in
    let second = rw (first.0.same.kind, before.same.kind, factor) at c.in_ok-write.ensures in
    let split = drop_cons c.args.steps.now c.loop-step.step-index c.step-item.result c.loop-step-test.true c.step-item.is in
    rw factor
    (record {
      same = IsSameWriter-trans before.same (IsSameWriter-trans first.0.same second.0.same);
      rest = λ r b h. rest r b
          (subst (λ ys. Writes r (g.W.Writer.meaning c.loop-step.w) b (program_piece c.args.encoding c.args.code_factor c.args.data_factor c.loop-step.from ys) (program_fails c.args.encoding c.args.code_factor c.args.data_factor (g.W.Writer.meaning c.args.w.now).is_plain c.loop-step.from ys))
          (sym split) (Writes-then r _ _ _ _ _ _ _ first (Writes-then r _ _ _ _ _ _ _ second h)));
    })

pub returns : goal.returns
returns g c =
    let factor : to_z w8 (of_z w8 c.args.data_factor) ≡ c.args.data_factor = search rules in
    let rest = rw factor at c.loop-step.invariant.rest in
    let m = g.W.Writer.meaning c.loop-step.w in
    rest (Ok tt) m
    (subst (λ ys. Writes {T = Unit {0}} (Ok tt) m m (program_piece c.args.encoding c.args.code_factor c.args.data_factor c.loop-step.from ys) (program_fails c.args.encoding c.args.code_factor c.args.data_factor (g.W.Writer.meaning c.args.w.now).is_plain c.loop-step.from ys))
    (sym (drop_all c.args.steps.now c.loop-step.step-index c.loop-step-test.false)) (written-nothing m, λ e. refl))
