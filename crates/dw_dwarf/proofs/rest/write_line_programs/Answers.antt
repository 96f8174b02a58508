use Rattle.std.proofs.Common.{◌<◌, ◌≤◌, Bool, subst, length, refl, arith, IsFalse, IsTrue}
use Rattle.std.proofs.lemmas.Result.{err_from_is_err_and}
use Rattle.dw_base.specs.declared.error.Error.{Error}
use Rattle.dw_line.specs.LinePrograms.{LineProgramValue, encoding_of, line_program_size, line_program_text, line_program_fails}
use Rattle.dw_line.proofs.FrontSteps.{Front-none, Front-then}
use Rattle.dw_line.proofs.PartSteps.{texts_none, texts_step, texts_whole, none_more, none_all, some_at, refused_after}
use Rattle.dw_dwarf.specs.Valid.{programs_fail}
use Rattle.dw_dwarf.proofs.rest.write_line_programs.Goals as goal

pub loop-program-init : goal.loop-program-init
loop-program-init g c = record { added = texts_none line_program_size (line_program_text c.args.strings.now c.args.line_strings.now) _; sound = λ e. refl; front = λ tidy. Front-none _ }

pub loop-program-preserved : goal.loop-program-preserved
loop-program-preserved g c =
    let fails = λ (k : Bool) (p : LineProgramValue) (e : Error). line_program_fails c.args.strings.now c.args.line_strings.now k (encoding_of p.program) p e in
    let plain = (g.W.Writer.meaning c.args.w.now.0).is_plain in
    let below : c.loop-program.program-index < length c.args.programs.now = omega arith in
    let own = rw c.encoding.ensures at c.in_ok-write.ensures.sound in
    let here : (e : Error) → IsFalse (fails plain c.program-item.result e) = subst (λ k. (e : Error) → IsFalse (fails k c.program-item.result e)) c.loop-program.invariant.added.same.kind own in
    record {
      added = texts_step line_program_size (line_program_text c.args.strings.now c.args.line_strings.now) c.args.programs.now c.loop-program.program-index c.program-item.result below c.program-item.is c.loop-program.invariant.added c.in_ok-write.ensures.ok;
      sound = none_more (fails plain) c.args.programs.now c.loop-program.program-index c.program-item.result below c.program-item.is c.loop-program.invariant.sound here;
      front = λ tidy. Front-then (c.loop-program.invariant.front tidy) (c.in_ok-write.ensures.front (c.loop-program.invariant.added.tidy tidy));
    }

pub returns-in_err-write-clause-err : goal.returns-in_err-write-clause-err
returns-in_err-write-clause-err g c =
    let fails = λ (k : Bool) (p : LineProgramValue) (e : Error). line_program_fails c.args.strings.now c.args.line_strings.now k (encoding_of p.program) p e in
    let plain = (g.W.Writer.meaning c.args.w.now.0).is_plain in
    let below : c.loop-program.program-index < length c.args.programs.now = omega arith in
    let p = err_from_is_err_and c.from_residual.result c.from_residual.ensures.1 in
    let kind = c.loop-program.invariant.added.same.kind in
    let refused = rw c.encoding.ensures at c.in_err-write.ensures.err in
    rw (p.1, p.2)
    (refused_after (g.W.Writer.meaning c.write.new.w.0) (fails (g.W.Writer.meaning c.loop-program.w.0).is_plain c.program-item.result) (programs_fail c.args.line_strings.now c.args.strings.now plain c.args.programs.now)
    c.loop-program.invariant.added.same (λ e h. some_at (fails plain) c.args.programs.now c.loop-program.program-index c.program-item.result below c.program-item.is e (subst (λ k. IsTrue (fails k c.program-item.result e)) kind h))
    c.in_err-write.field-0.0 refused)

pub returns-clause-ok : goal.returns-clause-ok
returns-clause-ok g c =
    let past : length c.args.programs.now ≤ c.loop-program.program-index = omega arith in
    record {
      text_is = texts_whole line_program_size (line_program_text c.args.strings.now c.args.line_strings.now) c.args.programs.now c.loop-program.program-index past c.loop-program.invariant.added;
      front = c.loop-program.invariant.front;
    }

pub returns-clause-sound : goal.returns-clause-sound
returns-clause-sound g c =
    let past : length c.args.programs.now ≤ c.loop-program.program-index = omega arith in
    let fails = λ (p : LineProgramValue) (e : Error). line_program_fails c.args.strings.now c.args.line_strings.now (g.W.Writer.meaning c.args.w.now.0).is_plain (encoding_of p.program) p e in
    none_all fails c.args.programs.now c.loop-program.program-index past c.loop-program.invariant.sound
