use Rattle.std.proofs.Common.{Some, refl}
use Rattle.std.proofs.lemmas.Bool.{or_left, or_right}
use Rattle.std.proofs.lemmas.Result.{err_from_is_err_and}
use Rattle.dw_writer.proofs.Outcomes.{OnOk-map, IfErr-map}
use Rattle.dw_lists.specs.Causes.{Is, form_fails, numbers_fail, old_span_fails}
use Rattle.dw_lists.proofs.Causes.{neither_cause, nothing_there}
use Rattle.dw_lists.proofs.Refusals.{form_refused, weaker}
use Rattle.dw_lists.proofs.part.write_old_span.Goals as goal

pub returns-in_default-clause-err : goal.returns-in_default-clause-err
returns-in_default-clause-err g c = rw (nothing_there c.args.range c.in_default.not-Some) refl

pub returns-in_err-check_form-clause-err : goal.returns-in_err-check_form-clause-err
returns-in_err-check_form-clause-err g c =
    let m = g.W.Writer.meaning c.args.w.now in
    let base = c.args.has_base in
    let w = c.args.address_size in
    let r = c.in-Some.range in
    let p = err_from_is_err_and c.from_residual.result c.from_residual.ensures.1 in
    rw (p.1, p.2, c.in-Some.is) (form_refused m m base w r (Is (old_span_fails base m.is_plain w (Some r))) (λ e h. or_left (form_fails base w r e) _ h) c.in_err-check_form.field-0.0 c.in_err-check_form.ensures.err)

pub returns-clause-ok : goal.returns-clause-ok
returns-clause-ok g c = rw c.in-Some.is c.write_old.ensures.ok

pub returns-clause-sound : goal.returns-clause-sound
returns-clause-sound g c =
    let m = g.W.Writer.meaning c.args.w.now in
    let w = c.args.address_size in
    let r = c.in-Some.range in
    rw c.in-Some.is (OnOk-map c.write_old.result c.write_old.ensures.sound (neither_cause (form_fails c.args.has_base w r) (numbers_fail m.is_plain w r) c.in_ok-check_form.ensures.sound))

pub returns-clause-err : goal.returns-clause-err
returns-clause-err g c =
    let m = g.W.Writer.meaning c.args.w.now in
    let base = c.args.has_base in
    let w = c.args.address_size in
    let r = c.in-Some.range in
    rw c.in-Some.is (IfErr-map c.write_old.result c.write_old.ensures.err
    (weaker m (g.W.Writer.meaning c.write_old.new.w) (Is (numbers_fail m.is_plain w r)) (Is (old_span_fails base m.is_plain w (Some r))) (λ e h. or_right (form_fails base w r e) _ h)))

pub returns-in_err-check_form-clause-ok : goal.returns-in_err-check_form-clause-ok
returns-in_err-check_form-clause-ok g c = rw (err_from_is_err_and c.from_residual.result c.from_residual.ensures.1).1 tt

pub returns-in_err-check_form-clause-sound : goal.returns-in_err-check_form-clause-sound
returns-in_err-check_form-clause-sound g c = rw (err_from_is_err_and c.from_residual.result c.from_residual.ensures.1).1 tt

pub returns-in_default-clause-ok : goal.returns-in_default-clause-ok
returns-in_default-clause-ok g c = tt

pub returns-in_default-clause-sound : goal.returns-in_default-clause-sound
returns-in_default-clause-sound g c = tt

pub returns-clause-same : goal.returns-clause-same
returns-clause-same g c = c.write_old.ensures.same
