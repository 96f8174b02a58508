use Rattle.std.proofs.Common.{◌<◌, ◌≤◌, subst, length, refl, arith, IsFalse, IsTrue}
use Rattle.std.proofs.lemmas.Result.{err_from_is_err_and}
use Rattle.std.specs.List.{list_any}
use Rattle.dw_base.specs.Numbers.{word_of}
use Rattle.dw_base.specs.declared.error.Error.{Error}
use Rattle.dw_line.specs.Names.{name_size, name_text, name_fails}
use Rattle.dw_line.proofs.PartSteps.{texts_none, texts_step, texts_whole, none_more, none_all, some_at, refused_after}
use Rattle.dw_line.proofs.FrontSteps.{Front-none, Front-then}
use Rattle.dw_line.proofs.name.write_names.Goals as goal

pub loop-name-init : goal.loop-name-init
loop-name-init g c = record { added = texts_none (name_size (word_of c.args.format)) (name_text (word_of c.args.format) c.args.strings.now c.args.line_strings.now) _; sound = λ e. refl; front = Front-none _ }

pub loop-name-preserved : goal.loop-name-preserved
loop-name-preserved g c =
    let f = word_of c.args.format in
    let fails = name_fails f c.args.strings.now c.args.line_strings.now in
    let plain = (g.W.Writer.meaning c.args.w.now).is_plain in
    let below : c.loop-name.name-index < length c.args.names.now = omega arith in
    let here : (e : Error) → IsFalse (fails plain c.name-item.result e) =
    subst (λ k. (e : Error) → IsFalse (fails k c.name-item.result e)) c.loop-name.invariant.added.same.kind c.in_ok-write_name.ensures.sound in
    record {
      added = texts_step (name_size f) (name_text f c.args.strings.now c.args.line_strings.now) c.args.names.now c.loop-name.name-index c.name-item.result below c.name-item.is c.loop-name.invariant.added c.in_ok-write_name.ensures.ok;
      sound = none_more (fails plain) c.args.names.now c.loop-name.name-index c.name-item.result below c.name-item.is c.loop-name.invariant.sound here;
      front = Front-then c.loop-name.invariant.front c.in_ok-write_name.ensures.front;
    }

pub returns-in_err-write_name-clause-err : goal.returns-in_err-write_name-clause-err
returns-in_err-write_name-clause-err g c =
    let fails = name_fails (word_of c.args.format) c.args.strings.now c.args.line_strings.now in
    let plain = (g.W.Writer.meaning c.args.w.now).is_plain in
    let below : c.loop-name.name-index < length c.args.names.now = omega arith in
    let p = err_from_is_err_and c.from_residual.result c.from_residual.ensures.1 in
    let kind = c.loop-name.invariant.added.same.kind in
    rw (p.1, p.2)
    (refused_after (g.W.Writer.meaning c.write_name.new.w) (fails (g.W.Writer.meaning c.loop-name.w).is_plain c.name-item.result) (λ e. list_any (λ n. fails plain n e) c.args.names.now)
    c.loop-name.invariant.added.same (λ e h. some_at (fails plain) c.args.names.now c.loop-name.name-index c.name-item.result below c.name-item.is e (subst (λ k. IsTrue (fails k c.name-item.result e)) kind h))
    c.in_err-write_name.field-0.0 c.in_err-write_name.ensures.err)

pub returns-clause-ok : goal.returns-clause-ok
returns-clause-ok g c =
    let past : length c.args.names.now ≤ c.loop-name.name-index = omega arith in
    texts_whole (name_size (word_of c.args.format)) (name_text (word_of c.args.format) c.args.strings.now c.args.line_strings.now) c.args.names.now c.loop-name.name-index past c.loop-name.invariant.added

pub returns-clause-sound : goal.returns-clause-sound
returns-clause-sound g c =
    let past : length c.args.names.now ≤ c.loop-name.name-index = omega arith in
    none_all (name_fails (word_of c.args.format) c.args.strings.now c.args.line_strings.now (g.W.Writer.meaning c.args.w.now).is_plain) c.args.names.now c.loop-name.name-index past c.loop-name.invariant.sound

pub returns-in_err-write_name-clause-front : goal.returns-in_err-write_name-clause-front
returns-in_err-write_name-clause-front g c = Front-then c.loop-name.invariant.front c.in_err-write_name.ensures.front

pub returns-in_err-write_name-clause-ok : goal.returns-in_err-write_name-clause-ok
returns-in_err-write_name-clause-ok g c = rw (err_from_is_err_and c.from_residual.result c.from_residual.ensures.1).1 tt

pub returns-in_err-write_name-clause-sound : goal.returns-in_err-write_name-clause-sound
returns-in_err-write_name-clause-sound g c = rw (err_from_is_err_and c.from_residual.result c.from_residual.ensures.1).1 tt

pub returns-clause-err : goal.returns-clause-err
returns-clause-err g c = tt
