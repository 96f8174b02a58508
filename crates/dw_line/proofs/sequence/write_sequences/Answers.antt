use Rattle.std.proofs.Common.{◌<◌, ◌≤◌, subst, length, refl, arith, IsFalse, IsTrue, All}
use Rattle.std.proofs.lemmas.Result.{err_from_is_err_and}
use Rattle.std.proofs.lemmas.List.{take_all}
use Rattle.std.proofs.lemmas.List.Elements.{All-nil, All-more}
use Rattle.std.specs.List.{list_any}
use Rattle.dw_base.specs.declared.error.Error.{Error}
use Rattle.dw_line.specs.Programs.{is_in_order, ended_size, ended_text, ended_fails, IsEndedAfter}
use Rattle.dw_line.proofs.PartSteps.{texts_none, texts_step, texts_whole, none_more, none_all, some_at, refused_after, all_at}
use Rattle.dw_line.proofs.FrontSteps.{Front-none, Front-then}
use Rattle.dw_line.proofs.sequence.write_sequences.Goals as goal

pub loop-sequence-init : goal.loop-sequence-init
loop-sequence-init g c = record { added = texts_none (ended_size c.args.encoding c.args.line_encoding) (ended_text c.args.encoding c.args.line_encoding) _; sound = λ e. refl; after = All-nil _; front = Front-none _ }

pub write-requires-clause-order : goal.write-requires-clause-order
write-requires-clause-order g c =
    let below : c.loop-sequence.sequence-index < length c.args.sequences.now = omega arith in
    all_at (is_in_order c.args.line_encoding.minimum_instruction_length) c.args.sequences.now c.loop-sequence.sequence-index c.sequence-item.result below c.sequence-item.is c.requires.order

pub loop-sequence-preserved : goal.loop-sequence-preserved
loop-sequence-preserved g c =
    let e = c.args.encoding in
    let le = c.args.line_encoding in
    let m = g.W.Writer.meaning c.args.w.now in
    let below : c.loop-sequence.sequence-index < length c.args.sequences.now = omega arith in
    let kind = c.loop-sequence.invariant.added.same.kind in
    let here : (error : Error) → IsFalse (ended_fails m.is_plain e le c.sequence-item.result error) =
    subst (λ k. (error : Error) → IsFalse (ended_fails k e le c.sequence-item.result error)) kind c.in_ok-write.ensures.sound in
    let after : IsEndedAfter m.is_big e le c.sequence-item.result = subst (λ k. IsEndedAfter k e le c.sequence-item.result) c.loop-sequence.invariant.added.same.order c.in_ok-write.ensures.after in
    record {
      added = texts_step (ended_size e le) (ended_text e le) c.args.sequences.now c.loop-sequence.sequence-index c.sequence-item.result below c.sequence-item.is c.loop-sequence.invariant.added c.in_ok-write.ensures.ok;
      sound = none_more (ended_fails m.is_plain e le) c.args.sequences.now c.loop-sequence.sequence-index c.sequence-item.result below c.sequence-item.is c.loop-sequence.invariant.sound here;
      after = All-more (IsEndedAfter m.is_big e le) c.args.sequences.now c.loop-sequence.sequence-index c.sequence-item.result below c.loop-sequence.invariant.after (subst (IsEndedAfter m.is_big e le) c.sequence-item.is after);
      front = Front-then c.loop-sequence.invariant.front c.in_ok-write.ensures.front;
    }

pub returns-in_err-write-clause-err : goal.returns-in_err-write-clause-err
returns-in_err-write-clause-err g c =
    let e = c.args.encoding in
    let le = c.args.line_encoding in
    let plain = (g.W.Writer.meaning c.args.w.now).is_plain in
    let below : c.loop-sequence.sequence-index < length c.args.sequences.now = omega arith in
    let p = err_from_is_err_and c.from_residual.result c.from_residual.ensures.1 in
    let kind = c.loop-sequence.invariant.added.same.kind in
    rw (p.1, p.2)
    (refused_after (g.W.Writer.meaning c.write.new.w) (ended_fails (g.W.Writer.meaning c.loop-sequence.w).is_plain e le c.sequence-item.result) (λ error. list_any (λ s. ended_fails plain e le s error) c.args.sequences.now)
    c.loop-sequence.invariant.added.same (λ error h. some_at (ended_fails plain e le) c.args.sequences.now c.loop-sequence.sequence-index c.sequence-item.result below c.sequence-item.is error (subst (λ k. IsTrue (ended_fails k e le c.sequence-item.result error)) kind h))
    c.in_err-write.field-0.0 c.in_err-write.ensures.err)

pub returns-clause-ok : goal.returns-clause-ok
returns-clause-ok g c =
    let past : length c.args.sequences.now ≤ c.loop-sequence.sequence-index = omega arith in
    texts_whole (ended_size c.args.encoding c.args.line_encoding) (ended_text c.args.encoding c.args.line_encoding) c.args.sequences.now c.loop-sequence.sequence-index past c.loop-sequence.invariant.added

pub returns-clause-sound : goal.returns-clause-sound
returns-clause-sound g c =
    let past : length c.args.sequences.now ≤ c.loop-sequence.sequence-index = omega arith in
    none_all (ended_fails (g.W.Writer.meaning c.args.w.now).is_plain c.args.encoding c.args.line_encoding) c.args.sequences.now c.loop-sequence.sequence-index past c.loop-sequence.invariant.sound

pub returns-clause-after : goal.returns-clause-after
returns-clause-after g c =
    let past : length c.args.sequences.now ≤ c.loop-sequence.sequence-index = omega arith in
    subst (All (IsEndedAfter (g.W.Writer.meaning c.args.w.now).is_big c.args.encoding c.args.line_encoding)) (take_all c.loop-sequence.sequence-index c.args.sequences.now past) c.loop-sequence.invariant.after

pub returns-in_err-write-clause-front : goal.returns-in_err-write-clause-front
returns-in_err-write-clause-front g c = Front-then c.loop-sequence.invariant.front c.in_err-write.ensures.front

pub returns-in_err-write-clause-ok : goal.returns-in_err-write-clause-ok
returns-in_err-write-clause-ok g c = rw (err_from_is_err_and c.from_residual.result c.from_residual.ensures.1).1 tt

pub returns-in_err-write-clause-sound : goal.returns-in_err-write-clause-sound
returns-in_err-write-clause-sound g c = rw (err_from_is_err_and c.from_residual.result c.from_residual.ensures.1).1 tt

pub returns-in_err-write-clause-after : goal.returns-in_err-write-clause-after
returns-in_err-write-clause-after g c = rw (err_from_is_err_and c.from_residual.result c.from_residual.ensures.1).1 tt

pub returns-clause-err : goal.returns-clause-err
returns-clause-err g c = tt
