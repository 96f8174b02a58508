use Rattle.std.specs.Prelude.{Ok, Err, refl, ◌+◌, drop}
use Rattle.std.proofs.Common.{sym, subst, arith}
use Rattle.std.proofs.lemmas.Result.{err_from_is_err_and}
use Rattle.dw_writer.proofs.Steps.{IsSameWriter-trans}
use Rattle.dw_frame.specs.Parts.{Puts}
use Rattle.dw_frame.specs.Places.{known, AreBefore}
use Rattle.dw_frame.specs.Reading.{AreTold}
use Rattle.dw_frame.specs.Tables.{frame, frames_from, with_place, place_at}
use Rattle.dw_frame.proofs.PartSteps.{Puts-then, Puts-first, Puts-nothing}
use Rattle.dw_frame_instructions.proofs.ProgramSteps.{drop_cons, drop_all}
use Rattle.dw_frame.proofs.TableSteps.{none_before, has_cie}
use Rattle.dw_frame.proofs.table.write.write_frames.Goals as goal

pub loop-fde-init : goal.loop-fde-init
loop-fde-init g c =
    let none = c.in_ok-places.ensures.places in
    let m = (g.W.Writer.meaning c.args.w.now) in
    record {
      same = record { order = refl; kind = refl; faults = omega arith };
      counted = rw c.in_ok-places.ensures.count refl;
      behind = subst (λ p. AreBefore p m.size) (sym none) (none_before m.size);
      rest = λ r b h. subst (λ p. Puts r m b (frames_from c.args.kind c.args.cies.now p c.args.fdes.now)) none h;
      told = λ t. subst (λ p. AreTold c.args.kind c.args.cies.now p c.args.fdes.now m.size) none t;
    }

pub returns-in_err-places-clause-part : goal.returns-in_err-places-clause-part
returns-in_err-places-clause-part g c =
    let p = err_from_is_err_and c.from_residual.result c.from_residual.ensures.1 in
    rw (p.1, p.2, c.in_err-places.ensures.err) tt

pub returns-in_err-write_frame-clause-part : goal.returns-in_err-write_frame-clause-part
returns-in_err-write_frame-clause-part g c =
    let e = c.in_err-write_frame.field-0.0 in
    let p = err_from_is_err_and c.from_residual-in_err-write_frame.result c.from_residual-in_err-write_frame.ensures.1 in
    let split = drop_cons c.args.fdes.now c.loop-fde.fde-index c.fde-item.result c.loop-fde-test.true c.fde-item.is in
    rw (p.1, p.2)
    (c.loop-fde.invariant.rest (Err e) (g.W.Writer.meaning c.write_frame.new.w)
    (subst (λ ys. Puts {T = Unit {0}} (Err e) (g.W.Writer.meaning c.loop-fde.w) (g.W.Writer.meaning c.write_frame.new.w) (frames_from c.args.kind c.args.cies.now (known c.loop-fde.places.places.items) ys)) (sym split)
    (Puts-first (Unit {0}) (g.W.Writer.meaning c.loop-fde.w) (g.W.Writer.meaning c.write_frame.new.w) (frame c.args.kind c.args.cies.now (known c.loop-fde.places.places.items) c.fde-item.result) (frames_from c.args.kind c.args.cies.now (with_place c.fde-item.result.0.0 (place_at ((known c.loop-fde.places.places.items) c.fde-item.result.0.0) (g.W.Writer.meaning c.loop-fde.w).size) (known c.loop-fde.places.places.items)) (drop (c.loop-fde.fde-index + 1) c.args.fdes.now)) e c.in_err-write_frame.ensures.part)))

pub loop-fde-preserved : goal.loop-fde-preserved
loop-fde-preserved g c =
    let before = c.loop-fde.invariant in
    let first = c.in_ok-write_frame.ensures in
    let split = drop_cons c.args.fdes.now c.loop-fde.fde-index c.fde-item.result c.loop-fde-test.true c.fde-item.is in
    record {
      same = IsSameWriter-trans before.same first.part.0.same;
      counted = first.count;
      behind = first.before;
      rest = λ r b h. before.rest r b
          (subst (λ ys. Puts r (g.W.Writer.meaning c.loop-fde.w) b (frames_from c.args.kind c.args.cies.now (known c.loop-fde.places.places.items) ys)) (sym split)
          (Puts-then r (g.W.Writer.meaning c.loop-fde.w) (g.W.Writer.meaning c.write_frame.new.w) b (frame c.args.kind c.args.cies.now (known c.loop-fde.places.places.items) c.fde-item.result) (frames_from c.args.kind c.args.cies.now (with_place c.fde-item.result.0.0 (place_at ((known c.loop-fde.places.places.items) c.fde-item.result.0.0) (g.W.Writer.meaning c.loop-fde.w).size) (known c.loop-fde.places.places.items)) (drop (c.loop-fde.fde-index + 1) c.args.fdes.now)) first.part
          (subst (λ p. Puts r (g.W.Writer.meaning c.write_frame.new.w) b (frames_from c.args.kind c.args.cies.now p (drop (c.loop-fde.fde-index + 1) c.args.fdes.now))) first.places h)));
      told = λ t. before.told
          (subst (λ ys. AreTold c.args.kind c.args.cies.now (known c.loop-fde.places.places.items) ys (g.W.Writer.meaning c.loop-fde.w).size) (sym split) (
            first.told,
            subst (AreTold c.args.kind c.args.cies.now (with_place c.fde-item.result.0.0 (place_at ((known c.loop-fde.places.places.items) c.fde-item.result.0.0) (g.W.Writer.meaning c.loop-fde.w).size) (known c.loop-fde.places.places.items)) (drop (c.loop-fde.fde-index + 1) c.args.fdes.now)) first.part.0.size
                (subst (λ p. AreTold c.args.kind c.args.cies.now p (drop (c.loop-fde.fde-index + 1) c.args.fdes.now) (g.W.Writer.meaning c.write_frame.new.w).size) first.places t),
          ));
    }

pub returns-clause-told : goal.returns-clause-told
returns-clause-told g c =
    c.loop-fde.invariant.told (subst (λ ys. AreTold c.args.kind c.args.cies.now (known c.loop-fde.places.places.items) ys (g.W.Writer.meaning c.loop-fde.w).size) (sym (drop_all c.args.fdes.now c.loop-fde.fde-index c.loop-fde-test.false)) tt)

pub returns-clause-part : goal.returns-clause-part
returns-clause-part g c =
    c.loop-fde.invariant.rest (Ok tt) (g.W.Writer.meaning c.loop-fde.w)
    (subst (λ ys. Puts {T = Unit {0}} (Ok tt) (g.W.Writer.meaning c.loop-fde.w) (g.W.Writer.meaning c.loop-fde.w) (frames_from c.args.kind c.args.cies.now (known c.loop-fde.places.places.items) ys)) (sym (drop_all c.args.fdes.now c.loop-fde.fde-index c.loop-fde-test.false)) (Puts-nothing (g.W.Writer.meaning c.loop-fde.w)))

pub returns-in_err-places-clause-told : goal.returns-in_err-places-clause-told
returns-in_err-places-clause-told g c =
    let p = err_from_is_err_and c.from_residual.result c.from_residual.ensures.1 in
    rw p.1 tt

pub returns-in_err-write_frame-clause-told : goal.returns-in_err-write_frame-clause-told
returns-in_err-write_frame-clause-told g c =
    let p = err_from_is_err_and c.from_residual-in_err-write_frame.result c.from_residual-in_err-write_frame.ensures.1 in
    rw p.1 tt

pub write_frame-requires-clause-counted : goal.write_frame-requires-clause-counted
write_frame-requires-clause-counted g c = c.loop-fde.invariant.counted

pub write_frame-requires-clause-behind : goal.write_frame-requires-clause-behind
write_frame-requires-clause-behind g c = c.loop-fde.invariant.behind

pub write_frame-requires-clause-own : goal.write_frame-requires-clause-own
write_frame-requires-clause-own g c = has_cie _ c.args.fdes.now c.loop-fde.fde-index c.fde-item.result c.requires c.loop-fde-test.true c.fde-item.is
