use Rattle.std.proofs.Common.{arith, refl, subst}
use Rattle.std.specs.Prelude.{IsFalse}
use Rattle.std.proofs.lemmas.Result.{err_from_is_err_and}
use Rattle.dw_base.specs.declared.error.Error.{Error}
use Rattle.dw_tree.specs.Causes.{Is}
use Rattle.dw_tree.specs.Pending.{info_at}
use Rattle.dw_tree.specs.UnitFaults.{hole_fails, holes_fail}
use Rattle.dw_tree.proofs.Faults.{refused_after}
use Rattle.dw_unit.proofs.Filling.{fills_none, fills_more, fills_all, holes_more, holes_all, hole_at, fillable_at}
use Rattle.dw_unit.proofs.references.fill.Goals as goal

pub loop-i-init : goal.loop-i-init
loop-i-init g c = record {
  front = fills_none (g.W.Writer.meaning c.args.w.now) (info_at c.args.units.now) c.args.fixups.now;
  sound = λ e. refl;
  faults = omega arith;
}

pub loop-i-preserved : goal.loop-i-preserved
loop-i-preserved g c =
    let info = info_at c.args.units.now in
    let hs = c.args.fixups.now in
    let i = c.loop-i.i in
    let h = c.fixup_at.result in
    let inv = c.loop-i.invariant in
    let here : (err : Error) → IsFalse (hole_fails info (g.W.Writer.meaning c.args.w.now).is_plain h err) =
    subst (λ plain. (err : Error) → IsFalse (hole_fails info plain h err)) inv.front.same.kind c.in_ok-fill_one.ensures.sound in
    record {
      front = fills_more info hs i h c.fixup_at.ensures inv.front c.in_ok-fill_one.ensures.ok;
      sound = λ err. holes_more info (g.W.Writer.meaning c.args.w.now).is_plain err hs i h c.fixup_at.ensures (inv.sound err) (here err);
      faults = omega (arith, inv.faults, c.in_ok-fill_one.ensures.faults);
    }

pub returns-clause-ok : goal.returns-clause-ok
returns-clause-ok g c = fills_all (info_at c.args.units.now) c.args.fixups.now c.loop-i.i (omega arith) (omega arith) c.loop-i.invariant.front

pub returns-clause-sound : goal.returns-clause-sound
returns-clause-sound g c = holes_all (info_at c.args.units.now) (g.W.Writer.meaning c.args.w.now).is_plain c.args.fixups.now c.loop-i.i (omega arith) (omega arith) c.loop-i.invariant.sound

pub returns-in_err-fill_one-clause-faults : goal.returns-in_err-fill_one-clause-faults
returns-in_err-fill_one-clause-faults g c = omega (arith, c.loop-i.invariant.faults, c.in_err-fill_one.ensures.faults)

pub returns-in_err-fill_one-clause-err : goal.returns-in_err-fill_one-clause-err
returns-in_err-fill_one-clause-err g c =
    let info = info_at c.args.units.now in
    let plain = (g.W.Writer.meaning c.args.w.now).is_plain in
    let front = c.loop-i.invariant.front in
    let h = c.fixup_at.result in
    let here = rw front.same.kind at c.in_err-fill_one.ensures.err in
    let p = err_from_is_err_and c.from_residual.result c.from_residual.ensures.1 in
    rw (p.1, p.2)
    (λ can. refused_after (g.W.Writer.meaning c.args.w.now) (g.W.Writer.meaning c.loop-i.w) (g.W.Writer.meaning c.fill_one.new.w) (Is (hole_fails info plain h)) (Is (holes_fail info plain c.args.fixups.now))
    front.same (λ err k. hole_at info plain err c.args.fixups.now c.loop-i.i h c.fixup_at.ensures k) c.in_err-fill_one.field-0.0
    (here (fillable_at (g.W.Writer.meaning c.args.w.now) (g.W.Writer.meaning c.loop-i.w) c.args.fixups.now c.loop-i.i h front.size can c.fixup_at.ensures)))
