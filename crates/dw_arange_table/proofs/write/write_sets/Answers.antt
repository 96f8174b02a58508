use Rattle.std.proofs.lemmas.Result.{err_from_is_err_and}
use Rattle.std.proofs.Common.{◌<◌, ◌+◌, length, drop, subst, sym, Bool, Ok, arith, Err, ◌∷◌}
use Rattle.dw_writer.proofs.Steps.{IsSameWriter-trans}
use Rattle.dw_writer.specs.Meaning.{Appends}
use Rattle.dw_arange_table.specs.Sets.{is_set}
use Rattle.dw_arange_table.specs.Causes.{set_fails, sets_fail, IsNone, Refused}
use Rattle.dw_arange_table.specs.Texts.{set_text, sets_text, set_size, sets_size, Writes}
use Rattle.dw_arange_table.proofs.WriteSteps.{drop_cons, drop_all, all_more}
use Rattle.dw_arange_table.proofs.TextSteps.{no_sets, sets_then, first_refused}
use Rattle.dw_arange_table.proofs.write.write_sets.Goals as goal

pub loop-set-preserved : goal.loop-set-preserved
loop-set-preserved g c =
    let before = c.loop-set.invariant in
    let meaning = g.W.Writer.meaning in
    let sets = c.args.sets.now in
    let i = c.loop-set.set-index in
    let s = c.set-item.result in
    let below : i < length sets = omega arith in
    let split = drop_cons sets i s below c.set-item.is in
    let plain = (meaning c.args.w.now).is_plain in
    let text = c.in_ok-write.ensures.text in
    let first = subst (λ (p : Bool). Appends (meaning c.loop-set.w) (meaning c.write.new.w) (set_size s) (set_text s) × IsNone (set_fails p s)) before.same.kind text in
    record {
      same = IsSameWriter-trans before.same first.0.same;
      rest = λ r b h. before.rest r b
          (subst (λ ys. Writes r (meaning c.loop-set.w) b (sets_size ys) (sets_text ys) (sets_fail plain ys)) (sym split)
          (sets_then r (meaning c.loop-set.w) (meaning c.write.new.w) b plain s (drop (i + 1) sets) first h));
      are = all_more is_set sets i s below c.set-item.is before.are c.in_ok-write.ensures.is;
    }

pub returns-clause-text : goal.returns-clause-text
returns-clause-text g c =
    let m = g.W.Writer.meaning c.loop-set.w in
    let plain = (g.W.Writer.meaning c.args.w.now).is_plain in
    c.loop-set.invariant.rest (Ok tt) m
    (subst (λ ys. Writes {T = Unit {0}} (Ok tt) m m (sets_size ys) (sets_text ys) (sets_fail plain ys)) (sym (drop_all c.args.sets.now c.loop-set.set-index (omega arith))) (no_sets m plain))

pub returns-in_err-write-clause-text : goal.returns-in_err-write-clause-text
returns-in_err-write-clause-text g c =
    let before = c.loop-set.invariant in
    let meaning = g.W.Writer.meaning in
    let sets = c.args.sets.now in
    let i = c.loop-set.set-index in
    let s = c.set-item.result in
    let rest = drop (i + 1) sets in
    let now = meaning c.loop-set.w in
    let next = meaning c.write.new.w in
    let plain = (meaning c.args.w.now).is_plain in
    let e = c.in_err-write.field-0.0 in
    let split = drop_cons sets i s c.loop-set-test.true c.set-item.is in
    let why = subst (λ (p : Bool). Refused now next (sets_fail p (s ∷ rest)) e) before.same.kind (first_refused now next s rest e c.in_err-write.ensures.text) in
    let p = err_from_is_err_and c.from_residual.result c.from_residual.ensures.1 in
    rw (p.1, p.2) (before.rest (Err e) next (subst (λ ys. Writes {T = Unit {0}} (Err e) now next (sets_size ys) (sets_text ys) (sets_fail plain ys)) (sym split) why))
