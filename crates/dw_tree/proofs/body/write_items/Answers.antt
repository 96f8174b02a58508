use Rattle.std.proofs.Common.{◌≡◌, ℕ, List, [], ◌<◌, length, get_or, take, subst, arith, refl}
use Rattle.std.proofs.lemmas.List.{take_all, length-map}
use Rattle.std.specs.Prelude.{IsFalse, Bool}
use Rattle.std.proofs.lemmas.List.Elements.{All-nil}
use Rattle.std.proofs.lemmas.Result.{err_from_is_err_and}
use Rattle.dw_base.specs.Entries.{Mark}
use Rattle.dw_base.specs.declared.error.Error.{Error}
use Rattle.dw_writer.specs.Drafts.{Draft, Drafts}
use Rattle.dw_writer.proofs.Steps.{IsSameWriter-trans}
use Rattle.dw_writer.proofs.WriteLaws.{Drafts-nothing, Drafts-more}
use Rattle.dw_entries.specs.declared.tree.Item.TheVariants as its
use Rattle.dw_entries.specs.Tree.{mark_of, marks}
use Rattle.dw_tree.specs.Causes.{Is, Refused}
use Rattle.dw_tree.specs.Coded.{shapes_of}
use Rattle.dw_tree.specs.Pending.{IsMarkRanged, AreMarksRanged}
use Rattle.dw_tree.specs.TargetsAt.{targets_at}
use Rattle.dw_tree.specs.UnitFaults.{mark_fails, marks_fail}
use Rattle.dw_tree.specs.UnitText.{coded_draft, marks_draft}
use Rattle.dw_tree.proofs.Marks.{within_at, marks-below, mark_at}
use Rattle.dw_tree.proofs.Shared.{code_read}
use Rattle.dw_tree.proofs.Faults.{none_more, some_at, All-more, refused_after}
use Rattle.dw_tree.proofs.body.write_items.Goals as goal

pub loop-k-init : goal.loop-k-init
loop-k-init g c = record {
  added = Drafts-nothing (g.W.Writer.meaning c.args.w.now) c.args.fixups.now;
  sound = λ e. refl;
  ranged = All-nil (IsMarkRanged c.args.encoding c.args.entries.now);
}

pub write_item-requires-clause-within : goal.write_item-requires-clause-within
write_item-requires-clause-within g c = within_at _ c.args.items.now c.loop-k.k (its.Open 0) c.requires.within c.loop-k-test.true

pub loop-k-preserved : goal.loop-k-preserved
loop-k-preserved g c =
    let e = c.args.encoding in
    let es = c.args.entries.now in
    let u = targets_at c.args.targets.now in
    let items = c.args.items.now in
    let shapes = shapes_of e es [] (marks items) in
    let k = c.loop-k.k in
    let m = mark_of (get_or items k (its.Open 0)) in
    let lt : k < length items = c.loop-k-test.true in
    let below = marks-below items k lt in
    let is = mark_at items k (its.Open 0) lt in
    let code = code_read e es shapes items c.args.codes.now k (its.Open 0) c.requires.codes lt in
    let added = rw code at c.in_ok-write_item.ensures.ok in
    let fails : Mark ℕ → Error → Bool = mark_fails e es u (g.W.Writer.meaning c.args.w.now).is_plain in
    let here : (err : Error) → IsFalse (fails m err) = subst (λ plain. (err : Error) → IsFalse (mark_fails e es u plain m err)) c.loop-k.invariant.added.text.same.kind c.in_ok-write_item.ensures.sound in
    record {
      added = Drafts-more (coded_draft e es u shapes) (marks items) k m below is c.loop-k.invariant.added added;
      sound = none_more fails (marks items) k m below is c.loop-k.invariant.sound here;
      ranged = All-more (IsMarkRanged e es) (marks items) k m below is c.loop-k.invariant.ranged c.in_ok-write_item.ensures.ranged;
    }

pub returns-in_err-write_item-clause-err : goal.returns-in_err-write_item-clause-err
returns-in_err-write_item-clause-err g c =
    let e = c.args.encoding in
    let es = c.args.entries.now in
    let place = targets_at c.args.targets.now in
    let items = c.args.items.now in
    let k = c.loop-k.k in
    let m = mark_of (get_or items k (its.Open 0)) in
    let lt : k < length items = c.loop-k-test.true in
    let below = marks-below items k lt in
    let is = mark_at items k (its.Open 0) lt in
    let plain = (g.W.Writer.meaning c.args.w.now).is_plain in
    let fails : Mark ℕ → Error → Bool = mark_fails e es place plain in
    let here = subst (λ b. Refused (g.W.Writer.meaning c.loop-k.w) (g.W.Writer.meaning c.write_item.new.w) (Is (mark_fails e es place b m)) c.in_err-write_item.field-0.0) c.loop-k.invariant.added.text.same.kind c.in_err-write_item.ensures.err in
    let p = err_from_is_err_and c.from_residual.result c.from_residual.ensures.1 in
    rw (p.1, p.2)
    (refused_after (g.W.Writer.meaning c.args.w.now) (g.W.Writer.meaning c.loop-k.w) (g.W.Writer.meaning c.write_item.new.w) (Is (fails m)) (Is (marks_fail e es place plain (marks items)))
    c.loop-k.invariant.added.text.same (some_at fails (marks items) k m below is) c.in_err-write_item.field-0.0 here)

pub returns-clause-sound : goal.returns-clause-sound
returns-clause-sound g c =
    let items = c.args.items.now in
    let k = c.loop-k.k in
    let all : take k (marks items) ≡ marks items = take_all k (marks items) (omega (arith, c.loop-k-test.false, length-map items mark_of)) in
    let fails : List (Mark ℕ) → Error → Bool = marks_fail c.args.encoding c.args.entries.now (targets_at c.args.targets.now) (g.W.Writer.meaning c.args.w.now).is_plain in
    subst (λ ms. (e : Error) → IsFalse (fails ms e)) all c.loop-k.invariant.sound

pub returns-clause-ok : goal.returns-clause-ok
returns-clause-ok g c =
    let e = c.args.encoding in
    let es = c.args.entries.now in
    let items = c.args.items.now in
    let k = c.loop-k.k in
    let all : take k (marks items) ≡ marks items = take_all k (marks items) (omega (arith, c.loop-k-test.false, length-map items mark_of)) in
    let m = g.W.Writer.meaning in
    let d : List (Mark ℕ) → Draft = marks_draft e es (targets_at c.args.targets.now) (shapes_of e es [] (marks items)) in
    subst (λ ms. Drafts (m c.args.w.now) (m c.loop-k.w) c.args.fixups.now c.loop-k.fixups (d ms)) all c.loop-k.invariant.added

pub returns-clause-ranged : goal.returns-clause-ranged
returns-clause-ranged g c =
    let items = c.args.items.now in
    let k = c.loop-k.k in
    let all : take k (marks items) ≡ marks items = take_all k (marks items) (omega (arith, c.loop-k-test.false, length-map items mark_of)) in
    subst (AreMarksRanged c.args.encoding c.args.entries.now) all c.loop-k.invariant.ranged

pub returns-clause-same : goal.returns-clause-same
returns-clause-same g c = c.loop-k.invariant.added.text.same

pub returns-in_err-write_item-clause-same : goal.returns-in_err-write_item-clause-same
returns-in_err-write_item-clause-same g c = IsSameWriter-trans c.loop-k.invariant.added.text.same c.write_item.ensures.same
