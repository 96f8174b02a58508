use Rattle.std.proofs.Common.{◌∙◌, sym, ap, subst, length}
use Rattle.std.specs.Prelude.{Result, Ok, Err, OnOk, IsFalse}
use Rattle.dw_base.specs.Entries.{Open}
use Rattle.dw_base.specs.declared.error.Error.{Error}
use Rattle.dw_entries.specs.Entries.{EntryValue}
use Rattle.dw_entries.specs.Tree.{IsIn, mark_of}
use Rattle.dw_entries.proofs.ChildReads.{indexed}
use Rattle.dw_tree.specs.Early.{attributes_unplaced, mark_unplaced}
use Rattle.dw_tree.specs.Laying.{LayoutValue, layout_value, begun, known_in}
use Rattle.dw_tree.proofs.layout.Layout.step.Goals as goal

on_ok : (r : Result (Unit {0}) Error) (P : Type 0) → P → OnOk r P
on_ok (Ok n) P h = h
on_ok (Err e) P h = tt

pub returns-in_ok-size-in-Open-clause-sound : goal.returns-in_ok-size-in-Open-clause-sound
returns-in_ok-size-in-Open-clause-sound c =
    let e = c.args.encoding in
    let es = c.args.entries.now in
    let i = c.in-Open.index in
    let v = layout_value c.args.self.now in
    let within = subst (λ item. IsIn (length es) (mark_of item)) c.in-Open.is c.requires.within in
    let entry = indexed es i c.index-entries-index.result within c.index-entries-index.is in
    rw c.in-Open.is
    (on_ok c.enter.result ((err : Error) → IsFalse (mark_unplaced e es (known_in (begun (Open i) v)) (Open i) err))
    (λ err.
    ap (λ (x : EntryValue). attributes_unplaced e (known_in (begun (Open i) v)) x.attributes err) (sym entry)
    ∙ ap (λ (u : LayoutValue). attributes_unplaced e (known_in u) c.index-entries-index.result.attributes err) (sym c.begin.ensures)
    ∙ c.in_ok-size-in-Open.ensures.sound err))
