use Rattle.std.proofs.Common.{length, sym, subst, arith}
use Rattle.std.specs.Prelude.{IsFalse, IsTrue}
use Rattle.dw_writer.proofs.Outcomes.{OnOk-map, IfErr-map}
use Rattle.dw_entries.specs.Entries.{EntryValue}
use Rattle.dw_entries.specs.Tree.{IsIn, mark_of}
use Rattle.dw_entries.proofs.ChildReads.{indexed}
use Rattle.dw_tree.specs.TargetsAt.{targets_at}
use Rattle.dw_tree.specs.UnitFaults.{attributes_fail, mark_fails}
use Rattle.dw_tree.proofs.Drafted.{Drafts-byte}
use Rattle.dw_tree.proofs.Faults.{because-map, bytes_because}
use Rattle.dw_tree.specs.Causes.{Is}
use Rattle.dw_tree.proofs.body.write_item.Goals as goal

pub returns-in-Null-clause-ok : goal.returns-in-Null-clause-ok
returns-in-Null-clause-ok g c =
    rw c.in-Null.is (OnOk-map c.write_u8.result c.write_u8.ensures.ok (Drafts-byte c.args.fixups.now 0 (omega arith)))

pub returns-in-Open-clause-sound : goal.returns-in-Open-clause-sound
returns-in-Open-clause-sound g c =
    let e = c.args.encoding in
    let es = c.args.entries.now in
    let place = targets_at c.args.targets.now in
    let plain = (g.W.Writer.meaning c.args.w.now).is_plain in
    let i = c.in-Open.index in
    let within = subst (λ item. IsIn (length es) (mark_of item)) c.in-Open.is c.requires.within in
    let is = indexed es i c.index-entries-index.result within c.index-entries-index.is in
    OnOk-map c.write_entry.result c.write_entry.ensures.sound
    (λ h err. subst (λ item. IsFalse (mark_fails e es place plain (mark_of item) err)) (sym c.in-Open.is) (subst (λ (x : EntryValue). IsFalse (attributes_fail e place plain x.attributes err)) is (h err)))

pub returns-in-Open-clause-err : goal.returns-in-Open-clause-err
returns-in-Open-clause-err g c =
    let e = c.args.encoding in
    let es = c.args.entries.now in
    let place = targets_at c.args.targets.now in
    let plain = (g.W.Writer.meaning c.args.w.now).is_plain in
    let i = c.in-Open.index in
    let within = subst (λ item. IsIn (length es) (mark_of item)) c.in-Open.is c.requires.within in
    let is = indexed es i c.index-entries-index.result within c.index-entries-index.is in
    IfErr-map c.write_entry.result c.write_entry.ensures.err
    (because-map (λ h. h) (λ err h. subst (λ item. IsTrue (mark_fails e es place plain (mark_of item) err)) (sym c.in-Open.is) (subst (λ (x : EntryValue). IsTrue (attributes_fail e place plain x.attributes err)) is h)))

pub returns-in-Null-clause-err : goal.returns-in-Null-clause-err
returns-in-Null-clause-err g c =
    IfErr-map c.write_u8.result c.write_u8.ensures.err
    (bytes_because (Is (mark_fails c.args.encoding c.args.entries.now (targets_at c.args.targets.now) (g.W.Writer.meaning c.args.w.now).is_plain (mark_of c.args.item))) (g.W.Writer.meaning c.args.w.now) (g.W.Writer.meaning c.write_u8.new.self) (λ rise. rise))
