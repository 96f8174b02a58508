use Rattle.dw_writer.proofs.Outcomes.{OnOk-map, IfErr-map}
use Rattle.dw_writer.proofs.WriteLaws.{Drafts-then}
use Rattle.dw_tree.specs.Causes.{Is}
use Rattle.dw_tree.specs.TargetsAt.{targets_at}
use Rattle.dw_tree.specs.UnitFaults.{attributes_fail}
use Rattle.dw_tree.proofs.Drafted.{Drafts-bytes}
use Rattle.dw_tree.proofs.Faults.{refused_after}
use Rattle.dw_writer.proofs.Steps.{IsSameWriter-trans}
use Rattle.std.proofs.lemmas.Result.{err_from_is_err_and}
use Rattle.dw_writer.specs.Causes.{NotAtAll}
use Rattle.dw_tree.proofs.body.write_entry.Goals as goal

pub returns-clause-ok : goal.returns-clause-ok
returns-clause-ok g c =
    let sibling = rw c.past.ensures at c.in_ok-write_sibling.ensures.ok in
    let values = rw c.attributes.ensures.value at c.write_attributes.ensures.ok in
    OnOk-map c.write_attributes.result values
    (λ p. Drafts-then (Drafts-bytes c.args.fixups.now c.in_ok-write_uleb128.ensures.ok) (Drafts-then (sibling c.args.fixups.now) p))

pub returns-clause-sound : goal.returns-clause-sound
returns-clause-sound g c =
    rw (c.attributes.ensures.value, c.in_ok-write_sibling.ensures.same.kind, c.in_ok-write_uleb128.ensures.ok.same.kind) at c.write_attributes.ensures.sound

pub returns-clause-err : goal.returns-clause-err
returns-clause-err g c =
    let fails = Is (attributes_fail c.args.encoding (targets_at c.args.targets.now) (g.W.Writer.meaning c.args.w.now).is_plain c.args.entry.now.attributes) in
    let err = rw (c.attributes.ensures.value, c.in_ok-write_sibling.ensures.same.kind, c.in_ok-write_uleb128.ensures.ok.same.kind) at c.write_attributes.ensures.err in
    let same = IsSameWriter-trans c.in_ok-write_uleb128.ensures.same c.in_ok-write_sibling.ensures.same in
    IfErr-map c.write_attributes.result err
    (refused_after (g.W.Writer.meaning c.args.w.now) (g.W.Writer.meaning c.write_sibling.new.w) (g.W.Writer.meaning c.write_attributes.new.w) fails fails same (λ e h. h))

pub returns-in_err-write_sibling-clause-err : goal.returns-in_err-write_sibling-clause-err
returns-in_err-write_sibling-clause-err g c =
    let p = err_from_is_err_and c.from_residual-in_err-write_sibling.result c.from_residual-in_err-write_sibling.ensures.1 in
    rw (p.1, p.2)
    (refused_after (g.W.Writer.meaning c.args.w.now) (g.W.Writer.meaning c.write_uleb128.new.self) (g.W.Writer.meaning c.write_sibling.new.w) NotAtAll (Is (attributes_fail c.args.encoding (targets_at c.args.targets.now) (g.W.Writer.meaning c.args.w.now).is_plain c.args.entry.now.attributes)) c.in_ok-write_uleb128.ensures.same (λ e h. absurd h)
    c.in_err-write_sibling.field-0.0 c.in_err-write_sibling.ensures.err)

pub returns-in_err-write_sibling-clause-same : goal.returns-in_err-write_sibling-clause-same
returns-in_err-write_sibling-clause-same g c = IsSameWriter-trans c.in_ok-write_uleb128.ensures.same c.in_err-write_sibling.ensures.same

pub returns-clause-same : goal.returns-clause-same
returns-clause-same g c = IsSameWriter-trans c.in_ok-write_uleb128.ensures.same (IsSameWriter-trans c.in_ok-write_sibling.ensures.same c.write_attributes.ensures.same)
