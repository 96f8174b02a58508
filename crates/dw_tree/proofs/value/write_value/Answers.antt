use Rattle.std.proofs.Common.{◌∙◌, sym, ap, subst}
use Rattle.std.specs.Prelude.{OnOk, IfErr, IsFalse}
use Rattle.dw_base.specs.declared.error.Error.{Error}
use Rattle.dw_writer.proofs.Outcomes.{OnOk-map}
use Rattle.dw_writer.proofs.WriteLaws.{Drafts-is}
use Rattle.dw_entries.specs.Content.{content_fails, IsContentRanged}
use Rattle.dw_entries.proofs.ContentLaws.{plain_width}
use Rattle.dw_tree.specs.Causes.{Refused, Is}
use Rattle.dw_tree.specs.TargetsAt.{targets_at}
use Rattle.dw_tree.specs.UnitText.{content_draft}
use Rattle.dw_tree.proofs.Drafted.{value_content}
use Rattle.dw_tree.proofs.value.write_value.Goals as goal

pub write_content-requires-clause-plain : goal.write_content-requires-clause-plain
write_content-requires-clause-plain g c = λ w n is. plain_width c.args.encoding c.args.value.now w n (sym c.content.ensures ∙ is)

pub returns-clause-ok : goal.returns-clause-ok
returns-clause-ok g c =
    let e = c.args.encoding in
    let u = targets_at c.args.targets.now in
    OnOk-map c.write_content.result c.write_content.ensures.ok
    (λ p. Drafts-is p (ap (content_draft e u) c.content.ensures ∙ value_content e u c.args.value.now))

pub returns-clause-sound : goal.returns-clause-sound
returns-clause-sound g c =
    let m = g.W.Writer.meaning c.args.w.now in
    let u = targets_at c.args.targets.now in
    subst (λ x. OnOk c.write_content.result ((err : Error) → IsFalse (content_fails c.args.encoding u m.is_plain x err))) c.content.ensures c.write_content.ensures.sound

pub returns-clause-ranged : goal.returns-clause-ranged
returns-clause-ranged g c = subst (λ x. OnOk c.write_content.result (IsContentRanged x)) c.content.ensures c.write_content.ensures.ranged

pub returns-clause-err : goal.returns-clause-err
returns-clause-err g c =
    let m = g.W.Writer.meaning c.args.w.now in
    let u = targets_at c.args.targets.now in
    subst (λ x. IfErr c.write_content.result (Refused m (g.W.Writer.meaning c.write_content.new.w) (Is (content_fails c.args.encoding u m.is_plain x)))) c.content.ensures c.write_content.ensures.err
