use Rattle.std.proofs.Common.{subst}
use Rattle.std.proofs.lemmas.Result.{err_from_is_err_and}
use Rattle.dw_writer.proofs.Outcomes.{OnOk-map, IfErr-map}
use Rattle.dw_lists.specs.Causes.{Is, IsNone, new_fails}
use Rattle.dw_lists.proofs.Spans.{new_item}
use Rattle.dw_lists.proofs.Refusals.{bytes_refused, refused_after}
use Rattle.dw_writer.proofs.Steps.{IsSameWriter-trans}
use Rattle.dw_lists.proofs.range.Range.write_new.Goals as goal

pub returns-in_err-write_u8-clause-err : goal.returns-in_err-write_u8-clause-err
returns-in_err-write_u8-clause-err g c =
    let m = g.W.Writer.meaning c.args.w.now in
    let p = err_from_is_err_and c.from_residual.result c.from_residual.ensures.1 in
    rw (p.1, p.2) (bytes_refused m (g.W.Writer.meaning c.write_u8.new.self) (Is (new_fails m.is_plain c.args.address_size c.args.self.now)) c.in_err-write_u8.field-0.0 c.in_err-write_u8.ensures.err)

pub returns-clause-ok : goal.returns-clause-ok
returns-clause-ok g c =
    let kind = rw c.kind.ensures at c.in_ok-write_u8.ensures.ok in
    OnOk-map c.write_operands.result c.write_operands.ensures.ok (new_item c.args.kinds c.args.address_size c.args.self.now c.requires kind)

pub returns-clause-sound : goal.returns-clause-sound
returns-clause-sound g c =
    OnOk-map c.write_operands.result c.write_operands.ensures.sound
    (λ h. subst (λ plain. IsNone (new_fails plain c.args.address_size c.args.self.now)) c.in_ok-write_u8.ensures.same.kind h)

pub returns-clause-err : goal.returns-clause-err
returns-clause-err g c =
    let m = g.W.Writer.meaning c.args.w.now in
    let n = g.W.Writer.meaning c.write_u8.new.self in
    let w = c.args.address_size in
    let r = c.args.self.now in
    let same = c.in_ok-write_u8.ensures.same in
    IfErr-map c.write_operands.result c.write_operands.ensures.err
    (refused_after m n (g.W.Writer.meaning c.write_operands.new.w) (Is (new_fails n.is_plain w r)) (Is (new_fails m.is_plain w r)) same
    (λ e h. subst (λ plain. Is (new_fails plain w r) e) same.kind h))

pub returns-in_err-write_u8-clause-ok : goal.returns-in_err-write_u8-clause-ok
returns-in_err-write_u8-clause-ok g c = rw (err_from_is_err_and c.from_residual.result c.from_residual.ensures.1).1 tt

pub returns-in_err-write_u8-clause-ranged : goal.returns-in_err-write_u8-clause-ranged
returns-in_err-write_u8-clause-ranged g c = rw (err_from_is_err_and c.from_residual.result c.from_residual.ensures.1).1 tt

pub returns-in_err-write_u8-clause-sound : goal.returns-in_err-write_u8-clause-sound
returns-in_err-write_u8-clause-sound g c = rw (err_from_is_err_and c.from_residual.result c.from_residual.ensures.1).1 tt

pub returns-in_err-write_u8-clause-same : goal.returns-in_err-write_u8-clause-same
returns-in_err-write_u8-clause-same g c = c.in_err-write_u8.ensures.same

pub returns-clause-same : goal.returns-clause-same
returns-clause-same g c = IsSameWriter-trans c.in_ok-write_u8.ensures.same c.write_operands.ensures.same
