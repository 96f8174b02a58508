use Rattle.std.proofs.Common.{◌∙◌, sym, ap, subst, Err, true}
use Rattle.std.specs.Prelude.{Bool, Some, IsTrue, IfErr}
use Rattle.std.proofs.lemmas.Bool.{or_left}
use Rattle.std.proofs.lemmas.Result.{err_from_is_err_and}
use Rattle.dw_base.specs.Leb128.{uleb}
use Rattle.dw_base.specs.declared.error.Error.{Error}
use Rattle.dw_base.specs.declared.error.Error.TheVariants as errors
use Rattle.dw_writer.specs.Drafts.{then_draft}
use Rattle.dw_writer.specs.Meaning.{Meaning}
use Rattle.dw_writer.proofs.Outcomes.{OnOk-map, IfErr-map}
use Rattle.dw_writer.proofs.WriteLaws.{Drafts-is, Drafts-then}
use Rattle.dw_expr.specs.Causes.{size_fails, nodes_fail, expression_fails}
use Rattle.dw_expr.specs.Places as expressions
use Rattle.dw_expr.specs.Spelling.{bytes, parts_of, starts_from, expression_draft}
use Rattle.dw_expr.proofs.PartLaws.{size_refused}
use Rattle.dw_tree.specs.Causes.{Refused, Is}
use Rattle.dw_tree.specs.TargetsAt.{targets_at}
use Rattle.dw_tree.proofs.Drafted.{Drafts-bytes}
use Rattle.dw_tree.proofs.Faults.{refused_after}
use Rattle.dw_tree.proofs.value.write_expression.Goals as goal

-- an expression is refused as a part of a unit
in_unit : (old new : Meaning) (fails : Error → Bool) (err : Error) → expressions.Refused old new fails err → Refused old new (Is fails) err
in_unit old new fails errors.NoMemory h = tt
in_unit old new fails errors.WriteFault h = h
in_unit old new fails err h = h

pub returns-in_err-size-clause-err : goal.returns-in_err-size-clause-err
returns-in_err-size-clause-err g c =
    let e = c.args.encoding in
    let m = g.W.Writer.meaning c.args.w.now in
    let place = (targets_at c.args.targets.now).place in
    let ns = c.args.expression.now in
    let fails : Error → Bool = expression_fails e (Some place) true m.is_plain ns in
    let err = c.in_err-size.field-0.0 in
    let p = err_from_is_err_and c.from_residual.result c.from_residual.ensures.1 in
    let why = size_refused e (Some place) m m ns fails (λ x h. or_left (size_fails e (Some place) ns x) (nodes_fail e (Some place) true m.is_plain (starts_from 0 (parts_of e place ns)) 0 ns x) h) err c.in_err-size.ensures.err in
    subst (λ r. IfErr r (Refused m m (Is fails))) (sym (p.1 ∙ ap Err p.2)) (in_unit m m fails err why)

pub returns-clause-ok : goal.returns-clause-ok
returns-clause-ok g c =
    let d = expression_draft c.args.encoding (targets_at c.args.targets.now).place c.args.expression.now in
    OnOk-map c.write.result c.write.ensures.ok
    (λ p. Drafts-is (Drafts-then (Drafts-bytes c.args.fixups.now c.in_ok-write_uleb128.ensures.ok) p) (ap (λ n. then_draft (bytes (uleb n)) d) c.in_ok-size.ensures.ok))

pub returns-clause-sound : goal.returns-clause-sound
returns-clause-sound g c = rw c.in_ok-write_uleb128.ensures.same.kind at c.write.ensures.sound

pub returns-clause-err : goal.returns-clause-err
returns-clause-err g c =
    let m = g.W.Writer.meaning c.args.w.now in
    let mid = g.W.Writer.meaning c.write_uleb128.new.self in
    let new = g.W.Writer.meaning c.write.new.w in
    let fails : Bool → Error → Bool = λ b. expression_fails c.args.encoding (Some (targets_at c.args.targets.now).place) true b c.args.expression.now in
    let same = c.in_ok-write_uleb128.ensures.same in
    IfErr-map c.write.result c.write.ensures.err
    (λ err h. refused_after m mid new (Is (fails mid.is_plain)) (Is (fails m.is_plain)) same (λ x k. subst (λ b. IsTrue (fails b x)) same.kind k) err (in_unit mid new (fails mid.is_plain) err h))
