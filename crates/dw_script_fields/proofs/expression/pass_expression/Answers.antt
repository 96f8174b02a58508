use Rattle.std.proofs.Common.{◌≡◌, ◌∙◌, Err, ap, sym, subst, refl, rules, arith, length}
use Rattle.dw_ends.specs.declared.reason.Reason.{Reason}
use Rattle.dw_script_fields.specs.Branches.{count_all}
use Rattle.dw_script_fields.specs.Expressions.{IsWalked, judged, walk_left}
use Rattle.dw_ends.specs.Pieces.{pieces_left}
use Rattle.dw_script_fields.specs.Steps.{expression_walk, step_before}
use Rattle.dw_script_fields.proofs.Kept.{kept_end, kept_end-none, judged-so_far}
use Rattle.dw_script_fields.proofs.expression.pass_expression.Goals as goal

pub loop-step-init : goal.loop-step-init
loop-step-init c = record {
  depth = ap (λ n. n) c.new-steps.ensures.depth ∙ sym (ap length c.new-expressions.ensures);
  deep = omega (arith, c.new-steps.ensures.depth);
  few =
      (let none = ap count_all c.new-expressions.ensures in
      let left = ap (λ p. length (pieces_left p)) c.new-steps.ensures.fields in
      omega arith);
  same = refl;
}

pub returns-in_err-step : goal.returns-in_err-step
returns-in_err-step c =
    let l = c.loop-step in
    let so_far = judged-so_far (expression_walk (pieces_left c.args.fields)) (walk_left c.new-steps.result) (walk_left l.steps) c.new-expressions.result l.expressions c.new-steps.ensures.walk c.new-expressions.ensures l.invariant.same in
    let ended : judged (expression_walk (pieces_left c.args.fields)) ≡ Err c.in_err-step.field-0.0 = so_far ∙ ap (kept_end l.expressions) c.in_err-step.ensures.walk in
    search (rules, ended)

pub returns-in_err-take : goal.returns-in_err-take
returns-in_err-take c =
    let l = c.loop-step in
    let so_far = judged-so_far (expression_walk (pieces_left c.args.fields)) (walk_left c.new-steps.result) (walk_left l.steps) c.new-expressions.result l.expressions c.new-steps.ensures.walk c.new-expressions.ensures l.invariant.same in
    let walked : walk_left l.steps ≡ step_before c.in-Some.step (walk_left c.step.new.self) = subst (λ r. IsWalked l.steps r c.step.new.self) c.in-Some.is c.in_ok-step.ensures.walk in
    let wrong = kept_end-none l.expressions c.in-Some.step (walk_left c.step.new.self) c.in_err-take.ensures.1 in
    let ended : judged (expression_walk (pieces_left c.args.fields)) ≡ Err c.in_err-take.field-0.0 =
    so_far ∙ ap (kept_end l.expressions) walked ∙ wrong ∙ ap (λ (e : Reason). Err e) (sym c.in_err-take.ensures.0) in
    search (rules, ended)

pub returns : goal.returns
returns c =
    let l = c.loop-step in
    let so_far = judged-so_far (expression_walk (pieces_left c.args.fields)) (walk_left c.new-steps.result) (walk_left l.steps) c.new-expressions.result l.expressions c.new-steps.ensures.walk c.new-expressions.ensures l.invariant.same in
    let walked = subst (λ r. IsWalked l.steps r c.step.new.self) c.in_default.is c.in_ok-step.ensures.walk in
    so_far ∙ ap (kept_end l.expressions) walked.1
