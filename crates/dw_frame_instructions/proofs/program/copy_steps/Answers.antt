use Rattle.std.specs.Prelude.{◌≤◌, ◌∷◌, [], ◌++◌, length}
use Rattle.std.proofs.Common.{◌∙◌, sym, ap₂, arith}
use Rattle.std.proofs.lemmas.List.{take_more, take_all}
use Rattle.dw_frame_instructions.proofs.program.copy_steps.Goals as goal

pub loop-step-preserved : goal.loop-step-preserved
loop-step-preserved c =
    c.in_ok-push.ensures.items ∙ ap₂ (λ xs x. xs ++ x ∷ []) c.loop-step.invariant (c.in_ok-copy.ensures.ok ∙ c.step-item.is)
    ∙ sym (take_more c.args.steps.now c.loop-step.step-index c.step-item.result c.loop-step-test.true)

pub returns-clause-ok : goal.returns-clause-ok
returns-clause-ok c =
    let past : length c.args.steps.now ≤ c.loop-step.step-index = omega arith in
    c.loop-step.invariant ∙ take_all c.loop-step.step-index c.args.steps.now past
