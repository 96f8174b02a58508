use Rattle.std.specs.Prelude.{◌≤◌, ◌∷◌, [], ◌++◌, length}
use Rattle.std.proofs.Common.{◌∙◌, sym, ap₂, arith}
use Rattle.std.proofs.lemmas.List.{take_more, take_all}
use Rattle.dw_frame_instructions.proofs.program.copy_instructions.Goals as goal

pub loop-instruction-preserved : goal.loop-instruction-preserved
loop-instruction-preserved c =
    c.in_ok-push.ensures.items ∙ ap₂ (λ xs x. xs ++ x ∷ []) c.loop-instruction.invariant (c.in_ok-copy.ensures.ok ∙ c.instruction-item.is)
    ∙ sym (take_more c.args.instructions.now c.loop-instruction.instruction-index c.instruction-item.result c.loop-instruction-test.true)

pub returns-clause-ok : goal.returns-clause-ok
returns-clause-ok c =
    let past : length c.args.instructions.now ≤ c.loop-instruction.instruction-index = omega arith in
    c.loop-instruction.invariant ∙ take_all c.loop-instruction.instruction-index c.args.instructions.now past
