use Rattle.std.proofs.Common.{◌∙◌, ap, ◌++◌}
use Rattle.std.specs.Prelude.{codes, decimal}
use Rattle.dw_program.proofs.Outcomes.{IfOk-map}
use Rattle.dw_program.proofs.Texts.{refusal_text-grouped}
use Rattle.dw_program.proofs.answer.answer_refusal.Goals as goal

pub returns : goal.returns
returns c =
    IfOk-map c.answer_with.result c.answer_with.ensures
    (λ a h. (
      h.0,
      h.1 ∙ c.as_bytes.ensures.value ∙ c.in_ok-text.ensures.ok
          ∙ ap (λ t. codes "line " ++ (decimal c.args.refusal.line ++ (codes ": " ++ (t ++ codes "\n")))) c.text-reason.ensures
          ∙ refusal_text-grouped c.args.refusal,
    ))
