use Rattle.std.proofs.Common.{◌∙◌, ap, ◌++◌}
use Rattle.std.specs.Prelude.{codes, decimal}
use Rattle.dw_arange_table.proofs.Outcomes.{IfOk-map}
use Rattle.dw_arange_table.proofs.Answered.{line_text-grouped}
use Rattle.dw_arange_table.proofs.answer.answer_line.Goals as goal

pub returns : goal.returns
returns c =
    IfOk-map c.answer_with.result c.answer_with.ensures
    (λ a h. (
      h.0,
      h.1 ∙ c.as_bytes.ensures.value ∙ c.in_ok-text.ensures.ok
          ∙ ap (λ t. codes "line " ++ (decimal c.args.line ++ (codes ": " ++ (t ++ codes "\n")))) c.text-reason.ensures
          ∙ line_text-grouped c.args.line c.args.reason,
    ))
