use Rattle.std.proofs.Common.{◌∙◌}
use Rattle.dw_program.proofs.Outcomes.{IfOk-map}
use Rattle.dw_program.proofs.Texts.{counts_text-grouped}
use Rattle.dw_program.proofs.summary.summarize.Goals as goal

pub returns : goal.returns
returns c =
    IfOk-map c.format.result c.format.ensures.ok
    (λ text h. h ∙ rw c.byte_sum-sum.ensures (counts_text-grouped c.args.counts.units c.args.counts.entries c.args.info_bytes.now c.args.abbrev_bytes.now))
