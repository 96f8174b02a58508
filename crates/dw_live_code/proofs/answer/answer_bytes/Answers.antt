use Rattle.std.proofs.Common.{subst}
use Rattle.dw_ends.specs.Listed.{RefusedWhole}
use Rattle.dw_program.proofs.Outcomes.{IfOk-map}
use Rattle.dw_live_code.specs.LiveLines.{input_of}
use Rattle.dw_live_code.proofs.Answered.{says_line_refused, says_of_input}
use Rattle.dw_live_code.proofs.answer.answer_bytes.Goals as goal

pub returns-in-Ok : goal.returns-in-Ok
returns-in-Ok c =
    let read = c.in-Ok.ensures.ok in
    IfOk-map c.answer_pruned.result c.answer_pruned.ensures
    (λ a says. says_of_input c.args.bytes.now read.value read.says a.status a.text.items (says read.value read.live read.endian read.sections))

pub returns-in-Err-Refused : goal.returns-in-Err-Refused
returns-in-Err-Refused c =
    let refused = subst (RefusedWhole (input_of c.args.bytes.now)) c.in-Err-Refused.field-0-is c.in-Err-Refused.ensures.err in
    IfOk-map c.answer_refusal.result c.answer_refusal.ensures
    (λ a says. says_line_refused c.args.bytes.now (record { line = c.in-Err-Refused.line; reason = c.in-Err-Refused.reason }) refused a.status a.text.items says.0 says.1)
