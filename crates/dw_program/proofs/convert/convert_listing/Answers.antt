use Rattle.std.proofs.Common.{subst}
use Rattle.dw_ends.specs.Sections.{sections_of}
use Rattle.dw_ends.specs.Listed.{RefusedWhole}
use Rattle.dw_program.proofs.Converted.{says_listing_refused, says_of_listing}
use Rattle.dw_program.proofs.Outcomes.{IfOk-map}
use Rattle.dw_program.proofs.convert.convert_listing.Goals as goal

pub returns-in-Ok : goal.returns-in-Ok
returns-in-Ok c =
    let listed = c.in-Ok.ensures.ok in
    IfOk-map c.convert_sections.result c.convert_sections.ensures
    (λ a says. says_of_listing c.args.bytes.now listed.value listed.says a.status a.text.items (says listed.value listed.endian listed.sections))

pub returns-in-Err-Refused : goal.returns-in-Err-Refused
returns-in-Err-Refused c =
    let refused = subst (RefusedWhole (sections_of c.args.bytes.now)) c.in-Err-Refused.field-0-is c.in-Err-Refused.ensures.err in
    IfOk-map c.answer_refusal.result c.answer_refusal.ensures
    (λ a says. says_listing_refused c.args.bytes.now (record { line = c.in-Err-Refused.line; reason = c.in-Err-Refused.reason }) refused a.status a.text.items says.0 says.1)
