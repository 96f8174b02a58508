use Rattle.dw_arange_table.proofs.Answered.{says_made, says_unmade}
use Rattle.dw_arange_table.proofs.Outcomes.{IfOk-map, IfOk-two}
use Rattle.dw_arange_table.proofs.answer.answer_sections.Goals as goal

pub returns-in-Ok : goal.returns-in-Ok
returns-in-Ok c =
    IfOk-map c.answer_made.result c.answer_made.ensures
    (λ a says. says_made c.args.listing.now.endian c.args.listing.now.sections.items c.read_sections.result c.read_sections.ensures c.args.command c.in-Ok.table c.in-Ok.ensures.ok a.status a.text.items says)

pub returns-in-Err : goal.returns-in-Err
returns-in-Err c =
    IfOk-two c.answer_unmade.result c.answer_unmade.ensures.says c.answer_unmade.ensures.other
    (λ a says other. says_unmade c.args.listing.now.endian c.args.listing.now.sections.items c.read_sections.result c.read_sections.ensures c.args.command c.in-Err.error c.in-Err.ensures.err other a.status a.text.items says)
