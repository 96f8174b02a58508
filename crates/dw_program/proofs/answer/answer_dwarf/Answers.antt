use Rattle.std.proofs.Common.{sym, subst}
use Rattle.dw_dwarf.specs.DwarfValue.{dwarf_in}
use Rattle.dw_program.specs.Listed.{SaysOfDwarf}
use Rattle.dw_program.proofs.Answered.{dwarf_listed}
use Rattle.dw_program.proofs.Faulty.{says_refused}
use Rattle.dw_program.proofs.Outcomes.{IfOk-two, IfOk-three}
use Rattle.dw_program.proofs.answer.answer_dwarf.Goals as goal

pub returns-in-Ok : goal.returns-in-Ok
returns-in-Ok c =
    let d = dwarf_in c.args.dwarf.now in
    IfOk-three c.answer_listed.result c.answer_listed.ensures.status c.answer_listed.ensures.lists c.answer_listed.ensures.read_back
    (λ a is lists back.
    subst (λ x. SaysOfDwarf c.args.endian d x a.text.items) (sym is)
    (dwarf_listed _ c.args.endian d c.in-Ok.sections a.text.items c.in-Ok.ensures.valid c.in-Ok.ensures.orders c.in-Ok.ensures.holds lists back))

pub returns-in-Err : goal.returns-in-Err
returns-in-Err c =
    IfOk-two c.answer_write_refusal.result c.answer_write_refusal.ensures.says c.answer_write_refusal.ensures.other
    (λ a says other. says_refused c.args.endian (dwarf_in c.args.dwarf.now) a.status a.text.items c.in-Err.error says.0 says.1 (c.in-Err.ensures.err other))
