use Rattle.dw_dwarf.specs.DwarfValue.{dwarf_in}
use Rattle.dw_program.proofs.Converted.{converted_unwritten, says_converted, says_not_converted, the_other}
use Rattle.dw_program.proofs.Outcomes.{IfOk-map, IfOk-two}
use Rattle.dw_program.proofs.convert.convert_sections.Goals as goal

pub answer_dwarf-requires : goal.answer_dwarf-requires
answer_dwarf-requires c = converted_unwritten _ _ _ (dwarf_in c.in-Ok.dwarf) c.in-Ok.ensures.ok

pub returns-in-Ok : goal.returns-in-Ok
returns-in-Ok c =
    IfOk-map c.answer_dwarf.result c.answer_dwarf.ensures
    (λ a says v order same. says_converted c.args.listing.now.endian c.args.listing.now.sections.items c.read_sections-read.result c.read_sections-read.ensures v order same (dwarf_in c.in-Ok.dwarf) c.in-Ok.ensures.ok a.status a.text.items says)

pub returns-in-Err : goal.returns-in-Err
returns-in-Err c =
    IfOk-two c.answer_convert_refusal.result c.answer_convert_refusal.ensures.says c.answer_convert_refusal.ensures.other
    (λ a says other v order same.
    says_not_converted c.args.listing.now.endian c.args.listing.now.sections.items c.read_sections-read.result c.read_sections-read.ensures v order same c.in-Err.error (the_other c.in-Err.ensures.err other) a.status a.text.items says.0 says.1)
