use Rattle.std.proofs.Common.{◌∙◌}
use Rattle.dw_dwarf.specs.DwarfValue.{dwarf_in}
use Rattle.dw_ends.specs.Readers.{slice_reading}
use Rattle.dw_program.proofs.Converted.{the_other}
use Rattle.dw_program.proofs.Outcomes.{IfOk-map, IfOk-two}
use Rattle.dw_live_code.proofs.Answered.{pruned_unwritten, says_not_pruned, says_pruned}
use Rattle.dw_live_code.proofs.answer.answer_pruned.Goals as goal

pub answer_dwarf-requires : goal.answer_dwarf-requires
answer_dwarf-requires c = pruned_unwritten slice_reading _ _ (dwarf_in c.in-Ok.dwarf) c.in-Ok.ensures.ok

pub returns-in-Ok : goal.returns-in-Ok
returns-in-Ok c =
    IfOk-map c.answer_dwarf.result c.answer_dwarf.ensures
    (λ a says v live order same.
    says_pruned c.deref.result.now c.args.input.now.listing.endian c.args.input.now.listing.sections.items c.read_sections-read.result c.read_sections-read.ensures v (c.deref.ensures.value ∙ live) order same (dwarf_in c.in-Ok.dwarf) c.in-Ok.ensures.ok a.status a.text.items says)

pub returns-in-Err : goal.returns-in-Err
returns-in-Err c =
    IfOk-two c.answer_convert_refusal.result c.answer_convert_refusal.ensures.says c.answer_convert_refusal.ensures.other
    (λ a says other v live order same.
    says_not_pruned c.deref.result.now c.args.input.now.listing.endian c.args.input.now.listing.sections.items c.read_sections-read.result c.read_sections-read.ensures v (c.deref.ensures.value ∙ live) order same c.in-Err.error (the_other c.in-Err.ensures.err other) a.status a.text.items says.0 says.1)
