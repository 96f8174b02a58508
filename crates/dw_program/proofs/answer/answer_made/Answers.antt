use Rattle.dw_dwarf.specs.DwarfValue.{dwarf_in}
use Rattle.dw_program.proofs.Faulty.{only_memory}
use Rattle.dw_program.proofs.answer.answer_made.Goals as goal

pub returns-in-Err-clause-err : goal.returns-in-Err-clause-err
returns-in-Err-clause-err c = only_memory (dwarf_in c.args.dwarf.now) c.requires.valid c.in-Err.error c.in-Err.ensures.err
