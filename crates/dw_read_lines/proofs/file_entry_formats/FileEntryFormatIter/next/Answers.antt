use Rattle.std.proofs.Common.{arith, ◌-◌}
use Rattle.dw_read_lines.proofs.PartLaws.{no_parts, first_part, not_missing}
use Rattle.dw_read_lines.proofs.file_entry_formats.FileEntryFormatIter.next.Goals as goal

pub returns-then-self-eq0-clause-end : goal.returns-then-self-eq0-clause-end
returns-then-self-eq0-clause-end g c = λ parts has. no_parts _ _ _ parts c.if-self-eq0.true has.is

pub returns-in-Err-clause-end : goal.returns-in-Err-clause-end
returns-in-Err-clause-end g c = λ parts has. absurd (not_missing c.args.self.now.remaining (c.args.self.now.remaining - 1) _ _ parts _ (omega arith) has.is c.in-Err.ensures.err)

pub returns-in-Ok-clause-part : goal.returns-in-Ok-clause-part
returns-in-Ok-clause-part g c = λ parts has.
    let f = first_part c.args.self.now.remaining (c.args.self.now.remaining - 1) _ _ _ parts _ (omega arith) has.is c.in-Ok.ensures.ok.value in
    record { others = f.others; first = f.first; left = record { rest = has.rest; is = f.behind } }
