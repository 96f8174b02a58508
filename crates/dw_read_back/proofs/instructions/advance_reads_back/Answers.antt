use Rattle.dw_read_back.proofs.AdvanceReading.{advance_back}
use Rattle.dw_read_back.proofs.instructions.advance_reads_back.Goals as goal

pub returns : goal.returns
returns c = advance_back c.args.factor c.args.from c.args.to c.tell_code_offset.ensures
