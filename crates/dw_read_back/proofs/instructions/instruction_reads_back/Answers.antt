use Rattle.dw_read_back.proofs.InstructionReading.{instruction_back}
use Rattle.dw_read_back.proofs.instructions.instruction_reads_back.Goals as goal

pub returns : goal.returns
returns c = instruction_back c.args.encoding c.args.factor c.args.instruction.now c.tell_widths.ensures
