use Rattle.dw_read_back.proofs.ProgramReading.{instructions_back}
use Rattle.dw_read_back.proofs.programs.first_instructions_read_back.Goals as goal

pub returns : goal.returns
returns c = instructions_back c.args.encoding c.args.code_factor c.args.data_factor
