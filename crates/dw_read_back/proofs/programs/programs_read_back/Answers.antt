use Rattle.dw_read_back.proofs.ProgramReading.{steps_back}
use Rattle.dw_read_back.proofs.programs.programs_read_back.Goals as goal

pub returns : goal.returns
returns c = steps_back c.args.encoding c.args.code_factor c.args.data_factor
