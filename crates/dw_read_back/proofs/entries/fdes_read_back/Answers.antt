use Rattle.dw_read_back.proofs.FdeReading.{fde_back}
use Rattle.dw_read_back.proofs.entries.fdes_read_back.Goals as goal

pub returns : goal.returns
returns c = fde_back
