use Rattle.dw_read_back.proofs.CieReading.{cie_back}
use Rattle.dw_read_back.proofs.entries.cies_read_back.Goals as goal

pub returns : goal.returns
returns c = cie_back
