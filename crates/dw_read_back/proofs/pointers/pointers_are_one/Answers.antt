use Rattle.dw_read_back.proofs.PointerReading.{pointers_one}
use Rattle.dw_read_back.proofs.pointers.pointers_are_one.Goals as goal

pub returns : goal.returns
returns c = pointers_one c.args.is_big c.args.size c.args.encoding
