use Rattle.dw_read_back.proofs.HeadReading.{owners_one}
use Rattle.dw_read_back.proofs.heads.owners_are_one.Goals as goal

pub returns : goal.returns
returns c kind = owners_one kind c.args.is_big c.args.format
