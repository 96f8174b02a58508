use Rattle.dw_read_back.proofs.ListEntries.{entries_are_one}
use Rattle.dw_read_back.proofs.laws.list_entries_are_one.Goals as goal

pub returns : goal.returns
returns c = entries_are_one
