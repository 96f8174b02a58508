use Rattle.std.specs.Prelude.{false}
use Rattle.dw_sources.specs.RawLists.{range_at}
use Rattle.dw_read_back.specs.Views.{raw_range}
use Rattle.dw_read_back.proofs.Items.{range_is}
use Rattle.dw_read_back.proofs.Lists.{lists_are_one, tables_are_read_back}
use Rattle.dw_read_back.proofs.laws.range_lists_are_one.Goals as goal

pub returns-clause-item : goal.returns-clause-item
returns-clause-item c = range_is

pub returns-clause-list : goal.returns-clause-list
returns-clause-list c = lists_are_one false range_at raw_range range_is

pub returns-clause-table : goal.returns-clause-table
returns-clause-table c = tables_are_read_back false range_at raw_range range_is
