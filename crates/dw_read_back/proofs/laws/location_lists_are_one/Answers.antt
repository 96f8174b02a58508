use Rattle.std.specs.Prelude.{true}
use Rattle.dw_sources.specs.RawLists.{location_at}
use Rattle.dw_read_back.specs.Views.{raw_location}
use Rattle.dw_read_back.proofs.Locations.{location_is}
use Rattle.dw_read_back.proofs.Lists.{lists_are_one, tables_are_read_back}
use Rattle.dw_read_back.proofs.laws.location_lists_are_one.Goals as goal

pub returns-clause-item : goal.returns-clause-item
returns-clause-item c = location_is

pub returns-clause-list : goal.returns-clause-list
returns-clause-list c = lists_are_one true location_at raw_location location_is

pub returns-clause-table : goal.returns-clause-table
returns-clause-table c = tables_are_read_back true location_at raw_location location_is
