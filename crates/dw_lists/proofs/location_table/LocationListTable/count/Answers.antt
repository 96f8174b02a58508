use Rattle.std.proofs.Common.{subst}
use Rattle.dw_lists.specs.Lists.{AllDiffer}
use Rattle.dw_lists.specs.EqualLocations.{locations_eq, locations_Decides}
use Rattle.dw_lists.proofs.Differ.{distinct_differ}
use Rattle.dw_lists.proofs.location_table.LocationListTable.count.Goals as goal

pub returns-clause-differ : goal.returns-clause-differ
returns-clause-differ c = subst AllDiffer c.self.view_is (distinct_differ locations_eq locations_Decides c.self.inside.lists.keys c.len.ensures.unique)
