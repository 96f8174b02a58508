use Rattle.std.proofs.Common.{subst}
use Rattle.dw_lists.specs.Lists.{AllDiffer}
use Rattle.dw_lists.specs.Equal.{list_eq, list_Decides}
use Rattle.dw_lists.proofs.Differ.{distinct_differ}
use Rattle.dw_lists.proofs.table.RangeListTable.count.Goals as goal

pub returns-clause-differ : goal.returns-clause-differ
returns-clause-differ c = subst AllDiffer c.self.view_is (distinct_differ list_eq list_Decides c.self.inside.lists.keys c.len.ensures.unique)
