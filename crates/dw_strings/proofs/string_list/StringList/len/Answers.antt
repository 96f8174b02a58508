use Rattle.std.proofs.Common.{subst}
use Rattle.dw_strings.specs.Strings.{AllDiffer}
use Rattle.dw_strings.proofs.StringLaws.{distinct_differ}
use Rattle.dw_strings.proofs.string_list.StringList.len.Goals as goal

pub returns-clause-differ : goal.returns-clause-differ
returns-clause-differ c = subst AllDiffer c.self.view_is (distinct_differ c.self.inside.strings.keys c.len.ensures.unique)
