use Rattle.std.proofs.Common.{sym}
use Rattle.dw_lists.proofs.Located.{no_expression}
use Rattle.dw_lists.proofs.range.RangeListItemList.expression.Goals as goal

pub returns : goal.returns
returns c = sym (no_expression c.args.self.now c.args._index)
