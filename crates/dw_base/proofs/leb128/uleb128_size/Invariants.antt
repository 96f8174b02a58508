use Rattle.dw_base.proofs.Sizes.{CountsGroups}
use Rattle.dw_base.proofs.leb128.uleb128_size.Given as goal

abbrev pub invariant-groups : goal.invariant-groups
invariant-groups l = CountsGroups l.value l.size l.rest

abbrev pub decreases-groups : goal.decreases-groups
decreases-groups l = l.rest
