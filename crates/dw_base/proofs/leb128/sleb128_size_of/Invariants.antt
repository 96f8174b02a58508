use Rattle.std.specs.Prelude.{pos}
use Rattle.dw_base.proofs.Sizes.{CountsSignedGroups}
use Rattle.dw_base.proofs.leb128.sleb128_size_of.Given as goal

abbrev pub invariant-groups : goal.invariant-groups
invariant-groups l = CountsSignedGroups (pos l.magnitude) l.size l.rest

abbrev pub decreases-groups : goal.decreases-groups
decreases-groups l = l.rest
