use Rattle.std.proofs.Common.{◌≡◌, take}
use Rattle.dw_convert.specs.AttributeLists.{once}
use Rattle.dw_convert.proofs.once.are_distinct.Given as goal

abbrev pub invariant-loop-i : goal.invariant-loop-i
invariant-loop-i l = once (take l.i l.values) ≡ take l.i l.values
