use Rattle.std.proofs.Common.{◌≡◌}
use Rattle.dw_convert.specs.AttributeLists.{once}
use Rattle.dw_convert.proofs.once.by_name.Given as goal

abbrev pub invariant-values : goal.invariant-values
invariant-values l = l.named.entries ≡ once l.yielded
