use Rattle.std.proofs.Common.{◌≡◌, ◌++◌}
use Rattle.dw_convert.proofs.once.listed.Given as goal

abbrev pub invariant-named : goal.invariant-named
invariant-named l = l.values.items ++ l.value-iterator ≡ l.fn.named.entries
