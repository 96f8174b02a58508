use Rattle.std.proofs.Common.{◌≡◌}
use Rattle.dw_build.specs.Generated.{generated_units}
use Rattle.dw_build.proofs.make.add_units.Given as goal

abbrev pub invariant-loop-index : goal.invariant-loop-index
invariant-loop-index l = l.units ≡ generated_units l.count l.index
