use Rattle.std.proofs.Common.{◌≡◌, replicate}
use Rattle.dw_live_code.specs.FileUnits.{most_entries}
use Rattle.dw_live_code.proofs.file_units.all_counts.Given as goal

abbrev pub invariant-loop : goal.invariant-loop
invariant-loop g l = l.counts.items ≡ replicate l.counter most_entries
