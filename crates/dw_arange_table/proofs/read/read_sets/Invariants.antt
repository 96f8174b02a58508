use Rattle.std.proofs.Common.{◌≡◌, length}
use Rattle.dw_read.specs.Reading.{left}
use Rattle.dw_arange_table.proofs.ReadSteps.{SetsSoFar}
use Rattle.dw_arange_table.proofs.read.read_sets.Given as goal

abbrev pub invariant-more : goal.invariant-more
invariant-more g l = record {
  so_far : SetsSoFar (g.R.Reader.reading l.initial.input).is_big (left (g.R.Reader.reading l.initial.input)) l.sets.items (left (g.R.Reader.reading l.input));
  order : (g.R.Reader.reading l.input).is_big ≡ (g.R.Reader.reading l.initial.input).is_big;
}

abbrev pub decreases-more : goal.decreases-more
decreases-more g l = length (left (g.R.Reader.reading l.input))
