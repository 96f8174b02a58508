use Rattle.std.proofs.Common.{◌≡◌, IsTrue, length}
use Rattle.std.specs.List.{list_all}
use Rattle.dw_read.specs.Reading.{left}
use Rattle.dw_arange_table.specs.Sets.{is_range}
use Rattle.dw_arange_table.proofs.ReadSteps.{Ranges}
use Rattle.dw_arange_table.proofs.read.read_ranges.Given as goal

abbrev pub invariant-more : goal.invariant-more
invariant-more g l = record {
  so_far : Ranges (g.R.Reader.reading l.initial.input).is_big l.size (left (g.R.Reader.reading l.initial.input)) l.ranges.items (left (g.R.Reader.reading l.input));
  order : (g.R.Reader.reading l.input).is_big ≡ (g.R.Reader.reading l.initial.input).is_big;
  fit : IsTrue (list_all (is_range l.size) l.ranges.items);
}

abbrev pub decreases-more : goal.decreases-more
decreases-more g l = length (left (g.R.Reader.reading l.input))
