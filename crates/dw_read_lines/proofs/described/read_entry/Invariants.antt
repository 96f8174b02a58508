use Rattle.std.proofs.Common.{◌≡◌, ◌-◌, ◌≤◌}
use Rattle.dw_read.specs.Reading.{left}
use Rattle.dw_read.proofs.Chain.{Went}
use Rattle.dw_read_lines.specs.LineEntries.{entry_by}
use Rattle.dw_read_lines.specs.LineEntryViews.{entry_of, described_entry}
use Rattle.dw_read_lines.proofs.described.read_entry.Given as goal

abbrev pub invariant-parts : goal.invariant-parts
invariant-parts g l = record {
  went : Went (g.R.Reader.reading l.initial.input) (g.R.Reader.reading l.input);
  is : described_entry g.R.Reader.reading (g.R.Reader.reading l.initial.input).is_big l.description (left (g.R.Reader.reading l.initial.input))
      ≡ entry_by (g.R.Reader.reading l.initial.input).is_big l.description.encoding.encoding (l.count - l.counter) (left (g.R.Reader.reading l.formats)) (entry_of g.R.Reader.reading l.entry) (left (g.R.Reader.reading l.input));
  within : l.counter ≤ l.count;
}
