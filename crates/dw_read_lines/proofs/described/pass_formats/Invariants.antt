use Rattle.std.proofs.Common.{◌≡◌, ◌-◌, ◌≤◌}
use Rattle.dw_read.specs.Reading.{left}
use Rattle.dw_read.proofs.Chain.{Went}
use Rattle.dw_read_lines.specs.LineEntries.{format_read, past}
use Rattle.dw_read_lines.proofs.described.pass_formats.Given as goal

abbrev pub invariant-parts : goal.invariant-parts
invariant-parts g l = record {
  went : Went (g.R.Reader.reading l.initial.input) (g.R.Reader.reading l.input);
  is : past format_read l.count (left (g.R.Reader.reading l.initial.input)) ≡ past format_read (l.count - l.counter) (left (g.R.Reader.reading l.input));
  within : l.counter ≤ l.count;
}
