use Rattle.std.proofs.Common.{◌+◌, ◌≤◌}
use Rattle.dw_read_lines.specs.FileEntryFormatIters.{OfParts}
use Rattle.dw_convert_lines.proofs.FormatWalks.{Counted}
use Rattle.dw_convert_lines.proofs.format_list.times_told.Given as goal

abbrev pub invariant-formats : goal.invariant-formats
invariant-formats g l = record {
  counted : OfParts g.R.Reader.reading l.entries (Counted g.R.Reader.reading l.content l.formats l.times);
  within : l.times + l.formats.remaining ≤ 255;
}

abbrev pub decreases-formats : goal.decreases-formats
decreases-formats g l = l.formats.remaining
