use Rattle.dw_read_lines.specs.FileEntryFormatIters.{OfParts}
use Rattle.dw_convert_lines.proofs.FormatWalks.{ArePlain}
use Rattle.dw_convert_lines.proofs.format_list.has_no_constants.Given as goal

abbrev pub invariant-formats : goal.invariant-formats
invariant-formats g l = OfParts g.R.Reader.reading l.entries (ArePlain g.R.Reader.reading l.formats)

abbrev pub decreases-formats : goal.decreases-formats
decreases-formats g l = l.formats.remaining
