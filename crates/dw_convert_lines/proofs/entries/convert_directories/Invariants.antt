use Rattle.std.proofs.Common.{◌≡◌, ℕ, List, length}
use Rattle.std.specs.Prelude.{nat_le, false}
use Rattle.dw_read.specs.Reading.{left}
use Rattle.dw_read_lines.specs.FileEntryIters.{layout_of, HasParts}
use Rattle.dw_read_lines.specs.LineEntries.{next_read}
use Rattle.dw_convert_lines.specs.EntryImages.{directory_image}
use Rattle.dw_convert_lines.specs.Views.{texts_of, converting, IsTarget}
use Rattle.dw_convert_lines.specs.Walks.{Walked}
use Rattle.dw_convert_lines.proofs.EntrySteps.{left_over}
use Rattle.dw_convert_lines.proofs.entries.convert_directories.Given as goal

abbrev pub invariant-entries : goal.invariant-entries
invariant-entries g l = record {
  walked : (parts : List (ℕ × ℕ)) → HasParts g.R.Reader.reading l.fn.entries.layout parts → Walked (next_read (g.R.Reader.reading l.fn.entries.input).is_big (layout_of g.R.Reader.reading l.fn.entries.layout parts)) (directory_image (nat_le 5 l.version) (texts_of g.R.Reader.reading l.dwarf)) l.fn.entries.remaining (left (g.R.Reader.reading l.fn.entries.input)) (converting l.fn.program l.fn.ids.items l.fn.strings l.fn.line_strings) l.entries.remaining (left (g.R.Reader.reading l.entries.input)) (converting l.program l.ids.items l.strings l.line_strings);
  layout : l.entries.layout ≡ l.fn.entries.layout;
  order : (g.R.Reader.reading l.entries.input).is_big ≡ (g.R.Reader.reading l.fn.entries.input).is_big;
  open_yet : l.entries.has_ended ≡ false;
  target : IsTarget l.version l.ids.items l.program;
}

abbrev pub decreases-entries : goal.decreases-entries
decreases-entries g l = left_over l.entries.layout l.entries.remaining (length (left (g.R.Reader.reading l.entries.input)))
