use Rattle.std.proofs.Common.{◌≡◌, ◌+◌, ◌≤◌, length}
use Rattle.dw_ends.specs.TextLines.{lines_left}
use Rattle.dw_ends.specs.Sections.{after_lines, sections_of}
use Rattle.dw_ends.proofs.whole_listing.read_listing.Given as goal

abbrev pub invariant-loop-line : goal.invariant-loop-line
invariant-loop-line l = record {
  can_next : (goal.iterator-loop-line).can_next l.line-iterator;
  finite : (goal.iterator-loop-line).is_finite l.line-iterator;
  left : after_lines (l.number + 1) l.reader (lines_left l.line-iterator) ≡ sections_of l.bytes;
  room : l.number + length (lines_left l.line-iterator) ≤ length l.bytes + 1;
}
