use Rattle.std.proofs.Common.{◌≡◌, ◌+◌, ◌≤◌, length}
use Rattle.dw_ends.specs.TextLines.{lines_left}
use Rattle.dw_live_code.specs.LiveLines.{after_input_lines, input_of}
use Rattle.dw_live_code.proofs.whole_input.read_input.Given as goal

abbrev pub invariant-loop-line : goal.invariant-loop-line
invariant-loop-line l = record {
  can_next : (goal.iterator-loop-line).can_next l.line-iterator;
  finite : (goal.iterator-loop-line).is_finite l.line-iterator;
  left : after_input_lines (l.number + 1) l.reader (lines_left l.line-iterator) ≡ input_of l.bytes;
  room : l.number + length (lines_left l.line-iterator) ≤ length l.bytes + 1;
}
