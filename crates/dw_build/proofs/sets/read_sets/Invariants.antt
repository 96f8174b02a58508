use Rattle.std.proofs.Common.{◌≡◌, ◌+◌, ◌≤◌, length}
use Rattle.dw_ends.specs.Pieces.{newline, pieces}
use Rattle.dw_ends.specs.TextLines.{lines_left}
use Rattle.dw_build.specs.Script.{after_each}
use Rattle.dw_build.specs.Sets.{after_link_line}
use Rattle.dw_build.specs.SetsValue.{begun_in, empty_begun}
use Rattle.dw_build.proofs.SetUnits.{AreOpenSets}
use Rattle.dw_build.proofs.sets.read_sets.Given as goal

abbrev pub invariant-loop-line : goal.invariant-loop-line
invariant-loop-line l = record {
  can_next : (goal.iterator-loop-line).can_next l.line-iterator;
  finite : (goal.iterator-loop-line).is_finite l.line-iterator;
  open_units : AreOpenSets (begun_in l.begun);
  left : after_each after_link_line (l.number + 1) (begun_in l.begun) (lines_left l.line-iterator) ≡ after_each after_link_line 1 empty_begun (pieces newline l.bytes);
  room : l.number + length (lines_left l.line-iterator) ≤ length l.bytes + 1;
}
