use Rattle.std.proofs.Common.{◌≡◌, ◌+◌, ◌≤◌, length}
use Rattle.dw_ends.specs.TextLines.{lines_left}
use Rattle.dw_build.specs.Script.{script, after_lines, AreOpen}
use Rattle.dw_build.specs.ScriptValue.{script_in}
use Rattle.dw_build.proofs.script.read_script.Given as goal

abbrev pub invariant-loop-line : goal.invariant-loop-line
invariant-loop-line l = record {
  can_next : (goal.iterator-loop-line).can_next l.line-iterator;
  finite : (goal.iterator-loop-line).is_finite l.line-iterator;
  open_units : AreOpen l.script.dwarf.units;
  left : after_lines (l.number + 1) (script_in l.script) (lines_left l.line-iterator) ≡ script l.bytes;
  room : l.number + length (lines_left l.line-iterator) ≤ length l.bytes + 1;
}
