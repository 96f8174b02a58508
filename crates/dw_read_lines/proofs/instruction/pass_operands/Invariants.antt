use Rattle.std.proofs.Common.{◌≡◌, ◌-◌, ◌≤◌}
use Rattle.dw_read.specs.Reading.{left}
use Rattle.dw_read.proofs.Chain.{Went}
use Rattle.dw_read_lines.specs.LineInstructions.{passed_read}
use Rattle.dw_read_lines.proofs.instruction.pass_operands.Given as goal

abbrev pub invariant-loop : goal.invariant-loop
invariant-loop g l = record {
  went : Went (g.R.Reader.reading l.initial.input) (g.R.Reader.reading l.input);
  is : passed_read l.count (left (g.R.Reader.reading l.initial.input)) ≡ passed_read (l.count - l.counter) (left (g.R.Reader.reading l.input));
  within : l.counter ≤ l.count;
}
