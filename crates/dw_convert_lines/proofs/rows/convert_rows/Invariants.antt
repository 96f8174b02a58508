use Rattle.std.proofs.Common.{◌≡◌, false, [], length, Some}
use Rattle.dw_line.specs.ProgramTexts.{ProgramValue}
use Rattle.dw_read.specs.Reading.{left}
use Rattle.dw_read_lines.specs.LineHeaderViews.{machine_of}
use Rattle.dw_convert_lines.specs.RegisterViews.{registers_of}
use Rattle.dw_convert_lines.specs.RowOutcomes.{Reached}
use Rattle.dw_convert_lines.proofs.rows.convert_rows.Given as goal

abbrev pub invariant-instructions : goal.invariant-instructions
invariant-instructions g l = record {
  before : ProgramValue;
  was : l.fn.program.program ≡ Some before;
  closed : before.in_sequence ≡ false;
  empty : before.rows ≡ [];
  after : ProgramValue;
  is : l.program.program ≡ Some after;
  reached : Reached (machine_of g.R.Reader.reading (g.R.Reader.reading l.header.program).is_big l.header.parameters) l.header.encoding.encoding.version l.files (goal.F-post g l.convert_address)
      (left (g.R.Reader.reading l.header.program)) before (left (g.R.Reader.reading l.instructions.input)) (registers_of l.machine.registers) l.machine.base after;
  order : (g.R.Reader.reading l.instructions.input).is_big ≡ (g.R.Reader.reading l.header.program).is_big;
  open_yet : l.instructions.has_failed ≡ false;
}

abbrev pub decreases-instructions : goal.decreases-instructions
decreases-instructions g l = length (left (g.R.Reader.reading l.instructions.input))
