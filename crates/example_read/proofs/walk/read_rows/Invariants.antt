use Rattle.std.proofs.Common.{length}
use Rattle.dw_read.specs.Reading.{left}
use Rattle.example_read.proofs.RowWalk.{Walked}
use Rattle.example_read.proofs.walk.read_rows.Given as goal

abbrev pub invariant-rows : goal.invariant-rows
invariant-rows g l = Walked g.R.Reader.reading l.unit.header l.unit.abbreviations l.entries l.rows.items

abbrev pub decreases-rows : goal.decreases-rows
decreases-rows g l = length (left (g.R.Reader.reading l.entries.input))
