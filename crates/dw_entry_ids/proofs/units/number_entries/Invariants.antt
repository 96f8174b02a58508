use Rattle.std.proofs.Common.{length}
use Rattle.dw_read.specs.Reading.{left}
use Rattle.dw_entry_ids.specs.KeptRows.{keep_of}
use Rattle.dw_entry_ids.proofs.RowSteps.{Numbered}
use Rattle.dw_entry_ids.proofs.units.number_entries.Given as goal

abbrev pub invariant-rows : goal.invariant-rows
invariant-rows g l = Numbered (keep_of l.kept) g.R.Reader.reading l.fn.unit.unit.now.header l.fn.unit.unit.now.abbreviations l.id l.initial.ids l.rows l.count l.ids

abbrev pub decreases-rows : goal.decreases-rows
decreases-rows g l = length (left (g.R.Reader.reading l.rows.input))
