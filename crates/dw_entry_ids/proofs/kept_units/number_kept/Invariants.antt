use Rattle.dw_entry_ids.specs.KeptRows.{keep_of}
use Rattle.dw_entry_ids.proofs.KeptUnitSteps.{Numbered}
use Rattle.dw_entry_ids.proofs.kept_units.number_kept.Given as goal

abbrev pub invariant-units : goal.invariant-units
invariant-units g l = Numbered (keep_of l.kept) g.R.Reader.reading l.dwarf l.fn.units.items l.yielded l.numbered.items l.ids
