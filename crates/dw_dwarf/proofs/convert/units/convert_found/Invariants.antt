use Rattle.dw_entry_ids.specs.KeptRows.{keep_of}
use Rattle.dw_convert_lines.specs.Views.{tables}
use Rattle.dw_dwarf.proofs.UnitSteps.{Begun}
use Rattle.dw_dwarf.proofs.convert.units.convert_found.Given as goal

abbrev pub invariant-units : goal.invariant-units
invariant-units g l =
    Begun (keep_of l.fn.kept) g.R.Reader.reading (goal.F-post g l.convert_address) l.dwarf l.fn.found.ids l.first.0 l.initial.units (tables l.initial.strings l.initial.line_strings) l.numbered-items l.index l.units (tables l.strings l.line_strings)
