use Rattle.dw_tree.specs.Elsewhere.{elsewhere}
use Rattle.dw_unit.proofs.TableWritten.{WritesFront}
use Rattle.dw_unit.proofs.unit_table.UnitTable.write_units.Given as goal

abbrev pub invariant-loop-index : goal.invariant-loop-index
invariant-loop-index g l = WritesFront g.W.Writer.meaning l.initial.sections l.sections (elsewhere g.W.Writer.meaning l.initial.sections l.line_strings l.strings) l.initial.self-inside.units.items l.self-inside.units.items l.index
