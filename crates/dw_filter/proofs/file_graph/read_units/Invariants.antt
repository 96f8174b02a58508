use Rattle.std.proofs.Common.{take}
use Rattle.dw_filter.proofs.FileSteps.{FileSoFar}
use Rattle.dw_filter.proofs.file_graph.read_units.Given as goal

abbrev pub invariant-units : goal.invariant-units
invariant-units g l = FileSoFar g.R.Reader.reading l.counts l.dwarf (take l.index l.units) l.dependencies
