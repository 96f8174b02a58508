use Rattle.dw_dwarf.specs.Readable.{rows_held}
use Rattle.dw_dwarf.proofs.convert.convert_unit.ConvertUnit.of.Goals as goal

pub returns-clause-rows : goal.returns-clause-rows
returns-clause-rows g c = c.new-2.ensures (rows_held g.R.Reader.reading c.args.given.read.unit.now) c.args.given.readable.0 c.args.given.readable.3
