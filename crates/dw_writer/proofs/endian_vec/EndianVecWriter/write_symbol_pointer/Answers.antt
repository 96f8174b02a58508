use Rattle.dw_writer.proofs.Parts.{AddsSomeWith-none}
use Rattle.dw_writer.proofs.endian_vec.EndianVecWriter.write_symbol_pointer.Goals as goal

pub returns-clause-partly : goal.returns-clause-partly
returns-clause-partly g c = AddsSomeWith-none _ _ _
