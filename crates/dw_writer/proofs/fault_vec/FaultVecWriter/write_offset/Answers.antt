use Rattle.std.proofs.Common.{refl}
use Rattle.dw_writer.proofs.Plain.{Adds-offset_ok}
use Rattle.dw_writer.proofs.Parts.{Adds-number_with, AddsSome-number_with}
use Rattle.dw_writer.proofs.fault_vec.FaultVecWriter.write_offset.Goals as goal

pub returns-clause-ok : goal.returns-clause-ok
returns-clause-ok g c = Adds-offset_ok c.add_number.result _ _ c.args.size c.args.val c.args._section c.add_number.ensures.ok c.add_number.ensures.fits refl

pub returns-clause-raw : goal.returns-clause-raw
returns-clause-raw g c = Adds-number_with c.add_number.result _ _ c.args.size c.args.val c.add_number.ensures.ok c.add_number.ensures.fits

pub returns-clause-partly : goal.returns-clause-partly
returns-clause-partly g c = AddsSome-number_with c.add_number.result _ _ c.args.size c.args.val c.add_number.ensures.ok c.add_number.ensures.partly c.add_number.ensures.fits
