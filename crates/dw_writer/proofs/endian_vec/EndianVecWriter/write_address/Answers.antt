use Rattle.dw_writer.proofs.Plain.{constant-fits, Adds-constant_ok}
use Rattle.dw_writer.proofs.Parts.{Adds-number_with, AddsSome-number_with, AddsSomeWith-none}
use Rattle.dw_writer.proofs.endian_vec.EndianVecWriter.write_address.Goals as goal

pub returns-in-Constant-clause-fits : goal.returns-in-Constant-clause-fits
returns-in-Constant-clause-fits g c = rw c.in-Constant.is (constant-fits c.add_number.result c.args.size c.in-Constant.val c.add_number.ensures.fits)

pub returns-in-Constant-clause-ok : goal.returns-in-Constant-clause-ok
returns-in-Constant-clause-ok g c =
    rw c.in-Constant.is (Adds-constant_ok c.add_number.result _ _ c.args.size c.in-Constant.val c.add_number.ensures.ok c.add_number.ensures.fits)

pub returns-in-Constant-clause-err : goal.returns-in-Constant-clause-err
returns-in-Constant-clause-err g c = rw c.in-Constant.is c.add_number.ensures.err

pub returns-in-Constant-clause-raw : goal.returns-in-Constant-clause-raw
returns-in-Constant-clause-raw g c =
    rw c.in-Constant.is (Adds-number_with c.add_number.result _ _ c.args.size c.in-Constant.val c.add_number.ensures.ok c.add_number.ensures.fits)

pub returns-in-Constant-clause-partly : goal.returns-in-Constant-clause-partly
returns-in-Constant-clause-partly g c =
    rw c.in-Constant.is
    (AddsSome-number_with c.add_number.result _ _ c.args.size c.in-Constant.val c.add_number.ensures.ok c.add_number.ensures.partly c.add_number.ensures.fits)

pub returns-in-Symbol-clause-fits : goal.returns-in-Symbol-clause-fits
returns-in-Symbol-clause-fits g c = tt

pub returns-in-Symbol-clause-ok : goal.returns-in-Symbol-clause-ok
returns-in-Symbol-clause-ok g c = tt

pub returns-in-Symbol-clause-err : goal.returns-in-Symbol-clause-err
returns-in-Symbol-clause-err g c = rw c.in-Symbol.is tt

pub returns-in-Symbol-clause-raw : goal.returns-in-Symbol-clause-raw
returns-in-Symbol-clause-raw g c = tt

pub returns-in-Symbol-clause-partly : goal.returns-in-Symbol-clause-partly
returns-in-Symbol-clause-partly g c = AddsSomeWith-none _ _ _
