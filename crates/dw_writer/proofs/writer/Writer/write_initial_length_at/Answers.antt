use Rattle.std.specs.Prelude.{IsTrue, ◌^◌}
use Rattle.dw_base.specs.Numbers.{length_fits, word_of}
use Rattle.dw_base.specs.declared.common.Format.{Format}
use Rattle.dw_writer.proofs.Outcomes.{OnOk-always}
use Rattle.dw_writer.proofs.Refusals.{LengthRefused-patched}
use Rattle.dw_writer.proofs.Parts.{ReplacesSome-is, length-spelled, below}
use Rattle.dw_writer.proofs.writer.Writer.write_initial_length_at.Goals as goal

pub returns-in-Dwarf64-clause-fits : goal.returns-in-Dwarf64-clause-fits
returns-in-Dwarf64-clause-fits g c =
    let fits : IsTrue (length_fits Format.Dwarf64 c.args.length) = below c.args.length (2 ^ 64) c.ranges.length.fits in
    rw c.in-Dwarf64.is (OnOk-always c.write_u64_at.result fits)

pub returns-in-Dwarf64-clause-ok : goal.returns-in-Dwarf64-clause-ok
returns-in-Dwarf64-clause-ok g c = rw c.in-Dwarf64.is c.write_u64_at.ensures.ok

pub returns-in-Dwarf64-clause-err : goal.returns-in-Dwarf64-clause-err
returns-in-Dwarf64-clause-err g c =
    let fits : IsTrue (length_fits Format.Dwarf64 c.args.length) = below c.args.length (2 ^ 64) c.ranges.length.fits in
    rw c.in-Dwarf64.is (LengthRefused-patched c.write_u64_at.result c.args.offset (word_of Format.Dwarf64) Format.Dwarf64 c.args.length c.write_u64_at.ensures.same fits c.write_u64_at.ensures.err)

pub returns-in-Dwarf64-clause-partly : goal.returns-in-Dwarf64-clause-partly
returns-in-Dwarf64-clause-partly g c =
    let fits : IsTrue (length_fits Format.Dwarf64 c.args.length) = below c.args.length (2 ^ 64) c.ranges.length.fits in
    rw c.in-Dwarf64.is (ReplacesSome-is c.write_u64_at.result _ _ c.args.offset c.write_u64_at.ensures.partly (length-spelled _ Format.Dwarf64 c.args.length fits))
