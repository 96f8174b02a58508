use Rattle.std.proofs.Common.{◌≡◌, false, ◌∙◌, ap, rules, to_z, of_z, w64}
use Rattle.dw_writer.specs.Causes.{BytesRefused, offset_fits}
use Rattle.dw_writer.specs.Relocating.{record_at}
use Rattle.dw_writer.specs.declared.relocate.RelocationTarget.TheVariants as to
use Rattle.dw_writer.proofs.Outcomes.{OnOk-always}
use Rattle.dw_writer.proofs.Refusals.{NumberRefused-exit, NumberRefused-bytes}
use Rattle.dw_writer.proofs.Parts.{AddsSomeWith-none}
use Rattle.dw_writer.proofs.Relocating.{offset_added, offset_zeros-are, AddsWith-is, AddsSomeWith-is}
use Rattle.dw_writer.proofs.relocate.AnyWriter.write_offset.Goals as goal

pub returns-in_err-addend-clause-err : goal.returns-in_err-addend-clause-err
returns-in_err-addend-clause-err g c =
    NumberRefused-exit c.from_residual.result c.args.size (offset_fits false c.args.size c.args.val) (BytesRefused (g.T.Writer.Writer.meaning (g.T.RelocateWriter.inner c.args.self.now)) (g.T.Writer.Writer.meaning (g.T.RelocateWriter.inner c.args.self.now))) _ c.from_residual.ensures.1 c.in_err-addend.ensures.err

pub returns-in_err-addend-clause-partly : goal.returns-in_err-addend-clause-partly
returns-in_err-addend-clause-partly g c = AddsSomeWith-none _ _ _

pub returns-clause-fits : goal.returns-clause-fits
returns-clause-fits g c = OnOk-always c.add_relocated.result c.in_ok-addend.ensures.fits

pub returns-clause-ok : goal.returns-clause-ok
returns-clause-ok g c =
    let value : to_z w64 (of_z w64 c.in_ok-addend.addend) ≡ c.in_ok-addend.addend = search rules in
    let fits = c.in_ok-addend.ensures.fits in
    offset_added c.add_relocated.result _ _ c.args.size c.args.val c.args.section _ c.add_relocated.ensures.ok (value ∙ c.in_ok-addend.ensures.ok) fits.0

pub returns-clause-err : goal.returns-clause-err
returns-clause-err g c =
    let fits = c.in_ok-addend.ensures.fits in
    NumberRefused-bytes c.add_relocated.result c.args.size (offset_fits false c.args.size c.args.val) c.add_relocated.ensures.same fits.0 fits.1 c.add_relocated.ensures.err

pub returns-clause-raw : goal.returns-clause-raw
returns-clause-raw g c =
    let value : to_z w64 (of_z w64 c.in_ok-addend.addend) ≡ c.in_ok-addend.addend = search rules in
    let fits = c.in_ok-addend.ensures.fits in
    AddsWith-is c.add_relocated.result _ _ _ _ _ _ c.add_relocated.ensures.ok (offset_zeros-are (g.T.Writer.Writer.meaning (g.T.RelocateWriter.inner c.args.self.now)).is_big c.args.size c.args.val fits) (ap (record_at (g.T.Writer.Writer.meaning (g.T.RelocateWriter.inner c.args.self.now)).size c.args.size (to.Section c.args.section)) (value ∙ c.in_ok-addend.ensures.ok))

pub returns-clause-partly : goal.returns-clause-partly
returns-clause-partly g c =
    let value : to_z w64 (of_z w64 c.in_ok-addend.addend) ≡ c.in_ok-addend.addend = search rules in
    let fits = c.in_ok-addend.ensures.fits in
    AddsSomeWith-is _ _ _ _ _ _ c.add_relocated.ensures.partly (offset_zeros-are (g.T.Writer.Writer.meaning (g.T.RelocateWriter.inner c.args.self.now)).is_big c.args.size c.args.val fits) (ap (record_at (g.T.Writer.Writer.meaning (g.T.RelocateWriter.inner c.args.self.now)).size c.args.size (to.Section c.args.section)) (value ∙ c.in_ok-addend.ensures.ok))
