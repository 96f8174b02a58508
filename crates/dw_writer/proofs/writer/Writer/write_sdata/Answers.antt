use Rattle.std.proofs.Common.{◌∙◌, ap, to_z, of_z, w64}
use Rattle.std.proofs.Math.Facts.{to_z-of_z}
use Rattle.dw_writer.specs.SignedNumbers.{signed_fits, signed_num}
use Rattle.dw_writer.specs.Causes.{BytesRefused}
use Rattle.dw_writer.proofs.Outcomes.{OnOk-always}
use Rattle.dw_writer.proofs.Refusals.{NumberRefused-exit, NumberRefused-bytes}
use Rattle.dw_writer.proofs.Parts.{OnErr-none, Adds-is, AddsSome-is, signed-spelled}
use Rattle.dw_writer.proofs.writer.Writer.write_sdata.Goals as goal

pub returns-in_err-number-clause-err : goal.returns-in_err-number-clause-err
returns-in_err-number-clause-err g c =
    let val = to_z-of_z {w = w64} c.ranges.val in
    let m = g.Self.Writer.meaning c.args.self.now in
    NumberRefused-exit c.from_residual.result c.args.size (signed_fits c.args.size c.args.val) (BytesRefused m m) _ c.from_residual.ensures.1 (rw val at c.in_err-number.ensures.err)

pub returns-in_err-number-clause-partly : goal.returns-in_err-number-clause-partly
returns-in_err-number-clause-partly g c = OnErr-none c.from_residual.result (g.Self.Writer.meaning c.args.self.now) _

pub returns-clause-fits : goal.returns-clause-fits
returns-clause-fits g c =
    let val = to_z-of_z {w = w64} c.ranges.val in
    OnOk-always c.write.result (rw val at c.in_ok-number.ensures.fits)

pub returns-clause-ok : goal.returns-clause-ok
returns-clause-ok g c =
    let val = to_z-of_z {w = w64} c.ranges.val in
    let w = c.in_ok-number.ensures in
    Adds-is c.write.result _ _ c.write.ensures.ok (c.slice.ensures ∙ w.ok ∙ ap (λ b. signed_num b c.args.size (to_z w64 (of_z w64 c.args.val))) c.is_big.ensures ∙ ap (signed_num _ c.args.size) val)

pub returns-clause-err : goal.returns-clause-err
returns-clause-err g c =
    let val = to_z-of_z {w = w64} c.ranges.val in
    let is = rw val at c.in_ok-number.ensures.fits in
    NumberRefused-bytes c.write.result c.args.size (signed_fits c.args.size c.args.val) c.write.ensures.same is.0 is.1 c.write.ensures.err

pub returns-clause-partly : goal.returns-clause-partly
returns-clause-partly g c =
    let val = to_z-of_z {w = w64} c.ranges.val in
    let w = c.in_ok-number.ensures in
    let is = rw val at c.in_ok-number.ensures.fits in
    AddsSome-is c.write.result _ _ c.write.ensures.partly
    (c.slice.ensures ∙ w.ok ∙ ap (λ b. signed_num b c.args.size (to_z w64 (of_z w64 c.args.val))) c.is_big.ensures ∙ ap (signed_num _ c.args.size) val ∙ signed-spelled _ c.args.size c.args.val is.0 is.1)
