use Rattle.std.proofs.Common.{◌∙◌, ap}
use Rattle.dw_base.specs.Numbers.{num, fits}
use Rattle.dw_writer.specs.Causes.{BytesRefused}
use Rattle.dw_writer.proofs.FaultLaws.{faults_only}
use Rattle.dw_writer.proofs.Outcomes.{OnOk-always, OnErr-always}
use Rattle.dw_writer.proofs.Refusals.{NumberRefused-exit, NumberRefused-bytes}
use Rattle.dw_writer.proofs.Parts.{AddsSome-none, Adds-is, AddsSome-is, num-spelled}
use Rattle.dw_writer.proofs.endian_vec.EndianVec.add_number.Goals as goal

pub returns-in_err-number-clause-err : goal.returns-in_err-number-clause-err
returns-in_err-number-clause-err g c =
    let same = faults_only 0 in
    NumberRefused-exit c.from_residual.result c.args.size (fits c.args.size c.args.val) (BytesRefused same same) _ c.from_residual.ensures.1 c.in_err-number.ensures.err

pub returns-in_err-number-clause-partly : goal.returns-in_err-number-clause-partly
returns-in_err-number-clause-partly g c = OnErr-always c.from_residual.result (AddsSome-none _ _)

pub returns-clause-fits : goal.returns-clause-fits
returns-clause-fits g c = OnOk-always c.write.result c.in_ok-number.ensures.fits

pub returns-clause-ok : goal.returns-clause-ok
returns-clause-ok g c =
    let w = c.in_ok-number.ensures in
    Adds-is c.write.result _ _ c.write.ensures.ok (c.slice.ensures ∙ w.ok ∙ ap (λ b. num b c.args.size c.args.val) c.is_big_endian.ensures)

pub returns-clause-err : goal.returns-clause-err
returns-clause-err g c =
    let is = c.in_ok-number.ensures.fits in
    NumberRefused-bytes c.write.result c.args.size (fits c.args.size c.args.val) c.write.ensures.same is.0 is.1 c.write.ensures.err

pub returns-clause-partly : goal.returns-clause-partly
returns-clause-partly g c =
    let w = c.in_ok-number.ensures in
    AddsSome-is c.write.result _ _ c.write.ensures.partly
    (c.slice.ensures ∙ w.ok ∙ ap (λ b. num b c.args.size c.args.val) c.is_big_endian.ensures ∙ num-spelled _ c.args.size c.args.val w.fits.0 w.fits.1)
