use Rattle.std.proofs.Common.{◌∙◌, ap}
use Rattle.dw_base.specs.Numbers.{num, fits}
use Rattle.dw_writer.specs.Causes.{BytesRefused}
use Rattle.dw_writer.proofs.Outcomes.{OnOk-always}
use Rattle.dw_writer.proofs.Refusals.{NumberRefused-exit, NumberRefused-bytes}
use Rattle.dw_writer.proofs.Parts.{OnErr-none, Adds-is, AddsSome-is, num-spelled}
use Rattle.dw_writer.proofs.writer.Writer.write_udata.Goals as goal

pub returns-in_err-number-clause-err : goal.returns-in_err-number-clause-err
returns-in_err-number-clause-err g c =
    let m = g.Self.Writer.meaning c.args.self.now in
    NumberRefused-exit c.from_residual.result c.args.size (fits c.args.size c.args.val) (BytesRefused m m) _ c.from_residual.ensures.1 c.in_err-number.ensures.err

pub returns-in_err-number-clause-partly : goal.returns-in_err-number-clause-partly
returns-in_err-number-clause-partly g c = OnErr-none c.from_residual.result (g.Self.Writer.meaning c.args.self.now) _

pub returns-clause-fits : goal.returns-clause-fits
returns-clause-fits g c = OnOk-always c.write.result c.in_ok-number.ensures.fits

pub returns-clause-ok : goal.returns-clause-ok
returns-clause-ok g c =
    let w = c.in_ok-number.ensures in
    Adds-is c.write.result _ _ c.write.ensures.ok (c.slice.ensures ∙ w.ok ∙ ap (λ b. num b c.args.size c.args.val) c.is_big.ensures)

pub returns-clause-err : goal.returns-clause-err
returns-clause-err g c =
    let is = c.in_ok-number.ensures.fits in
    NumberRefused-bytes c.write.result c.args.size (fits c.args.size c.args.val) c.write.ensures.same is.0 is.1 c.write.ensures.err

pub returns-clause-partly : goal.returns-clause-partly
returns-clause-partly g c =
    let w = c.in_ok-number.ensures in
    AddsSome-is c.write.result _ _ c.write.ensures.partly
    (c.slice.ensures ∙ w.ok ∙ ap (λ b. num b c.args.size c.args.val) c.is_big.ensures ∙ num-spelled _ c.args.size c.args.val w.fits.0 w.fits.1)
