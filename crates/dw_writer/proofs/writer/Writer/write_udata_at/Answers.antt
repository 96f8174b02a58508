use Rattle.std.proofs.Common.{◌∙◌, ap, refl}
use Rattle.dw_base.specs.Numbers.{num, fits}
use Rattle.dw_writer.specs.Causes.{PatchRefused}
use Rattle.dw_writer.proofs.Plain.{Patch_refused}
use Rattle.dw_writer.proofs.Outcomes.{OnOk-always, OnErr-always}
use Rattle.dw_writer.proofs.Refusals.{NumberRefused-exit, NotMemory-exit}
use Rattle.dw_writer.proofs.Parts.{IfErr-kept, OnErr-nothing_replaced, Replaces-is, ReplacesSome-is, num-spelled}
use Rattle.dw_writer.proofs.writer.Writer.write_udata_at.Goals as goal

pub returns-in_err-number-clause-err : goal.returns-in_err-number-clause-err
returns-in_err-number-clause-err g c =
    let m = g.Self.Writer.meaning c.args.self.now in
    NumberRefused-exit c.from_residual.result c.args.size (fits c.args.size c.args.val) (PatchRefused m m c.args.offset c.args.size) _ c.from_residual.ensures.1 c.in_err-number.ensures.err

pub returns-in_err-number-clause-outside : goal.returns-in_err-number-clause-outside
returns-in_err-number-clause-outside g c = IfErr-kept c.from_residual.result _ _ (OnErr-always c.from_residual.result refl)

pub returns-in_err-number-clause-memory : goal.returns-in_err-number-clause-memory
returns-in_err-number-clause-memory g c in_place =
    NotMemory-exit c.from_residual.result c.args.size (fits c.args.size c.args.val) _ c.from_residual.ensures.1 c.in_err-number.ensures.err

pub returns-in_err-number-clause-partly : goal.returns-in_err-number-clause-partly
returns-in_err-number-clause-partly g c = OnErr-nothing_replaced c.from_residual.result (g.Self.Writer.meaning c.args.self.now) c.args.offset _

pub returns-clause-fits : goal.returns-clause-fits
returns-clause-fits g c = OnOk-always c.write_at.result c.in_ok-number.ensures.fits

pub returns-clause-ok : goal.returns-clause-ok
returns-clause-ok g c =
    let w = c.in_ok-number.ensures in
    Replaces-is c.write_at.result _ _ _ c.write_at.ensures.ok (c.slice.ensures ∙ w.ok ∙ ap (λ b. num b c.args.size c.args.val) c.is_big.ensures)

pub returns-clause-err : goal.returns-clause-err
returns-clause-err g c =
    let w = c.in_ok-number.ensures in
    Patch_refused c.write_at.result _ _ _ _ c.is_big.result c.args.size c.args.val _ c.write_at.ensures.err (c.slice.ensures ∙ w.ok) w.fits.0 w.fits.1

pub returns-clause-partly : goal.returns-clause-partly
returns-clause-partly g c =
    let w = c.in_ok-number.ensures in
    ReplacesSome-is c.write_at.result _ _ _ c.write_at.ensures.partly
    (c.slice.ensures ∙ w.ok ∙ ap (λ b. num b c.args.size c.args.val) c.is_big.ensures ∙ num-spelled _ c.args.size c.args.val w.fits.0 w.fits.1)
