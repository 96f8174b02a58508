use Rattle.std.specs.Prelude.{vec_len}
use Rattle.std.proofs.Common.{◌∙◌, ap, refl}
use Rattle.dw_base.specs.Numbers.{num, fits}
use Rattle.dw_base.specs.Faults.{HasRisen}
use Rattle.dw_writer.specs.Causes.{PatchCause}
use Rattle.dw_writer.proofs.Plain.{Replaces-offset_ok, Patch_refused}
use Rattle.dw_writer.proofs.Outcomes.{OnOk-always, OnErr-always}
use Rattle.dw_writer.proofs.Refusals.{NumberRefused-exit, NotMemory-exit}
use Rattle.dw_writer.proofs.Parts.{IfErr-kept, ReplacesSomeWith-none, Replaces-with, ReplacesSome-with, num-spelled}
use Rattle.dw_writer.proofs.fault_vec.FaultVecWriter.write_offset_at.Goals as goal

pub returns-in_err-number-clause-err : goal.returns-in_err-number-clause-err
returns-in_err-number-clause-err g c =
    let rise = HasRisen c.args.self.now.plan.faults c.args.self.now.plan.faults in
    NumberRefused-exit c.from_residual.result c.args.size (fits c.args.size c.args.val) (PatchCause (vec_len c.args.self.now.vec.bytes) rise c.args.offset c.args.size) _ c.from_residual.ensures.1 c.in_err-number.ensures.err

pub returns-in_err-number-clause-outside : goal.returns-in_err-number-clause-outside
returns-in_err-number-clause-outside g c = IfErr-kept c.from_residual.result _ _ (OnErr-always c.from_residual.result refl)

pub returns-in_err-number-clause-memory : goal.returns-in_err-number-clause-memory
returns-in_err-number-clause-memory g c in_place =
    NotMemory-exit c.from_residual.result c.args.size (fits c.args.size c.args.val) _ c.from_residual.ensures.1 c.in_err-number.ensures.err

pub returns-in_err-number-clause-partly : goal.returns-in_err-number-clause-partly
returns-in_err-number-clause-partly g c = OnErr-always c.from_residual.result (ReplacesSomeWith-none _ c.args.offset _ _)

pub returns-clause-fits : goal.returns-clause-fits
returns-clause-fits g c = OnOk-always c.write_at.result c.in_ok-number.ensures.fits

pub returns-clause-ok : goal.returns-clause-ok
returns-clause-ok g c =
    let w = c.in_ok-number.ensures in
    Replaces-offset_ok c.write_at.result _ _ _ _ c.args.size c.args.val c.args._section c.write_at.ensures.ok
    (c.slice.ensures ∙ w.ok ∙ ap (λ b. num b c.args.size c.args.val) (c.is_big_endian.ensures ∙ c.endian.ensures)) refl w.fits.0 w.fits.1

pub returns-clause-err : goal.returns-clause-err
returns-clause-err g c =
    let w = c.in_ok-number.ensures in
    Patch_refused c.write_at.result _ _ _ _ c.is_big_endian.result c.args.size c.args.val _ c.write_at.ensures.err (c.slice.ensures ∙ w.ok) w.fits.0 w.fits.1

pub returns-clause-raw : goal.returns-clause-raw
returns-clause-raw g c =
    let w = c.in_ok-number.ensures in
    Replaces-with c.write_at.result _ _ _ _ _ c.write_at.ensures.ok
    (c.slice.ensures ∙ w.ok ∙ ap (λ b. num b c.args.size c.args.val) (c.is_big_endian.ensures ∙ c.endian.ensures) ∙ num-spelled _ c.args.size c.args.val w.fits.0 w.fits.1)

pub returns-clause-partly : goal.returns-clause-partly
returns-clause-partly g c =
    let w = c.in_ok-number.ensures in
    ReplacesSome-with c.write_at.result _ _ _ _ _ c.write_at.ensures.partly
    (c.slice.ensures ∙ w.ok ∙ ap (λ b. num b c.args.size c.args.val) (c.is_big_endian.ensures ∙ c.endian.ensures) ∙ num-spelled _ c.args.size c.args.val w.fits.0 w.fits.1)
