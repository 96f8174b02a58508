use Rattle.std.proofs.Common.{arith}
use Rattle.std.proofs.lemmas.Result.{err_from_is_err_and}
use Rattle.dw_read_frames.proofs.Steps.{number_by, number_not_by}
use Rattle.dw_read_frames.proofs.HeadLaws.{led_offset, led_before, led_nowhere, owner_no_field, owner_none, owner_some, owner_lost}
use Rattle.dw_read_frames.proofs.head.read_owner.Goals as goal

pub returns-in_err-field-clause-err : goal.returns-in_err-field-clause-err
returns-in_err-field-clause-err g c =
    let p = err_from_is_err_and c.from_residual.result c.from_residual.ensures.1 in
    rw (p.1, p.2) (owner_no_field c.args.is_eh c.args.format _ _ _ _ (number_not_by _ _ _ _ _ c.id_width.ensures c.in_err-field.ensures.err.reason))

pub returns-then-field-cie_number-clause-ok : goal.returns-then-field-cie_number-clause-ok
returns-then-field-cie_number-clause-ok g c = owner_none c.args.is_eh c.args.format c.in_ok-field.field _ _ (number_by _ _ _ _ _ c.id_width.ensures c.in_ok-field.ensures.ok) (omega (arith, c.if-field-cie_number.true, c.cie_number.ensures))

pub returns-then-not-is_eh-clause-ok : goal.returns-then-not-is_eh-clause-ok
returns-then-not-is_eh-clause-ok g c = owner_some c.args.is_eh c.args.format c.in_ok-field.field _ _ (number_by _ _ _ _ _ c.id_width.ensures c.in_ok-field.ensures.ok) _ (λ h. omega (arith, h, c.cie_number.ensures)) (led_offset c.args.is_eh _ _ c.if-not-is_eh.true)

pub returns-then-field-place-clause-err : goal.returns-then-field-place-clause-err
returns-then-field-place-clause-err g c = owner_lost c.args.is_eh c.args.format c.in_ok-field.field _ _ (number_by _ _ _ _ _ c.id_width.ensures c.in_ok-field.ensures.ok) (λ h. omega (arith, h, c.cie_number.ensures)) (led_nowhere c.args.is_eh _ _ c.if-not-is_eh.false (omega (arith, c.place-place.ensures)))

pub returns-clause-ok : goal.returns-clause-ok
returns-clause-ok g c = rw c.place-place.ensures (owner_some c.args.is_eh c.args.format c.in_ok-field.field _ _ (number_by _ _ _ _ _ c.id_width.ensures c.in_ok-field.ensures.ok) _ (λ h. omega (arith, h, c.cie_number.ensures)) (led_before c.args.is_eh _ _ c.if-not-is_eh.false (omega (arith, c.place-place.ensures))))
