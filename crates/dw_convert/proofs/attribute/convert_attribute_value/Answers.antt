use Rattle.std.proofs.Common.{refl, inl}
use Rattle.std.proofs.lemmas.Result.{IfErr-weaker}
use Rattle.dw_convert.proofs.Addresses.{is_err}
use Rattle.dw_convert.proofs.Formed.{ok_both}
use Rattle.dw_convert.specs.Images.{image_of}
use Rattle.dw_convert.proofs.attribute.convert_attribute_value.Goals as goal

pub returns-in_err-image-clause-ok : goal.returns-in_err-image-clause-ok
returns-in_err-image-clause-ok g c = rw (is_err _ _ c.from_residual.ensures) tt

pub returns-in_err-image-clause-err : goal.returns-in_err-image-clause-err
returns-in_err-image-clause-err g c = rw (is_err _ _ c.from_residual.ensures) c.in_err-image.ensures.err

pub returns-in_err-image-clause-kept : goal.returns-in_err-image-clause-kept
returns-in_err-image-clause-kept g c = rw (is_err _ _ c.from_residual.ensures) refl

pub returns-clause-ok : goal.returns-clause-ok
returns-clause-ok g c = ok_both c.store.result _ _ _ (λ v is named. record { meant = image_of g.R.Reader.reading c.in_ok-image.image; becomes = c.in_ok-image.ensures.ok; is_stored = is; named = named }) c.store.ensures.ok c.store.ensures.named

pub returns-clause-err : goal.returns-clause-err
returns-clause-err g c = IfErr-weaker c.store.result _ _ (λ e n. inl n) c.store.ensures.err

pub returns-clause-kept : goal.returns-clause-kept
returns-clause-kept g c = c.store.ensures.kept
