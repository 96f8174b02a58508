use Rattle.std.proofs.Common.{◌≡◌, ap, Err}
use Rattle.dw_sources.specs.ConvertErrors.{from_read}
use Rattle.dw_convert.specs.Outcomes.{of_read}
use Rattle.dw_convert.specs.declared.image.Image.TheVariants as image
use Rattle.dw_convert.proofs.Addresses.{is_err}
use Rattle.dw_convert.proofs.Lookups.{found_text, missing_text, read_text}
use Rattle.dw_convert.proofs.Made.{made_ok, made_err}
use Rattle.dw_convert.proofs.source.line_string_at.Goals as goal

pub returns-in_err-text-clause-err : goal.returns-in_err-text-clause-err
returns-in_err-text-clause-err g c =
    let e : c.from_residual.result ≡ Err (from_read c.in_err-text.field-0.0) = is_err _ _ c.from_residual.ensures in
    rw e (made_err _ image.LineString _ (ap of_read (missing_text _ _ _ c.in_err-text.ensures.err)))

pub returns-clause-ok : goal.returns-clause-ok
returns-clause-ok g c = made_ok _ image.LineString _ (ap of_read (found_text _ _ _ c.in_ok-text.ensures.ok))

pub returns-clause-text : goal.returns-clause-text
returns-clause-text g c = read_text _ _ _ c.in_ok-text.ensures.ok

pub returns-in_err-text-clause-ok : goal.returns-in_err-text-clause-ok
returns-in_err-text-clause-ok g c = rw (is_err _ _ c.from_residual.ensures) tt

pub returns-in_err-text-clause-text : goal.returns-in_err-text-clause-text
returns-in_err-text-clause-text g c = rw (is_err _ _ c.from_residual.ensures) tt

pub returns-clause-err : goal.returns-clause-err
returns-clause-err g c = tt
