use Rattle.std.proofs.Common.{◌≡◌, ap, Err, refl}
use Rattle.std.proofs.lemmas.Result.{IfOk-weaker, IfErr-weaker}
use Rattle.dw_sources.specs.ConvertErrors.{from_read}
use Rattle.dw_convert.specs.Outcomes.{of_read}
use Rattle.dw_convert.specs.Sources.{string_in, string_of}
use Rattle.dw_convert.specs.declared.image.Image.TheVariants as image
use Rattle.dw_convert.proofs.Addresses.{is_err}
use Rattle.dw_convert.proofs.Lookups.{led_to_text, leads_to_no_text}
use Rattle.dw_convert.proofs.Made.{made_err, made_from}
use Rattle.dw_convert.proofs.source.indexed_string.Goals as goal

pub returns-in_err-offset-clause-err : goal.returns-in_err-offset-clause-err
returns-in_err-offset-clause-err g c =
    let e : c.from_residual.result ≡ Err (from_read c.in_err-offset.field-0.0) = is_err _ _ c.from_residual.ensures in
    rw e (made_err _ image.String _ (ap of_read (leads_to_no_text _ _ _ _ _ _ c.in_err-offset.ensures.err)))

pub returns-clause-ok : goal.returns-clause-ok
returns-clause-ok g c =
    let q : string_of g.R.Reader.reading c.args.unit c.args.index ≡ string_in g.R.Reader.reading c.args.unit c.in_ok-offset.offset.0 = ap of_read (led_to_text _ _ _ _ _ _ _ c.in_ok-offset.ensures.ok refl) in
    IfOk-weaker c.string_at.result _ _ (λ i h. made_from _ _ image.String _ q h) c.string_at.ensures.ok

pub returns-clause-err : goal.returns-clause-err
returns-clause-err g c =
    let q : string_of g.R.Reader.reading c.args.unit c.args.index ≡ string_in g.R.Reader.reading c.args.unit c.in_ok-offset.offset.0 = ap of_read (led_to_text _ _ _ _ _ _ _ c.in_ok-offset.ensures.ok refl) in
    IfErr-weaker c.string_at.result _ _ (λ e h. made_from _ _ image.String _ q h) c.string_at.ensures.err

pub returns-in_err-offset-clause-ok : goal.returns-in_err-offset-clause-ok
returns-in_err-offset-clause-ok g c = rw (is_err _ _ c.from_residual.ensures) tt

pub returns-in_err-offset-clause-text : goal.returns-in_err-offset-clause-text
returns-in_err-offset-clause-text g c = rw (is_err _ _ c.from_residual.ensures) tt

pub returns-clause-text : goal.returns-clause-text
returns-clause-text g c = c.string_at.ensures.text
