use Rattle.std.proofs.Common.{◌≡◌, ◌∙◌, sym, ap, Err}
use Rattle.dw_sources.specs.ConvertErrors.{from_read}
use Rattle.dw_convert.specs.Lookups.{addresses_in}
use Rattle.dw_convert.specs.Outcomes.{of_read}
use Rattle.dw_convert.proofs.Addresses.{found, missing, is_err}
use Rattle.dw_convert.proofs.address.address_in.Goals as goal

pub returns-in_err-found : goal.returns-in_err-found
returns-in_err-found g c =
    let e : c.from_residual.result ≡ Err (from_read c.in_err-found.field-0.0) = is_err _ _ c.from_residual.ensures in
    e ∙ sym (ap (λ u. addresses_in g.R.Reader.reading u c.args.index) c.in-Some.is ∙ ap of_read (missing _ _ _ _ _ c.in_err-found.ensures.err))

pub returns : goal.returns
returns g c = sym (ap (λ u. addresses_in g.R.Reader.reading u c.args.index) c.in-Some.is ∙ ap of_read (found _ _ _ _ _ c.in_ok-found.ensures.ok))
