use Rattle.std.proofs.Common.{◌≡◌, Err}
use Rattle.dw_sources.specs.ConvertErrors.{from_read}
use Rattle.dw_convert.proofs.Addresses.{found, missing, is_err}
use Rattle.dw_convert.proofs.address.indexed.Goals as goal

pub returns-in_err-address : goal.returns-in_err-address
returns-in_err-address g c =
    let e : c.from_residual.result ≡ Err (from_read c.in_err-address.field-0.0) = is_err _ _ c.from_residual.ensures in
    rw (missing _ _ _ _ _ c.in_err-address.ensures.err) e

pub returns : goal.returns
returns g c = rw (found _ _ _ _ _ c.in_ok-address.ensures.ok) c.converted.ensures
