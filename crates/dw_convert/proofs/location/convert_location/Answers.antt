use Rattle.std.proofs.Common.{◌≡◌, Err, ⊎_elim, inl, inr, refl}
use Rattle.dw_convert.proofs.Addresses.{is_err}
use Rattle.dw_convert.proofs.LocationSteps.{range_converted, range_refused, default_converted, default_refused}
use Rattle.dw_convert.proofs.location.convert_location.Goals as goal

pub returns-in_err-expression-in-Range-clause-err : goal.returns-in_err-expression-in-Range-clause-err
returns-in_err-expression-in-Range-clause-err g c =
    let why = c.in_err-expression-in-Range.field-0.0 in
    let e : c.from_residual-in_err-expression-in-Range.result ≡ Err why = is_err _ _ c.from_residual-in_err-expression-in-Range.ensures in
    rw e (⊎_elim (λ n. inl n) (λ h. inr (range_refused _ _ g.R.Reader.reading _ _ _ c.args.unit c.args.has_base c.args.parts c.in-Range.read _ c.encoding-encoding.ensures c.in-Range.range c.in_ok-range-in-Range.range why c.in-Range.is c.in_ok-range-in-Range.ensures h)) c.in_err-expression-in-Range.ensures.err)

pub returns-in_err-expression-in-Default-clause-err : goal.returns-in_err-expression-in-Default-clause-err
returns-in_err-expression-in-Default-clause-err g c =
    let why = c.in_err-expression-in-Default.field-0.0 in
    let e : c.from_residual-in_err-expression-in-Default.result ≡ Err why = is_err _ _ c.from_residual-in_err-expression-in-Default.ensures in
    rw e (⊎_elim (λ n. inl n) (λ h. inr (default_refused _ _ g.R.Reader.reading _ _ _ c.args.unit c.args.has_base c.args.parts c.in-Default.read _ c.encoding-encoding.ensures why c.in-Default.is h)) c.in_err-expression-in-Default.ensures.err)

pub returns-in_ok-expression-in-Range-clause-ok : goal.returns-in_ok-expression-in-Range-clause-ok
returns-in_ok-expression-in-Range-clause-ok g c =
    rw c.at_range-in-Range.ensures (range_converted _ _ g.R.Reader.reading _ _ _ c.args.unit c.args.has_base c.args.parts c.in-Range.read _ c.encoding-encoding.ensures c.in-Range.range c.in_ok-range-in-Range.range c.in_ok-expression-in-Range.expression c.in-Range.is c.in_ok-range-in-Range.ensures c.in_ok-expression-in-Range.ensures.ok)

pub returns-in_ok-expression-in-Default-clause-ok : goal.returns-in_ok-expression-in-Default-clause-ok
returns-in_ok-expression-in-Default-clause-ok g c = default_converted _ _ g.R.Reader.reading _ _ _ c.args.unit c.args.has_base c.args.parts c.in-Default.read _ c.encoding-encoding.ensures c.in_ok-expression-in-Default.expression c.in-Default.is c.in_ok-expression-in-Default.ensures.ok

pub returns-in_err-range-in-Base-clause-ok : goal.returns-in_err-range-in-Base-clause-ok
returns-in_err-range-in-Base-clause-ok g c = rw (is_err _ _ c.from_residual.ensures) tt

pub returns-in_ok-range-in-Base-clause-err : goal.returns-in_ok-range-in-Base-clause-err
returns-in_ok-range-in-Base-clause-err g c = tt

pub returns-in_err-range-in-Range-clause-ok : goal.returns-in_err-range-in-Range-clause-ok
returns-in_err-range-in-Range-clause-ok g c = rw (is_err _ _ c.from_residual-in_err-range-in-Range.ensures) tt

pub returns-in_err-expression-in-Range-clause-ok : goal.returns-in_err-expression-in-Range-clause-ok
returns-in_err-expression-in-Range-clause-ok g c = rw (is_err _ _ c.from_residual-in_err-expression-in-Range.ensures) tt

pub returns-in_ok-expression-in-Range-clause-err : goal.returns-in_ok-expression-in-Range-clause-err
returns-in_ok-expression-in-Range-clause-err g c = tt

pub returns-in_err-expression-in-Default-clause-ok : goal.returns-in_err-expression-in-Default-clause-ok
returns-in_err-expression-in-Default-clause-ok g c = rw (is_err _ _ c.from_residual-in_err-expression-in-Default.ensures) tt

pub returns-in_ok-expression-in-Default-clause-err : goal.returns-in_ok-expression-in-Default-clause-err
returns-in_ok-expression-in-Default-clause-err g c = tt

pub returns-in_err-range-in-Base-clause-err : goal.returns-in_err-range-in-Base-clause-err
returns-in_err-range-in-Base-clause-err g c =
    let why = c.in_err-range-in-Base.field-0.0 in
    rw (is_err _ why c.from_residual.ensures, c.in-Base.is) (inr (Err why, c.in_err-range-in-Base.ensures, refl))
