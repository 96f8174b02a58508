use Rattle.std.proofs.Common.{◌≡◌, ap, Ok, Err, rules, inr}
use Rattle.dw_sources.specs.ConvertErrors.{from_read}
use Rattle.dw_convert.specs.Outcomes.{of_read}
use Rattle.dw_convert.specs.SourceImages.{RangesFound}
use Rattle.dw_convert.specs.Sources.{ranges_of}
use Rattle.dw_convert.proofs.Addresses.{is_err}
use Rattle.dw_convert.proofs.Formed.{ok_then, err_then}
use Rattle.dw_convert.proofs.Lookups.{found_list, missing_list}
use Rattle.dw_convert.proofs.Made.{after_ok, after_err}
use Rattle.dw_convert.proofs.source.indexed_ranges.Goals as goal

pub returns-in_err-offset-clause-err : goal.returns-in_err-offset-clause-err
returns-in_err-offset-clause-err g c =
    let e : c.from_residual.result ≡ Err (from_read c.in_err-offset.field-0.0) = is_err _ _ c.from_residual.ensures in
    rw e (inr (after_err _ (RangesFound g.R.Reader.reading (goal.F-post g c.args.convert_address.now) c.args.unit) _ (ap of_read (missing_list _ _ _ _ _ c.in_err-offset.ensures.err))))

pub returns-clause-ok : goal.returns-clause-ok
returns-clause-ok g c =
    let q : ranges_of g.R.Reader.reading c.args.unit c.args.index ≡ Ok c.in_ok-offset.offset.0 = ap of_read (found_list _ _ _ _ _ (search rules) c.in_ok-offset.ensures.ok) in
    ok_then c.ranges_at.result _ _ (λ i h. after_ok _ (RangesFound g.R.Reader.reading (goal.F-post g c.args.convert_address.now) c.args.unit) _ _ q h) c.ranges_at.ensures.ok

pub returns-clause-err : goal.returns-clause-err
returns-clause-err g c =
    let q : ranges_of g.R.Reader.reading c.args.unit c.args.index ≡ Ok c.in_ok-offset.offset.0 = ap of_read (found_list _ _ _ _ _ (search rules) c.in_ok-offset.ensures.ok) in
    err_then c.ranges_at.result _ _ _ (λ e h. after_ok _ (RangesFound g.R.Reader.reading (goal.F-post g c.args.convert_address.now) c.args.unit) _ _ q h) c.ranges_at.ensures.err

pub returns-in_err-offset-clause-ok : goal.returns-in_err-offset-clause-ok
returns-in_err-offset-clause-ok g c = rw (is_err _ _ c.from_residual.ensures) tt

pub returns-in_err-offset-clause-text : goal.returns-in_err-offset-clause-text
returns-in_err-offset-clause-text g c = rw (is_err _ _ c.from_residual.ensures) tt

pub returns-clause-text : goal.returns-clause-text
returns-clause-text g c = c.ranges_at.ensures.text
