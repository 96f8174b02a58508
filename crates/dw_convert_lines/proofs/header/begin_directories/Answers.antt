use Rattle.std.proofs.Common.{refl, ℕ}
use Rattle.dw_sources.specs.ConvertErrors.{from_read}
use Rattle.dw_convert_lines.proofs.Beginnings.{misses_directories, refuses_directories}
use Rattle.dw_convert_lines.proofs.Reasons.{is_err}
use Rattle.dw_convert_lines.proofs.header.begin_directories.Goals as goal

pub returns-in_err-entries-clause-err : goal.returns-in_err-entries-clause-err
returns-in_err-entries-clause-err g c =
    let reading = g.R.Reader.reading in
    let h = c.args.header.now in
    let e = is_err _ (from_read c.in_err-entries.field-0.0) c.from_residual.ensures in
    rw e (misses_directories _ ℕ reading _ _ _ _ c.in_err-entries.field-0.0 _ c.in_err-entries.ensures.err refl)

pub returns-then-not-is_convertible-clause-err : goal.returns-then-not-is_convertible-clause-err
returns-then-not-is_convertible-clause-err g c =
    refuses_directories _ _ g.R.Reader.reading _ _ _ _ c.in_ok-entries.entries _ c.in_ok-entries.ensures.ok (λ parts has k. let q = (c.is_convertible.ensures parts has).1 k in cc) refl

pub returns-in_err-entries-clause-ok : goal.returns-in_err-entries-clause-ok
returns-in_err-entries-clause-ok g c = rw (is_err _ _ c.from_residual.ensures) tt

pub returns-in_err-entries-clause-order : goal.returns-in_err-entries-clause-order
returns-in_err-entries-clause-order g c = rw (is_err _ _ c.from_residual.ensures) tt

pub returns-in_err-entries-clause-convertible : goal.returns-in_err-entries-clause-convertible
returns-in_err-entries-clause-convertible g c = rw (is_err _ _ c.from_residual.ensures) tt

pub returns-then-not-is_convertible-clause-ok : goal.returns-then-not-is_convertible-clause-ok
returns-then-not-is_convertible-clause-ok g c = tt

pub returns-then-not-is_convertible-clause-order : goal.returns-then-not-is_convertible-clause-order
returns-then-not-is_convertible-clause-order g c = tt

pub returns-then-not-is_convertible-clause-convertible : goal.returns-then-not-is_convertible-clause-convertible
returns-then-not-is_convertible-clause-convertible g c = tt

pub returns-clause-err : goal.returns-clause-err
returns-clause-err g c = tt
