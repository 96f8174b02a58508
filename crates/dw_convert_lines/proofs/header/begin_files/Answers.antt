use Rattle.dw_convert_lines.proofs.Reasons.{is_err}
use Rattle.std.proofs.Common.{refl}
use Rattle.dw_convert_lines.proofs.Beginnings.{refuses_behind}
use Rattle.dw_convert_lines.proofs.header.begin_files.Goals as goal

pub returns-then-not-is_convertible-clause-err : goal.returns-then-not-is_convertible-clause-err
returns-then-not-is_convertible-clause-err g c =
    refuses_behind _ _ g.R.Reader.reading c.args.directories.now.layout (g.R.Reader.reading c.args.directories.now.input) _ _ c.in_ok-entries.ensures.ok (λ parts has k. let q = (c.is_convertible.ensures parts has).1 k in cc) refl

pub returns-in_err-entries-clause-ok : goal.returns-in_err-entries-clause-ok
returns-in_err-entries-clause-ok g c = rw (is_err _ _ c.from_residual.ensures) tt

pub returns-in_err-entries-clause-order : goal.returns-in_err-entries-clause-order
returns-in_err-entries-clause-order g c = rw (is_err _ _ c.from_residual.ensures) tt

pub returns-in_err-entries-clause-convertible : goal.returns-in_err-entries-clause-convertible
returns-in_err-entries-clause-convertible g c = rw (is_err _ _ c.from_residual.ensures) tt

pub returns-then-not-is_convertible-clause-ok : goal.returns-then-not-is_convertible-clause-ok
returns-then-not-is_convertible-clause-ok g c = tt

pub returns-then-not-is_convertible-clause-order : goal.returns-then-not-is_convertible-clause-order
returns-then-not-is_convertible-clause-order g c = tt

pub returns-then-not-is_convertible-clause-convertible : goal.returns-then-not-is_convertible-clause-convertible
returns-then-not-is_convertible-clause-convertible g c = tt

pub returns-clause-err : goal.returns-clause-err
returns-clause-err g c = tt
