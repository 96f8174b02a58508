use Rattle.std.proofs.Common.{◌∙◌, sym}
use Rattle.std.proofs.lemmas.Result.{err_from_is_err_and}
use Rattle.dw_read_frames.proofs.CieLaws.{version_not, version_unknown, version_took}
use Rattle.dw_read_frames.proofs.cie.read_version.Goals as goal

pub returns-in_err-version-clause-err : goal.returns-in_err-version-clause-err
returns-in_err-version-clause-err g c =
    let p = err_from_is_err_and c.from_residual.result c.from_residual.ensures.1 in
    rw (p.1, p.2) (version_not _ _ _ c.in_err-version.ensures.err.reason)

pub returns-then-not-is_known-clause-err : goal.returns-then-not-is_known-clause-err
returns-then-not-is_known-clause-err g c = version_unknown c.in_ok-version.version _ _ (sym c.is_known.ensures ∙ c.if-not-is_known.true) c.in_ok-version.ensures.ok

pub returns-clause-ok : goal.returns-clause-ok
returns-clause-ok g c = version_took c.in_ok-version.version _ _ (sym c.is_known.ensures ∙ c.if-not-is_known.false) c.in_ok-version.ensures.ok
