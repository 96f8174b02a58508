use Rattle.std.proofs.Common.{refl, arith, ℕ, ◌^◌}
use Rattle.std.proofs.lemmas.Bool.{lt-ltb, le-ltb}
use Rattle.std.proofs.lemmas.Result.{err_from_is_err_and}
use Rattle.dw_base.specs.Leb128.{uleb_at}
use Rattle.dw_read.specs.Reasons.{uleb_read, uleb16_read}
use Rattle.dw_read.proofs.Chain.{took, took_of, went, went_then}
use Rattle.dw_read.proofs.Laws.{uleb_law}
use Rattle.dw_read_lines.specs.LineEntries.{format_read}
use Rattle.dw_read_lines.proofs.described.read_format.Goals as goal

pub returns-in_err-content-clause-err : goal.returns-in_err-content-clause-err
unfolding format_read
returns-in_err-content-clause-err g c =
    let p = err_from_is_err_and c.from_residual.result c.from_residual.ensures.1 in
    rw (p.1, p.2, c.in_err-content.ensures.err.reason) refl

pub returns-in_err-form-clause-err : goal.returns-in_err-form-clause-err
unfolding format_read uleb16_read
returns-in_err-form-clause-err g c =
    let n = (took_of _ uleb_at uleb_read _ _ _ uleb_law c.in_ok-content.ensures.ok).value in
    let p = err_from_is_err_and c.from_residual-in_err-form.result c.from_residual-in_err-form.ensures.1 in
    rw (p.1, p.2, n, c.in_err-form.ensures.err.reason) refl

pub returns-then-form-gt65535-clause-err : goal.returns-then-form-gt65535-clause-err
unfolding format_read uleb16_read
returns-then-form-gt65535-clause-err g c =
    let n = (took_of _ uleb_at uleb_read _ _ _ uleb_law c.in_ok-content.ensures.ok).value in
    let m = (took_of _ uleb_at uleb_read _ _ _ uleb_law c.in_ok-form.ensures.ok).value in
    rw (n, m, le-ltb c.in_ok-form.form (2 ^ 16) (omega arith)) refl

pub returns-clause-ok : goal.returns-clause-ok
unfolding format_read uleb16_read
returns-clause-ok g c =
    let n = took_of _ uleb_at uleb_read _ _ _ uleb_law c.in_ok-content.ensures.ok in
    let m = took_of _ uleb_at uleb_read _ _ _ uleb_law c.in_ok-form.ensures.ok in
    took (ℕ × ℕ) format_read _ _ _ (went_then _ _ _ (went _ _ _ _ _ n) (went _ _ _ _ _ m)) (rw (n.value, m.value, lt-ltb c.in_ok-form.form (2 ^ 16) (omega arith)) refl)
