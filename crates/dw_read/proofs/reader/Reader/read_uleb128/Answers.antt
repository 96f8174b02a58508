use Rattle.std.proofs.Common.{◌≡◌, subst, ℕ, ◌≤◌, List, length, drop, Ok, Err, refl}
use Rattle.std.proofs.lemmas.Result.{err_from_is_err_and}
use Rattle.dw_base.specs.Leb128.{uleb_at}
use Rattle.dw_read.specs.Reasons.{uleb_read}
use Rattle.dw_read.proofs.Laws.{refuses, uleb_law}
use Rattle.dw_read.proofs.Reasoned.{enough, reads_passed}
use Rattle.dw_read.proofs.reader.Reader.read_uleb128.Goals as goal

pub returns-in_err-value-clause-err : goal.returns-in_err-value-clause-err
returns-in_err-value-clause-err g c =
    let p = err_from_is_err_and c.from_residual.result c.from_residual.ensures.1 in
    let h : uleb_read c.to_slice.result.now ≡ Err c.in_err-value.field-0.0 = c.in_err-value.ensures.err in
    rw (p.1, p.2) (refuses ℕ uleb_at uleb_read _ _ uleb_law (subst (λ (l : List ℕ). uleb_read l ≡ Err c.in_err-value.field-0.0) c.to_slice.ensures h))

pub returns-in_err-skip-clause-err : goal.returns-in_err-skip-clause-err
returns-in_err-skip-clause-err g c =
    absurd (enough c.in_ok-value.size _ _ (subst (λ (l : List ℕ). c.in_ok-value.size ≤ length l) c.to_slice.ensures c.in_ok-value.ensures.within) c.in_err-skip.ensures.err)

pub returns-clause-ok : goal.returns-clause-ok
returns-clause-ok g c =
    reads_passed ℕ uleb_at uleb_read c.in_ok-value.size _ _ _ uleb_law c.in_ok-skip.ensures.ok
    (subst (λ (l : List ℕ). uleb_read l ≡ Ok (c.in_ok-value.value, drop c.in_ok-value.size l)) c.to_slice.ensures c.in_ok-value.ensures.ok)

pub returns-in_err-value-clause-ok : goal.returns-in_err-value-clause-ok
returns-in_err-value-clause-ok g c = rw (err_from_is_err_and c.from_residual.result c.from_residual.ensures.1).1 tt

pub returns-in_err-skip-clause-ok : goal.returns-in_err-skip-clause-ok
returns-in_err-skip-clause-ok g c = rw (err_from_is_err_and c.from_residual-in_err-skip.result c.from_residual-in_err-skip.ensures.1).1 tt

pub returns-in_err-value-clause-kept : goal.returns-in_err-value-clause-kept
returns-in_err-value-clause-kept g c = rw (err_from_is_err_and c.from_residual.result c.from_residual.ensures.1).1 refl

pub returns-in_err-skip-clause-kept : goal.returns-in_err-skip-clause-kept
returns-in_err-skip-clause-kept g c = rw (err_from_is_err_and c.from_residual-in_err-skip.result c.from_residual-in_err-skip.ensures.1).1 c.in_err-skip.ensures.kept

pub returns-clause-err : goal.returns-clause-err
returns-clause-err g c = tt

pub returns-clause-kept : goal.returns-clause-kept
returns-clause-kept g c = tt
