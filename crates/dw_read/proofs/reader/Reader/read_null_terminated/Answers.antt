use Rattle.std.proofs.lemmas.Result.{err_from_is_err_and}
use Rattle.std.proofs.Common.{◌∙◌, sym, ap, subst, ℕ, ◌+◌, ◌≤◌, List, length, arith, refl}
use Rattle.dw_read.specs.Reading.{left}
use Rattle.dw_read.proofs.Reasoned.{enough, refuses_text, reads_text, is_part_of}
use Rattle.dw_read.proofs.reader.Reader.read_null_terminated.Goals as goal

pub returns-in_default-clause-err : goal.returns-in_default-clause-err
returns-in_default-clause-err g c = refuses_text _ c.to_slice.result.now c.to_slice.ensures c.in_default.ensures.none

pub returns-in_err-text-clause-err : goal.returns-in_err-text-clause-err
returns-in_err-text-clause-err g c =
    let h = subst (λ (l : List ℕ). c.in-Some.length + 1 ≤ length l) (c.to_slice.ensures ∙ ap left (sym c.duplicate.ensures)) (omega (arith, c.in-Some.ensures.within)) in
    absurd (enough c.in-Some.length _ _ (omega arith) c.in_err-text.ensures.err)

pub returns-in_err-skip-clause-err : goal.returns-in_err-skip-clause-err
returns-in_err-skip-clause-err g c =
    let h = subst (λ (l : List ℕ). c.in-Some.length + 1 ≤ length l) c.to_slice.ensures (omega (arith, c.in-Some.ensures.within)) in
    absurd (enough (c.in-Some.length + 1) _ _ h c.in_err-skip.ensures.err)

pub returns-clause-ok : goal.returns-clause-ok
returns-clause-ok g c =
    reads_text _ _ _ _ c.to_slice.result.now c.in-Some.length c.to_slice.ensures c.duplicate.ensures c.in-Some.ensures.within c.in-Some.ensures.found c.in_ok-text.ensures.part (g.met.Self.Reader.is_reading c.args.self.now) c.in_ok-skip.ensures.ok

pub returns-clause-part : goal.returns-clause-part
returns-clause-part g c = is_part_of c.in-Some.length _ _ _ c.duplicate.ensures c.in_ok-text.ensures.part (g.met.Self.Reader.is_reading c.in_ok-text.text)

pub returns-in_err-text-clause-ok : goal.returns-in_err-text-clause-ok
returns-in_err-text-clause-ok g c = rw (err_from_is_err_and c.from_residual.result c.from_residual.ensures.1).1 tt

pub returns-in_err-text-clause-part : goal.returns-in_err-text-clause-part
returns-in_err-text-clause-part g c = rw (err_from_is_err_and c.from_residual.result c.from_residual.ensures.1).1 tt

pub returns-in_err-skip-clause-ok : goal.returns-in_err-skip-clause-ok
returns-in_err-skip-clause-ok g c = rw (err_from_is_err_and c.from_residual-in_err-skip.result c.from_residual-in_err-skip.ensures.1).1 tt

pub returns-in_err-skip-clause-part : goal.returns-in_err-skip-clause-part
returns-in_err-skip-clause-part g c = rw (err_from_is_err_and c.from_residual-in_err-skip.result c.from_residual-in_err-skip.ensures.1).1 tt

pub returns-in_err-text-clause-kept : goal.returns-in_err-text-clause-kept
returns-in_err-text-clause-kept g c = rw (err_from_is_err_and c.from_residual.result c.from_residual.ensures.1).1 refl

pub returns-in_err-skip-clause-kept : goal.returns-in_err-skip-clause-kept
returns-in_err-skip-clause-kept g c = rw (err_from_is_err_and c.from_residual-in_err-skip.result c.from_residual-in_err-skip.ensures.1).1 c.in_err-skip.ensures.kept

pub returns-in_default-clause-kept : goal.returns-in_default-clause-kept
returns-in_default-clause-kept g c = refl

pub returns-in_default-clause-ok : goal.returns-in_default-clause-ok
returns-in_default-clause-ok g c = tt

pub returns-in_default-clause-part : goal.returns-in_default-clause-part
returns-in_default-clause-part g c = tt

pub returns-clause-err : goal.returns-clause-err
returns-clause-err g c = tt

pub returns-clause-kept : goal.returns-clause-kept
returns-clause-kept g c = tt
