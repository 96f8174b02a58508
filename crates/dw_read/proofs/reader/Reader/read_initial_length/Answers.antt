use Rattle.std.proofs.Common.{subst, arith, refl}
use Rattle.std.proofs.lemmas.Result.{err_from_is_err_and}
use Rattle.dw_read.specs.Reading.{Reading, Passes}
use Rattle.dw_read.proofs.Lefts.{passes_then}
use Rattle.dw_read.proofs.Reasoned.{refuses_length, reads_short_length, refuses_reserved, refuses_long_length, reads_long_length}
use Rattle.dw_read.proofs.reader.Reader.read_initial_length.Goals as goal

pub returns-in_err-first-clause-err : goal.returns-in_err-first-clause-err
returns-in_err-first-clause-err g c =
    let p = err_from_is_err_and c.from_residual.result c.from_residual.ensures.1 in
    rw (p.1, p.2) (refuses_length _ _ _ c.duplicate-after.ensures c.in_err-first.ensures.err)

pub returns-then-first-lt4294967280-clause-ok : goal.returns-then-first-lt4294967280-clause-ok
returns-then-first-lt4294967280-clause-ok g c = reads_short_length _ _ _ _ c.duplicate-after.ensures c.in_ok-first.ensures.ok (omega arith)

pub returns-then-first-clause-err : goal.returns-then-first-clause-err
returns-then-first-clause-err g c = refuses_reserved _ _ _ _ c.duplicate-after.ensures c.in_ok-first.ensures.ok (omega arith) (omega arith)

pub returns-in_err-length-clause-err : goal.returns-in_err-length-clause-err
returns-in_err-length-clause-err g c =
    let p = err_from_is_err_and c.from_residual-in_err-length.result c.from_residual-in_err-length.ensures.1 in
    rw (p.1, p.2) (refuses_long_length _ _ _ _ _ c.duplicate-after.ensures c.in_ok-first.ensures.ok (omega arith) c.in_err-length.ensures.err)

pub returns-clause-ok : goal.returns-clause-ok
returns-clause-ok g c = reads_long_length _ _ _ _ _ _ c.duplicate-after.ensures c.in_ok-first.ensures.ok (omega arith) c.in_ok-length.ensures.ok

pub returns-then-first-lt4294967280-clause-passes : goal.returns-then-first-lt4294967280-clause-passes
returns-then-first-lt4294967280-clause-passes g c = subst (λ (r : Reading). Passes 4 r (g.Self.Reader.reading c.read_u32.new.self)) c.duplicate-after.ensures c.in_ok-first.ensures.passes

pub returns-clause-passes : goal.returns-clause-passes
returns-clause-passes g c = subst (λ (r : Reading). Passes 12 r (g.Self.Reader.reading c.read_word.new.self)) c.duplicate-after.ensures (passes_then 4 8 _ _ _ c.in_ok-first.ensures.passes c.in_ok-length.ensures.passes)

pub returns-in_err-first-clause-ok : goal.returns-in_err-first-clause-ok
returns-in_err-first-clause-ok g c = rw (err_from_is_err_and c.from_residual.result c.from_residual.ensures.1).1 tt

pub returns-in_err-first-clause-passes : goal.returns-in_err-first-clause-passes
returns-in_err-first-clause-passes g c = rw (err_from_is_err_and c.from_residual.result c.from_residual.ensures.1).1 tt

pub returns-in_err-length-clause-ok : goal.returns-in_err-length-clause-ok
returns-in_err-length-clause-ok g c = rw (err_from_is_err_and c.from_residual-in_err-length.result c.from_residual-in_err-length.ensures.1).1 tt

pub returns-in_err-length-clause-passes : goal.returns-in_err-length-clause-passes
returns-in_err-length-clause-passes g c = rw (err_from_is_err_and c.from_residual-in_err-length.result c.from_residual-in_err-length.ensures.1).1 tt

pub returns-in_err-first-clause-kept : goal.returns-in_err-first-clause-kept
returns-in_err-first-clause-kept g c = rw (err_from_is_err_and c.from_residual.result c.from_residual.ensures.1).1 refl

pub returns-in_err-length-clause-kept : goal.returns-in_err-length-clause-kept
returns-in_err-length-clause-kept g c = rw (err_from_is_err_and c.from_residual-in_err-length.result c.from_residual-in_err-length.ensures.1).1 refl

pub returns-then-first-lt4294967280-clause-err : goal.returns-then-first-lt4294967280-clause-err
returns-then-first-lt4294967280-clause-err g c = tt

pub returns-then-first-lt4294967280-clause-kept : goal.returns-then-first-lt4294967280-clause-kept
returns-then-first-lt4294967280-clause-kept g c = tt

pub returns-then-first-clause-ok : goal.returns-then-first-clause-ok
returns-then-first-clause-ok g c = tt

pub returns-then-first-clause-passes : goal.returns-then-first-clause-passes
returns-then-first-clause-passes g c = tt

pub returns-then-first-clause-kept : goal.returns-then-first-clause-kept
returns-then-first-clause-kept g c = refl

pub returns-clause-err : goal.returns-clause-err
returns-clause-err g c = tt

pub returns-clause-kept : goal.returns-clause-kept
returns-clause-kept g c = tt
