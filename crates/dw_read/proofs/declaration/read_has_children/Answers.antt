use Rattle.std.proofs.Common.{◌≡◌, subst, ℕ, Bool, Ok, refl, arith}
use Rattle.std.proofs.lemmas.Result.{err_from_is_err_and}
use Rattle.dw_read.specs.Reading.{left}
use Rattle.dw_read.specs.Reasons.{number_read}
use Rattle.dw_read.specs.Declarations.{children_read}
use Rattle.dw_read.proofs.Chain.{took, number_took}
use Rattle.dw_read.proofs.Declared.{no_children_byte, children_false, children_true, children_bad}
use Rattle.dw_read.proofs.declaration.read_has_children.Goals as goal

pub returns-in_err-byte-clause-err : goal.returns-in_err-byte-clause-err
returns-in_err-byte-clause-err g c =
    let p = err_from_is_err_and c.from_residual.result c.from_residual.ensures.1 in
    rw (p.1, p.2) (no_children_byte (g.R.Reader.reading c.args.input.now).is_big _ _ c.in_err-byte.ensures.err.reason)

pub returns-in-0-clause-ok : goal.returns-in-0-clause-ok
returns-in-0-clause-ok g c =
    let big = (g.R.Reader.reading c.args.input.now).is_big in
    let b : number_read big 1 (left (g.R.Reader.reading c.args.input.now)) ≡ Ok (c.in_ok-byte.byte, left (g.R.Reader.reading c.read_u8.new.self)) = number_took big 1 _ _ _ refl c.in_ok-byte.ensures.ok in
    took Bool children_read _ _ _ (record { count = c.in_ok-byte.ensures.ok.count; passes = c.in_ok-byte.ensures.ok.passes }) (children_false big _ _ (subst (λ (n : ℕ). number_read big 1 (left (g.R.Reader.reading c.args.input.now)) ≡ Ok (n, left (g.R.Reader.reading c.read_u8.new.self))) c.in-0.is b))

pub returns-in-1-clause-ok : goal.returns-in-1-clause-ok
returns-in-1-clause-ok g c =
    let big = (g.R.Reader.reading c.args.input.now).is_big in
    let b : number_read big 1 (left (g.R.Reader.reading c.args.input.now)) ≡ Ok (c.in_ok-byte.byte, left (g.R.Reader.reading c.read_u8.new.self)) = number_took big 1 _ _ _ refl c.in_ok-byte.ensures.ok in
    took Bool children_read _ _ _ (record { count = c.in_ok-byte.ensures.ok.count; passes = c.in_ok-byte.ensures.ok.passes }) (children_true big _ _ (subst (λ (n : ℕ). number_read big 1 (left (g.R.Reader.reading c.args.input.now)) ≡ Ok (n, left (g.R.Reader.reading c.read_u8.new.self))) c.in-1.is b))

pub returns-in_default-clause-err : goal.returns-in_default-clause-err
returns-in_default-clause-err g c =
    let big = (g.R.Reader.reading c.args.input.now).is_big in
    children_bad big c.in_ok-byte.byte _ _ (number_took big 1 _ _ _ refl c.in_ok-byte.ensures.ok) (omega arith)

pub returns-in_err-byte-clause-ok : goal.returns-in_err-byte-clause-ok
returns-in_err-byte-clause-ok g c = rw (err_from_is_err_and c.from_residual.result c.from_residual.ensures.1).1 tt

pub returns-in-0-clause-err : goal.returns-in-0-clause-err
returns-in-0-clause-err g c = tt

pub returns-in-1-clause-err : goal.returns-in-1-clause-err
returns-in-1-clause-err g c = tt

pub returns-in_default-clause-ok : goal.returns-in_default-clause-ok
returns-in_default-clause-ok g c = tt
