use Rattle.std.proofs.Common.{◌≡◌, sym, subst, ℕ, Some, arith}
use Rattle.std.proofs.lemmas.Result.{err_from_is_err_and}
use Rattle.dw_base.specs.Leb128.{uleb_at}
use Rattle.dw_base.specs.Abbreviations.{shape_of_code}
use Rattle.dw_read.specs.Took.{Took}
use Rattle.dw_read.specs.Reasons.{uleb_read}
use Rattle.dw_read.proofs.Laws.{uleb_law}
use Rattle.dw_read.proofs.Chain.{took_of}
use Rattle.dw_read.proofs.RowLaws.{no_code_read, no_declaration}
use Rattle.dw_read.proofs.entries.read_code.Goals as goal

pub returns-in_err-code-clause-err : goal.returns-in_err-code-clause-err
returns-in_err-code-clause-err g c =
    let p = err_from_is_err_and c.from_residual.result c.from_residual.ensures.1 in
    rw (p.1, p.2) (no_code_read c.args.abbreviations.now (g.R.Reader.reading c.args.input.now) _ c.in_err-code.ensures.err.reason)

pub returns-then-code-eq0-clause-ok : goal.returns-then-code-eq0-clause-ok
returns-then-code-eq0-clause-ok g c =
    let t = took_of ℕ uleb_at uleb_read _ _ _ uleb_law c.in_ok-code.ensures.ok in
    subst (λ (n : ℕ). Took ℕ uleb_read (g.R.Reader.reading c.args.input.now) (g.R.Reader.reading c.read_uleb128.new.self) n) c.if-code-eq0.true t

pub returns-in_default-clause-err : goal.returns-in_default-clause-err
returns-in_default-clause-err g c =
    let t = took_of ℕ uleb_at uleb_read _ _ _ uleb_law c.in_ok-code.ensures.ok in
    no_declaration c.args.abbreviations.now (g.R.Reader.reading c.args.input.now) _ _ t.value (omega arith) (rw c.in_default.is at c.get.ensures)

pub returns-clause-ok : goal.returns-clause-ok
returns-clause-ok g c =
    let t = took_of ℕ uleb_at uleb_read _ _ _ uleb_law c.in_ok-code.ensures.ok in
    let a = c.in-Some.abbreviation.now in
    let f = c.in-Some.ensures in
    let e : a.code ≡ c.in_ok-code.code = f.0 in (
      subst (λ (n : ℕ). Took ℕ uleb_read (g.R.Reader.reading c.args.input.now) (g.R.Reader.reading c.read_uleb128.new.self) n) (sym e) t,
      λ z. omega arith,
      subst (λ (n : ℕ). shape_of_code c.args.abbreviations.now n ≡ Some a.shape) (sym e) f.1,
    )

pub returns-in_err-code-clause-ok : goal.returns-in_err-code-clause-ok
returns-in_err-code-clause-ok g c = rw (err_from_is_err_and c.from_residual.result c.from_residual.ensures.1).1 tt

pub returns-then-code-eq0-clause-err : goal.returns-then-code-eq0-clause-err
returns-then-code-eq0-clause-err g c = tt

pub returns-in_default-clause-ok : goal.returns-in_default-clause-ok
returns-in_default-clause-ok g c = tt

pub returns-clause-err : goal.returns-clause-err
returns-clause-err g c = tt
