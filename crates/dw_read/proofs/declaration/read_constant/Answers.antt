use Rattle.std.proofs.Common.{ℤ, Option, arith, rules}
use Rattle.std.proofs.lemmas.Result.{err_from_is_err_and}
use Rattle.dw_base.specs.Leb128.{sleb_at}
use Rattle.dw_read.specs.Reasons.{sleb_read}
use Rattle.dw_read.specs.Declarations.{constant_read}
use Rattle.dw_read.proofs.Laws.{sleb_law}
use Rattle.dw_read.proofs.Chain.{took_of, took, went, went_none}
use Rattle.dw_read.proofs.Declared.{constant_none, constant_some, constant_err}
use mir.Val.{SFits}
use mir.Syntax.{w64}
use Rattle.std.proofs.lemmas.Int.{to_z-of_z}
use Rattle.dw_read.proofs.declaration.read_constant.Goals as goal

pub returns-then-form-clause-ok : goal.returns-then-form-clause-ok
returns-then-form-clause-ok g c = took (Option ℤ) (constant_read c.args.form.0) _ _ _ (went_none _ (g.met.R.Reader.is_reading c.args.input.now)) (constant_none c.args.form.0 _ (omega arith))

pub returns-in_err-constant-clause-err : goal.returns-in_err-constant-clause-err
returns-in_err-constant-clause-err g c =
    let p = err_from_is_err_and c.from_residual.result c.from_residual.ensures.1 in
    rw (p.1, p.2) (constant_err c.args.form.0 _ _ (omega arith) c.in_err-constant.ensures.err.reason)

pub returns-clause-ok : goal.returns-clause-ok
returns-clause-ok g c =
    let fits : SFits w64 c.in_ok-constant.constant = search rules in
    let t = took_of ℤ sleb_at sleb_read _ _ _ sleb_law c.in_ok-constant.ensures.ok in
    rw (to_z-of_z w64 c.in_ok-constant.constant fits) (took (Option ℤ) (constant_read c.args.form.0) _ _ _ (went ℤ sleb_read _ _ _ t) (constant_some c.args.form.0 _ _ _ (omega arith) t.value))

pub returns-then-form-clause-err : goal.returns-then-form-clause-err
returns-then-form-clause-err g c = tt

pub returns-in_err-constant-clause-ok : goal.returns-in_err-constant-clause-ok
returns-in_err-constant-clause-ok g c = rw (err_from_is_err_and c.from_residual.result c.from_residual.ensures.1).1 tt

pub returns-clause-err : goal.returns-clause-err
returns-clause-err g c = tt
