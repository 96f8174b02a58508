use Rattle.std.proofs.Common.{◌∙◌, sym, ap, ℕ, Option, Some, Ok, arith}
use Rattle.std.proofs.lemmas.Result.{err_from_is_err_and}
use Rattle.dw_base.specs.Leb128.{uleb_at}
use Rattle.dw_base.specs.Abbreviations.{Shape, Declaration}
use Rattle.dw_read.specs.Reading.{left}
use Rattle.dw_read.specs.Reasons.{uleb_read}
use Rattle.dw_read.specs.Declarations.{shape_read, declaration_read}
use Rattle.dw_read.proofs.Laws.{uleb_law}
use Rattle.dw_read.proofs.Chain.{took_of, took, went, went_then, reason, refused_of}
use Rattle.dw_read.proofs.Declared.{no_code, table_end, no_shape, doubled, one_declaration}
use Rattle.dw_read.proofs.Indexed.{found_some, found_none}
use Rattle.dw_read.proofs.abbreviations.read_declaration.Goals as goal

pub returns-in_err-code-clause-err : goal.returns-in_err-code-clause-err
returns-in_err-code-clause-err g c =
    let p = err_from_is_err_and c.from_residual.result c.from_residual.ensures.1 in
    rw (p.1, p.2) (reason (Option Declaration) (declaration_read c.args.before.now) (g.R.Reader.reading c.args.input.now) _ (no_code c.args.before.now _ _ c.in_err-code.ensures.err.reason))

pub returns-then-code-eq0-clause-ok : goal.returns-then-code-eq0-clause-ok
returns-then-code-eq0-clause-ok g c =
    let t = took_of ℕ uleb_at uleb_read _ _ _ uleb_law c.in_ok-code.ensures.ok in
    took (Option Declaration) (declaration_read c.args.before.now) _ _ _ (went ℕ uleb_read _ _ _ t) (table_end c.args.before.now _ _ _ t.value c.if-code-eq0.true)

pub returns-in_err-abbreviation-clause-err : goal.returns-in_err-abbreviation-clause-err
returns-in_err-abbreviation-clause-err g c =
    let t = took_of ℕ uleb_at uleb_read _ _ _ uleb_law c.in_ok-code.ensures.ok in
    let p = err_from_is_err_and c.from_residual-in_err-abbreviation.result c.from_residual-in_err-abbreviation.ensures.1 in
    rw (p.1, p.2) (refused_of Shape (Option Declaration) shape_read (declaration_read c.args.before.now) (g.R.Reader.reading c.read_uleb128.new.self) (g.R.Reader.reading c.args.input.now) _ (no_shape c.args.before.now _ _ _ _ t.value (omega arith)) c.in_err-abbreviation.ensures.err)

pub returns-then-is_some-clause-err : goal.returns-then-is_some-clause-err
returns-then-is_some-clause-err g c =
    let t = took_of ℕ uleb_at uleb_read _ _ _ uleb_law c.in_ok-code.ensures.ok in
    let f = found_some c.args.before.now c.in_ok-code.code c.get.result c.get.ensures (sym c.is_some.ensures ∙ c.if-is_some.true) in
    reason (Option Declaration) (declaration_read c.args.before.now) (g.R.Reader.reading c.args.input.now) _ (doubled c.args.before.now _ _ f.0 _ _ _ t.value (omega arith) c.in_ok-abbreviation.ensures.ok.value f.1)

pub returns-clause-ok : goal.returns-clause-ok
returns-clause-ok g c =
    let t = took_of ℕ uleb_at uleb_read _ _ _ uleb_law c.in_ok-code.ensures.ok in
    let f = found_none c.args.before.now c.in_ok-code.code c.get.result c.get.ensures (sym c.is_some.ensures ∙ c.if-is_some.false) in
    let o = c.in_ok-abbreviation.ensures.ok in
    took (Option Declaration) (declaration_read c.args.before.now) _ _ _ (went_then _ _ _ (went ℕ uleb_read _ _ _ t) (went Shape shape_read _ _ _ o))
    (one_declaration c.args.before.now _ _ _ _ _ t.value (omega arith) o.value f
    ∙ ap (λ (k : ℕ). Ok (Some (record { code = k; shape = c.in_ok-abbreviation.abbreviation.shape }), left (g.R.Reader.reading c.read_shape.new.input))) (sym c.in_ok-abbreviation.ensures.code))

pub returns-in_err-code-clause-ok : goal.returns-in_err-code-clause-ok
returns-in_err-code-clause-ok g c = rw (err_from_is_err_and c.from_residual.result c.from_residual.ensures.1).1 tt

pub returns-in_err-code-clause-new : goal.returns-in_err-code-clause-new
returns-in_err-code-clause-new g c = rw (err_from_is_err_and c.from_residual.result c.from_residual.ensures.1).1 tt

pub returns-in_err-abbreviation-clause-ok : goal.returns-in_err-abbreviation-clause-ok
returns-in_err-abbreviation-clause-ok g c = rw (err_from_is_err_and c.from_residual-in_err-abbreviation.result c.from_residual-in_err-abbreviation.ensures.1).1 tt

pub returns-in_err-abbreviation-clause-new : goal.returns-in_err-abbreviation-clause-new
returns-in_err-abbreviation-clause-new g c = rw (err_from_is_err_and c.from_residual-in_err-abbreviation.result c.from_residual-in_err-abbreviation.ensures.1).1 tt

pub returns-then-code-eq0-clause-new : goal.returns-then-code-eq0-clause-new
returns-then-code-eq0-clause-new g c = tt

pub returns-then-code-eq0-clause-err : goal.returns-then-code-eq0-clause-err
returns-then-code-eq0-clause-err g c = tt

pub returns-then-is_some-clause-ok : goal.returns-then-is_some-clause-ok
returns-then-is_some-clause-ok g c = tt

pub returns-then-is_some-clause-new : goal.returns-then-is_some-clause-new
returns-then-is_some-clause-new g c = tt

pub returns-clause-err : goal.returns-clause-err
returns-clause-err g c = tt
