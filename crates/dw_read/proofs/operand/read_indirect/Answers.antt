use Rattle.std.proofs.Common.{ℕ, arith}
use Rattle.std.proofs.lemmas.Result.{err_from_is_err_and}
use Rattle.dw_base.specs.Forms.{Operand}
use Rattle.dw_read.specs.Reasons.{uleb16_read}
use Rattle.dw_read.specs.Kinds.{kind_in_grammar}
use Rattle.dw_read.specs.FormReasons.{direct_read, indirect_read}
use Rattle.dw_read.proofs.Chain.{took, went, went_then, went_order}
use Rattle.dw_read.proofs.OperandLaws.{kind_some, kind_missing, indirect_no_form, indirect_constant, indirect_unknown, indirect_err, indirect_is, in_order}
use Rattle.dw_read.proofs.operand.read_indirect.Goals as goal

pub returns-in_err-code-clause-err : goal.returns-in_err-code-clause-err
returns-in_err-code-clause-err g c =
    let p = err_from_is_err_and c.from_residual.result c.from_residual.ensures.1 in
    rw (p.1, p.2) (indirect_no_form (g.R.Reader.reading c.args.input.now).is_big c.args.encoding _ _ c.in_err-code.ensures.err)

pub returns-then-code-clause-err : goal.returns-then-code-clause-err
returns-then-code-clause-err g c = indirect_constant (g.R.Reader.reading c.args.input.now).is_big c.args.encoding _ _ _ c.in_ok-code.ensures.ok.value (omega arith)

pub returns-in_default-clause-err : goal.returns-in_default-clause-err
returns-in_default-clause-err g c = indirect_unknown (g.R.Reader.reading c.args.input.now).is_big c.args.encoding _ _ _ c.in_ok-code.ensures.ok.value (omega arith) (kind_missing c.args.encoding c.in_ok-code.code _ c.in_default.is c.kind_of.ensures.is)

pub returns-in_err-operand-clause-err : goal.returns-in_err-operand-clause-err
returns-in_err-operand-clause-err g c =
    let s = kind_some c.args.encoding c.in_ok-code.code _ _ c.in-Some.is c.kind_of.ensures.is in
    let w = went ℕ uleb16_read _ _ _ c.in_ok-code.ensures.ok in
    let p = err_from_is_err_and c.from_residual-in_err-operand.result c.from_residual-in_err-operand.ensures.1 in
    rw (p.1, p.2) (indirect_err (g.R.Reader.reading c.args.input.now).is_big c.args.encoding _ _ _ _ _ c.in_ok-code.ensures.ok.value (omega arith) s (in_order _ _ _ _ _ (went_order _ _ w) c.in_err-operand.ensures.err))

pub returns-clause-ok : goal.returns-clause-ok
returns-clause-ok g c =
    let s = kind_some c.args.encoding c.in_ok-code.code _ _ c.in-Some.is c.kind_of.ensures.is in
    let w = went ℕ uleb16_read _ _ _ c.in_ok-code.ensures.ok in
    let o = c.in_ok-operand.ensures.ok in
    took (ℕ × Operand) (indirect_read (g.R.Reader.reading c.args.input.now).is_big c.args.encoding) _ _ _ (went_then _ _ _ w (went Operand (direct_read (g.R.Reader.reading c.read_uleb16.new.input).is_big (kind_in_grammar c.in-Some.kind)) _ _ _ o))
    (indirect_is (g.R.Reader.reading c.args.input.now).is_big c.args.encoding _ _ _ _ _ _ c.in_ok-code.ensures.ok.value (omega arith) s (in_order _ _ _ _ _ (went_order _ _ w) o.value))

pub returns-in_err-code-clause-ok : goal.returns-in_err-code-clause-ok
returns-in_err-code-clause-ok g c = rw (err_from_is_err_and c.from_residual.result c.from_residual.ensures.1).1 tt

pub returns-in_err-code-clause-order : goal.returns-in_err-code-clause-order
returns-in_err-code-clause-order g c = rw (err_from_is_err_and c.from_residual.result c.from_residual.ensures.1).1 tt

pub returns-in_err-operand-clause-ok : goal.returns-in_err-operand-clause-ok
returns-in_err-operand-clause-ok g c = rw (err_from_is_err_and c.from_residual-in_err-operand.result c.from_residual-in_err-operand.ensures.1).1 tt

pub returns-in_err-operand-clause-order : goal.returns-in_err-operand-clause-order
returns-in_err-operand-clause-order g c = rw (err_from_is_err_and c.from_residual-in_err-operand.result c.from_residual-in_err-operand.ensures.1).1 tt

pub returns-then-code-clause-ok : goal.returns-then-code-clause-ok
returns-then-code-clause-ok g c = tt

pub returns-then-code-clause-order : goal.returns-then-code-clause-order
returns-then-code-clause-order g c = tt

pub returns-in_default-clause-ok : goal.returns-in_default-clause-ok
returns-in_default-clause-ok g c = tt

pub returns-in_default-clause-order : goal.returns-in_default-clause-order
returns-in_default-clause-order g c = tt

pub returns-clause-err : goal.returns-clause-err
returns-clause-err g c = tt
