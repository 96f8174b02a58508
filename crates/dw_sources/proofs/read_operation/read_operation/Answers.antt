use Rattle.std.proofs.Common.{arith}
use Rattle.std.proofs.lemmas.Result.{err_from_is_err_and}
use Rattle.dw_read.proofs.Chain.{went_of}
use Rattle.dw_sources.proofs.ReadLaws.{no_code, operation_took, operation_not, holds_after, beyond}
use Rattle.dw_sources.proofs.read_operation.read_operation.Goals as goal

pub returns-in_err-code-clause-err : goal.returns-in_err-code-clause-err
returns-in_err-code-clause-err g c =
    let p = err_from_is_err_and c.from_residual.result c.from_residual.ensures.1 in
    rw (p.1, p.2) (no_code (g.R.Reader.reading c.args.input.now).is_big c.args.encoding _ _ c.in_err-code.ensures.err.reason)

pub returns-in_err-operation-clause-err : goal.returns-in_err-operation-clause-err
returns-in_err-operation-clause-err g c =
    let p = err_from_is_err_and c.from_residual-in_err-operation.result c.from_residual-in_err-operation.ensures.1 in
    rw (p.1, p.2) (operation_not c.args.encoding c.in_ok-code.code _ _ c.in_ok-code.ensures.ok _ c.in_err-operation.ensures.err)

pub returns-clause-ok : goal.returns-clause-ok
returns-clause-ok g c = operation_took c.args.encoding c.in_ok-code.code _ _ c.in_ok-code.ensures.ok _ _ c.in_ok-operation.ensures.ok

pub returns-clause-parts : goal.returns-clause-parts
returns-clause-parts g c = holds_after g.R.Reader.reading _ _ c.in_ok-operation.operation (went_of 1 _ _ c.in_ok-code.ensures.passes) c.in_ok-operation.ensures.parts

pub returns-clause-progress : goal.returns-clause-progress
returns-clause-progress g c = beyond 1 _ _ _ _ c.in_ok-code.ensures.passes c.in_ok-operation.ensures.ok.passes (omega arith)

pub returns-in_err-code-clause-ok : goal.returns-in_err-code-clause-ok
returns-in_err-code-clause-ok g c = rw (err_from_is_err_and c.from_residual.result c.from_residual.ensures.1).1 tt

pub returns-in_err-code-clause-parts : goal.returns-in_err-code-clause-parts
returns-in_err-code-clause-parts g c = rw (err_from_is_err_and c.from_residual.result c.from_residual.ensures.1).1 tt

pub returns-in_err-code-clause-progress : goal.returns-in_err-code-clause-progress
returns-in_err-code-clause-progress g c = rw (err_from_is_err_and c.from_residual.result c.from_residual.ensures.1).1 tt

pub returns-in_err-operation-clause-ok : goal.returns-in_err-operation-clause-ok
returns-in_err-operation-clause-ok g c = rw (err_from_is_err_and c.from_residual-in_err-operation.result c.from_residual-in_err-operation.ensures.1).1 tt

pub returns-in_err-operation-clause-parts : goal.returns-in_err-operation-clause-parts
returns-in_err-operation-clause-parts g c = rw (err_from_is_err_and c.from_residual-in_err-operation.result c.from_residual-in_err-operation.ensures.1).1 tt

pub returns-in_err-operation-clause-progress : goal.returns-in_err-operation-clause-progress
returns-in_err-operation-clause-progress g c = rw (err_from_is_err_and c.from_residual-in_err-operation.result c.from_residual-in_err-operation.ensures.1).1 tt

pub returns-clause-err : goal.returns-clause-err
returns-clause-err g c = tt
