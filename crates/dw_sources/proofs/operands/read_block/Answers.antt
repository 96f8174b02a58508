use Rattle.std.proofs.lemmas.Result.{err_from_is_err_and}
use Rattle.dw_sources.proofs.OperandLaws.{block_uncounted, block_cut, block_took, within}
use Rattle.dw_sources.proofs.operands.read_block.Goals as goal

pub returns-in_err-size-clause-err : goal.returns-in_err-size-clause-err
returns-in_err-size-clause-err g c =
    let p = err_from_is_err_and c.from_residual.result c.from_residual.ensures.1 in
    rw (p.1, p.2) (block_uncounted _ _ c.in_err-size.ensures.err.reason)

pub returns-in_err-bytes-clause-err : goal.returns-in_err-bytes-clause-err
returns-in_err-bytes-clause-err g c =
    let p = err_from_is_err_and c.from_residual-in_err-bytes.result c.from_residual-in_err-bytes.ensures.1 in
    rw (p.1, p.2) (block_cut c.in_ok-size.size _ _ _ c.in_ok-size.ensures.ok c.in_err-bytes.ensures.err.reason)

pub returns-clause-ok : goal.returns-clause-ok
returns-clause-ok g c = block_took c.in_ok-size.size _ _ _ _ c.in_ok-size.ensures.ok (g.met.R.Reader.is_reading c.read_uleb128.new.self) c.in_ok-bytes.ensures.part c.in_ok-bytes.ensures.ok

pub returns-clause-part : goal.returns-clause-part
returns-clause-part g c = within c.in_ok-size.ensures.ok.count c.in_ok-size.size _ _ _ _ c.in_ok-size.ensures.ok.passes c.in_ok-bytes.ensures.part c.in_ok-bytes.ensures.ok

pub returns-in_err-size-clause-ok : goal.returns-in_err-size-clause-ok
returns-in_err-size-clause-ok g c = rw (err_from_is_err_and c.from_residual.result c.from_residual.ensures.1).1 tt

pub returns-in_err-size-clause-part : goal.returns-in_err-size-clause-part
returns-in_err-size-clause-part g c = rw (err_from_is_err_and c.from_residual.result c.from_residual.ensures.1).1 tt

pub returns-in_err-bytes-clause-ok : goal.returns-in_err-bytes-clause-ok
returns-in_err-bytes-clause-ok g c = rw (err_from_is_err_and c.from_residual-in_err-bytes.result c.from_residual-in_err-bytes.ensures.1).1 tt

pub returns-in_err-bytes-clause-part : goal.returns-in_err-bytes-clause-part
returns-in_err-bytes-clause-part g c = rw (err_from_is_err_and c.from_residual-in_err-bytes.result c.from_residual-in_err-bytes.ensures.1).1 tt

pub returns-clause-err : goal.returns-clause-err
returns-clause-err g c = tt
