use Rattle.std.proofs.Common.{◌∙◌, arith}
use Rattle.std.proofs.lemmas.Result.{err_from_is_err_and}
use Rattle.dw_sources.proofs.OperandLaws.{within}
use Rattle.dw_sources.proofs.LocatedLaws.{expression_five, five_expression, old_uncounted, old_cut, old_expression}
use Rattle.dw_sources.proofs.location_item.read_counted.Goals as goal

pub returns-in_err-bytes-clause-err : goal.returns-in_err-bytes-clause-err
returns-in_err-bytes-clause-err g c =
    let p = err_from_is_err_and c.from_residual.result c.from_residual.ensures.1 in
    rw (p.1, p.2) (expression_five c.args.encoding (g.R.Reader.reading c.args.input.now).is_big _ (omega arith) ∙ c.in_err-bytes.ensures.err)

pub returns-then-encoding-eq5-clause-ok : goal.returns-then-encoding-eq5-clause-ok
returns-then-encoding-eq5-clause-ok g c = five_expression c.args.encoding _ _ _ (omega arith) c.in_ok-bytes.ensures.ok

pub returns-in_err-size-clause-err : goal.returns-in_err-size-clause-err
returns-in_err-size-clause-err g c =
    let p = err_from_is_err_and c.from_residual-in_err-size.result c.from_residual-in_err-size.ensures.1 in
    rw (p.1, p.2) (old_uncounted c.args.encoding _ _ _ (omega arith) c.in_err-size.ensures.err.reason)

pub returns-in_err-bytes-2-clause-err : goal.returns-in_err-bytes-2-clause-err
returns-in_err-bytes-2-clause-err g c =
    let p = err_from_is_err_and c.from_residual-in_err-bytes-2.result c.from_residual-in_err-bytes-2.ensures.1 in
    rw (p.1, p.2) (old_cut c.args.encoding c.in_ok-size.size _ _ _ (omega arith) c.in_ok-size.ensures.ok c.in_err-bytes-2.ensures.err.reason)

pub returns-clause-ok : goal.returns-clause-ok
returns-clause-ok g c = old_expression c.args.encoding c.in_ok-size.size _ _ _ _ (omega arith) c.in_ok-size.ensures.ok (g.met.R.Reader.is_reading c.read_u16.new.self) c.in_ok-bytes-2.ensures.part c.in_ok-bytes-2.ensures.ok

pub returns-clause-part : goal.returns-clause-part
returns-clause-part g c = within 2 c.in_ok-size.size _ _ _ _ c.in_ok-size.ensures.passes c.in_ok-bytes-2.ensures.part c.in_ok-bytes-2.ensures.ok

pub returns-in_err-bytes-clause-ok : goal.returns-in_err-bytes-clause-ok
returns-in_err-bytes-clause-ok g c = rw (err_from_is_err_and c.from_residual.result c.from_residual.ensures.1).1 tt

pub returns-in_err-bytes-clause-part : goal.returns-in_err-bytes-clause-part
returns-in_err-bytes-clause-part g c = rw (err_from_is_err_and c.from_residual.result c.from_residual.ensures.1).1 tt

pub returns-then-encoding-eq5-clause-err : goal.returns-then-encoding-eq5-clause-err
returns-then-encoding-eq5-clause-err g c = tt

pub returns-in_err-size-clause-ok : goal.returns-in_err-size-clause-ok
returns-in_err-size-clause-ok g c = rw (err_from_is_err_and c.from_residual-in_err-size.result c.from_residual-in_err-size.ensures.1).1 tt

pub returns-in_err-size-clause-part : goal.returns-in_err-size-clause-part
returns-in_err-size-clause-part g c = rw (err_from_is_err_and c.from_residual-in_err-size.result c.from_residual-in_err-size.ensures.1).1 tt

pub returns-in_err-bytes-2-clause-ok : goal.returns-in_err-bytes-2-clause-ok
returns-in_err-bytes-2-clause-ok g c = rw (err_from_is_err_and c.from_residual-in_err-bytes-2.result c.from_residual-in_err-bytes-2.ensures.1).1 tt

pub returns-in_err-bytes-2-clause-part : goal.returns-in_err-bytes-2-clause-part
returns-in_err-bytes-2-clause-part g c = rw (err_from_is_err_and c.from_residual-in_err-bytes-2.result c.from_residual-in_err-bytes-2.ensures.1).1 tt

pub returns-clause-err : goal.returns-clause-err
returns-clause-err g c = tt
