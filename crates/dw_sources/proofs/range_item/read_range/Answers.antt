use Rattle.std.proofs.Common.{◌∙◌, Option, arith}
use Rattle.std.proofs.lemmas.Result.{err_from_is_err_and}
use Rattle.dw_sources.specs.RawLists.{Span, range_behind, range_read}
use Rattle.dw_sources.proofs.ListLaws.{five_no_kind, five_took, five_not, old_is, old_took, further, number_on}
use Rattle.dw_sources.proofs.range_item.read_range.Goals as goal

pub returns-in_err-kind-clause-err : goal.returns-in_err-kind-clause-err
unfolding range_read
returns-in_err-kind-clause-err g c =
    let p = err_from_is_err_and c.from_residual.result c.from_residual.ensures.1 in
    rw (p.1, p.2) (five_no_kind range_behind c.args.encoding (g.R.Reader.reading c.args.input.now).is_big _ _ (omega arith) c.in_err-kind.ensures.err.reason)

pub returns-in_err-item-clause-err : goal.returns-in_err-item-clause-err
unfolding range_read
returns-in_err-item-clause-err g c =
    let p = err_from_is_err_and c.from_residual-in_err-item.result c.from_residual-in_err-item.ensures.1 in
    rw (p.1, p.2) (five_not range_behind c.args.encoding c.in_ok-kind.kind _ _ (omega arith) c.in_ok-kind.ensures.ok _ c.in_err-item.ensures.err)

pub returns-then-encoding-eq5-clause-ok : goal.returns-then-encoding-eq5-clause-ok
unfolding range_read
returns-then-encoding-eq5-clause-ok g c = five_took range_behind c.args.encoding c.in_ok-kind.kind _ _ (omega arith) c.in_ok-kind.ensures.ok _ _ c.in_ok-item.ensures.ok

pub returns-in_err-item-2-clause-err : goal.returns-in_err-item-2-clause-err
unfolding range_read
returns-in_err-item-2-clause-err g c =
    let p = err_from_is_err_and c.from_residual-in_err-item-2.result c.from_residual-in_err-item-2.ensures.1 in
    rw (p.1, p.2) (old_is range_behind c.args.encoding (g.R.Reader.reading c.args.input.now).is_big _ (omega arith) ∙ c.in_err-item-2.ensures.err)

pub returns-clause-ok : goal.returns-clause-ok
unfolding range_read
returns-clause-ok g c = old_took range_behind c.args.encoding _ _ _ (omega arith) c.in_ok-item-2.ensures.ok

pub returns-then-encoding-eq5-clause-progress : goal.returns-then-encoding-eq5-clause-progress
returns-then-encoding-eq5-clause-progress g c = further (Option Span) (range_behind _ c.args.encoding.address_size c.in_ok-kind.kind) (g.R.Reader.reading c.args.input.now) _ _ _ (number_on 1 _ _ (omega arith) c.in_ok-kind.ensures.passes) c.in_ok-item.ensures.ok

pub returns-in_err-kind-clause-ok : goal.returns-in_err-kind-clause-ok
returns-in_err-kind-clause-ok g c = rw (err_from_is_err_and c.from_residual.result c.from_residual.ensures.1).1 tt

pub returns-in_err-kind-clause-progress : goal.returns-in_err-kind-clause-progress
returns-in_err-kind-clause-progress g c = rw (err_from_is_err_and c.from_residual.result c.from_residual.ensures.1).1 tt

pub returns-in_err-item-clause-ok : goal.returns-in_err-item-clause-ok
returns-in_err-item-clause-ok g c = rw (err_from_is_err_and c.from_residual-in_err-item.result c.from_residual-in_err-item.ensures.1).1 tt

pub returns-in_err-item-clause-progress : goal.returns-in_err-item-clause-progress
returns-in_err-item-clause-progress g c = rw (err_from_is_err_and c.from_residual-in_err-item.result c.from_residual-in_err-item.ensures.1).1 tt

pub returns-then-encoding-eq5-clause-err : goal.returns-then-encoding-eq5-clause-err
returns-then-encoding-eq5-clause-err g c = tt

pub returns-in_err-item-2-clause-ok : goal.returns-in_err-item-2-clause-ok
returns-in_err-item-2-clause-ok g c = rw (err_from_is_err_and c.from_residual-in_err-item-2.result c.from_residual-in_err-item-2.ensures.1).1 tt

pub returns-in_err-item-2-clause-progress : goal.returns-in_err-item-2-clause-progress
returns-in_err-item-2-clause-progress g c = rw (err_from_is_err_and c.from_residual-in_err-item-2.result c.from_residual-in_err-item-2.ensures.1).1 tt

pub returns-clause-err : goal.returns-clause-err
returns-clause-err g c = tt
