use Rattle.std.proofs.Common.{◌∙◌, sym, ap, Some, Option, arith}
use Rattle.std.proofs.lemmas.Result.{err_from_is_err_and}
use Rattle.dw_sources.specs.RawLists.{Span, location_behind, location_span_read}
use Rattle.dw_sources.proofs.ListLaws.{five_no_kind, five_took, five_not, old_is, old_took, further, number_on}
use Rattle.dw_sources.proofs.ReadLaws.{took_none, took_some}
use Rattle.dw_sources.proofs.LocatedLaws.{retold}
use Rattle.dw_sources.proofs.location_item.read_before.Goals as goal

pub returns-in_err-kind-clause-err : goal.returns-in_err-kind-clause-err
unfolding location_span_read
returns-in_err-kind-clause-err g c =
    let p = err_from_is_err_and c.from_residual.result c.from_residual.ensures.1 in
    rw (p.1, p.2) (five_no_kind location_behind c.args.encoding (g.R.Reader.reading c.args.input.now).is_big _ _ (omega arith) c.in_err-kind.ensures.err.reason)

pub returns-in_err-before-clause-err : goal.returns-in_err-before-clause-err
unfolding location_span_read
returns-in_err-before-clause-err g c =
    let p = err_from_is_err_and c.from_residual-in_err-before.result c.from_residual-in_err-before.ensures.1 in
    rw (p.1, p.2) (five_not location_behind c.args.encoding c.in_ok-kind.kind _ _ (omega arith) c.in_ok-kind.ensures.ok _ c.in_err-before.ensures.err)

pub returns-then-encoding-eq5-clause-ok : goal.returns-then-encoding-eq5-clause-ok
unfolding location_span_read
returns-then-encoding-eq5-clause-ok g c = five_took location_behind c.args.encoding c.in_ok-kind.kind _ _ (omega arith) c.in_ok-kind.ensures.ok _ _ c.in_ok-before.ensures.ok

pub returns-in_err-range-clause-err : goal.returns-in_err-range-clause-err
unfolding location_span_read
returns-in_err-range-clause-err g c =
    let p = err_from_is_err_and c.from_residual-in_err-range.result c.from_residual-in_err-range.ensures.1 in
    rw (p.1, p.2) (old_is location_behind c.args.encoding (g.R.Reader.reading c.args.input.now).is_big _ (omega arith) ∙ c.in_err-range.ensures.err)

pub returns-in-Some-clause-ok : goal.returns-in-Some-clause-ok
unfolding location_span_read
returns-in-Some-clause-ok g c = retold _ _ _ _ _ (ap Some (sym c.before_of.ensures)) (old_took location_behind c.args.encoding _ _ _ (omega arith) (took_some _ _ _ _ _ _ _ _ c.in_ok-range.ensures.ok c.in-Some.is))

pub returns-in-None-clause-ok : goal.returns-in-None-clause-ok
unfolding location_span_read
returns-in-None-clause-ok g c = old_took location_behind c.args.encoding _ _ _ (omega arith) (took_none _ _ _ _ _ _ _ c.in_ok-range.ensures.ok c.in-None.is)

pub returns-then-encoding-eq5-clause-progress : goal.returns-then-encoding-eq5-clause-progress
returns-then-encoding-eq5-clause-progress g c = further (Option Span) (location_behind _ c.args.encoding.address_size c.in_ok-kind.kind) (g.R.Reader.reading c.args.input.now) _ _ _ (number_on 1 _ _ (omega arith) c.in_ok-kind.ensures.passes) c.in_ok-before.ensures.ok

pub returns-in_err-kind-clause-ok : goal.returns-in_err-kind-clause-ok
returns-in_err-kind-clause-ok g c = rw (err_from_is_err_and c.from_residual.result c.from_residual.ensures.1).1 tt

pub returns-in_err-kind-clause-progress : goal.returns-in_err-kind-clause-progress
returns-in_err-kind-clause-progress g c = rw (err_from_is_err_and c.from_residual.result c.from_residual.ensures.1).1 tt

pub returns-in_err-before-clause-ok : goal.returns-in_err-before-clause-ok
returns-in_err-before-clause-ok g c = rw (err_from_is_err_and c.from_residual-in_err-before.result c.from_residual-in_err-before.ensures.1).1 tt

pub returns-in_err-before-clause-progress : goal.returns-in_err-before-clause-progress
returns-in_err-before-clause-progress g c = rw (err_from_is_err_and c.from_residual-in_err-before.result c.from_residual-in_err-before.ensures.1).1 tt

pub returns-then-encoding-eq5-clause-err : goal.returns-then-encoding-eq5-clause-err
returns-then-encoding-eq5-clause-err g c = tt

pub returns-in_err-range-clause-ok : goal.returns-in_err-range-clause-ok
returns-in_err-range-clause-ok g c = rw (err_from_is_err_and c.from_residual-in_err-range.result c.from_residual-in_err-range.ensures.1).1 tt

pub returns-in_err-range-clause-progress : goal.returns-in_err-range-clause-progress
returns-in_err-range-clause-progress g c = rw (err_from_is_err_and c.from_residual-in_err-range.result c.from_residual-in_err-range.ensures.1).1 tt

pub returns-in-Some-clause-err : goal.returns-in-Some-clause-err
returns-in-Some-clause-err g c = tt

pub returns-in-None-clause-err : goal.returns-in-None-clause-err
returns-in-None-clause-err g c = tt
