use Rattle.std.proofs.Common.{ℕ, List, Option, sym, ap, Some, refl}
use Rattle.std.proofs.lemmas.Result.{err_from_is_err_and}
use Rattle.dw_read.proofs.Chain.{went}
use Rattle.dw_sources.specs.RawLists.{Span, expression_read, BaseAddress, BaseAddressx, location_span_read}
use Rattle.dw_sources.specs.RawListViews.{before_span}
use Rattle.dw_sources.proofs.OperandLaws.{within_after}
use Rattle.dw_sources.proofs.ReadLaws.{took_none}
use Rattle.dw_sources.proofs.ListLaws.{further}
use Rattle.dw_sources.proofs.LocatedLaws.{no_span, closed_locations, base_took, located_took, located_cut, span_took, before_is, item_retold}
use Rattle.dw_sources.proofs.location_item.read_location.Goals as goal

pub returns-in_err-before-clause-err : goal.returns-in_err-before-clause-err
returns-in_err-before-clause-err g c =
    let p = err_from_is_err_and c.from_residual.result c.from_residual.ensures.1 in
    rw (p.1, p.2) (no_span (g.R.Reader.reading c.args.input.now).is_big c.args.encoding _ _ c.in_err-before.ensures.err)

pub returns-in_default-clause-ok : goal.returns-in_default-clause-ok
returns-in_default-clause-ok g c = closed_locations c.args.encoding _ _ (took_none _ _ _ _ _ _ _ c.in_ok-before.ensures.ok c.in_default.is)

pub returns-in-Base-clause-ok : goal.returns-in-Base-clause-ok
returns-in-Base-clause-ok g c = base_took c.args.encoding (BaseAddress c.in-Base.addr) _ _ refl (span_took _ before_span _ _ _ _ _ (before_is _ before_span _ _ _ c.in-Some.is c.in-Base.is) c.in_ok-before.ensures.ok)

pub returns-in-Basex-clause-ok : goal.returns-in-Basex-clause-ok
returns-in-Basex-clause-ok g c = base_took c.args.encoding (BaseAddressx c.in-Basex.addr) _ _ refl (span_took _ before_span _ _ _ _ _ (before_is _ before_span _ _ _ c.in-Some.is c.in-Basex.is) c.in_ok-before.ensures.ok)

pub returns-in_err-expression-in-Spot-clause-err : goal.returns-in_err-expression-in-Spot-clause-err
returns-in_err-expression-in-Spot-clause-err g c =
    let p = err_from_is_err_and c.from_residual-in_err-expression-in-Spot.result c.from_residual-in_err-expression-in-Spot.ensures.1 in
    rw (p.1, p.2) (located_cut c.args.encoding c.in-Spot.spot _ _ (span_took _ before_span _ _ _ _ _ (before_is _ before_span _ _ _ c.in-Some.is c.in-Spot.is) c.in_ok-before.ensures.ok) _ c.in_err-expression-in-Spot.ensures.err)

pub returns-in_ok-expression-in-Spot-clause-ok : goal.returns-in_ok-expression-in-Spot-clause-ok
returns-in_ok-expression-in-Spot-clause-ok g c = item_retold _ _ _ _ _ (ap Some (sym c.at_spot.ensures.is)) (located_took c.args.encoding c.in-Spot.spot _ _ (span_took _ before_span _ _ _ _ _ (before_is _ before_span _ _ _ c.in-Some.is c.in-Spot.is) c.in_ok-before.ensures.ok) _ _ c.in_ok-expression-in-Spot.ensures.ok)

pub returns-in_ok-expression-in-Spot-clause-parts : goal.returns-in_ok-expression-in-Spot-clause-parts
returns-in_ok-expression-in-Spot-clause-parts g c =
    let w = went (Option Span) (location_span_read (g.R.Reader.reading c.args.input.now).is_big c.args.encoding) _ _ _ c.in_ok-before.ensures.ok in
    c.at_spot.ensures.part (g.R.Reader.reading c.args.input.now) (within_after _ _ _ w c.in_ok-expression-in-Spot.ensures.part)

pub returns-in_ok-expression-in-Spot-clause-progress : goal.returns-in_ok-expression-in-Spot-clause-progress
returns-in_ok-expression-in-Spot-clause-progress g c = further (List ℕ) (expression_read _ c.args.encoding) (g.R.Reader.reading c.args.input.now) _ _ _ c.in_ok-before.ensures.progress c.in_ok-expression-in-Spot.ensures.ok

pub returns-in_err-before-clause-ok : goal.returns-in_err-before-clause-ok
returns-in_err-before-clause-ok g c = rw (err_from_is_err_and c.from_residual.result c.from_residual.ensures.1).1 tt

pub returns-in_err-before-clause-parts : goal.returns-in_err-before-clause-parts
returns-in_err-before-clause-parts g c = rw (err_from_is_err_and c.from_residual.result c.from_residual.ensures.1).1 tt

pub returns-in_err-before-clause-progress : goal.returns-in_err-before-clause-progress
returns-in_err-before-clause-progress g c = rw (err_from_is_err_and c.from_residual.result c.from_residual.ensures.1).1 tt

pub returns-in_default-clause-err : goal.returns-in_default-clause-err
returns-in_default-clause-err g c = tt

pub returns-in-Base-clause-err : goal.returns-in-Base-clause-err
returns-in-Base-clause-err g c = tt

pub returns-in-Basex-clause-err : goal.returns-in-Basex-clause-err
returns-in-Basex-clause-err g c = tt

pub returns-in_err-expression-in-Spot-clause-ok : goal.returns-in_err-expression-in-Spot-clause-ok
returns-in_err-expression-in-Spot-clause-ok g c = rw (err_from_is_err_and c.from_residual-in_err-expression-in-Spot.result c.from_residual-in_err-expression-in-Spot.ensures.1).1 tt

pub returns-in_err-expression-in-Spot-clause-parts : goal.returns-in_err-expression-in-Spot-clause-parts
returns-in_err-expression-in-Spot-clause-parts g c = rw (err_from_is_err_and c.from_residual-in_err-expression-in-Spot.result c.from_residual-in_err-expression-in-Spot.ensures.1).1 tt

pub returns-in_err-expression-in-Spot-clause-progress : goal.returns-in_err-expression-in-Spot-clause-progress
returns-in_err-expression-in-Spot-clause-progress g c = rw (err_from_is_err_and c.from_residual-in_err-expression-in-Spot.result c.from_residual-in_err-expression-in-Spot.ensures.1).1 tt

pub returns-in_ok-expression-in-Spot-clause-err : goal.returns-in_ok-expression-in-Spot-clause-err
returns-in_ok-expression-in-Spot-clause-err g c = tt
