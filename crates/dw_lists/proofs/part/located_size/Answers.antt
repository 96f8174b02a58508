use Rattle.std.proofs.Common.{ap, arith, length}
use Rattle.std.proofs.lemmas.Bool.{or_left}
use Rattle.dw_base.specs.Leb128.{uleb}
use Rattle.dw_writer.proofs.Outcomes.{IfErr-map}
use Rattle.dw_expr.specs.Places.{known_by, place_by}
use Rattle.dw_lists.proofs.Causes.{IfOk-map}
use Rattle.dw_lists.proofs.Located.{located_sum}
use Rattle.dw_lists.proofs.Refusals.{passes}
use Rattle.std.proofs.lemmas.Result.{err_from_is_err_and}
use Rattle.dw_lists.proofs.part.located_size.Goals as goal

pub returns-clause-ok : goal.returns-clause-ok
returns-clause-ok g c =
    let place = place_by (known_by g.P.EntryPlaces.places c.args.places) in
    let counted = ap (λ n. length (uleb n)) c.in_ok-size.ensures.ok in
    rw c.in-Some.is (IfOk-map c.sum.result c.sum.ensures.ok (λ n k. omega (arith, k, counted, c.uleb128_size.ensures.size, c.in_ok-size.ensures.ok, located_sum c.args.encoding place c.in-Some.expression.now)))

pub returns-clause-err : goal.returns-clause-err
returns-clause-err g c =
    let place = place_by (known_by g.P.EntryPlaces.places c.args.places) in
    let counted = ap (λ n. length (uleb n)) c.in_ok-size.ensures.ok in
    rw c.in-Some.is (IfErr-map c.sum.result c.sum.ensures.err
    (λ e k. or_left _ _ (passes _ _ e k (omega (arith, counted, c.uleb128_size.ensures.size, c.in_ok-size.ensures.ok, located_sum c.args.encoding place c.in-Some.expression.now)))))

pub returns-in_err-size-clause-ok : goal.returns-in_err-size-clause-ok
returns-in_err-size-clause-ok g c = rw (err_from_is_err_and c.from_residual.result c.from_residual.ensures.1).1 tt

pub returns-in_err-size-clause-sound : goal.returns-in_err-size-clause-sound
returns-in_err-size-clause-sound g c = rw (err_from_is_err_and c.from_residual.result c.from_residual.ensures.1).1 tt

pub returns-in_default-clause-err : goal.returns-in_default-clause-err
returns-in_default-clause-err g c = tt
