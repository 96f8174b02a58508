use Rattle.std.proofs.Common.{◌∙◌, ◌<◌, ◌≤◌, ◌+◌, ◌++◌, refl, ap, map, length, true, arith}
use Rattle.std.proofs.lemmas.List.{length-map}
use Rattle.std.proofs.lemmas.Result.{err_from_is_err_and}
use Rattle.std.proofs.lemmas.Bool.{or_left}
use Rattle.dw_expr.specs.Places.{known_by, place_by}
use Rattle.dw_lists.specs.Kinds.{kinds_of}
use Rattle.dw_lists.specs.Texts.{lists_draft, places_from}
use Rattle.dw_lists.specs.Causes.{lists_unsized_in, size_fails}
use Rattle.dw_lists.proofs.Causes.{map_there}
use Rattle.dw_lists.proofs.Tables.{places_more, places_ended, end_more, end_ended, end_within}
use Rattle.dw_lists.proofs.TableCauses.{list_unsized, memory_or}
use Rattle.dw_lists.proofs.Refusals.{passes}
use Rattle.dw_lists.proofs.lists.entries.Goals as goal

pub loop-list-preserved : goal.loop-list-preserved
loop-list-preserved g c =
    let f = g.L.ItemList.parts in
    let v = c.args.encoding in
    let xs = map f c.args.lists.now in
    let place = place_by (known_by g.P.EntryPlaces.places c.args.places) in
    let k = kinds_of g.L.ItemList.is_location in
    let i = c.loop-list.list-index in
    let x = f c.list-item.result in
    let below : i < length xs = omega (arith, c.loop-list-test.true, length-map c.args.lists.now f) in
    let is = map_there f c.args.lists.now i c.list-item.result c.loop-list-test.true c.list-item.is in
    let further = c.in_ok-at.ensures.ok ∙ ap (λ n. c.loop-list.at + n) c.in_ok-size.ensures.ok in
    record {
      places = places_more true v place k xs i x below is c.loop-list.at c.in_ok-at.at further c.loop-list.all.items _ _ c.in_ok-push.ensures.items c.loop-list.invariant.places;
      end = end_more true v place k xs i x below is c.loop-list.at c.in_ok-at.at _ further c.loop-list.invariant.end;
    }

pub returns-in_err-size-clause-err : goal.returns-in_err-size-clause-err
returns-in_err-size-clause-err g c =
    let f = g.L.ItemList.parts in
    let v = c.args.encoding in
    let xs = map f c.args.lists.now in
    let known = known_by g.P.EntryPlaces.places c.args.places in
    let place = place_by known in
    let k = kinds_of g.L.ItemList.is_location in
    let i = c.loop-list.list-index in
    let x = f c.list-item.result in
    let below : i < length xs = omega (arith, c.loop-list-test.true, length-map c.args.lists.now f) in
    let is = map_there f c.args.lists.now i c.list-item.result c.loop-list-test.true c.list-item.is in
    let total = c.args.start + (lists_draft true v place k xs).size in
    let within = end_within true v place k xs i x below is c.loop-list.at total c.loop-list.invariant.end in
    let p = err_from_is_err_and c.from_residual-in_err-size.result c.from_residual-in_err-size.ensures.1 in
    rw (p.1, p.2) (memory_or (lists_unsized_in v known total xs) c.in_err-size.field-0.0 (list_unsized v known _ total xs i x below is (omega (arith, within)) c.in_err-size.field-0.0 c.in_err-size.ensures.err))

pub returns-in_err-at-clause-err : goal.returns-in_err-at-clause-err
returns-in_err-at-clause-err g c =
    let f = g.L.ItemList.parts in
    let v = c.args.encoding in
    let xs = map f c.args.lists.now in
    let known = known_by g.P.EntryPlaces.places c.args.places in
    let place = place_by known in
    let k = kinds_of g.L.ItemList.is_location in
    let i = c.loop-list.list-index in
    let x = f c.list-item.result in
    let below : i < length xs = omega (arith, c.loop-list-test.true, length-map c.args.lists.now f) in
    let is = map_there f c.args.lists.now i c.list-item.result c.loop-list-test.true c.list-item.is in
    let total = c.args.start + (lists_draft true v place k xs).size in
    let within = end_within true v place k xs i x below is c.loop-list.at total c.loop-list.invariant.end in
    let p = err_from_is_err_and c.from_residual-in_err-at.result c.from_residual-in_err-at.ensures.1 in
    rw (p.1, p.2) (memory_or (lists_unsized_in v known total xs) c.in_err-at.field-0.0
    (or_left (size_fails total c.in_err-at.field-0.0) _ (passes _ total c.in_err-at.field-0.0 c.in_err-at.ensures.err (omega (arith, within, c.in_ok-size.ensures.ok)))))

pub loop-list-init : goal.loop-list-init
loop-list-init g c =
    let place = place_by (known_by g.P.EntryPlaces.places c.args.places) in
    let k = kinds_of g.L.ItemList.is_location in
    record {
      places = ap (λ ys. ys ++ places_from true c.args.encoding place k c.args.start (map g.L.ItemList.parts c.args.lists.now)) c.new-all.ensures.items;
      end = refl;
    }

pub returns-clause-places : goal.returns-clause-places
returns-clause-places g c =
    let f = g.L.ItemList.parts in
    let v = c.args.encoding in
    let xs = map f c.args.lists.now in
    let place = place_by (known_by g.P.EntryPlaces.places c.args.places) in
    let k = kinds_of g.L.ItemList.is_location in
    let past : length xs ≤ c.loop-list.list-index = omega (arith, c.loop-list-test.false, length-map c.args.lists.now f) in
    places_ended true v place k xs c.loop-list.list-index past c.loop-list.at c.loop-list.all.items _ c.loop-list.invariant.places

pub returns-clause-end : goal.returns-clause-end
returns-clause-end g c =
    let f = g.L.ItemList.parts in
    let v = c.args.encoding in
    let xs = map f c.args.lists.now in
    let place = place_by (known_by g.P.EntryPlaces.places c.args.places) in
    let k = kinds_of g.L.ItemList.is_location in
    let past : length xs ≤ c.loop-list.list-index = omega (arith, c.loop-list-test.false, length-map c.args.lists.now f) in
    end_ended true v place k xs c.loop-list.list-index past c.loop-list.at _ c.loop-list.invariant.end

pub returns-in_err-push-clause-places : goal.returns-in_err-push-clause-places
returns-in_err-push-clause-places g c = rw (err_from_is_err_and c.from_residual.result c.from_residual.ensures.1).1 tt

pub returns-in_err-push-clause-end : goal.returns-in_err-push-clause-end
returns-in_err-push-clause-end g c = rw (err_from_is_err_and c.from_residual.result c.from_residual.ensures.1).1 tt

pub returns-in_err-size-clause-places : goal.returns-in_err-size-clause-places
returns-in_err-size-clause-places g c = rw (err_from_is_err_and c.from_residual-in_err-size.result c.from_residual-in_err-size.ensures.1).1 tt

pub returns-in_err-size-clause-end : goal.returns-in_err-size-clause-end
returns-in_err-size-clause-end g c = rw (err_from_is_err_and c.from_residual-in_err-size.result c.from_residual-in_err-size.ensures.1).1 tt

pub returns-in_err-at-clause-places : goal.returns-in_err-at-clause-places
returns-in_err-at-clause-places g c = rw (err_from_is_err_and c.from_residual-in_err-at.result c.from_residual-in_err-at.ensures.1).1 tt

pub returns-in_err-at-clause-end : goal.returns-in_err-at-clause-end
returns-in_err-at-clause-end g c = rw (err_from_is_err_and c.from_residual-in_err-at.result c.from_residual-in_err-at.ensures.1).1 tt

pub returns-clause-err : goal.returns-clause-err
returns-clause-err g c = tt
