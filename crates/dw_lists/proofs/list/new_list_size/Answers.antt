use Rattle.std.proofs.Common.{◌∙◌, ◌<◌, ◌≤◌, ◌+◌, subst, arith, length, get_or, drop, true, None, refl}
use Rattle.std.specs.Option.{option_copied}
use Rattle.std.proofs.lemmas.List.{at_drop_more, at_drop_all}
use Rattle.std.proofs.lemmas.Result.{err_from_is_err_and}
use Rattle.std.proofs.lemmas.Bool.{or_left}
use Rattle.dw_expr.specs.Places.{known_by, place_by}
use Rattle.dw_lists.specs.Kinds.{kinds_of}
use Rattle.dw_lists.specs.Parts.{Part}
use Rattle.dw_lists.specs.Texts.{part_draft, parts_draft, close_draft, list_draft, located, span_size}
use Rattle.dw_lists.specs.Causes.{IsNone, size_fails, unsized}
use Rattle.dw_lists.proofs.Causes.{any_more, any_ended, read_there}
use Rattle.dw_lists.proofs.Located.{part_size_is}
use Rattle.dw_lists.proofs.Refusals.{passes}
use Rattle.dw_lists.proofs.TableCauses.{part_unsized}
use Rattle.dw_lists.proofs.Tables.{then_size}
use Rattle.dw_lists.proofs.list.new_list_size.Goals as goal

pub loop-index-init : goal.loop-index-init
loop-index-init g c = record { end = c.count-index-end.ensures; sized = refl; none = λ e. refl }

pub loop-index-preserved : goal.loop-index-preserved
loop-index-preserved g c =
    let v = c.args.encoding in
    let parts = g.L.ItemList.parts c.args.list.now in
    let known = known_by g.P.EntryPlaces.places c.args.places in
    let place = place_by known in
    let k = kinds_of g.L.ItemList.is_location in
    let i = c.loop-index.index in
    let d : Part = record { range = None; expression = None } in
    let x = get_or parts i d in
    let below : i < length parts = omega (arith, c.loop-index-test.true, c.loop-index.invariant.end) in
    let size = c.in_ok-more.ensures.ok ∙ part_size_is v place k x c.range.result (option_copied c.expression.result) c.range.ensures c.expression.ensures in
    let more = at_drop_more (λ ps. (parts_draft true v place k ps).size) parts i d below in
    let none : IsNone (unsized v known x.expression) = subst (λ y. IsNone (unsized v known y)) c.expression.ensures c.in_ok-more.ensures.sound in
    record {
      end = c.loop-index.invariant.end;
      sized = omega (arith, more, size, then_size (part_draft true v place k x) (parts_draft true v place k (drop (i + 1) parts)), c.loop-index.invariant.sized, c.in_ok-size.ensures.ok);
      none = λ e. c.loop-index.invariant.none e ∙ any_more (λ p. unsized v known p.expression) parts i x below (read_there parts i d below) none e;
    }

pub returns-clause-ok : goal.returns-clause-ok
returns-clause-ok g c =
    let v = c.args.encoding in
    let parts = g.L.ItemList.parts c.args.list.now in
    let place = place_by (known_by g.P.EntryPlaces.places c.args.places) in
    let k = kinds_of g.L.ItemList.is_location in
    let past : length parts ≤ c.loop-index.index = omega (arith, c.loop-index-test.false, c.loop-index.invariant.end) in
    let done = at_drop_all (λ ps. (parts_draft true v place k ps).size) parts c.loop-index.index past in
    omega (arith, done, c.loop-index.invariant.sized, then_size (parts_draft true v place k parts) (close_draft true k v.address_size))

pub returns-clause-sound : goal.returns-clause-sound
returns-clause-sound g c =
    let v = c.args.encoding in
    let parts = g.L.ItemList.parts c.args.list.now in
    let known = known_by g.P.EntryPlaces.places c.args.places in
    let past : length parts ≤ c.loop-index.index = omega (arith, c.loop-index-test.false, c.loop-index.invariant.end) in
    λ e. c.loop-index.invariant.none e ∙ any_ended (λ p. unsized v known p.expression) parts c.loop-index.index past e

pub returns-in_err-more-clause-err : goal.returns-in_err-more-clause-err
returns-in_err-more-clause-err g c =
    let v = c.args.encoding in
    let parts = g.L.ItemList.parts c.args.list.now in
    let known = known_by g.P.EntryPlaces.places c.args.places in
    let place = place_by known in
    let k = kinds_of g.L.ItemList.is_location in
    let i = c.loop-index.index in
    let d : Part = record { range = None; expression = None } in
    let x = get_or parts i d in
    let below : i < length parts = omega (arith, c.loop-index-test.true, c.loop-index.invariant.end) in
    let size = part_size_is v place k x c.range.result (option_copied c.expression.result) c.range.ensures c.expression.ensures in
    let sum = span_size true v.address_size c.range.result + (located true v place (option_copied c.expression.result)).size in
    let more = at_drop_more (λ ps. (parts_draft true v place k ps).size) parts i d below in
    let total = (list_draft true v place k parts).size in
    let within : (part_draft true v place k x).size ≤ total =
    omega (arith, more, then_size (part_draft true v place k x) (parts_draft true v place k (drop (i + 1) parts)), c.loop-index.invariant.sized, then_size (parts_draft true v place k parts) (close_draft true k v.address_size)) in
    let p = err_from_is_err_and c.from_residual.result c.from_residual.ensures.1 in
    rw (p.1, p.2) (part_unsized v known sum total parts i d below (omega (arith, size, within)) c.in_err-more.field-0.0 (rw (← c.expression.ensures) c.in_err-more.ensures.err))

pub returns-in_err-size-clause-err : goal.returns-in_err-size-clause-err
returns-in_err-size-clause-err g c =
    let v = c.args.encoding in
    let parts = g.L.ItemList.parts c.args.list.now in
    let place = place_by (known_by g.P.EntryPlaces.places c.args.places) in
    let k = kinds_of g.L.ItemList.is_location in
    let i = c.loop-index.index in
    let d : Part = record { range = None; expression = None } in
    let x = get_or parts i d in
    let below : i < length parts = omega (arith, c.loop-index-test.true, c.loop-index.invariant.end) in
    let size = c.in_ok-more.ensures.ok ∙ part_size_is v place k x c.range.result (option_copied c.expression.result) c.range.ensures c.expression.ensures in
    let more = at_drop_more (λ ps. (parts_draft true v place k ps).size) parts i d below in
    let total = (list_draft true v place k parts).size in
    let p = err_from_is_err_and c.from_residual-in_err-size.result c.from_residual-in_err-size.ensures.1 in
    rw (p.1, p.2) (or_left (size_fails total c.in_err-size.field-0.0) _ (passes _ total c.in_err-size.field-0.0 c.in_err-size.ensures.err
    (omega (arith, more, size, then_size (part_draft true v place k x) (parts_draft true v place k (drop (i + 1) parts)), c.loop-index.invariant.sized, then_size (parts_draft true v place k parts) (close_draft true k v.address_size)))))

pub returns-in_err-more-clause-ok : goal.returns-in_err-more-clause-ok
returns-in_err-more-clause-ok g c = rw (err_from_is_err_and c.from_residual.result c.from_residual.ensures.1).1 tt

pub returns-in_err-more-clause-sound : goal.returns-in_err-more-clause-sound
returns-in_err-more-clause-sound g c = rw (err_from_is_err_and c.from_residual.result c.from_residual.ensures.1).1 tt

pub returns-in_err-size-clause-ok : goal.returns-in_err-size-clause-ok
returns-in_err-size-clause-ok g c = rw (err_from_is_err_and c.from_residual-in_err-size.result c.from_residual-in_err-size.ensures.1).1 tt

pub returns-in_err-size-clause-sound : goal.returns-in_err-size-clause-sound
returns-in_err-size-clause-sound g c = rw (err_from_is_err_and c.from_residual-in_err-size.result c.from_residual-in_err-size.ensures.1).1 tt

pub returns-clause-err : goal.returns-clause-err
returns-clause-err g c = tt
