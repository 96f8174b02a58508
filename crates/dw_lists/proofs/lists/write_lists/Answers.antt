use Rattle.std.proofs.Common.{◌∙◌, ◌<◌, ◌≤◌, ◌++◌, ap, subst, map, length, take_all, All, arith, refl}
use Rattle.std.proofs.lemmas.List.{length-map}
use Rattle.std.proofs.lemmas.List.Elements.{All-nil}
use Rattle.std.proofs.lemmas.Result.{err_from_is_err_and}
use Rattle.dw_writer.proofs.WriteLaws.{Drafts-nothing, Drafts-more, Drafts-is}
use Rattle.dw_expr.specs.Places.{known_by, place_by}
use Rattle.dw_lists.specs.Items.{is_five}
use Rattle.dw_lists.specs.Kinds.{kinds_of}
use Rattle.dw_lists.specs.Texts.{list_draft, lists_draft, places_from, AreReadable}
use Rattle.dw_lists.specs.Causes.{IsNone, list_fails}
use Rattle.dw_lists.proofs.Causes.{map_there, any_more, any_ended, All-more}
use Rattle.dw_lists.proofs.TableCauses.{lists_refused}
use Rattle.dw_lists.proofs.Tables.{places_more, places_ended}
use Rattle.dw_lists.proofs.lists.write_lists.Goals as goal

pub loop-list-init : goal.loop-list-init
loop-list-init g c =
    let v = c.args.encoding in
    let place = place_by (known_by g.P.EntryPlaces.places c.args.places) in
    let k = kinds_of g.L.ItemList.is_location in
    let m = g.W.Writer.meaning c.args.w.now in
    record {
      written = Drafts-nothing m c.args.fixups.now;
      places = ap (λ ys. ys ++ places_from (is_five v) v place k m.size (map g.L.ItemList.parts c.args.lists.now)) c.new-all.ensures.items;
      readable = All-nil (AreReadable (is_five v) v place);
      none = λ e. refl;
    }

pub loop-list-preserved : goal.loop-list-preserved
loop-list-preserved g c =
    let f = g.L.ItemList.parts in
    let v = c.args.encoding in
    let five = is_five v in
    let xs = map f c.args.lists.now in
    let known = known_by g.P.EntryPlaces.places c.args.places in
    let place = place_by known in
    let k = kinds_of g.L.ItemList.is_location in
    let base = c.args.has_base in
    let plain = (g.W.Writer.meaning c.args.w.now).is_plain in
    let i = c.loop-list.list-index in
    let x = f c.list-item.result in
    let below : i < length xs = omega (arith, c.loop-list-test.true, length-map c.args.lists.now f) in
    let is = map_there f c.args.lists.now i c.list-item.result c.loop-list-test.true c.list-item.is in
    let before = c.loop-list.invariant in
    let at = (g.W.Writer.meaning c.loop-list.w).size in
    let to = (g.W.Writer.meaning c.write_list.new.w).size in
    let pushed = rw c.len.ensures at c.in_ok-push.ensures.items in
    let none : IsNone (list_fails v known plain five base x) = subst (λ p. IsNone (list_fails v known p five base x)) before.written.text.same.kind c.in_ok-write_list.ensures.sound in
    record {
      written = Drafts-more (list_draft five v place k) xs i x below is before.written c.in_ok-write_list.ensures.ok;
      places = places_more five v place k xs i x below is at to c.in_ok-write_list.ensures.ok.text.size c.loop-list.all.items _ _ pushed before.places;
      readable = All-more (AreReadable five v place) xs i x below is before.readable c.in_ok-write_list.ensures.readable;
      none = λ e. before.none e ∙ any_more (list_fails v known plain five base) xs i x below is none e;
    }

pub returns-in_err-write_list-clause-err : goal.returns-in_err-write_list-clause-err
returns-in_err-write_list-clause-err g c =
    let f = g.L.ItemList.parts in
    let xs = map f c.args.lists.now in
    let known = known_by g.P.EntryPlaces.places c.args.places in
    let i = c.loop-list.list-index in
    let below : i < length xs = omega (arith, c.loop-list-test.true, length-map c.args.lists.now f) in
    let is = map_there f c.args.lists.now i c.list-item.result c.loop-list-test.true c.list-item.is in
    let p = err_from_is_err_and c.from_residual-in_err-write_list.result c.from_residual-in_err-write_list.ensures.1 in
    rw (p.1, p.2) (lists_refused c.args.encoding known (g.W.Writer.meaning c.args.w.now) (g.W.Writer.meaning c.loop-list.w) (g.W.Writer.meaning c.write_list.new.w) (is_five c.args.encoding) c.args.has_base
    xs i (f c.list-item.result) below is c.loop-list.invariant.written.text.same c.in_err-write_list.field-0.0 c.in_err-write_list.ensures.err)

pub returns-clause-ok : goal.returns-clause-ok
returns-clause-ok g c =
    let f = g.L.ItemList.parts in
    let v = c.args.encoding in
    let xs = map f c.args.lists.now in
    let place = place_by (known_by g.P.EntryPlaces.places c.args.places) in
    let k = kinds_of g.L.ItemList.is_location in
    let past : length xs ≤ c.loop-list.list-index = omega (arith, c.loop-list-test.false, length-map c.args.lists.now f) in
    Drafts-is c.loop-list.invariant.written (ap (lists_draft (is_five v) v place k) (take_all c.loop-list.list-index xs past))

pub returns-clause-readable : goal.returns-clause-readable
returns-clause-readable g c =
    let f = g.L.ItemList.parts in
    let v = c.args.encoding in
    let xs = map f c.args.lists.now in
    let place = place_by (known_by g.P.EntryPlaces.places c.args.places) in
    let past : length xs ≤ c.loop-list.list-index = omega (arith, c.loop-list-test.false, length-map c.args.lists.now f) in
    subst (All (AreReadable (is_five v) v place)) (take_all c.loop-list.list-index xs past) c.loop-list.invariant.readable

pub returns-clause-sound : goal.returns-clause-sound
returns-clause-sound g c =
    let f = g.L.ItemList.parts in
    let v = c.args.encoding in
    let xs = map f c.args.lists.now in
    let known = known_by g.P.EntryPlaces.places c.args.places in
    let past : length xs ≤ c.loop-list.list-index = omega (arith, c.loop-list-test.false, length-map c.args.lists.now f) in
    λ e. c.loop-list.invariant.none e ∙ any_ended (list_fails v known (g.W.Writer.meaning c.args.w.now).is_plain (is_five v) c.args.has_base) xs c.loop-list.list-index past e

pub returns-clause-places : goal.returns-clause-places
returns-clause-places g c =
    let f = g.L.ItemList.parts in
    let v = c.args.encoding in
    let xs = map f c.args.lists.now in
    let place = place_by (known_by g.P.EntryPlaces.places c.args.places) in
    let k = kinds_of g.L.ItemList.is_location in
    let past : length xs ≤ c.loop-list.list-index = omega (arith, c.loop-list-test.false, length-map c.args.lists.now f) in
    places_ended (is_five v) v place k xs c.loop-list.list-index past (g.W.Writer.meaning c.loop-list.w).size c.loop-list.all.items _ c.loop-list.invariant.places

pub returns-in_err-push-clause-ok : goal.returns-in_err-push-clause-ok
returns-in_err-push-clause-ok g c = rw (err_from_is_err_and c.from_residual.result c.from_residual.ensures.1).1 tt

pub returns-in_err-push-clause-places : goal.returns-in_err-push-clause-places
returns-in_err-push-clause-places g c = rw (err_from_is_err_and c.from_residual.result c.from_residual.ensures.1).1 tt

pub returns-in_err-push-clause-readable : goal.returns-in_err-push-clause-readable
returns-in_err-push-clause-readable g c = rw (err_from_is_err_and c.from_residual.result c.from_residual.ensures.1).1 tt

pub returns-in_err-push-clause-sound : goal.returns-in_err-push-clause-sound
returns-in_err-push-clause-sound g c = rw (err_from_is_err_and c.from_residual.result c.from_residual.ensures.1).1 tt

pub returns-in_err-write_list-clause-ok : goal.returns-in_err-write_list-clause-ok
returns-in_err-write_list-clause-ok g c = rw (err_from_is_err_and c.from_residual-in_err-write_list.result c.from_residual-in_err-write_list.ensures.1).1 tt

pub returns-in_err-write_list-clause-places : goal.returns-in_err-write_list-clause-places
returns-in_err-write_list-clause-places g c = rw (err_from_is_err_and c.from_residual-in_err-write_list.result c.from_residual-in_err-write_list.ensures.1).1 tt

pub returns-in_err-write_list-clause-readable : goal.returns-in_err-write_list-clause-readable
returns-in_err-write_list-clause-readable g c = rw (err_from_is_err_and c.from_residual-in_err-write_list.result c.from_residual-in_err-write_list.ensures.1).1 tt

pub returns-in_err-write_list-clause-sound : goal.returns-in_err-write_list-clause-sound
returns-in_err-write_list-clause-sound g c = rw (err_from_is_err_and c.from_residual-in_err-write_list.result c.from_residual-in_err-write_list.ensures.1).1 tt

pub returns-clause-err : goal.returns-clause-err
returns-clause-err g c = tt
