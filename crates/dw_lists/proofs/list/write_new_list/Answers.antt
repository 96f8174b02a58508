use Rattle.std.proofs.Common.{◌∙◌, ◌<◌, ◌≤◌, subst, take_all, arith, length, get_or, true, None, refl}
use Rattle.std.proofs.lemmas.List.Elements.{All-nil}
use Rattle.std.proofs.lemmas.Result.{err_from_is_err_and}
use Rattle.dw_writer.proofs.Outcomes.{OnOk-map, IfErr-map}
use Rattle.dw_writer.proofs.WriteLaws.{Drafts-nothing, Drafts-whole, Drafts-then, Drafts-more, Drafts-is}
use Rattle.dw_writer.proofs.Steps.{IsSameWriter-trans}
use Rattle.dw_expr.specs.Places.{known_by, place_by}
use Rattle.dw_lists.specs.Kinds.{kinds_of}
use Rattle.dw_lists.specs.Parts.{Part}
use Rattle.dw_lists.specs.Texts.{part_draft, IsReadable, AreReadable}
use Rattle.dw_lists.specs.Causes.{Is, IsNone, new_part_fails, new_list_fails}
use Rattle.dw_lists.proofs.Causes.{any_more, any_ended, read_there, All-more}
use Rattle.dw_lists.proofs.Spans.{written-byte, kinds_are_bytes}
use Rattle.dw_lists.proofs.Refusals.{item_refused, close_refused}
use Rattle.dw_lists.proofs.Tables.{list_is}
use Rattle.dw_lists.proofs.list.write_new_list.Goals as goal

pub loop-index-init : goal.loop-index-init
loop-index-init g c = record {
  end = c.count-index-end.ensures;
  written = Drafts-nothing (g.W.Writer.meaning c.args.w.now) c.args.fixups.now;
  readable = All-nil (IsReadable true c.args.encoding (place_by (known_by g.P.EntryPlaces.places c.args.places)));
  none = λ e. refl;
}

pub loop-index-preserved : goal.loop-index-preserved
loop-index-preserved g c =
    let v = c.args.encoding in
    let parts = g.L.ItemList.parts c.args.list.now in
    let known = known_by g.P.EntryPlaces.places c.args.places in
    let place = place_by known in
    let k = kinds_of g.L.ItemList.is_location in
    let plain = (g.W.Writer.meaning c.args.w.now).is_plain in
    let i = c.loop-index.index in
    let d : Part = record { range = None; expression = None } in
    let x = get_or parts i d in
    let below : i < length parts = omega (arith, c.loop-index-test.true, c.loop-index.invariant.end) in
    let there = read_there parts i d below in
    let ok = rw (c.range-range.ensures, c.expression-expression.ensures, c.kinds-kinds.ensures) at c.in_ok-write_new_part.ensures.ok in
    let readable = rw (c.range-range.ensures, c.expression-expression.ensures) at c.in_ok-write_new_part.ensures.readable in
    let sound = rw (c.range-range.ensures, c.expression-expression.ensures) at c.in_ok-write_new_part.ensures.sound in
    let none : IsNone (new_part_fails v known plain x) = subst (λ p. IsNone (new_part_fails v known p x)) c.loop-index.invariant.written.text.same.kind sound in
    record {
      end = c.loop-index.invariant.end;
      written = Drafts-more (part_draft true v place k) parts i x below there c.loop-index.invariant.written ok;
      readable = All-more (IsReadable true v place) parts i x below there c.loop-index.invariant.readable readable;
      none = λ e. c.loop-index.invariant.none e ∙ any_more (new_part_fails v known plain) parts i x below there none e;
    }

pub returns-in_err-write_new_part-clause-err : goal.returns-in_err-write_new_part-clause-err
returns-in_err-write_new_part-clause-err g c =
    let v = c.args.encoding in
    let parts = g.L.ItemList.parts c.args.list.now in
    let known = known_by g.P.EntryPlaces.places c.args.places in
    let place = place_by known in
    let k = kinds_of g.L.ItemList.is_location in
    let plain = (g.W.Writer.meaning c.args.w.now).is_plain in
    let i = c.loop-index.index in
    let d : Part = record { range = None; expression = None } in
    let x = get_or parts i d in
    let below : i < length parts = omega (arith, c.loop-index-test.true, c.loop-index.invariant.end) in
    let p = err_from_is_err_and c.from_residual.result c.from_residual.ensures.1 in
    let refused = rw (c.range-range.ensures, c.expression-expression.ensures) at c.in_err-write_new_part.ensures.err in
    rw (p.1, p.2) (item_refused (g.W.Writer.meaning c.args.w.now) (g.W.Writer.meaning c.loop-index.w) (g.W.Writer.meaning c.write_new_part.new.w) v known parts i d below
    c.loop-index.invariant.written.text.same c.in_err-write_new_part.field-0.0 refused)

pub returns-in_err-write_new_part-clause-same : goal.returns-in_err-write_new_part-clause-same
returns-in_err-write_new_part-clause-same g c = IsSameWriter-trans c.loop-index.invariant.written.text.same c.in_err-write_new_part.ensures.same

pub returns-clause-ok : goal.returns-clause-ok
returns-clause-ok g c =
    let v = c.args.encoding in
    let parts = g.L.ItemList.parts c.args.list.now in
    let known = known_by g.P.EntryPlaces.places c.args.places in
    let place = place_by known in
    let k = kinds_of g.L.ItemList.is_location in
    let plain = (g.W.Writer.meaning c.args.w.now).is_plain in
    let i = c.loop-index.index in
    let d : Part = record { range = None; expression = None } in
    let x = get_or parts i d in
    let past : length parts ≤ i = omega (arith, c.loop-index-test.false, c.loop-index.invariant.end) in
    let close = rw c.kinds-kinds.ensures at c.write_end.ensures.ok in
    OnOk-map c.write_end.result close
    (λ p. Drafts-is (Drafts-then c.loop-index.invariant.written (Drafts-whole c.loop-index.fixups (written-byte (kinds_of g.L.ItemList.is_location).end_of_list (kinds_are_bytes g.L.ItemList.is_location).0 p))) (list_is true v place k parts i past))

pub returns-clause-readable : goal.returns-clause-readable
returns-clause-readable g c =
    let v = c.args.encoding in
    let parts = g.L.ItemList.parts c.args.list.now in
    let known = known_by g.P.EntryPlaces.places c.args.places in
    let place = place_by known in
    let k = kinds_of g.L.ItemList.is_location in
    let plain = (g.W.Writer.meaning c.args.w.now).is_plain in
    let i = c.loop-index.index in
    let d : Part = record { range = None; expression = None } in
    let x = get_or parts i d in
    let past : length parts ≤ i = omega (arith, c.loop-index-test.false, c.loop-index.invariant.end) in
    OnOk-map c.write_end.result c.write_end.ensures.ok (λ p. subst (AreReadable true v place) (take_all i parts past) c.loop-index.invariant.readable)

pub returns-clause-sound : goal.returns-clause-sound
returns-clause-sound g c =
    let v = c.args.encoding in
    let parts = g.L.ItemList.parts c.args.list.now in
    let known = known_by g.P.EntryPlaces.places c.args.places in
    let place = place_by known in
    let k = kinds_of g.L.ItemList.is_location in
    let plain = (g.W.Writer.meaning c.args.w.now).is_plain in
    let i = c.loop-index.index in
    let d : Part = record { range = None; expression = None } in
    let x = get_or parts i d in
    let past : length parts ≤ i = omega (arith, c.loop-index-test.false, c.loop-index.invariant.end) in
    OnOk-map c.write_end.result c.write_end.ensures.ok (λ p. λ e. c.loop-index.invariant.none e ∙ any_ended (new_part_fails v known plain) parts i past e)

pub returns-clause-err : goal.returns-clause-err
returns-clause-err g c =
    let v = c.args.encoding in
    let parts = g.L.ItemList.parts c.args.list.now in
    let known = known_by g.P.EntryPlaces.places c.args.places in
    let place = place_by known in
    let k = kinds_of g.L.ItemList.is_location in
    let plain = (g.W.Writer.meaning c.args.w.now).is_plain in
    let i = c.loop-index.index in
    let d : Part = record { range = None; expression = None } in
    let x = get_or parts i d in
    IfErr-map c.write_end.result c.write_end.ensures.err
    (close_refused (g.W.Writer.meaning c.args.w.now) (g.W.Writer.meaning c.loop-index.w) (g.W.Writer.meaning c.write_end.new.w) (Is (new_list_fails v known plain parts)) c.loop-index.invariant.written.text.same)

pub returns-clause-same : goal.returns-clause-same
returns-clause-same g c = IsSameWriter-trans c.loop-index.invariant.written.text.same c.write_end.ensures.same

pub returns-in_err-write_new_part-clause-ok : goal.returns-in_err-write_new_part-clause-ok
returns-in_err-write_new_part-clause-ok g c = rw (err_from_is_err_and c.from_residual.result c.from_residual.ensures.1).1 tt

pub returns-in_err-write_new_part-clause-readable : goal.returns-in_err-write_new_part-clause-readable
returns-in_err-write_new_part-clause-readable g c = rw (err_from_is_err_and c.from_residual.result c.from_residual.ensures.1).1 tt

pub returns-in_err-write_new_part-clause-sound : goal.returns-in_err-write_new_part-clause-sound
returns-in_err-write_new_part-clause-sound g c = rw (err_from_is_err_and c.from_residual.result c.from_residual.ensures.1).1 tt
