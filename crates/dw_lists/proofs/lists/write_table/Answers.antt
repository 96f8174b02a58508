use Rattle.std.proofs.Common.{◌∙◌, ◌<◌, ap, sym, Err, subst, map, length, true, false, arith}
use Rattle.std.proofs.lemmas.List.{length-map}
use Rattle.std.proofs.lemmas.Result.{err_from_is_err_and}
use Rattle.dw_writer.proofs.Outcomes.{OnOk-map, IfErr-map}
use Rattle.dw_writer.proofs.WriteLaws.{Drafts-is}
use Rattle.dw_expr.specs.Places.{known_by, place_by}
use Rattle.dw_lists.specs.Kinds.{kinds_of}
use Rattle.dw_lists.specs.Texts.{lists_draft}
use Rattle.dw_lists.specs.Causes.{IsNone, Refused, Is, lists_fail}
use Rattle.dw_lists.proofs.Causes.{IfOk-map, refused_at}
use Rattle.dw_lists.proofs.Versions.{five_is, four_is, some_of, none_of, new_table_is, new_offsets_is, old_table_is, table_none, table_refused, none_written, none_refused}
use Rattle.dw_lists.proofs.lists.write_table.Goals as goal

pub returns-then-is_empty-clause-ok : goal.returns-then-is_empty-clause-ok
returns-then-is_empty-clause-ok g c =
    let loc = g.L.ItemList.is_location in
    let xs = map g.L.ItemList.parts c.args.lists.now in
    let v = c.args.encoding in
    let known = known_by g.P.EntryPlaces.places c.args.places in
    let place = place_by known in
    let base = c.args.has_base in
    let m = g.W.Writer.meaning c.args.w.now in
    none_written loc v place m c.args.fixups.now xs (length-map c.args.lists.now g.L.ItemList.parts ∙ none_of (length c.args.lists.now) (sym c.if-is_empty.ensures))

pub returns-in-5-clause-ok : goal.returns-in-5-clause-ok
returns-in-5-clause-ok g c =
    let loc = g.L.ItemList.is_location in
    let xs = map g.L.ItemList.parts c.args.lists.now in
    let v = c.args.encoding in
    let known = known_by g.P.EntryPlaces.places c.args.places in
    let place = place_by known in
    let base = c.args.has_base in
    let m = g.W.Writer.meaning c.args.w.now in
    let filled = some_of (length c.args.lists.now) (sym c.if-is_empty.ensures) in
    let some : 0 < length xs = omega (arith, filled, length-map c.args.lists.now g.L.ItemList.parts) in
    let five = five_is v c.in-5.is in
    OnOk-map c.write_indexed.result c.write_indexed.ensures.ok (λ p. Drafts-is p (new_table_is loc v place five xs some))

pub returns-in-5-clause-offsets : goal.returns-in-5-clause-offsets
returns-in-5-clause-offsets g c =
    let loc = g.L.ItemList.is_location in
    let xs = map g.L.ItemList.parts c.args.lists.now in
    let v = c.args.encoding in
    let known = known_by g.P.EntryPlaces.places c.args.places in
    let place = place_by known in
    let base = c.args.has_base in
    let m = g.W.Writer.meaning c.args.w.now in
    let filled = some_of (length c.args.lists.now) (sym c.if-is_empty.ensures) in
    let some : 0 < length xs = omega (arith, filled, length-map c.args.lists.now g.L.ItemList.parts) in
    let five = five_is v c.in-5.is in
    IfOk-map c.write_indexed.result c.write_indexed.ensures.offsets (λ r h. h ∙ new_offsets_is loc v place five m.size xs some)

pub returns-in-5-clause-sound : goal.returns-in-5-clause-sound
returns-in-5-clause-sound g c =
    let loc = g.L.ItemList.is_location in
    let xs = map g.L.ItemList.parts c.args.lists.now in
    let v = c.args.encoding in
    let known = known_by g.P.EntryPlaces.places c.args.places in
    let place = place_by known in
    let base = c.args.has_base in
    let m = g.W.Writer.meaning c.args.w.now in
    let filled = some_of (length c.args.lists.now) (sym c.if-is_empty.ensures) in
    let some : 0 < length xs = omega (arith, filled, length-map c.args.lists.now g.L.ItemList.parts) in
    let five = five_is v c.in-5.is in
    OnOk-map c.write_indexed.result c.write_indexed.ensures.sound
    (λ h. table_none loc v known base true five m.is_plain (omega (arith, c.in-5.is)) (omega (arith, c.in-5.is)) xs some h)

pub returns-in-5-clause-err : goal.returns-in-5-clause-err
returns-in-5-clause-err g c =
    let loc = g.L.ItemList.is_location in
    let xs = map g.L.ItemList.parts c.args.lists.now in
    let v = c.args.encoding in
    let known = known_by g.P.EntryPlaces.places c.args.places in
    let place = place_by known in
    let base = c.args.has_base in
    let m = g.W.Writer.meaning c.args.w.now in
    let filled = some_of (length c.args.lists.now) (sym c.if-is_empty.ensures) in
    let some : 0 < length xs = omega (arith, filled, length-map c.args.lists.now g.L.ItemList.parts) in
    let five = five_is v c.in-5.is in
    IfErr-map c.write_indexed.result c.write_indexed.ensures.err
    (λ e h. table_refused loc v known base true five m.is_plain m (g.W.Writer.meaning c.write_indexed.new.w) xs some e h)

pub returns-in_ok-places-in-2-to-4-clause-sound : goal.returns-in_ok-places-in-2-to-4-clause-sound
returns-in_ok-places-in-2-to-4-clause-sound g c =
    let loc = g.L.ItemList.is_location in
    let xs = map g.L.ItemList.parts c.args.lists.now in
    let v = c.args.encoding in
    let known = known_by g.P.EntryPlaces.places c.args.places in
    let place = place_by known in
    let base = c.args.has_base in
    let m = g.W.Writer.meaning c.args.w.now in
    let filled = some_of (length c.args.lists.now) (sym c.if-is_empty.ensures) in
    let some : 0 < length xs = omega (arith, filled, length-map c.args.lists.now g.L.ItemList.parts) in
    let four = four_is v (omega (arith, c.in-2-to-4)) in
    table_none loc v known base false four m.is_plain (omega (arith, c.in-2-to-4)) (omega (arith, c.in-2-to-4)) xs some
    (subst (λ b. IsNone (lists_fail v known m.is_plain b base xs)) four c.in_ok-places-in-2-to-4.ensures.sound)

pub returns-then-is_empty-clause-sound : goal.returns-then-is_empty-clause-sound
returns-then-is_empty-clause-sound g c =
    let loc = g.L.ItemList.is_location in
    let xs = map g.L.ItemList.parts c.args.lists.now in
    let v = c.args.encoding in
    let known = known_by g.P.EntryPlaces.places c.args.places in
    let plain = (g.W.Writer.meaning c.args.w.now).is_plain in
    none_refused loc v known c.args.has_base plain xs (length-map c.args.lists.now g.L.ItemList.parts ∙ none_of (length c.args.lists.now) (sym c.if-is_empty.ensures))

pub returns-in_err-places-in-2-to-4-clause-err : goal.returns-in_err-places-in-2-to-4-clause-err
returns-in_err-places-in-2-to-4-clause-err g c =
    let loc = g.L.ItemList.is_location in
    let xs = map g.L.ItemList.parts c.args.lists.now in
    let v = c.args.encoding in
    let known = known_by g.P.EntryPlaces.places c.args.places in
    let base = c.args.has_base in
    let m = g.W.Writer.meaning c.args.w.now in
    let filled = some_of (length c.args.lists.now) (sym c.if-is_empty.ensures) in
    let some : 0 < length xs = omega (arith, filled, length-map c.args.lists.now g.L.ItemList.parts) in
    let four = four_is v (omega (arith, c.in-2-to-4)) in
    let p = err_from_is_err_and c.from_residual.result c.from_residual.ensures.1 in
    let err = c.in_err-places-in-2-to-4.field-0.0 in
    let new = g.W.Writer.meaning c.write_lists.new.w in
    refused_at c.from_residual.result _ err (p.1 ∙ ap Err p.2)
    (table_refused loc v known base false four m.is_plain m new xs some err
    (subst (λ b. Refused m new (Is (lists_fail v known m.is_plain b base xs)) err) four c.in_err-places-in-2-to-4.ensures.err))

pub returns-in_ok-places-in-2-to-4-clause-ok : goal.returns-in_ok-places-in-2-to-4-clause-ok
returns-in_ok-places-in-2-to-4-clause-ok g c =
    let loc = g.L.ItemList.is_location in
    let xs = map g.L.ItemList.parts c.args.lists.now in
    let v = c.args.encoding in
    let place = place_by (known_by g.P.EntryPlaces.places c.args.places) in
    let filled = some_of (length c.args.lists.now) (sym c.if-is_empty.ensures) in
    let some : 0 < length xs = omega (arith, filled, length-map c.args.lists.now g.L.ItemList.parts) in
    let four = four_is v (omega (arith, c.in-2-to-4)) in
    Drafts-is c.in_ok-places-in-2-to-4.ensures.ok (ap (λ b. lists_draft b v place (kinds_of loc) xs) four ∙ old_table_is loc v place four xs some)

pub returns-in_err-places-in-2-to-4-clause-ok : goal.returns-in_err-places-in-2-to-4-clause-ok
returns-in_err-places-in-2-to-4-clause-ok g c = rw (err_from_is_err_and c.from_residual.result c.from_residual.ensures.1).1 tt

pub returns-in_err-places-in-2-to-4-clause-offsets : goal.returns-in_err-places-in-2-to-4-clause-offsets
returns-in_err-places-in-2-to-4-clause-offsets g c = rw (err_from_is_err_and c.from_residual.result c.from_residual.ensures.1).1 tt

pub returns-in_err-places-in-2-to-4-clause-readable : goal.returns-in_err-places-in-2-to-4-clause-readable
returns-in_err-places-in-2-to-4-clause-readable g c = rw (err_from_is_err_and c.from_residual.result c.from_residual.ensures.1).1 tt

pub returns-in_err-places-in-2-to-4-clause-sound : goal.returns-in_err-places-in-2-to-4-clause-sound
returns-in_err-places-in-2-to-4-clause-sound g c = rw (err_from_is_err_and c.from_residual.result c.from_residual.ensures.1).1 tt

pub returns-then-is_empty-clause-err : goal.returns-then-is_empty-clause-err
returns-then-is_empty-clause-err g c = tt

pub returns-in_ok-places-in-2-to-4-clause-err : goal.returns-in_ok-places-in-2-to-4-clause-err
returns-in_ok-places-in-2-to-4-clause-err g c = tt

pub returns-in_default-clause-ok : goal.returns-in_default-clause-ok
returns-in_default-clause-ok g c = tt

pub returns-in_default-clause-offsets : goal.returns-in_default-clause-offsets
returns-in_default-clause-offsets g c = tt

pub returns-in_default-clause-readable : goal.returns-in_default-clause-readable
returns-in_default-clause-readable g c = tt

pub returns-in_default-clause-sound : goal.returns-in_default-clause-sound
returns-in_default-clause-sound g c = tt

pub returns-in_ok-places-in-2-to-4-clause-same : goal.returns-in_ok-places-in-2-to-4-clause-same
returns-in_ok-places-in-2-to-4-clause-same g c = c.in_ok-places-in-2-to-4.ensures.same

pub returns-in_err-places-in-2-to-4-clause-same : goal.returns-in_err-places-in-2-to-4-clause-same
returns-in_err-places-in-2-to-4-clause-same g c = c.in_err-places-in-2-to-4.ensures.same

pub returns-in-5-clause-same : goal.returns-in-5-clause-same
returns-in-5-clause-same g c = c.write_indexed.ensures.same
