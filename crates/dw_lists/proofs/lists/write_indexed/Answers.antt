use Rattle.std.proofs.Common.{◌≡◌, subst, [], map, true, arith}
use Rattle.std.proofs.lemmas.Result.{err_from_is_err_and}
use Rattle.dw_writer.specs.Drafts.{Drafts}
use Rattle.dw_writer.proofs.WriteLaws.{Drafts-then, Drafts-is}
use Rattle.dw_expr.specs.Places.{known_by, place_by}
use Rattle.dw_lists.specs.Kinds.{kinds_of}
use Rattle.dw_lists.specs.Texts.{lists_draft, places_from}
use Rattle.dw_lists.specs.Items.{is_five}
use Rattle.dw_lists.specs.Causes.{Is, IsNone, lists_fail, entries_fail, table_fails_by}
use Rattle.dw_lists.proofs.Refusals.{weaker, refused_after}
use Rattle.dw_lists.proofs.TableCauses.{entries_cause, lists_cause, new_none}
use Rattle.dw_lists.proofs.Tables.{head_size, head_table, new_offsets_are}
use Rattle.dw_writer.proofs.Steps.{IsSameWriter-trans}
use Rattle.dw_lists.proofs.lists.write_indexed.Goals as goal

pub returns-in_err-base-clause-err : goal.returns-in_err-base-clause-err
returns-in_err-base-clause-err g c =
    let loc = g.L.ItemList.is_location in
    let xs = map g.L.ItemList.parts c.args.lists.now in
    let v = c.args.encoding in
    let known = known_by g.P.EntryPlaces.places c.args.places in
    let m = g.W.Writer.meaning c.args.w.now in
    let p = err_from_is_err_and c.from_residual.result c.from_residual.ensures.1 in
    rw (p.1, p.2) (weaker m (g.W.Writer.meaning c.write_entries.new.w) (Is (entries_fail loc v known xs)) (Is (table_fails_by loc v known true c.args.has_base m.is_plain xs))
    (entries_cause loc v known xs c.args.has_base m.is_plain) c.in_err-base.field-0.0 c.in_err-base.ensures.err)

pub returns-in_err-places-clause-err : goal.returns-in_err-places-clause-err
returns-in_err-places-clause-err g c =
    let loc = g.L.ItemList.is_location in
    let xs = map g.L.ItemList.parts c.args.lists.now in
    let v = c.args.encoding in
    let known = known_by g.P.EntryPlaces.places c.args.places in
    let base = c.args.has_base in
    let m = g.W.Writer.meaning c.args.w.now in
    let n = g.W.Writer.meaning c.write_entries.new.w in
    let same = c.in_ok-base.ensures.same in
    let p = err_from_is_err_and c.from_residual-in_err-places.result c.from_residual-in_err-places.ensures.1 in
    rw (p.1, p.2) (refused_after m n (g.W.Writer.meaning c.write_lists.new.w) (Is (lists_fail v known n.is_plain (is_five v) base xs)) (Is (table_fails_by loc v known true base m.is_plain xs)) same
    (λ e h. lists_cause loc v known xs base m.is_plain e
    (subst (λ plain. Is (lists_fail v known plain true base xs) e) same.kind (subst (λ five. Is (lists_fail v known n.is_plain five base xs) e) c.requires h)))
    c.in_err-places.field-0.0 c.in_err-places.ensures.err)

pub returns-clause-ok : goal.returns-clause-ok
returns-clause-ok g c =
    let loc = g.L.ItemList.is_location in
    let xs = map g.L.ItemList.parts c.args.lists.now in
    let v = c.args.encoding in
    let place = place_by (known_by g.P.EntryPlaces.places c.args.places) in
    let lists = subst (λ b. Drafts (g.W.Writer.meaning c.write_entries.new.w) (g.W.Writer.meaning c.write_lists.new.w) c.args.fixups.now c.write_lists.new.fixups (lists_draft b v place (kinds_of loc) xs)) c.requires c.in_ok-places.ensures.ok in
    Drafts-is (Drafts-then (c.in_ok-base.ensures.ok c.args.fixups.now) lists) (head_table loc v place xs)

pub returns-clause-offsets : goal.returns-clause-offsets
returns-clause-offsets g c =
    let loc = g.L.ItemList.is_location in
    let xs = map g.L.ItemList.parts c.args.lists.now in
    let v = c.args.encoding in
    let place = place_by (known_by g.P.EntryPlaces.places c.args.places) in
    let at = (g.W.Writer.meaning c.args.w.now).size in
    let to = (g.W.Writer.meaning c.write_entries.new.w).size in
    let places = subst (λ b. c.in_ok-places.places.items ≡ places_from b v place (kinds_of loc) to xs) c.requires c.in_ok-places.ensures.places in
    new_offsets_are loc v place at c.in_ok-base.base to xs c.in_ok-places.places.items c.in_ok-base.ensures.base
    (omega (arith, c.in_ok-base.ensures.base, (c.in_ok-base.ensures.ok []).text.size, head_size loc v place xs)) places

pub returns-clause-sound : goal.returns-clause-sound
returns-clause-sound g c =
    let loc = g.L.ItemList.is_location in
    let xs = map g.L.ItemList.parts c.args.lists.now in
    let v = c.args.encoding in
    let known = known_by g.P.EntryPlaces.places c.args.places in
    let base = c.args.has_base in
    let m = g.W.Writer.meaning c.args.w.now in
    let n = g.W.Writer.meaning c.write_entries.new.w in
    new_none loc v known xs base m.is_plain c.in_ok-base.ensures.sound
    (subst (λ plain. IsNone (lists_fail v known plain true base xs)) c.in_ok-base.ensures.same.kind
    (subst (λ five. IsNone (lists_fail v known n.is_plain five base xs)) c.requires c.in_ok-places.ensures.sound))

pub returns-in_err-base-clause-ok : goal.returns-in_err-base-clause-ok
returns-in_err-base-clause-ok g c = rw (err_from_is_err_and c.from_residual.result c.from_residual.ensures.1).1 tt

pub returns-in_err-base-clause-offsets : goal.returns-in_err-base-clause-offsets
returns-in_err-base-clause-offsets g c = rw (err_from_is_err_and c.from_residual.result c.from_residual.ensures.1).1 tt

pub returns-in_err-base-clause-readable : goal.returns-in_err-base-clause-readable
returns-in_err-base-clause-readable g c = rw (err_from_is_err_and c.from_residual.result c.from_residual.ensures.1).1 tt

pub returns-in_err-base-clause-sound : goal.returns-in_err-base-clause-sound
returns-in_err-base-clause-sound g c = rw (err_from_is_err_and c.from_residual.result c.from_residual.ensures.1).1 tt

pub returns-in_err-places-clause-ok : goal.returns-in_err-places-clause-ok
returns-in_err-places-clause-ok g c = rw (err_from_is_err_and c.from_residual-in_err-places.result c.from_residual-in_err-places.ensures.1).1 tt

pub returns-in_err-places-clause-offsets : goal.returns-in_err-places-clause-offsets
returns-in_err-places-clause-offsets g c = rw (err_from_is_err_and c.from_residual-in_err-places.result c.from_residual-in_err-places.ensures.1).1 tt

pub returns-in_err-places-clause-readable : goal.returns-in_err-places-clause-readable
returns-in_err-places-clause-readable g c = rw (err_from_is_err_and c.from_residual-in_err-places.result c.from_residual-in_err-places.ensures.1).1 tt

pub returns-in_err-places-clause-sound : goal.returns-in_err-places-clause-sound
returns-in_err-places-clause-sound g c = rw (err_from_is_err_and c.from_residual-in_err-places.result c.from_residual-in_err-places.ensures.1).1 tt

pub returns-clause-err : goal.returns-clause-err
returns-clause-err g c = tt

pub returns-in_err-base-clause-same : goal.returns-in_err-base-clause-same
returns-in_err-base-clause-same g c = c.in_err-base.ensures.same

pub returns-in_err-places-clause-same : goal.returns-in_err-places-clause-same
returns-in_err-places-clause-same g c = IsSameWriter-trans c.in_ok-base.ensures.same c.in_err-places.ensures.same

pub returns-clause-same : goal.returns-clause-same
returns-clause-same g c = IsSameWriter-trans c.in_ok-base.ensures.same c.in_ok-places.ensures.same
