use Rattle.std.proofs.Common.{◌≡◌, ◌∙◌, ◌+◌, ◌*◌, ◌<◌, ◌^◌, ap, sym, map, length, true, arith}
use Rattle.std.proofs.lemmas.List.{length-map}
use Rattle.std.proofs.lemmas.Result.{err_from_is_err_and}
use Rattle.dw_base.specs.Numbers.{word_of}
use Rattle.dw_writer.proofs.Outcomes.{OnOk-map, IfErr-map}
use Rattle.dw_writer.proofs.WriteLaws.{Drafts-is}
use Rattle.dw_expr.specs.Places.{known_by, place_by}
use Rattle.dw_lists.specs.Kinds.{kinds_of}
use Rattle.dw_lists.specs.Pieces.{fields_size}
use Rattle.dw_lists.specs.Texts.{places_from}
use Rattle.dw_lists.specs.Tables.{body_draft}
use Rattle.dw_lists.proofs.TableCauses.{size_refused, head_refused, header_none}
use Rattle.dw_lists.proofs.Tables.{body_size, length-places, head_is}
use Rattle.dw_lists.proofs.lists.write_entries.Goals as goal

pub returns-in_err-entries-clause-err : goal.returns-in_err-entries-clause-err
returns-in_err-entries-clause-err g c =
    let loc = g.L.ItemList.is_location in
    let xs = map g.L.ItemList.parts c.args.lists.now in
    let v = c.args.encoding in
    let known = known_by g.P.EntryPlaces.places c.args.places in
    let counted = length-map c.args.lists.now g.L.ItemList.parts in
    let word = ap (λ n. length c.args.lists.now * n) c.word_size.ensures ∙ ap (λ n. n * word_of v.format) (sym counted) in
    let p = err_from_is_err_and c.from_residual.result c.from_residual.ensures.1 in
    rw (p.1, p.2) (size_refused loc v known xs (g.W.Writer.meaning c.args.w.now) _ (omega (arith, body_size loc v (place_by known) xs, word)) c.in_err-entries.field-0.0 c.in_err-entries.ensures.err)

pub write_head-requires : goal.write_head-requires
write_head-requires g c =
    let place = place_by (known_by g.P.EntryPlaces.places c.args.places) in
    let xs = map g.L.ItemList.parts c.args.lists.now in
    let entries = c.as_slice.ensures.value ∙ c.in_ok-entries.ensures.places in
    let count : length c.as_slice.result.now ≡ length xs = ap length entries ∙ length-places true c.args.encoding place (kinds_of g.L.ItemList.is_location) _ xs in
    omega (arith, count, length-map c.args.lists.now g.L.ItemList.parts, c.if-count-gt4294967295.false)

pub returns-clause-ok : goal.returns-clause-ok
returns-clause-ok g c =
    let loc = g.L.ItemList.is_location in
    let xs = map g.L.ItemList.parts c.args.lists.now in
    let v = c.args.encoding in
    let place = place_by (known_by g.P.EntryPlaces.places c.args.places) in
    let counted = length-map c.args.lists.now g.L.ItemList.parts in
    let word = ap (λ n. length c.args.lists.now * n) c.word_size.ensures ∙ ap (λ n. n * word_of v.format) (sym counted) in
    let size : fields_size + c.in_ok-entries.end ≡ (body_draft loc v place xs).size = omega (arith, body_size loc v place xs, word, c.in_ok-entries.ensures.end) in
    let entries = c.as_slice.ensures.value ∙ c.in_ok-entries.ensures.places ∙ ap (λ n. places_from true v place (kinds_of loc) n xs) word in
    OnOk-map c.write_head.result c.write_head.ensures.ok (λ p kept. Drafts-is (p kept) (head_is loc v place xs _ _ size entries))

pub returns-clause-sound : goal.returns-clause-sound
returns-clause-sound g c =
    let loc = g.L.ItemList.is_location in
    let xs = map g.L.ItemList.parts c.args.lists.now in
    let v = c.args.encoding in
    let known = known_by g.P.EntryPlaces.places c.args.places in
    let place = place_by known in
    let counted = length-map c.args.lists.now g.L.ItemList.parts in
    let word = ap (λ n. length c.args.lists.now * n) c.word_size.ensures ∙ ap (λ n. n * word_of v.format) (sym counted) in
    let few : length xs < 2 ^ 32 = omega (arith, counted, c.if-count-gt4294967295.false) in
    let size : fields_size + c.in_ok-entries.end ≡ (body_draft loc v place xs).size = omega (arith, body_size loc v place xs, word, c.in_ok-entries.ensures.end) in
    let entries = c.as_slice.ensures.value ∙ c.in_ok-entries.ensures.places ∙ ap (λ n. places_from true v place (kinds_of loc) n xs) word in
    OnOk-map c.write_head.result c.write_head.ensures.sound (λ h. header_none loc v known xs _ _ few size entries h)

pub returns-clause-err : goal.returns-clause-err
returns-clause-err g c =
    let loc = g.L.ItemList.is_location in
    let xs = map g.L.ItemList.parts c.args.lists.now in
    let v = c.args.encoding in
    let known = known_by g.P.EntryPlaces.places c.args.places in
    let place = place_by known in
    let counted = length-map c.args.lists.now g.L.ItemList.parts in
    let word = ap (λ n. length c.args.lists.now * n) c.word_size.ensures ∙ ap (λ n. n * word_of v.format) (sym counted) in
    let size : fields_size + c.in_ok-entries.end ≡ (body_draft loc v place xs).size = omega (arith, body_size loc v place xs, word, c.in_ok-entries.ensures.end) in
    let entries = c.as_slice.ensures.value ∙ c.in_ok-entries.ensures.places ∙ ap (λ n. places_from true v place (kinds_of loc) n xs) word in
    IfErr-map c.write_head.result c.write_head.ensures.err (head_refused loc v known xs (g.W.Writer.meaning c.args.w.now) (g.W.Writer.meaning c.write_head.new.w) _ _ size entries)

pub returns-in_err-entries-clause-ok : goal.returns-in_err-entries-clause-ok
returns-in_err-entries-clause-ok g c = rw (err_from_is_err_and c.from_residual.result c.from_residual.ensures.1).1 tt

pub returns-in_err-entries-clause-base : goal.returns-in_err-entries-clause-base
returns-in_err-entries-clause-base g c = rw (err_from_is_err_and c.from_residual.result c.from_residual.ensures.1).1 tt

pub returns-in_err-entries-clause-sound : goal.returns-in_err-entries-clause-sound
returns-in_err-entries-clause-sound g c = rw (err_from_is_err_and c.from_residual.result c.from_residual.ensures.1).1 tt

pub returns-clause-same : goal.returns-clause-same
returns-clause-same g c = c.write_head.ensures.same
