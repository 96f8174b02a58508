use Rattle.std.proofs.Common.{◌∙◌, sym, ap, subst, Err}
use Rattle.std.specs.Prelude.{◌⊎◌, IfErr, IsTrue, Some, slice_index}
use Rattle.dw_line.specs.Parts.{NoCause}
use Rattle.std.proofs.lemmas.Result.{err_from_is_err_and}
use Rattle.dw_base.specs.Numbers.{word_of}
use Rattle.dw_writer.specs.Causes.{offset_fits}
use Rattle.dw_writer.specs.Sections.{SomeHasRisen}
use Rattle.dw_entries.specs.Settled.{settled_entries}
use Rattle.dw_tree.specs.Causes.{Because, TreeFails, LocationsFail, UnitRefused}
use Rattle.dw_lists.specs.Tables.{locations_of}
use Rattle.dw_tree.specs.Elsewhere.{AppendsLine, AppendsRanges, elsewhere, tree_tables, unit_tables, has_base_address}
use Rattle.dw_tree.specs.Locations.{places_in_tree, lists_fail_in, ListsFail, AppendsLists}
use Rattle.dw_tree.specs.Pending.{PendsTree, kept_in, starts_of}
use Rattle.dw_tree.specs.Places.{Offsets, found as found_at, offsets_in}
use Rattle.dw_tree.specs.UnitValue.{UnitValue}
use Rattle.dw_tree.specs.Valid.{IsWritableTree}
use Rattle.dw_tree.specs.Whole.{parts_with, settled}
use Rattle.dw_tree.proofs.Faults.{because-map}
use Rattle.dw_unit.proofs.Settling.{of_settled, of_settled_lists, lists_plain, settled_tables, rises_behind, pends_behind, lists_behind, others_behind, parts_kept, tree_refused, parts_refused}
use Rattle.dw_unit.proofs.unit.Unit.write_open.Goals as goal

-- where a part of another section is refused

pub returns-in_err-parts-clause-err : goal.returns-in_err-parts-clause-err
returns-in_err-parts-clause-err g c =
    let p = err_from_is_err_and c.from_residual-in_err-parts.result c.from_residual-in_err-parts.ensures.1 in
    rw (p.1, p.2)
    (parts_refused g.W.Writer.meaning c.args.sections.now c.write_parts.new.sections c.args.self.now (elsewhere g.W.Writer.meaning c.args.sections.now c.args.line_strings.now c.args.strings.now) c.in_err-parts.field-0.0 c.in_err-parts.ensures.err)

pub returns-in_err-parts-clause-others : goal.returns-in_err-parts-clause-others
returns-in_err-parts-clause-others g c = parts_kept g.W.Writer.meaning c.args.sections.now c.write_parts.new.sections c.in_err-parts.ensures.others

pub returns-in_err-settle-clause-others : goal.returns-in_err-settle-clause-others
returns-in_err-settle-clause-others g c = parts_kept g.W.Writer.meaning c.args.sections.now c.write_parts.new.sections c.in_ok-parts.ensures.others

-- behind them

pub returns-in_err-places-clause-err : goal.returns-in_err-places-clause-err
returns-in_err-places-clause-err g c =
    let meaning = g.W.Writer.meaning in
    let old = c.args.sections.now in
    let mid = c.write_parts.new.sections in
    let new = c.write_tree.new.sections in
    let u = c.args.self.now in
    let line_strings = c.args.line_strings.now in
    let strings = c.args.strings.now in
    let t = elsewhere meaning old line_strings strings in
    let others = c.in_ok-parts.ensures.others in
    let used = c.has_line_program.ensures ∙ c.in_ok-parts.ensures.used in
    let is = c.self-2.view_is ∙ c.in_ok-settle.ensures.ok in
    let is_e = ap (λ (w : UnitValue). w.encoding) is in
    let is_es = c.as_slice.ensures.value ∙ ap (λ (w : UnitValue). w.entries) is ∙ ap (λ b. settled_entries (parts_with b u) u.entries) used in
    let is_xs = ap (λ (w : UnitValue). w.locations) is in
    let e = c.self-2.inside.encoding in
    let es = c.as_slice.result.now in
    let xs = c.self-2.inside.locations in
    let is_plain = lists_plain meaning old mid others line_strings strings u e is_e in
    let is_found = settled_tables meaning old mid others line_strings strings u e is_e es c.in_ok-parts.parts xs is_es c.in_ok-parts.ensures.places is_xs in
    let table = (meaning old.debug_abbrev.0).size in
    let plain = (meaning old.debug_info.0).is_plain in
    let p = err_from_is_err_and c.from_residual-in_err-places.result c.from_residual-in_err-places.ensures.1 in
    let err = c.in_err-places.field-0.0 in
    let found = tree_tables e es c.in_ok-parts.parts xs (locations_of meaning e mid).size line_strings strings in
    let kind = (locations_of meaning e mid).is_plain in
    let based = subst (λ b. Because (SomeHasRisen meaning mid new) (λ x. ListsFail e es xs b kind x ⊎ TreeFails e es found (meaning mid.debug_abbrev.0).size (meaning mid.debug_info.0).is_plain x) err) c.has_base_address-based.ensures c.in_err-places.ensures.err in
    let refused = subst (λ s. Because (SomeHasRisen meaning mid new) (λ x. ListsFail e es xs (has_base_address u.entries) kind x ⊎ TreeFails e es found (meaning s.debug_abbrev.0).size (meaning s.debug_info.0).is_plain x) err) others based in
    let tree = of_settled_lists u t e es xs kind found is_e is_es is_xs is_plain is_found
    (λ e es xs k f. Because (SomeHasRisen meaning mid new) (λ x. ListsFail e es xs (has_base_address u.entries) k x ⊎ TreeFails e es f table plain x) err) refused in
    let risen = because-map {p = λ x. LocationsFail u t x ⊎ TreeFails u.encoding (settled u).entries (unit_tables t u) table plain x} {q = λ x. LocationsFail u t x ⊎ TreeFails u.encoding (settled u).entries (unit_tables t u) table plain x}
    (rises_behind meaning old mid new others line_strings strings u c.in_ok-parts.ensures.lines c.in_ok-parts.ensures.ranges) (λ f k. k) err tree in
    subst (λ r. IfErr r (UnitRefused meaning old new u t)) (sym (p.1 ∙ ap Err p.2)) (tree_refused meaning old new u t err risen)

pub returns-in_err-places-clause-others : goal.returns-in_err-places-clause-others
returns-in_err-places-clause-others g c =
    others_behind g.W.Writer.meaning c.args.sections.now c.write_parts.new.sections c.write_tree.new.sections c.in_ok-parts.ensures.others c.in_err-places.ensures.others

pub returns-clause-others : goal.returns-clause-others
returns-clause-others g c =
    others_behind g.W.Writer.meaning c.args.sections.now c.write_parts.new.sections c.write_tree.new.sections c.in_ok-parts.ensures.others c.in_ok-places.ensures.others

pub returns-clause-unit : goal.returns-clause-unit
returns-clause-unit g c =
    let meaning = g.W.Writer.meaning in
    let old = c.args.sections.now in
    let mid = c.write_parts.new.sections in
    let new = c.write_tree.new.sections in
    let u = c.args.self.now in
    let line_strings = c.args.line_strings.now in
    let strings = c.args.strings.now in
    let t = elsewhere meaning old line_strings strings in
    let others = c.in_ok-parts.ensures.others in
    let used = c.has_line_program.ensures ∙ c.in_ok-parts.ensures.used in
    let is = c.self-2.view_is ∙ c.in_ok-settle.ensures.ok in
    let is_e = ap (λ (w : UnitValue). w.encoding) is in
    let is_es = c.as_slice.ensures.value ∙ ap (λ (w : UnitValue). w.entries) is ∙ ap (λ b. settled_entries (parts_with b u) u.entries) used in
    let is_xs = ap (λ (w : UnitValue). w.locations) is in
    let e = c.self-2.inside.encoding in
    let es = c.as_slice.result.now in
    let xs = c.self-2.inside.locations in
    let is_plain = lists_plain meaning old mid others line_strings strings u e is_e in
    let is_found = settled_tables meaning old mid others line_strings strings u e is_e es c.in_ok-parts.parts xs is_es c.in_ok-parts.ensures.places is_xs in
    let places = c.in_ok-places.places in
    let kept = kept_in (starts_of meaning mid) places in
    let found = tree_tables e es c.in_ok-parts.parts xs (locations_of meaning e mid).size line_strings strings in
    let pends = of_settled u t e es found is_e is_es is_found (λ e es x. PendsTree meaning mid new e es x kept) c.in_ok-places.ensures.ok.tree.unit in
    let lists = of_settled_lists u t e es xs (locations_of meaning e mid).is_plain found is_e is_es is_xs is_plain is_found (λ e es xs k f. AppendsLists meaning mid new e es xs) c.in_ok-places.ensures.ok.lists in
    record {
      kept = kept;
      tree = pends_behind meaning old mid new others _ _ _ kept pends;
      lists = lists_behind meaning old mid new others _ _ _ lists;
      offsets_are =
          ap (λ o. Some (offsets_in o)) c.of.ensures
          ∙ ap (λ n. let o : Offsets = record { start = n; place = found_at (slice_index places.places.items) } in Some o) c.len-start.ensures;
    }

pub returns-clause-writable : goal.returns-clause-writable
returns-clause-writable g c =
    let meaning = g.W.Writer.meaning in
    let old = c.args.sections.now in
    let mid = c.write_parts.new.sections in
    let new = c.write_tree.new.sections in
    let u = c.args.self.now in
    let line_strings = c.args.line_strings.now in
    let strings = c.args.strings.now in
    let t = elsewhere meaning old line_strings strings in
    let others = c.in_ok-parts.ensures.others in
    let used = c.has_line_program.ensures ∙ c.in_ok-parts.ensures.used in
    let is = c.self-2.view_is ∙ c.in_ok-settle.ensures.ok in
    let is_e = ap (λ (w : UnitValue). w.encoding) is in
    let is_es = c.as_slice.ensures.value ∙ ap (λ (w : UnitValue). w.entries) is ∙ ap (λ b. settled_entries (parts_with b u) u.entries) used in
    let is_xs = ap (λ (w : UnitValue). w.locations) is in
    let e = c.self-2.inside.encoding in
    let es = c.as_slice.result.now in
    let xs = c.self-2.inside.locations in
    let is_plain = lists_plain meaning old mid others line_strings strings u e is_e in
    let is_found = settled_tables meaning old mid others line_strings strings u e is_e es c.in_ok-parts.parts xs is_es c.in_ok-parts.ensures.places is_xs in
    let plain = (meaning old.debug_info.0).is_plain in
    let table = (meaning old.debug_abbrev.0).size in
    let found = tree_tables e es c.in_ok-parts.parts xs (locations_of meaning e mid).size line_strings strings in
    let kind = (locations_of meaning e mid).is_plain in
    let writable = subst (λ s. IsWritableTree (meaning s.debug_info.0).is_plain e es found) others c.in_ok-places.ensures.ok.tree.writable in
    let place = subst (λ s. IsTrue (offset_fits (meaning s.debug_info.0).is_plain (word_of e.format) (meaning s.debug_abbrev.0).size)) others c.in_ok-places.ensures.ok.tree.place in
    let based = subst (λ b. NoCause (lists_fail_in e (places_in_tree e es) xs b kind)) c.has_base_address-based.ensures c.in_ok-places.ensures.ok.lists_sound in
    let lists = of_settled_lists u t e es xs kind found is_e is_es is_xs is_plain is_found (λ e es xs k f. NoCause (lists_fail_in e (places_in_tree e es) xs (has_base_address u.entries) k)) based in (
      (
        (c.in_ok-parts.ensures.sound, lists),
        of_settled u t e es found is_e is_es is_found (λ e es x. IsWritableTree plain e es x) writable,
      ),
      of_settled u t e es found is_e is_es is_found (λ e es x. IsTrue (offset_fits plain (word_of e.format) table)) place,
    )

pub returns-clause-lines : goal.returns-clause-lines
returns-clause-lines g c =
    let old = c.args.sections.now in
    subst (λ s. AppendsLine g.W.Writer.meaning old s c.args.line_strings.now c.args.strings.now c.args.self.now) (sym c.in_ok-places.ensures.others) c.in_ok-parts.ensures.lines

pub returns-clause-ranges : goal.returns-clause-ranges
returns-clause-ranges g c =
    let old = c.args.sections.now in
    let added = c.in_ok-parts.ensures.ranges in
    subst (λ s. AppendsRanges g.W.Writer.meaning old s c.args.self.now) (sym c.in_ok-places.ensures.others)
    (record { found = added.found; ranges = added.ranges; range_lists = added.range_lists })
