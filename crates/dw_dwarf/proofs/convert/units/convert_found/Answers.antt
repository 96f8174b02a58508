use Rattle.std.proofs.Common.{◌≡◌, ◌∙◌, ◌+◌, ◌<◌, arith, sym, ap, subst, suc, length, get_or, ◌++◌, ◌∷◌, [], append-nil, append_assoc, take, drop, refl, inl, inr, ⊎_elim}
use Rattle.std.proofs.lemmas.List.{take_more}
use Rattle.std.proofs.lemmas.Result.{err_from_is_err_and}
use Rattle.dw_convert_lines.specs.Views.{tables}
use Rattle.dw_entry_ids.specs.KeptRows.{keep_of}
use Rattle.dw_dwarf.specs.ConvertedUnits.{IsRead, UnitsBecome, UnitBecomes, UnitRefuses}
use Rattle.dw_dwarf.proofs.UnitSteps.{refs_as, around, length_before, one_more, take_all}
use Rattle.dw_dwarf.proofs.Setting.{is_err}
use Rattle.dw_dwarf.proofs.convert.units.convert_found.Goals as goal

pub units-init : goal.units-init
units-init g c = record { built = []; added = sym (append-nil c.args.units.now); become = refl }

pub convert_numbered-requires-clause-numbered : goal.convert_numbered-requires-clause-numbered
convert_numbered-requires-clause-numbered g c =
    let items = c.deref-numbered-items.ensures.value in
    let l : c.units.index < length c.args.found.now.units.items = subst (λ xs. c.units.index < length xs) items c.units-test.true in
    let is = subst (λ xs. c.numbered-item.result ≡ get_or xs c.units.index c.numbered-item.result) items c.numbered-item.is in
    subst (IsRead (keep_of c.args.kept.now) g.R.Reader.reading c.args.dwarf.now) (sym is) (c.requires.read c.units.index c.numbered-item.result l)

pub returns-in_err-unit-clause-err : goal.returns-in_err-unit-clause-err
returns-in_err-unit-clause-err g c =
    let keep = keep_of c.args.kept.now in
    let reading = g.R.Reader.reading in
    let answers = goal.F-post g c.args.convert_address.now in
    let items = c.deref-numbered-items.ensures.value in
    let xs = c.args.found.now.units.items in
    let l : c.units.index < length xs = subst (λ xs. c.units.index < length xs) items c.units-test.true in
    let is = subst (λ xs. c.numbered-item.result ≡ get_or xs c.units.index c.numbered-item.result) items c.numbered-item.is in
    let ids = c.args.found.now.ids in
    let old = tables c.args.strings.now c.args.line_strings.now in
    let now = tables c.units.strings c.units.line_strings in
    let p = err_from_is_err_and c.from_residual.result c.from_residual.ensures.1 in
    rw (p.1, p.2) (⊎_elim inl (λ r. inr (record {
      front = take c.units.index xs;
      held = c.numbered-item.result;
      back = drop (suc c.units.index) xs;
      is = around xs c.units.index c.numbered-item.result l ∙ ap (λ x. take c.units.index xs ++ x ∷ drop (suc c.units.index) xs) (sym is);
      built = c.units.invariant.built;
      between = now;
      before = subst (λ n. UnitsBecome keep reading answers c.args.dwarf.now ids n 0 (take c.units.index xs) old c.units.invariant.built now) (c.new-first.ensures ∙ c.count.ensures)
          (subst (λ ys. UnitsBecome keep reading answers c.args.dwarf.now ids c.new-first.result.0 0 (take c.units.index ys) old c.units.invariant.built now) items c.units.invariant.become);
      refuses = refs_as (λ entries infos. UnitRefuses keep reading answers c.args.dwarf.now entries infos c.numbered-item.result now c.in_err-unit.field-0.0) c.new-refs.result ids (length (take c.units.index xs)) c.numbered-item.result.unit.header.offset.0 (length c.args.units.now)
          c.new-refs.ensures.ids (ap (λ u. u.0) c.new-refs.ensures.unit ∙ c.new.ensures ∙ sym (length_before xs c.units.index l)) (c.new-refs.ensures.start ∙ ap (λ o. o.0) c.offset-start.ensures) (c.new-refs.ensures.first ∙ c.new-first.ensures ∙ c.count.ensures) c.new-refs.ensures.behind r;
    })) c.in_err-unit.ensures.err)

pub units-preserved : goal.units-preserved
units-preserved g c =
    let reading = g.R.Reader.reading in
    let answers = goal.F-post g c.args.convert_address.now in
    let items = c.deref-numbered-items.result.now in
    let ids = c.args.found.now.ids in
    let old = tables c.args.strings.now c.args.line_strings.now in
    let now = tables c.units.strings c.units.line_strings in
    let end = tables c.convert_numbered.new.strings c.convert_numbered.new.line_strings in
    let built = c.units.invariant.built ++ c.in_ok-unit.unit ∷ [] in
    let before : length (take c.units.index items) ≡ c.units.index = length_before items c.units.index c.units-test.true in
    let number : c.units.index ≡ 0 + length (take c.units.index items) = omega arith in
    record {
      built = built;
      added = c.in-Ok.ensures.ok ∙ ap (λ us. us ++ c.in_ok-unit.unit ∷ []) c.units.invariant.added ∙ append_assoc c.args.units.now c.units.invariant.built (c.in_ok-unit.unit ∷ []);
      become = subst (λ xs. UnitsBecome (keep_of c.args.kept.now) reading answers c.args.dwarf.now ids c.new-first.result.0 0 xs old built end)
          (ap (λ x. take c.units.index items ++ x ∷ []) c.numbered-item.is ∙ sym (take_more items c.units.index c.numbered-item.result c.units-test.true))
          (one_more (keep_of c.args.kept.now) reading answers c.args.dwarf.now ids c.new-first.result.0 0 (take c.units.index items) old c.units.invariant.built now c.numbered-item.result c.in_ok-unit.unit end c.units.invariant.become
          (refs_as (λ entries infos. UnitBecomes (keep_of c.args.kept.now) reading answers c.args.dwarf.now entries infos c.numbered-item.result now c.in_ok-unit.unit end) c.new-refs.result ids (0 + length (take c.units.index items)) c.numbered-item.result.unit.header.offset.0 c.new-first.result.0
          c.new-refs.ensures.ids (ap (λ u. u.0) c.new-refs.ensures.unit ∙ c.new.ensures ∙ number) (c.new-refs.ensures.start ∙ ap (λ o. o.0) c.offset-start.ensures) c.new-refs.ensures.first c.new-refs.ensures.behind c.in_ok-unit.ensures.ok));
    }

pub returns-clause-ok : goal.returns-clause-ok
returns-clause-ok g c =
    let keep = keep_of c.args.kept.now in
    let reading = g.R.Reader.reading in
    let answers = goal.F-post g c.args.convert_address.now in
    let ids = c.args.found.now.ids in
    let old = tables c.args.strings.now c.args.line_strings.now in
    let now = tables c.units.strings c.units.line_strings in
    let w = c.units.invariant in
    record {
      built = w.built;
      become = subst (λ n. UnitsBecome keep reading answers c.args.dwarf.now ids n 0 c.args.found.now.units.items old w.built now) (c.new-first.ensures ∙ c.count.ensures)
          (subst (λ xs. UnitsBecome keep reading answers c.args.dwarf.now ids c.new-first.result.0 0 xs old w.built now) (take_all c.deref-numbered-items.result.now c.units.index c.units-test.false ∙ c.deref-numbered-items.ensures.value) w.become);
      added = w.added;
    }

pub returns-in_err-unit-clause-ok : goal.returns-in_err-unit-clause-ok
returns-in_err-unit-clause-ok g c = rw (is_err _ _ c.from_residual.ensures) tt

pub returns-clause-err : goal.returns-clause-err
returns-clause-err g c = tt
