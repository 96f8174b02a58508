use Rattle.std.proofs.Common.{◌≡◌, ◌∙◌, sym, ap, subst, ◌≤◌, ◌<◌, ◌+◌, length, get_or, take, ◌++◌, ◌∷◌, [], append_assoc, Err}
use Rattle.std.proofs.lemmas.List.{take_more, take_all, map-append}
use Rattle.std.specs.Prelude.{map}
use Rattle.dw_dwarf.specs.NewUnits.{unit_with, unit_for}
use Rattle.dw_dwarf.proofs.Setting.{is_err}
use Rattle.dw_dwarf.proofs.convert.found.FoundUnits.add_new.Goals as goal

pub new_unit-requires : goal.new_unit-requires
new_unit-requires g c =
    let items = c.deref-numbered-items.ensures.value in
    let l = subst (λ xs. c.units.numbered-index < length xs) items c.units-test.true in
    let is = subst (λ xs. c.numbered-item.result ≡ get_or xs c.units.numbered-index c.numbered-item.result) items c.numbered-item.is in
    subst (λ n. 1 ≤ n.entries) (sym is) (c.args.self.now.readable c.units.numbered-index c.numbered-item.result l).2

pub units-preserved : goal.units-preserved
units-preserved g c =
    let items = c.deref-numbered-items.result.now in
    let k = c.units.numbered-index in
    let x = c.numbered-item.result in
    let new : c.in_ok-unit.unit ≡ unit_for x = c.in_ok-unit.ensures.ok ∙ ap (λ e. unit_with e x.entries) c.encoding.ensures in
    let more : map unit_for (take k items) ++ c.in_ok-unit.unit ∷ [] ≡ map unit_for (take (k + 1) items) =
    ap (λ u. map unit_for (take k items) ++ u ∷ []) new ∙ sym (map-append unit_for (take k items) (x ∷ []))
    ∙ ap (λ ys. map unit_for ys) (ap (λ y. take k items ++ y ∷ []) c.numbered-item.is ∙ sym (take_more items k x c.units-test.true)) in
    c.in-Ok.ensures.ok ∙ ap (λ us. us ++ c.in_ok-unit.unit ∷ []) c.units.invariant
    ∙ append_assoc c.args.units.now (map unit_for (take k items)) (c.in_ok-unit.unit ∷ []) ∙ ap (λ ys. c.args.units.now ++ ys) more

pub returns-in_err-unit-clause-err : goal.returns-in_err-unit-clause-err
returns-in_err-unit-clause-err g c =
    let e : c.from_residual.result ≡ Err c.in_err-unit.field-0.0 = is_err _ _ c.from_residual.ensures in
    rw e c.in_err-unit.ensures.err

pub returns-clause-ok : goal.returns-clause-ok
returns-clause-ok g c =
    let items = c.deref-numbered-items.result.now in
    let past : length items ≤ c.units.numbered-index = c.units-test.false in
    c.units.invariant ∙ ap (λ ys. c.args.units.now ++ map unit_for ys) (take_all c.units.numbered-index items past ∙ c.deref-numbered-items.ensures.value)

pub returns-in_err-unit-clause-ok : goal.returns-in_err-unit-clause-ok
returns-in_err-unit-clause-ok g c = rw (is_err _ _ c.from_residual.ensures) tt

pub returns-clause-err : goal.returns-clause-err
returns-clause-err g c = tt
