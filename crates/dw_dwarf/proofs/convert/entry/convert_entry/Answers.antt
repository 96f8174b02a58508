use Rattle.std.proofs.Common.{◌≡◌, ◌∙◌, sym, ap, subst, length, ◌<◌, ℕ, Bool, not, inl, refl}
use Rattle.std.specs.Prelude.{◌==◌, ◌&&◌}
use Rattle.dw_entries.specs.Entries.{entry_at}
use Rattle.dw_read.specs.Rows.{entry_of}
use Rattle.dw_tree.specs.UnitValue.{UnitValue}
use Rattle.dw_dwarf.proofs.Becoming.{names_distinct, becomes, placed_none, reserved_yet}
use Rattle.dw_dwarf.proofs.Setting.{is_err}
use Rattle.dw_dwarf.specs.ConvertSteps.{tables_in}
use Rattle.dw_dwarf.specs.Placed.{plan_for}
use Rattle.dw_entry_ids.specs.Plans.{names_sibling}
use Rattle.dw_dwarf.proofs.convert.entry.convert_entry.Goals.{then-ne, else-ne}
use Rattle.dw_dwarf.proofs.convert.entry.convert_entry.Goals as goal

pub place-requires-clause-reserved : goal.place-requires-clause-reserved
place-requires-clause-reserved g c = λ n. reserved_yet c.args.unit.now c.args.id.0 c.requires.not_yet c.requires.id_in n

pub fill-requires-clause-there : goal.fill-requires-clause-there
fill-requires-clause-there g c =
    subst (λ (u : UnitValue). c.args.id.0 < length u.entries) (sym c.in_ok-attributes.ensures.others) c.in-Ok.ensures.there

pub fill-requires-clause-none : goal.fill-requires-clause-none
fill-requires-clause-none g c =
    let v = c.args.unit.now in
    ap (λ (u : UnitValue). (entry_at u.entries c.args.id.0).attributes) (c.in_ok-attributes.ensures.others)
    ∙ ap (λ (u : UnitValue). (entry_at u.entries c.args.id.0).attributes) c.in-Ok.ensures.ok
    ∙ placed_none v.reserved c.args.id.0 c.args.parent.0 c.args.entry.now.tag.0 v.entries c.requires.not_yet

pub fill-requires-clause-distinct : goal.fill-requires-clause-distinct
fill-requires-clause-distinct g c = names_distinct _ _ _ _ _ _ _ _ c.in_ok-attributes.attributes.items _ c.in_ok-attributes.ensures.ok

pub returns-clause-ok : goal.returns-clause-ok
returns-clause-ok g c =
    let is_own : not (c.args.id.0 == 0) ≡ c.ne.result = sym (c.ne.ensures ∙ ap (λ (k : ℕ). not (c.args.id.0 == k)) c.root.ensures) in
    let flag : (code : ℕ) → c.if-ne.sibling ≡ (not (c.args.id.0 == 0) && names_sibling (entry_of g.R.Reader.reading code c.args.entry.now)) =
    (λ code. elim c.if-ne.branch [
      | then-ne w ↦ w.sibling-is ∙ w.names_sibling-sibling.ensures code ∙ sym (ap (λ (b : Bool). b && names_sibling (entry_of g.R.Reader.reading code c.args.entry.now)) (is_own ∙ w.if-ne.true))
      | else-ne w ↦ w.sibling-is ∙ w.if-ne.false ∙ sym (ap (λ (b : Bool). b && names_sibling (entry_of g.R.Reader.reading code c.args.entry.now)) (is_own ∙ w.if-ne.false))
    ]) in
    let from = ap (tables_in c.args.strings.now c.args.line_strings.now) c.in-Ok.ensures.ok in
    λ code. becomes _ _ _ _ _ _ _ (plan_for g.R.Reader.reading code c.args.id c.args.parent c.args.entry.now) c.args.unit.now c.place.new.unit c.convert_values.new.unit c.fill.new.unit _ _ _ _ c.in_ok-attributes.attributes.items c.if-ne.sibling c.in-Ok.ensures.ok c.in_ok-attributes.ensures.others (flag code) from c.in_ok-attributes.ensures.ok c.in-Ok-fill.ensures.ok

pub returns-clause-err : goal.returns-clause-err
returns-clause-err g c = tt

pub returns-in_default-fill-clause-ok : goal.returns-in_default-fill-clause-ok
returns-in_default-fill-clause-ok g c = tt

pub returns-in_default-fill-clause-err : goal.returns-in_default-fill-clause-err
returns-in_default-fill-clause-err g c = inl refl

pub returns-in_default-clause-ok : goal.returns-in_default-clause-ok
returns-in_default-clause-ok g c = tt

pub returns-in_default-clause-err : goal.returns-in_default-clause-err
returns-in_default-clause-err g c = inl refl

pub returns-in_err-attributes-clause-ok : goal.returns-in_err-attributes-clause-ok
returns-in_err-attributes-clause-ok g c = rw (is_err _ _ c.from_residual.ensures) tt

pub returns-in_err-attributes-clause-err : goal.returns-in_err-attributes-clause-err
returns-in_err-attributes-clause-err g c =
    let err = rw c.in-Ok.ensures.ok at c.in_err-attributes.ensures.err in
    rw (is_err _ _ c.from_residual.ensures) err
