use Rattle.std.proofs.Common.{◌∙◌, ap, ℕ, map, refl, rules}
use Rattle.dw_entries.proofs.Changed.{seen_kept}
use Rattle.dw_entries.specs.Entries.{EntryValue, entry_at, with_sibling}
use Rattle.dw_tree.specs.UnitValue.{UnitValue, with_entry}
use Rattle.dw_dwarf.proofs.Setting.{ok_moved, contents_set}
use Rattle.dw_dwarf.specs.ConvertedEntries.{attribute_of}
use Rattle.dw_dwarf.proofs.convert.entry.fill.Goals as goal

pub set_attributes-requires-clause-none : goal.set_attributes-requires-clause-none
set_attributes-requires-clause-none c =
    let a = c.get_mut-entry.ensures in
    let b = c.set_sibling.ensures in
    let old = c.get_mut-entry.result in
    let k = c.set_sibling.new.self.index in
    ap (λ (u : UnitValue). (entry_at u.entries k).attributes) b.unit
    ∙ seen_kept (λ (e : EntryValue). e.attributes) old.index (with_sibling c.args.sibling) old.unit.now.entries (λ e. refl) k
    ∙ ap (λ (u : UnitValue). (entry_at u.entries k).attributes) a.unit
    ∙ ap (λ (i : ℕ). (entry_at c.args.unit.now.entries i).attributes) (b.index ∙ a.index)
    ∙ c.requires.none

pub returns-clause-ok : goal.returns-clause-ok
returns-clause-ok c =
    let a = c.get_mut-entry.ensures in
    let b = c.set_sibling.ensures in
    ok_moved c.set_attributes.result _ c.set_attributes.new.entry.unit.now _ (search rules)
    (contents_set c.set_attributes.result c.args.unit.now c.set_sibling.new.self.unit.now c.set_attributes.new.entry.unit.now c.set_sibling.new.self.index c.args.id.0 c.args.sibling (map attribute_of c.args.attributes.items) (b.index ∙ a.index)
    (b.unit ∙ ap (λ (u : UnitValue). with_entry u c.get_mut-entry.result.index (with_sibling c.args.sibling)) a.unit ∙ ap (λ (i : ℕ). with_entry c.args.unit.now i (with_sibling c.args.sibling)) a.index)
    c.set_attributes.ensures.ok)
