use Rattle.std.proofs.Common.{◌∙◌, refl, sym}
use Rattle.dw_entries.specs.Entries.{with_attributes}
use Rattle.dw_entries.proofs.Arenas.{sound_inner_at, unit_at, attributes_read}
use Rattle.dw_entries.proofs.entries.Entries.attributes_mut.Goals as goal

pub invariant_of-self-lent : goal.invariant_of-self-lent
invariant_of-self-lent c w =
    let entries = c.self.inside.entries in
    let e = c.index_mut-entry.result.now in
    sound_inner_at c.args.index entries.len _ _ e (with_attributes w e) c.self.view_is entries.ok.0 c.requires c.index_mut-entry.ensures.value (with_attributes w) (record { id = λ e. refl; parent = λ e. refl; tag = λ e. refl; children = λ e. refl }) refl c.self.invariant

pub returns : goal.returns
returns c =
    let entries = c.self.inside.entries in
    let e = c.index_mut-entry.result.now in
    let read = c.index_mut-entry.ensures.value in (
      (refl, λ w. unit_at c.args.index entries.len _ _ e (with_attributes w e) c.self.view_is entries.ok.0 c.requires read (with_attributes w) refl),
      record { writes_back = tt; value = c.attributes_mut.ensures.value ∙ sym (attributes_read c.args.index entries.len _ _ e e c.self.view_is entries.ok.0 c.requires read) },
    )
