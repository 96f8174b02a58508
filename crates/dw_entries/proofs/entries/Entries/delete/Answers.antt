use Rattle.std.proofs.Common.{refl}
use Rattle.dw_entries.specs.Entries.{without_attribute}
use Rattle.dw_entries.proofs.Arenas.{sound_inner_at, unit_at}
use Rattle.dw_entries.proofs.entries.Entries.delete.Goals as goal

pub invariant_of-self : goal.invariant_of-self
invariant_of-self c =
    sound_inner_at c.args.index c.self.inside.entries.len _ _ _ _ c.self.view_is c.self.inside.entries.ok.0 c.requires c.index_mut-entry.ensures.value (without_attribute c.args.name.0) (record { id = λ e. refl; parent = λ e. refl; tag = λ e. refl; children = λ e. refl }) c.delete.ensures c.self.invariant

pub returns-clause-entries : goal.returns-clause-entries
returns-clause-entries c =
    unit_at c.args.index c.self.inside.entries.len _ _ _ _ c.self.view_is c.self.inside.entries.ok.0 c.requires c.index_mut-entry.ensures.value (without_attribute c.args.name.0) c.delete.ensures
