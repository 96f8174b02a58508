use Rattle.dw_entries.specs.Entries.{without_child}
use Rattle.dw_entries.proofs.Arenas.{sound_without_at, unit_at}
use Rattle.dw_entries.proofs.entries.Entries.delete_child.Goals as goal

pub invariant_of-self : goal.invariant_of-self
invariant_of-self c =
    sound_without_at c.args.index c.self.inside.entries.len _ _ _ _ c.self.view_is c.self.inside.entries.ok.0 c.requires c.index_mut-entry.ensures.value c.args.id.0 c.delete_child.ensures c.self.invariant

pub returns-clause-entries : goal.returns-clause-entries
returns-clause-entries c =
    unit_at c.args.index c.self.inside.entries.len _ _ _ _ c.self.view_is c.self.inside.entries.ok.0 c.requires c.index_mut-entry.ensures.value (without_child c.args.id.0) c.delete_child.ensures
