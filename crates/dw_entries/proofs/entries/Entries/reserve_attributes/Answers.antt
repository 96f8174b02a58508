use Rattle.dw_entries.proofs.Arenas.{sound_same, unit_same}
use Rattle.dw_entries.proofs.entries.Entries.reserve_attributes.Goals as goal

pub invariant_of-self : goal.invariant_of-self
invariant_of-self c =
    sound_same c.args.index c.self.inside.entries.len _ _ _ _ c.self.view_is c.self.inside.entries.ok.0 c.requires c.index_mut-entry.ensures.value c.reserve.ensures.same c.self.invariant

pub returns-clause-same : goal.returns-clause-same
returns-clause-same c =
    unit_same c.args.index c.self.inside.entries.len _ _ _ _ c.self.view_is c.self.inside.entries.ok.0 c.requires c.index_mut-entry.ensures.value c.reserve.ensures.same
