use Rattle.std.proofs.Common.{refl}
use Rattle.dw_entries.specs.Entries.{with_sibling}
use Rattle.dw_entries.proofs.Arenas.{sound_inner_at, unit_at}
use Rattle.dw_entries.proofs.entries.Entries.set_sibling.Goals as goal

pub invariant_of-self : goal.invariant_of-self
invariant_of-self c =
    sound_inner_at c.args.index c.self.inside.entries.len _ _ _ _ c.self.view_is c.self.inside.entries.ok.0 c.requires c.index_mut-entry.ensures.value (with_sibling c.args.sibling) (record { parent = λ e. refl; tag = λ e. refl; children = λ e. refl; id = λ e. refl }) c.set_sibling.ensures c.self.invariant

pub returns-clause-entries : goal.returns-clause-entries
returns-clause-entries c =
    unit_at c.args.index c.self.inside.entries.len _ _ _ _ c.self.view_is c.self.inside.entries.ok.0 c.requires c.index_mut-entry.ensures.value (with_sibling c.args.sibling) c.set_sibling.ensures
