use Rattle.std.proofs.Common.{refl}
use Rattle.dw_entries.specs.Entries.{with_attribute}
use Rattle.std.proofs.lemmas.Result.{on_ok_weaker, on_err_weaker}
use Rattle.dw_entries.proofs.Arenas.{sound_either, unit_at, unit_same}
use Rattle.dw_entries.proofs.entries.Entries.push.Goals as goal

pub invariant_of-self : goal.invariant_of-self
invariant_of-self c =
    let f = with_attribute c.args.name.0 c.args.value in
    sound_either c.args.index c.self.inside.entries.len _ _ _ _ c.self.view_is c.self.inside.entries.ok.0 c.requires.index_in c.index_mut-entry.ensures.value c.push.result f (record { id = λ e. refl; parent = λ e. refl; tag = λ e. refl; children = λ e. refl }) c.push.ensures.ok c.push.ensures.kept c.self.invariant

pub returns-clause-ok : goal.returns-clause-ok
returns-clause-ok c =
    on_ok_weaker c.push.result (λ h. unit_at c.args.index c.self.inside.entries.len _ _ _ _ c.self.view_is c.self.inside.entries.ok.0 c.requires.index_in c.index_mut-entry.ensures.value (with_attribute c.args.name.0 c.args.value) h) c.push.ensures.ok

pub returns-clause-kept : goal.returns-clause-kept
returns-clause-kept c =
    on_err_weaker c.push.result (λ h. unit_same c.args.index c.self.inside.entries.len _ _ _ _ c.self.view_is c.self.inside.entries.ok.0 c.requires.index_in c.index_mut-entry.ensures.value h) c.push.ensures.kept
