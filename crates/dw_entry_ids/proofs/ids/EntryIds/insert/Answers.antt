use Rattle.std.proofs.Common.{◌∙◌, ◌==◌}
use Rattle.dw_entry_ids.specs.Ids.{ids_at}
use Rattle.dw_entry_ids.proofs.Steps.{chosen}
use Rattle.dw_entry_ids.proofs.ids.EntryIds.insert.Goals as goal

pub returns-clause-ok : goal.returns-clause-ok
returns-clause-ok c = λ p. c.in_ok-insert.ensures.updates.0 (record { 0 = p }) ∙ chosen (c.args.place.0 == p) c.args.id (ids_at c.args.self.now p)
