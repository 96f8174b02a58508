use Rattle.std.proofs.Common.{subst, sym}
use Rattle.dw_entries.specs.Attributes.{HaveDistinctNames}
use Rattle.dw_entries.proofs.Named.{HaveDistinctNames-without}
use Rattle.dw_entries.proofs.attributes.Attributes.delete.Goals as goal

pub invariant_of-self : goal.invariant_of-self
invariant_of-self c =
    subst HaveDistinctNames (sym c.delete_in.ensures.items) (HaveDistinctNames-without c.args.name.0 c.self.inside.items.items c.self.invariant)
