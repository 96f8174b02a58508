use Rattle.std.proofs.Common.{sym, subst}
use Rattle.dw_entries.specs.Arena.{IsArena}
use Rattle.dw_entries.proofs.Arenas.{nothing-sound}
use Rattle.dw_entries.proofs.entries.Entries.free.Goals as goal

pub invariant_of-self : goal.invariant_of-self
invariant_of-self c = subst (λ es. IsArena es c.self.inside.reserved) (sym c.new.ensures.items) (nothing-sound c.self.inside.reserved)
