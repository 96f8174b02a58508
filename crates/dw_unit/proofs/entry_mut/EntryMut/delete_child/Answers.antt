use Rattle.std.proofs.Common.{◌∙◌, ap, length, arith}
use Rattle.dw_unit.proofs.entry_mut.EntryMut.delete_child.Goals as goal

pub invariant_of-self : goal.invariant_of-self
invariant_of-self c =
    record { within = omega (arith, c.args.self.now.within, c.delete_child.ensures.count, ap (λ u. length u.entries) c.unit.view_is) }

pub returns-clause-count : goal.returns-clause-count
returns-clause-count c = c.delete_child.ensures.count ∙ ap (λ u. length u.entries) c.unit.view_is
