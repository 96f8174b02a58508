use Rattle.std.proofs.Common.{◌∙◌, ap, length, arith}
use Rattle.dw_unit.proofs.entry_mut.EntryMut.set_sibling.Goals as goal

pub invariant_of-self : goal.invariant_of-self
invariant_of-self c =
    record { within = omega (arith, c.args.self.now.within, c.set_sibling.ensures.count, ap (λ u. length u.entries) c.unit.view_is) }

pub returns-clause-count : goal.returns-clause-count
returns-clause-count c = c.set_sibling.ensures.count ∙ ap (λ u. length u.entries) c.unit.view_is
