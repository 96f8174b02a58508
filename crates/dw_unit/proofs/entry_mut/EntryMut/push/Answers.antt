use Rattle.std.proofs.Common.{◌∙◌, ap, length, arith}
use Rattle.dw_entries.proofs.Named.{past_sibling}
use Rattle.dw_unit.proofs.entry_mut.EntryMut.push.Goals as goal

pub push-requires-clause-named : goal.push-requires-clause-named
push-requires-clause-named c = past_sibling c.args.name c.requires.named c.requires.not_sibling

pub invariant_of-self : goal.invariant_of-self
invariant_of-self c =
    record { within = omega (arith, c.args.self.now.within, c.push.ensures.count, ap (λ u. length u.entries) c.unit.view_is) }

pub returns-clause-count : goal.returns-clause-count
returns-clause-count c = c.push.ensures.count ∙ ap (λ u. length u.entries) c.unit.view_is
