use Rattle.std.proofs.Common.{◌∙◌, ap, length, arith}
use Rattle.dw_entries.specs.Entries.{with_changed, without_attribute}
use Rattle.dw_entries.proofs.ValueLaws.{value_of-without, value_of-without_other}
use Rattle.dw_unit.proofs.entry_mut.EntryMut.delete.Goals as goal

pub invariant_of-self : goal.invariant_of-self
invariant_of-self c =
    record { within = omega (arith, c.args.self.now.within, c.delete.ensures.count, ap (λ u. length u.entries) c.unit.view_is) }

pub returns-clause-gone : goal.returns-clause-gone
returns-clause-gone c =
    let h = c.args.self.now in
    let n = c.args.name.0 in
    value_of-without h.index h.unit.now.entries h.within n c.delete.new.self.entries (ap (λ u. u.entries) c.delete.ensures.entries ∙ ap (λ u. with_changed h.index (without_attribute n) u.entries) c.unit.view_is)

pub returns-clause-others : goal.returns-clause-others
returns-clause-others c =
    let h = c.args.self.now in
    let n = c.args.name.0 in
    value_of-without_other h.index h.unit.now.entries h.within n c.delete.new.self.entries (ap (λ u. u.entries) c.delete.ensures.entries ∙ ap (λ u. with_changed h.index (without_attribute n) u.entries) c.unit.view_is)

pub returns-clause-count : goal.returns-clause-count
returns-clause-count c = c.delete.ensures.count ∙ ap (λ u. length u.entries) c.unit.view_is
