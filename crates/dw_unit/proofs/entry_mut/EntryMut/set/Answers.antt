use Rattle.std.proofs.Common.{◌∙◌, ap, length, arith}
use Rattle.std.proofs.lemmas.Result.{on_ok_weaker, on_err_weaker}
use Rattle.dw_entries.specs.Entries.{with_changed, with_attribute}
use Rattle.dw_entries.proofs.Named.{past_sibling}
use Rattle.dw_entries.proofs.ValueLaws.{value_of-set, value_of-other}
use Rattle.dw_unit.proofs.entry_mut.EntryMut.set.Goals as goal

pub set-requires-clause-named : goal.set-requires-clause-named
set-requires-clause-named c = past_sibling c.args.name c.requires.named c.requires.not_sibling

pub invariant_of-self : goal.invariant_of-self
invariant_of-self c =
    record { within = omega (arith, c.args.self.now.within, c.set.ensures.count, ap (λ u. length u.entries) c.unit.view_is) }

pub returns-clause-stored : goal.returns-clause-stored
returns-clause-stored c =
    let h = c.args.self.now in
    let n = c.args.name.0 in
    on_ok_weaker c.set.result (λ e. value_of-set h.index h.unit.now.entries h.within n c.args.value c.set.new.self.entries (ap (λ u. u.entries) e ∙ ap (λ u. with_changed h.index (with_attribute n c.args.value) u.entries) c.unit.view_is)) c.set.ensures.ok

pub returns-clause-others : goal.returns-clause-others
returns-clause-others c =
    let h = c.args.self.now in
    let n = c.args.name.0 in
    let r = c.set.result in
    value_of-other h.index h.unit.now.entries h.within r n c.args.value c.set.new.self.entries (on_ok_weaker r (λ e. ap (λ u. u.entries) e ∙ ap (λ u. with_changed h.index (with_attribute n c.args.value) u.entries) c.unit.view_is) c.set.ensures.ok) (on_err_weaker r (λ e. ap (λ u. u.entries) e ∙ ap (λ u. u.entries) c.unit.view_is) c.set.ensures.kept)

pub returns-clause-count : goal.returns-clause-count
returns-clause-count c = c.set.ensures.count ∙ ap (λ u. length u.entries) c.unit.view_is
