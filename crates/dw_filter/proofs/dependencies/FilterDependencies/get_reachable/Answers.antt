use Rattle.std.proofs.Common.{◌≡◌, ℕ, List, ◌↔◌, subst, rules}
use Rattle.std.specs.List.{Contains}
use Rattle.std.specs.List.Sorted.{IsPermutation}
use Rattle.std.specs.Map.{lookup}
use Rattle.std.specs.Prelude.{nat_eq}
use Rattle.std.specs.declared.alloc.Global.{Global}
use Rattle.std.specs.declared.vec.Vec.{Vec}
use Rattle.std.proofs.lemmas.List.Sorted.{Contains-permutation, IsNonDecreasingBy-from_sort_by_key, IsPermutation-sym}
use Rattle.dw_base.specs.declared.offsets.UnitSectionOffset.{UnitSectionOffset}
use Rattle.dw_filter.specs.Dependencies.{Dependencies, targets, targets_at, known_of, Known, Leads, Kept, KeptAmong}
use Rattle.dw_filter.proofs.Edges.{kept_same}
use Rattle.dw_filter.proofs.Kept.{kept_least}
use Rattle.dw_filter.proofs.Ordered.{rise}
use Rattle.dw_filter.proofs.Views.{lookup_plain}
use Rattle.dw_filter.proofs.dependencies.FilterDependencies.get_reachable.Goals as goal

pub returns-clause-sorted : goal.returns-clause-sorted
returns-clause-sorted c =
    rise c.in_ok-reached.reached.items c.sort_unstable_by_key.new.self.items c.in_ok-reached.ensures.once c.sort_unstable_by_key.ensures.permutation
    (IsNonDecreasingBy-from_sort_by_key (λ (e : UnitSectionOffset). e.0) _ c.sort_unstable_by_key.ensures.sorted (λ a r q k. search rules))

-- the entries that were reached, in any order, are those that are kept
kept_at : (d : Dependencies) (entries : List (ℕ × Vec UnitSectionOffset Global)) (required reached items : List UnitSectionOffset)
    → record { known = known_of entries; required = required } ≡ d
    → ((q : UnitSectionOffset) → Contains reached q ↔ KeptAmong (targets_at entries) required q)
    → IsPermutation reached items → (q : UnitSectionOffset) → Contains items q ↔ Kept d q
kept_at d entries required reached items view found moved q =
    let alike = kept_same (λ p. lookup (nat_eq p) (known_of entries)) (targets_at entries) required (λ p. lookup_plain entries p) q in
    let there = found q in
    let walks = subst (λ (d : Dependencies). Contains reached q ↔ Kept d q) view (λ h. alike.1 (there.0 h), λ k. there.1 (alike.0 k)) in
    (λ h. walks.0 (Contains-permutation items reached q (IsPermutation-sym reached items moved) h), λ k. Contains-permutation reached items q moved (walks.1 k))

pub returns-clause-kept : goal.returns-clause-kept
returns-clause-kept c =
    kept_at c.args.self c.self.inside.edges.entries c.self.inside.required.items c.in_ok-reached.reached.items c.sort_unstable_by_key.new.self.items c.self.view_is c.in_ok-reached.ensures.ok c.sort_unstable_by_key.ensures.permutation

pub returns-clause-least : goal.returns-clause-least
returns-clause-least c =
    kept_least (Known (targets c.args.self)) (Leads (targets c.args.self)) (Contains c.args.self.required) (Contains c.sort_unstable_by_key.new.self.items)
    (kept_at c.args.self c.self.inside.edges.entries c.self.inside.required.items c.in_ok-reached.reached.items c.sort_unstable_by_key.new.self.items c.self.view_is c.in_ok-reached.ensures.ok c.sort_unstable_by_key.ensures.permutation)
