use Rattle.std.proofs.Common.{[], ◌∷◌, ◌++◌, ℕ, List, Option, ap, sym, subst, refl, arith}
use Rattle.std.specs.Option.{option_map}
use Rattle.std.specs.Prelude.{nat_eq}
use Rattle.std.specs.List.{IsDistinct}
use Rattle.std.specs.declared.alloc.Global.{Global}
use Rattle.std.specs.declared.vec.Vec.{Vec}
use Rattle.dw_base.specs.declared.offsets.UnitSectionOffset.{UnitSectionOffset}
use Rattle.dw_filter.specs.Dependencies.{targets_at}
use Rattle.dw_filter.proofs.Ordered.{among_apart, among_here, contains_among, is_among, once_push, places}
use Rattle.dw_filter.proofs.Search.{Progress, finish, not_reached, skip, start, step}
use Rattle.dw_filter.proofs.Weights.{nat_eq-apart, nil_from_length, smaller}
use Rattle.dw_filter.proofs.reach.reach.Goals as goal

-- the plain list that a look-up found
abbrev plain : Option (Vec UnitSectionOffset Global) → Option (List UnitSectionOffset)
plain = option_map (λ v. v.items)

pub entries-init : goal.entries-init
unfolding IsDistinct
entries-init c = subst (λ (xs : List UnitSectionOffset). record {
  progress : Progress (targets_at c.args.edges.entries) c.args.pending.items (targets_at c.args.edges.entries) (is_among xs) c.args.pending.items;
  once : IsDistinct nat_eq (places xs);
}) (sym c.new-reached.ensures.items) (record { progress = start (targets_at c.args.edges.entries) c.args.pending.items (is_among []) (λ q. refl); once = tt })

pub entries-smaller-in-Some-remove : goal.entries-smaller-in-Some-remove
entries-smaller-in-Some-remove c =
    smaller c.entries.edges.entries c.remove.new.self.entries c.in-Some.entry.0 c.in-Some-remove.leads c.entries.pending.items c.pop.new.self.items c.append.new.self.items c.in-Some.entry
    c.in-Some-remove.ensures.entries c.in-Some-remove.ensures.value c.in-Some.ensures.items c.in_ok-append.ensures.items

pub entries-preserved-in-Some-remove : goal.entries-preserved-in-Some-remove
entries-preserved-in-Some-remove c =
    let entry = c.in-Some.entry in
    let t = targets_at c.args.edges.entries in
    let required = c.args.pending.items in
    let left = targets_at c.entries.edges.entries in
    let before = c.entries.reached.items in
    let w = c.entries.invariant in
    let is = ap plain (sym c.in-Some-remove.ensures.value) in
    subst (λ (xs : List UnitSectionOffset). record {
      progress : Progress t required (targets_at c.remove.new.self.entries) (is_among xs) c.append.new.self.items;
      once : IsDistinct nat_eq (places xs);
    }) (sym c.in_ok-push.ensures.items)
    (record {
      progress = subst (λ (xs : List UnitSectionOffset). Progress t required (targets_at c.remove.new.self.entries) (is_among (before ++ entry ∷ [])) xs) (sym c.in_ok-append.ensures.items)
          (step t required left (is_among before) c.entries.pending.items c.pop.new.self.items entry c.in-Some.ensures.items w.progress
          c.in-Some-remove.leads.items is
          (targets_at c.remove.new.self.entries) (is_among (before ++ entry ∷ []))
          (ap plain c.in-Some-remove.ensures.updates.1)
          (λ q apart. ap plain (c.in-Some-remove.ensures.updates.2 q (nat_eq-apart entry.0 q apart)))
          (among_here before entry)
          (λ q apart. among_apart before entry q (nat_eq-apart q entry.0 (λ e. apart (sym e)))));
      once = once_push before entry w.once (not_reached t required left (is_among before) c.entries.pending.items c.pop.new.self.items entry c.in-Some.ensures.items w.progress c.in-Some-remove.leads.items is);
    })

pub entries-preserved : goal.entries-preserved
entries-preserved c = record {
  progress = skip (targets_at c.args.edges.entries) c.args.pending.items (targets_at c.entries.edges.entries) (is_among c.entries.reached.items) c.entries.pending.items c.pop.new.self.items c.in-Some.entry c.in-Some.ensures.items c.entries.invariant.progress
      (ap plain (sym c.in_default-remove.ensures.value))
      (targets_at c.remove.new.self.entries)
      (λ q. ap (λ (m : List (ℕ × Vec UnitSectionOffset Global)). targets_at m q) c.in_default-remove.ensures.unchanged);
  once = c.entries.invariant.once;
}

pub returns-clause-ok : goal.returns-clause-ok
returns-clause-ok c =
    let t = targets_at c.args.edges.entries in
    let required = c.args.pending.items in
    let left = targets_at c.entries.edges.entries in
    let reached = c.entries.reached.items in
    let end = finish t required left (is_among reached)
    (subst (λ (xs : List UnitSectionOffset). Progress t required left (is_among reached) xs) (nil_from_length c.entries.pending.items (omega (arith, c.in_default.ensures.cases.0))) c.entries.invariant.progress) in
    λ q. (λ h. (end q).0 ((contains_among reached q).0 h), λ k. (contains_among reached q).1 ((end q).1 k))
