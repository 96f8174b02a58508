-- What the calls do to the known entries and to their edges.
use Rattle.std.proofs.Common.{◌≡◌, ◌∙◌, sym, ap, subst, ℕ, List, [], ◌∷◌, ◌++◌, Option, None, Some, IsSome, ◌⊎◌, inl, inr, ⊎_elim, ◌↔◌, arith}
use Rattle.std.specs.List.{Contains}
use Rattle.std.proofs.lemmas.Bool.{cases_eq}
use Rattle.std.proofs.lemmas.List.Elements.{Contains-append_left, Contains-push, Contains-push_cases}
use Rattle.dw_base.specs.declared.offsets.UnitSectionOffset.{UnitSectionOffset}
use Rattle.dw_filter.specs.Dependencies.{Targets, Known, Leads, KeptAmong, Dependencies, IsPut, targets}
use Rattle.dw_filter.proofs.Kept.{kept_alike}

-- the look-ups alone tell what is kept
pub kept_same : (s t : Targets) (required : List UnitSectionOffset) → ((q : ℕ) → s q ≡ t q) → (q : UnitSectionOffset) → KeptAmong s required q ↔ KeptAmong t required q
kept_same s t required same =
    kept_alike (Known s) (Known t) (Leads s) (Leads t) (Contains required) (Contains required)
    (λ q. (subst (λ (o : Option (List UnitSectionOffset)). IsSome o) (same q.0), subst (λ (o : Option (List UnitSectionOffset)). IsSome o) (sym (same q.0))))
    (λ p q. (λ l. (l.0, sym (same p.0) ∙ l.1, l.2), λ l. (l.0, same p.0 ∙ l.1, l.2)))
    (λ q. (λ h. h, λ h. h))

module _ (old new : Dependencies) where
  -- the edges once a new entry is put
  pub leads_new : (place : ℕ) (deps : List UnitSectionOffset) → targets old place ≡ None → IsPut old new place deps
      → (p q : UnitSectionOffset) → Leads (targets new) p q ↔ (Leads (targets old) p q ⊎ ((p.0 ≡ place) × Contains deps q))
  leads_new place deps absent put p q = ⊎_elim
      (λ same. let at_new : targets new p.0 ≡ Some deps = ap (targets new) same ∙ put.here in
      let at_old : targets old p.0 ≡ None = ap (targets old) same ∙ absent in (
        λ l. inr (same, (let e : l.0 ≡ deps = (let u = l.1 in cc) in subst (λ (xs : List UnitSectionOffset). Contains xs q) e l.2)),
        λ h. ⊎_elim (λ l. absurd (let u = l.1 in cc)) (λ h. (deps, at_new, h.1)) h,
      ))
      (λ apart. let at : targets new p.0 ≡ targets old p.0 = put.elsewhere p.0 apart in
      (λ l. inl (l.0, sym at ∙ l.1, l.2), λ h. ⊎_elim (λ l. (l.0, at ∙ l.1, l.2)) (λ h. absurd (apart h.0)) h))
      (cases_eq p.0 place)

  -- and once an edge is added
  pub leads_more : (place : ℕ) (leads : List UnitSectionOffset) (to : UnitSectionOffset) → targets old place ≡ Some leads → IsPut old new place (leads ++ to ∷ [])
      → (p q : UnitSectionOffset) → Leads (targets new) p q ↔ (Leads (targets old) p q ⊎ ((p.0 ≡ place) × (to ≡ q)))
  leads_more place leads to was put p q = ⊎_elim
      (λ same. let at_new : targets new p.0 ≡ Some (leads ++ to ∷ []) = ap (targets new) same ∙ put.here in
      let at_old : targets old p.0 ≡ Some leads = ap (targets old) same ∙ was in (
        λ l. let e : l.0 ≡ leads ++ to ∷ [] = (let u = l.1 in cc) in
            ⊎_elim (λ h. inl (leads, at_old, h)) (λ h. inr (same, h)) (Contains-push_cases leads to q (subst (λ (xs : List UnitSectionOffset). Contains xs q) e l.2)),
        λ h. ⊎_elim
            (λ l. (leads ++ to ∷ [], at_new, Contains-append_left leads (to ∷ []) q (let e : l.0 ≡ leads = (let u = l.1 in cc) in subst (λ (xs : List UnitSectionOffset). Contains xs q) e l.2)))
            (λ h. (leads ++ to ∷ [], at_new, subst (λ (x : UnitSectionOffset). Contains (leads ++ to ∷ []) x) h.1 (Contains-push leads to))) h,
      ))
      (λ apart. let at : targets new p.0 ≡ targets old p.0 = put.elsewhere p.0 apart in
      (λ l. inl (l.0, sym at ∙ l.1, l.2), λ h. ⊎_elim (λ l. (l.0, at ∙ l.1, l.2)) (λ h. absurd (apart h.0)) h))
      (cases_eq p.0 place)

  -- the known entries once a new entry is put
  pub known_new : (entry : UnitSectionOffset) (deps : List UnitSectionOffset) → IsPut old new entry.0 deps
      → (q : UnitSectionOffset) → Known (targets new) q ↔ (Known (targets old) q ⊎ (entry ≡ q))
  known_new entry deps put q = ⊎_elim
      (λ same. let at : targets new q.0 ≡ Some deps = ap (targets new) same ∙ put.here in (
        λ k. inr (sym (ap (λ (n : ℕ). let u : UnitSectionOffset = record { 0 = n } in u) same)),
        λ h. subst (λ (o : Option (List UnitSectionOffset)). IsSome o) (sym at) (search arith),
      ))
      (λ apart. let at : targets new q.0 ≡ targets old q.0 = put.elsewhere q.0 apart in (
        λ k. inl (subst (λ (o : Option (List UnitSectionOffset)). IsSome o) at k),
        λ h. ⊎_elim (λ k. subst (λ (o : Option (List UnitSectionOffset)). IsSome o) (sym at) k) (λ same. absurd (apart (ap (λ (u : UnitSectionOffset). u.0) (sym same)))) h,
      ))
      (cases_eq q.0 entry.0)

  -- an edge makes no entry known
  pub known_more : (place : ℕ) (leads more : List UnitSectionOffset) → targets old place ≡ Some leads → IsPut old new place more
      → (q : UnitSectionOffset) → Known (targets new) q ↔ Known (targets old) q
  known_more place leads more was put q = ⊎_elim
      (λ same. let at_new : targets new q.0 ≡ Some more = ap (targets new) same ∙ put.here in
      let at_old : targets old q.0 ≡ Some leads = ap (targets old) same ∙ was in (
        λ k. subst (λ (o : Option (List UnitSectionOffset)). IsSome o) (sym at_old) (search arith),
        λ k. subst (λ (o : Option (List UnitSectionOffset)). IsSome o) (sym at_new) (search arith),
      ))
      (λ apart. let at : targets new q.0 ≡ targets old q.0 = put.elsewhere q.0 apart in
      (subst (λ (o : Option (List UnitSectionOffset)). IsSome o) at, subst (λ (o : Option (List UnitSectionOffset)). IsSome o) (sym at)))
      (cases_eq q.0 place)
