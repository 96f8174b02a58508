-- The search for the kept entries, step by step.
use Rattle.std.proofs.Common.{◌≡◌, ◌∙◌, sym, ap, subst, ℕ, zero, suc, Bool, true, false, List, [], ◌∷◌, ◌++◌, Option, None, Some, IsSome, ◌⊎◌, inl, inr, ⊎_elim, ◌↔◌, refl, arith}
use Rattle.std.specs.List.{Contains}
use Rattle.std.proofs.lemmas.List.Elements.{Contains-append_left, Contains-append_right, Contains-append_cases, Contains-push, Contains-push_cases}
use Rattle.std.proofs.lemmas.Bool.{cases_eq, cases_Bool}
use Rattle.dw_base.specs.declared.offsets.UnitSectionOffset.{UnitSectionOffset}
use Rattle.dw_filter.specs.Dependencies.{Targets, Known, Leads, KeptAmong}
use Rattle.dw_filter.specs.Kept.{Walk}

module _ (t : Targets) (required : List UnitSectionOffset) where
  -- what is known so far: `left` has the known entries that weren't reached, and `pending` the entries that are still to be looked at
  pub record Progress (left : Targets) (reached : ℕ → Bool) (pending : List UnitSectionOffset) : Type 0 where
    pub pending_kept : (q : UnitSectionOffset) → Contains pending q → IsSome (t q.0) → KeptAmong t required q
    pub reached_kept : (q : UnitSectionOffset) → reached q.0 ≡ true → KeptAmong t required q
    pub required_found : (q : UnitSectionOffset) → Contains required q → IsSome (t q.0) → (reached q.0 ≡ true) ⊎ Contains pending q
    pub targets_found : (p q : UnitSectionOffset) → reached p.0 ≡ true → Leads t p q → IsSome (t q.0) → (reached q.0 ≡ true) ⊎ Contains pending q
    pub reached_left : (q : ℕ) → reached q ≡ true → left q ≡ None
    pub other_left : (q : ℕ) → reached q ≡ false → left q ≡ t q

  pub start : (reached : ℕ → Bool) → ((q : ℕ) → reached q ≡ false) → Progress t reached required
  start reached none = record {
    pending_kept = λ q h k. (0, (h, k));
    reached_kept = λ q h. absurd (let e = none q.0 in cc);
    required_found = λ q h k. inr h;
    targets_found = λ p q h l k. absurd (let e = none p.0 in cc);
    reached_left = λ q h. absurd (let e = none q in cc);
    other_left = λ q h. refl;
  }

  -- the last of the pending entries is taken
  module _ (left : Targets) (reached : ℕ → Bool) (pending rest : List UnitSectionOffset) (x : UnitSectionOffset) (e : pending ≡ rest ++ x ∷ []) (p : Progress left reached pending) where
    -- where it is not left, what was found stays found without it
    still_found : left x.0 ≡ None → (q : UnitSectionOffset) → IsSome (t q.0) → (reached q.0 ≡ true) ⊎ Contains pending q → (reached q.0 ≡ true) ⊎ Contains rest q
    still_found gone q known found =
        ⊎_elim inl
        (λ h. ⊎_elim inr
        (λ same. ⊎_elim inl
        (λ no. absurd (let a = p.other_left q.0 no in let b : left q.0 ≡ None = ap (λ (u : UnitSectionOffset). left u.0) (sym same) ∙ gone in let c : t q.0 ≡ None = sym a ∙ b in let k = subst (λ (o : Option (List UnitSectionOffset)). IsSome o) c known in search arith))
        (cases_Bool (reached q.0)))
        (Contains-push_cases rest x q (subst (λ (xs : List UnitSectionOffset). Contains xs q) e h)))
        found

    -- where it is left, it wasn't reached
    pub not_reached : (leads : List UnitSectionOffset) → left x.0 ≡ Some leads → reached x.0 ≡ false
    not_reached leads is = ⊎_elim (λ yes. absurd (let n = p.reached_left x.0 yes in cc)) (λ no. no) (cases_Bool (reached x.0))

    -- it was reached before, or isn't known
    pub skip : left x.0 ≡ None → (left' : Targets) → ((q : ℕ) → left' q ≡ left q) → Progress left' reached rest
    skip gone left' same = record {
      pending_kept = λ q h k. p.pending_kept q (subst (λ (xs : List UnitSectionOffset). Contains xs q) (sym e) (Contains-append_left rest (x ∷ []) q h)) k;
      reached_kept = p.reached_kept;
      required_found = λ q h k. still_found gone q k (p.required_found q h k);
      targets_found = λ a q h l k. still_found gone q k (p.targets_found a q h l k);
      reached_left = λ q h. same q ∙ p.reached_left q h;
      other_left = λ q h. same q ∙ p.other_left q h;
    }

    -- it is reached now, and leads to these entries
    module _ (leads : List UnitSectionOffset) (is : left x.0 ≡ Some leads) (left' : Targets) (reached' : ℕ → Bool)
        (gone : left' x.0 ≡ None) (others : (q : ℕ) → (q ≡ x.0 → ⊥) → left' q ≡ left q)
        (here : reached' x.0 ≡ true) (elsewhere : (q : ℕ) → (q ≡ x.0 → ⊥) → reached' q ≡ reached q) where
      -- what was found stays found
      then_found : (q : UnitSectionOffset) → (reached q.0 ≡ true) ⊎ Contains pending q → (reached' q.0 ≡ true) ⊎ Contains (rest ++ leads) q
      then_found q found =
          ⊎_elim
          (λ h. ⊎_elim (λ same. inl (ap reached' same ∙ here)) (λ apart. inl (elsewhere q.0 apart ∙ h)) (cases_eq q.0 x.0))
          (λ h. ⊎_elim
          (λ r. inr (Contains-append_left rest leads q r))
          (λ same. inl (ap (λ (u : UnitSectionOffset). reached' u.0) (sym same) ∙ here))
          (Contains-push_cases rest x q (subst (λ (xs : List UnitSectionOffset). Contains xs q) e h)))
          found

      pub step : Progress left' reached' (rest ++ leads)
      step =
          let new = not_reached leads is in
          let targets : t x.0 ≡ Some leads = sym (p.other_left x.0 new) ∙ is in
          let known : IsSome (t x.0) = subst (λ (o : Option (List UnitSectionOffset)). IsSome o) (sym targets) (search arith) in
          let kept : KeptAmong t required x = p.pending_kept x (subst (λ (xs : List UnitSectionOffset). Contains xs x) (sym e) (Contains-push rest x)) known in
          record {
            pending_kept = λ q h k. ⊎_elim
                (λ r. p.pending_kept q (subst (λ (xs : List UnitSectionOffset). Contains xs q) (sym e) (Contains-append_left rest (x ∷ []) q r)) k)
                (λ r. (suc kept.0, (x, kept.1, (leads, targets, r), k)))
                (Contains-append_cases rest leads q h);
            reached_kept = λ q h. ⊎_elim
                (λ same. subst (λ (n : ℕ). KeptAmong t required (record { 0 = n })) (sym same) kept)
                (λ apart. p.reached_kept q (sym (elsewhere q.0 apart) ∙ h))
                (cases_eq q.0 x.0);
            required_found = λ q h k. then_found q (p.required_found q h k);
            targets_found = λ a q h l k. ⊎_elim
                (λ same. inr (Contains-append_right rest leads q (let m : l.0 ≡ leads = (let u = l.1 in let v = ap t same in cc) in subst (λ (xs : List UnitSectionOffset). Contains xs q) m l.2)))
                (λ apart. then_found q (p.targets_found a q (sym (elsewhere a.0 apart) ∙ h) l k))
                (cases_eq a.0 x.0);
            reached_left = λ q h. ⊎_elim
                (λ same. ap left' same ∙ gone)
                (λ apart. others q apart ∙ p.reached_left q (sym (elsewhere q apart) ∙ h))
                (cases_eq q x.0);
            other_left = λ q h. ⊎_elim
                (λ same. absurd (let a = ap reached' same in cc))
                (λ apart. others q apart ∙ p.other_left q (sym (elsewhere q apart) ∙ h))
                (cases_eq q x.0);
          }

  -- no entry is pending any more
  module _ (left : Targets) (reached : ℕ → Bool) (p : Progress left reached []) where
    -- each walk ends at a reached entry
    walk_reached : (n : ℕ) (q : UnitSectionOffset) → Walk (Known t) (Leads t) (Contains required) n q → reached q.0 ≡ true
    walk_reached zero q w = ⊎_elim (λ h. h) (λ h. absurd (omega (arith, h.1))) (p.required_found q w.0 w.1)
    walk_reached (suc n) q w = ⊎_elim (λ h. h) (λ h. absurd (omega (arith, h.1))) (p.targets_found w.0 q (walk_reached n w.0 w.1) w.2 w.3)

    pub finish : (q : UnitSectionOffset) → (reached q.0 ≡ true) ↔ KeptAmong t required q
    finish q = (p.reached_kept q, λ k. walk_reached k.0 q k.1)
