-- What the calls do to the known entries and to their edges, as more of both.
use Rattle.std.proofs.Common.{◌≡◌, ◌∙◌, sym, ap, subst, ℕ, List, [], ◌∷◌, ◌++◌, Option, None, Some, IsSome, Result, Ok, Err, OnOk, Bool, true, false, not, ◌⊎◌, inl, inr, ⊎_elim, ◌↔◌, refl, arith}
use Rattle.std.specs.List.{Contains}
use Rattle.std.specs.Option.{is_some}
use Rattle.std.proofs.lemmas.Bool.{cases_eq}
use Rattle.std.proofs.lemmas.List.Elements.{Contains-append_left, Contains-push, Contains-push_cases}
use Rattle.dw_base.specs.declared.offsets.UnitSectionOffset.{UnitSectionOffset}
use Rattle.dw_filter.specs.Dependencies.{Dependencies, IsPut, Known, targets}
use Rattle.dw_filter.specs.Links.{Adds, Grows}
use Rattle.dw_filter.specs.declared.links.Links.{Links}
use Rattle.dw_filter.proofs.Edges.{known_more, known_new, leads_more, leads_new}

pub same_place : (a b : UnitSectionOffset) → a.0 ≡ b.0 → a ≡ b
same_place a b same = ap (λ (n : ℕ). let u : UnitSectionOffset = record { 0 = n } in u) same

pub some_of : {X : Type 0} (o : Option X) → IsSome o → (x : X) × (o ≡ Some x)
some_of None h = absurd (cc)
some_of (Some x) h = (x, refl)

pub none_of : {X : Type 0} (o : Option X) → is_some o ≡ false → o ≡ None
none_of None h = refl
none_of (Some x) h = absurd (cc)

pub on_ok : {T E : Type 0} (r : Result T E) (P Q : Type 0) → (P → Q) → OnOk r P → OnOk r Q
on_ok (Ok x) P Q f h = f h
on_ok (Err e) P Q f h = h

pub then_ok : {T E : Type 0} (r : Result T E) (P : Type 0) → P → OnOk r P
then_ok (Ok x) P h = h
then_ok (Err e) P h = tt

pub not_true : (b : Bool) → not b ≡ true → b ≡ false
not_true true h = absurd (cc)
not_true false h = refl

pub not_false : (b : Bool) → not b ≡ false → b ≡ true
not_false true h = refl
not_false false h = absurd (cc)

none_in : {X : Type 0} (x : X) → Contains [] x → ⊥
none_in x h = omega (arith, h.1)

module _ (old new : Dependencies) (known known' : UnitSectionOffset → Type 0) (edge edge' : UnitSectionOffset → UnitSectionOffset → Type 0) where
  -- the same more, in other words
  pub grows_as : Grows old new known edge → ((q : UnitSectionOffset) → known q ↔ known' q) → ((p q : UnitSectionOffset) → edge p q ↔ edge' p q) → Grows old new known' edge'
  grows_as g k e = record {
    known = λ q. (λ h. ⊎_elim (λ h. inl h) (λ h. inr ((k q).0 h)) ((g.known q).0 h), λ h. (g.known q).1 (⊎_elim (λ h. inl h) (λ h. inr ((k q).1 h)) h));
    leads = λ p q. (λ h. ⊎_elim (λ h. inl h) (λ h. inr ((e p q).0 h)) ((g.leads p q).0 h), λ h. (g.leads p q).1 (⊎_elim (λ h. inl h) (λ h. inr ((e p q).1 h)) h));
    required = g.required;
  }

-- one after the other
pub grows_both : (old mid new : Dependencies) (known known' : UnitSectionOffset → Type 0) (edge edge' : UnitSectionOffset → UnitSectionOffset → Type 0) → Grows old mid known edge → Grows mid new known' edge'
    → Grows old new (λ q. known q ⊎ known' q) (λ p q. edge p q ⊎ edge' p q)
grows_both old mid new known known' edge edge' g h = record {
  known = λ q. (
    λ k. ⊎_elim (λ k. ⊎_elim (λ k. inl k) (λ k. inr (inl k)) ((g.known q).0 k)) (λ k. inr (inr k)) ((h.known q).0 k),
    λ k. (h.known q).1 (⊎_elim (λ k. inl ((g.known q).1 (inl k))) (λ k. ⊎_elim (λ k. inl ((g.known q).1 (inr k))) (λ k. inr k) k) k),
  );
  leads = λ p q. (
    λ k. ⊎_elim (λ k. ⊎_elim (λ k. inl k) (λ k. inr (inl k)) ((g.leads p q).0 k)) (λ k. inr (inr k)) ((h.leads p q).0 k),
    λ k. (h.leads p q).1 (⊎_elim (λ k. inl ((g.leads p q).1 (inl k))) (λ k. ⊎_elim (λ k. inl ((g.leads p q).1 (inr k))) (λ k. inr k) k) k),
  );
  required = h.required ∙ g.required;
}

-- an entry is put that wasn't known
pub entry_put : (old new : Dependencies) (place : UnitSectionOffset) (deps : List UnitSectionOffset) → targets old place.0 ≡ None → IsPut old new place.0 deps
    → Grows old new (λ q. place ≡ q) (λ p q. (p ≡ place) × Contains deps q)
entry_put old new place deps absent put = record {
  known = known_new old new place deps put;
  leads = λ p q. let l = leads_new old new place.0 deps absent put p q in (
    λ h. ⊎_elim (λ h. inl h) (λ h. inr (same_place p place h.0, h.1)) (l.0 h),
    λ h. l.1 (⊎_elim (λ h. inl h) (λ (h : (p ≡ place) × Contains deps q). inr (ap (λ (u : UnitSectionOffset). u.0) h.0, h.1)) h),
  );
  required = put.required;
}

-- an entry is put that was known, and then led to where it led before
pub entry_joined : (old mid new : Dependencies) (place : UnitSectionOffset) (deps earlier : List UnitSectionOffset) → targets old place.0 ≡ Some earlier → IsPut old mid place.0 deps
    → Grows mid new (λ q. place ≡ q) (λ p q. (p ≡ place) × Contains earlier q) → Grows old new (λ q. place ≡ q) (λ p q. (p ≡ place) × Contains deps q)
entry_joined old mid new place deps earlier was put g = record {
  known = λ q. let k = known_new old mid place deps put q in (
    λ h. ⊎_elim (λ h. k.0 h) (λ h. inr h) ((g.known q).0 h),
    λ h. (g.known q).1 (inl (k.1 h)),
  );
  leads = λ p q. ⊎_elim
      (λ same. let at_mid : targets mid p.0 ≡ Some deps = ap (targets mid) same ∙ put.here in
      let at_old : targets old p.0 ≡ Some earlier = ap (targets old) same ∙ was in (
        λ h. ⊎_elim
            (λ l. inr (same_place p place same, (let e : l.0 ≡ deps = (let u = l.1 in cc) in subst (λ (xs : List UnitSectionOffset). Contains xs q) e l.2)))
            (λ (c : (p ≡ place) × Contains earlier q). inl (earlier, at_old, c.1)) ((g.leads p q).0 h),
        λ h. (g.leads p q).1 (⊎_elim
            (λ l. inr (same_place p place same, (let e : l.0 ≡ earlier = (let u = l.1 in cc) in subst (λ (xs : List UnitSectionOffset). Contains xs q) e l.2)))
            (λ (c : (p ≡ place) × Contains deps q). inl (deps, at_mid, c.1)) h),
      ))
      (λ apart. let at : targets mid p.0 ≡ targets old p.0 = put.elsewhere p.0 apart in (
        λ h. ⊎_elim
            (λ l. inl (l.0, sym at ∙ l.1, l.2))
            (λ (c : (p ≡ place) × Contains earlier q). absurd (apart (ap (λ (u : UnitSectionOffset). u.0) c.0))) ((g.leads p q).0 h),
        λ h. (g.leads p q).1 (⊎_elim
            (λ l. inl (l.0, at ∙ l.1, l.2))
            (λ (c : (p ≡ place) × Contains deps q). absurd (apart (ap (λ (u : UnitSectionOffset). u.0) c.0))) h),
      ))
      (cases_eq p.0 place.0);
  required = g.required ∙ put.required;
}

-- an edge is added
pub edge_put : (old new : Dependencies) (place to : UnitSectionOffset) → Known (targets old) place → ((leads : List UnitSectionOffset) → targets old place.0 ≡ Some leads → IsPut old new place.0 (leads ++ to ∷ []))
    → Grows old new (λ q. ⊥) (λ p q. (p ≡ place) × (to ≡ q))
edge_put old new place to known put =
    let s = some_of (targets old place.0) known in
    let is = put s.0 s.1 in
    record {
      known = λ q. let k = known_more old new place.0 s.0 (s.0 ++ to ∷ []) s.1 is q in (λ h. inl (k.0 h), λ h. k.1 (⊎_elim (λ h. h) (λ h. absurd h) h));
      leads = λ p q. let l = leads_more old new place.0 s.0 to s.1 is p q in (
        λ h. ⊎_elim (λ h. inl h) (λ h. inr (same_place p place h.0, h.1)) (l.0 h),
        λ h. l.1 (⊎_elim (λ h. inl h) (λ (h : (p ≡ place) × (to ≡ q)). inr (ap (λ (u : UnitSectionOffset). u.0) h.0, h.1)) h),
      );
      required = is.required;
    }

-- edges from a known entry, one after the other
pub edges_none : (d : Dependencies) (place : UnitSectionOffset) → Known (targets d) place → Grows d d (λ q. place ≡ q) (λ p q. (p ≡ place) × Contains [] q)
edges_none d place known = record {
  known = λ q. (λ k. inl k, λ h. ⊎_elim (λ k. k) (λ (e : place ≡ q). subst (λ (x : UnitSectionOffset). Known (targets d) x) e known) h);
  leads = λ p q. (λ k. inl k, λ h. ⊎_elim (λ k. k) (λ (k : (p ≡ place) × Contains [] q). absurd (none_in q k.1)) h);
  required = refl;
}

pub edges_more : (old now new : Dependencies) (place to : UnitSectionOffset) (xs : List UnitSectionOffset) → Grows old now (λ q. place ≡ q) (λ p q. (p ≡ place) × Contains xs q) → Known (targets now) place
    → ((leads : List UnitSectionOffset) → targets now place.0 ≡ Some leads → IsPut now new place.0 (leads ++ to ∷ []))
    → Grows old new (λ q. place ≡ q) (λ p q. (p ≡ place) × Contains (xs ++ to ∷ []) q)
edges_more old now new place to xs g known put =
    grows_as old new (λ q. (place ≡ q) ⊎ ⊥) (λ q. place ≡ q) (λ p q. ((p ≡ place) × Contains xs q) ⊎ ((p ≡ place) × (to ≡ q))) (λ p q. (p ≡ place) × Contains (xs ++ to ∷ []) q)
    (grows_both old now new (λ q. place ≡ q) (λ q. ⊥) (λ p q. (p ≡ place) × Contains xs q) (λ p q. (p ≡ place) × (to ≡ q)) g (edge_put now new place to known put))
    (λ q. (λ h. ⊎_elim (λ h. h) (λ h. absurd h) h, λ h. inl h))
    (λ p q. (
      λ h. ⊎_elim (λ (h : (p ≡ place) × Contains xs q). (h.0, Contains-append_left xs (to ∷ []) q h.1)) (λ (h : (p ≡ place) × (to ≡ q)). (h.0, subst (λ (x : UnitSectionOffset). Contains (xs ++ to ∷ []) x) h.1 (Contains-push xs to))) h,
      λ h. ⊎_elim (λ c. inl (h.0, c)) (λ e. inr (h.0, e)) (Contains-push_cases xs to q h.1),
    ))

-- the new entry itself is known
pub is_known_then : (old new : Dependencies) (known : UnitSectionOffset → Type 0) (edge : UnitSectionOffset → UnitSectionOffset → Type 0) (q : UnitSectionOffset) → Grows old new known edge → Known (targets old) q → Known (targets new) q
is_known_then old new known edge q g k = (g.known q).1 (inl k)

-- ---- the links of an entry
module _ (l : Links) where
  pub adds_alone : l.parent ≡ None → (p q : UnitSectionOffset) → ((p ≡ l.place) × Contains l.named.items q) ↔ Adds l p q
  adds_alone none p q = (
    λ h. inl (sym h.0, inr h.1),
    λ h. ⊎_elim
        (λ (h : (l.place ≡ p) × ((l.parent ≡ Some q) ⊎ Contains l.named.items q)). (sym h.0, ⊎_elim (λ (e : l.parent ≡ Some q). absurd (cc)) (λ c. c) h.1))
        (λ (h : (l.is_led_to ≡ true) × (l.parent ≡ Some p) × (l.place ≡ q)). absurd (let e = h.1 in cc)) h,
  )

  module _ (parent : UnitSectionOffset) (some : l.parent ≡ Some parent) where
    abbrev Own : UnitSectionOffset → UnitSectionOffset → Type 0
    Own p q = (p ≡ l.place) × Contains (l.named.items ++ parent ∷ []) q

    own_adds : (p q : UnitSectionOffset) → Own p q → Adds l p q
    own_adds p q h = inl (sym h.0, ⊎_elim (λ c. inr c) (λ (e : parent ≡ q). inl (some ∙ ap (λ (u : UnitSectionOffset). Some u) e)) (Contains-push_cases l.named.items parent q h.1))

    same_parent : (q : UnitSectionOffset) → l.parent ≡ Some q → parent ≡ q
    same_parent q e = let s = some in cc

    adds_own : (p q : UnitSectionOffset) → (l.place ≡ p) × ((l.parent ≡ Some q) ⊎ Contains l.named.items q) → Own p q
    adds_own p q h = (sym h.0, ⊎_elim (λ (e : l.parent ≡ Some q). subst (λ (x : UnitSectionOffset). Contains (l.named.items ++ parent ∷ []) x) (same_parent q e) (Contains-push l.named.items parent)) (λ c. Contains-append_left l.named.items (parent ∷ []) q c) h.1)

    pub adds_up : l.is_led_to ≡ false → (p q : UnitSectionOffset) → Own p q ↔ Adds l p q
    adds_up not_led p q = (
      own_adds p q,
      λ h. ⊎_elim (adds_own p q) (λ (h : (l.is_led_to ≡ true) × (l.parent ≡ Some p) × (l.place ≡ q)). absurd (let e = h.0 in cc)) h,
    )

    pub adds_both : l.is_led_to ≡ true → (p q : UnitSectionOffset) → (Own p q ⊎ ((p ≡ parent) × (l.place ≡ q))) ↔ Adds l p q
    adds_both led p q = (
      λ h. ⊎_elim (own_adds p q) (λ (h : (p ≡ parent) × (l.place ≡ q)). inr (led, some ∙ ap (λ (u : UnitSectionOffset). Some u) (sym h.0), h.1)) h,
      λ h. ⊎_elim (λ a. inl (adds_own p q a)) (λ (h : (l.is_led_to ≡ true) × (l.parent ≡ Some p) × (l.place ≡ q)). inr (sym (same_parent p h.1), h.2)) h,
    )
