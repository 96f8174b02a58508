-- Which units are found.
use Rattle.std.proofs.Common.{◌≡◌, ◌∙◌, sym, ap, subst, ℕ, List, [], ◌∷◌, ◌++◌, map, Bool, true, false, not, ◌&&◌, refl, nat_eq, filter, append_assoc, if◌then◌else◌}
use Rattle.dw_base.specs.declared.offsets.DebugInfoOffset.{DebugInfoOffset}
use Rattle.dw_arange_table.specs.Sets.{RangeSet}
use Rattle.dw_arange_table.specs.Find.{set_has, units_at}

-- the units of a list that weren't seen
abbrev pub unseen : (ℕ → Bool) → List ℕ → List ℕ
unseen seen us = filter (λ u. not (seen u)) us

if_same : {A : Type 0} (b c : Bool) (x y : A) → b ≡ c → (if b then x else y) ≡ (if c then x else y)
if_same b c x y e = ap (λ t. if t then x else y) e

-- none was seen yet
pub unseen_none : (seen : ℕ → Bool) (us : List ℕ) → ((u : ℕ) → seen u ≡ false) → unseen seen us ≡ us
unseen_none seen [] h = refl
unseen_none seen (u ∷ us) h = ap (λ b. if not b then u ∷ unseen seen us else unseen seen us) (h u) ∙ ap (λ l. u ∷ l) (unseen_none seen us h)

unseen_by : (b c : Bool) (u : ℕ) (seen : ℕ → Bool) (xs ys : List ℕ) → seen u ≡ c → unseen seen xs ≡ ys → unseen seen (if b then u ∷ xs else xs) ≡ (if b && not c then u ∷ ys else ys)
unseen_by true true u seen xs ys e h = ap (λ t. if not t then u ∷ unseen seen xs else unseen seen xs) e ∙ h
unseen_by true false u seen xs ys e h = ap (λ t. if not t then u ∷ unseen seen xs else unseen seen xs) e ∙ ap (λ l. u ∷ l) h
unseen_by false c u seen xs ys e h = h

-- what differs from a unit and wasn't seen before
unseen_but : (seen next : ℕ → Bool) (v : ℕ) (us : List ℕ) → ((u : ℕ) → not (next u) ≡ (not (nat_eq v u) && not (seen u))) → unseen seen (filter (λ u. not (nat_eq v u)) us) ≡ unseen next us
unseen_but seen next v [] h = refl
unseen_but seen next v (u ∷ us) h =
    unseen_by (not (nat_eq v u)) (seen u) u seen (filter (λ u. not (nat_eq v u)) us) (unseen next us) refl (unseen_but seen next v us h)
    ∙ sym (if_same _ _ (u ∷ unseen next us) (unseen next us) (h u))

-- a unit that is seen now
pub seen_more : (a b : Bool) → not (if a then true else b) ≡ (not a && not b)
seen_more true b = refl
seen_more false b = refl

not_new : (b : Bool) → true ≡ not b → b ≡ false
not_new true e = cc
not_new false e = refl

not_old : (b : Bool) → false ≡ not b → b ≡ true
not_old true e = refl
not_old false e = cc

module _ (seen next : ℕ → Bool) (v : ℕ) (later : (u : ℕ) → next u ≡ (if nat_eq v u then true else seen u)) where
  others : (us : List ℕ) → unseen seen (filter (λ u. not (nat_eq v u)) us) ≡ unseen next us
  others us = unseen_but seen next v us (λ u. ap not (later u) ∙ seen_more (nat_eq v u) (seen u))

  unseen_first : (us : List ℕ) → seen v ≡ false → unseen seen (v ∷ filter (λ u. not (nat_eq v u)) us) ≡ v ∷ unseen next us
  unseen_first us e = ap (λ b. if not b then v ∷ unseen seen (filter (λ u. not (nat_eq v u)) us) else unseen seen (filter (λ u. not (nat_eq v u)) us)) e ∙ ap (λ l. v ∷ l) (others us)

  unseen_again : (us : List ℕ) → seen v ≡ true → unseen seen (v ∷ filter (λ u. not (nat_eq v u)) us) ≡ unseen next us
  unseen_again us e = ap (λ b. if not b then v ∷ unseen seen (filter (λ u. not (nat_eq v u)) us) else unseen seen (filter (λ u. not (nat_eq v u)) us)) e ∙ others us

units_first : (a : ℕ) (s : RangeSet) (ss : List RangeSet) → set_has a s ≡ true → units_at a (s ∷ ss) ≡ s.unit ∷ filter (λ u. not (nat_eq s.unit u)) (units_at a ss)
units_first a s ss has = ap (λ b. if b then s.unit ∷ filter (λ u. not (nat_eq s.unit u)) (units_at a ss) else units_at a ss) has

-- the place of a unit that was pushed
places_push : (us : List DebugInfoOffset) (u : DebugInfoOffset) → map (λ x. x.0) (us ++ u ∷ []) ≡ map (λ x. x.0) us ++ u.0 ∷ []
places_push [] u = refl
places_push (v ∷ us) u = ap (λ l. v.0 ∷ l) (places_push us u)

-- What was found, and of what the other sets have what wasn't seen, are all. Now a set has the address, and its unit is looked
-- for among those that were seen.
module _ (found : List DebugInfoOffset) (seen next : ℕ → Bool) (a : ℕ) (s : RangeSet) (ss : List RangeSet) (all : List ℕ) where
  pub found_new : (pushed : List DebugInfoOffset) (u : DebugInfoOffset) → map (λ x. x.0) found ++ unseen seen (units_at a (s ∷ ss)) ≡ all → set_has a s ≡ true → u.0 ≡ s.unit → true ≡ not (seen u.0) → ((q : ℕ) → next q ≡ (if nat_eq u.0 q then true else seen q)) →
      pushed ≡ found ++ u ∷ [] → map (λ x. x.0) pushed ++ unseen next (units_at a ss) ≡ all
  found_new pushed u before has is new later more =
      let later2 = subst (λ v. (q : ℕ) → next q ≡ (if nat_eq v q then true else seen q)) is later in
      let fresh : seen s.unit ≡ false = ap seen (sym is) ∙ not_new (seen u.0) new in
      let front = map (λ x. x.0) found in
      ap (λ l. map (λ x. x.0) l ++ unseen next (units_at a ss)) more
      ∙ ap (λ l. l ++ unseen next (units_at a ss)) (places_push found u ∙ ap (λ v. front ++ v ∷ []) is)
      ∙ append_assoc front (s.unit ∷ []) (unseen next (units_at a ss))
      ∙ sym (ap (λ l. front ++ l) (ap (unseen seen) (units_first a s ss has) ∙ unseen_first seen next s.unit later2 (units_at a ss) fresh))
      ∙ before

  pub found_again : (kept : List DebugInfoOffset) (u : DebugInfoOffset) → map (λ x. x.0) found ++ unseen seen (units_at a (s ∷ ss)) ≡ all → set_has a s ≡ true → u.0 ≡ s.unit → false ≡ not (seen u.0) → ((q : ℕ) → next q ≡ (if nat_eq u.0 q then true else seen q)) →
      kept ≡ found → map (λ x. x.0) kept ++ unseen next (units_at a ss) ≡ all
  found_again kept u before has is old later same =
      let later2 = subst (λ v. (q : ℕ) → next q ≡ (if nat_eq v q then true else seen q)) is later in
      let was : seen s.unit ≡ true = ap seen (sym is) ∙ not_old (seen u.0) old in
      ap (λ l. map (λ x. x.0) l ++ unseen next (units_at a ss)) same
      ∙ sym (ap (λ l. map (λ x. x.0) found ++ l) (ap (unseen seen) (units_first a s ss has) ∙ unseen_again seen next s.unit later2 (units_at a ss) was))
      ∙ before

  -- a set that doesn't have it
  pub found_none : map (λ x. x.0) found ++ unseen seen (units_at a (s ∷ ss)) ≡ all → set_has a s ≡ false → map (λ x. x.0) found ++ unseen seen (units_at a ss) ≡ all
  found_none before has =
      sym (ap (λ b. map (λ x. x.0) found ++ unseen seen (if b then s.unit ∷ filter (λ u. not (nat_eq s.unit u)) (units_at a ss) else units_at a ss)) has) ∙ before
