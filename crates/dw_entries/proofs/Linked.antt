-- What keeps entries linked.
use Rattle.std.proofs.Common.{◌≡◌, ◌≢◌, ◌∙◌, sym, ap, subst, ℕ, zero, suc, ◌<◌, List, [], ◌∷◌, ◌++◌, Some, None, Bool, true, false, refl, arith, length, ◌⊎◌, inl, inr}
use Rattle.std.specs.Prelude.{◌==◌, ◌||◌, not, if◌then◌else◌}
use Rattle.std.specs.List.{list_any, IsDistinct, filter}
use Rattle.std.proofs.lemmas.Cmp.{nat_eq_equiv}
use Rattle.std.proofs.lemmas.Bool.{eqb-true, eq-eqb, ne_eqb, false≢true}
use Rattle.std.proofs.lemmas.List.Folds.{list_any-append}
use Rattle.std.proofs.lemmas.Map.Keys.{IsDistinct-push}
use Rattle.dw_entries.specs.Entries.{EntryValue, with_changed, with_child, placed_under, with_new_child, without_child, filled_up, entry_at}
use Rattle.dw_entries.specs.Arena.{AreLinked, HasChild}
use Rattle.dw_entries.proofs.Changed.{length-with_changed, seen_kept, seen_other, seen_changed}
use Rattle.dw_entries.proofs.Filled.{seen_filled}
use Rattle.dw_entries.proofs.Filtered.{kept, distinct_filter}

pub linked_same : (es new : List EntryValue) → AreLinked es → ((i : ℕ) → (entry_at new i).parent ≡ (entry_at es i).parent) → ((i : ℕ) → (entry_at new i).tag ≡ (entry_at es i).tag) → ((i : ℕ) → (entry_at new i).children ≡ (entry_at es i).children) → AreLinked new
linked_same es new links ps ts cs = record {
  own = λ p c h. ps c ∙ links.own p c (ap (list_any (λ x. c == x)) (sym (cs p)) ∙ h);
  once = λ p. subst (IsDistinct ◌==◌) (sym (cs p)) (links.once p);
  root = ps 0 ∙ links.root;
  unadded = λ i h. ps i ∙ links.unadded i (sym (ts i) ∙ h);
}

-- a change that leaves parents, tags and children
pub linked_changed : (i : ℕ) (f : EntryValue → EntryValue) (es : List EntryValue) → ((e : EntryValue) → (f e).parent ≡ e.parent) → ((e : EntryValue) → (f e).tag ≡ e.tag) → ((e : EntryValue) → (f e).children ≡ e.children) → AreLinked es → AreLinked (with_changed i f es)
linked_changed i f es ps ts cs links =
    linked_same es (with_changed i f es) links (seen_kept (λ e. e.parent) i f es ps) (seen_kept (λ e. e.tag) i f es ts) (seen_kept (λ e. e.children) i f es cs)

-- blank entries behind the others
pub linked_filled : (n : ℕ) (es : List EntryValue) → AreLinked es → AreLinked (filled_up n es)
linked_filled n es links =
    linked_same es (filled_up n es) links (seen_filled (λ e. e.parent) (λ i. refl) n es) (seen_filled (λ e. e.tag) (λ i. refl) n es) (seen_filled (λ e. e.children) (λ i. refl) n es)

-- Without a child.

module _ (c : ℕ) where
  abbrev others : List ℕ → List ℕ
  others cs = filter (λ x. not (x == c)) cs

  abbrev IsFewer : List ℕ → List ℕ → Type 0
  IsFewer new old = (new ≡ old) ⊎ (new ≡ others old)

  fewer : (i : ℕ) (es : List EntryValue) (k : ℕ) → IsFewer (entry_at (with_changed i (without_child c) es) k).children (entry_at es k).children
  fewer i [] k = inl refl
  fewer zero (e ∷ es) zero = inr refl
  fewer zero (e ∷ es) (suc k) = inl refl
  fewer (suc i) (e ∷ es) zero = inl refl
  fewer (suc i) (e ∷ es) (suc k) = fewer i es k

  was : (new old : List ℕ) (x : ℕ) → IsFewer new old → HasChild new x → HasChild old x
  was new old x (inl e) h = ap (list_any (λ y. x == y)) (sym e) ∙ h
  was new old x (inr e) h = (kept (λ y. not (y == c)) x old (ap (list_any (λ y. x == y)) (sym e) ∙ h)).0

  distinct : (new old : List ℕ) → IsFewer new old → IsDistinct ◌==◌ old → IsDistinct ◌==◌ new
  distinct new old (inl e) d = subst (IsDistinct ◌==◌) (sym e) d
  distinct new old (inr e) d =
      subst (IsDistinct ◌==◌) (sym e) (distinct_filter (λ y. not (y == c)) old d)

  pub linked_without : (i : ℕ) (es : List EntryValue) → AreLinked es → AreLinked (with_changed i (without_child c) es)
  linked_without i es links =
      let ps = seen_kept (λ e. e.parent) i (without_child c) es (λ e. refl) in
      let ts = seen_kept (λ e. e.tag) i (without_child c) es (λ e. refl) in record {
        own = λ p x h. ps x ∙ links.own p x (was _ (entry_at es p).children x (fewer i es p) h);
        once = λ p. distinct _ (entry_at es p).children (fewer i es p) (links.once p);
        root = ps 0 ∙ links.root;
        unadded = λ k h. ps k ∙ links.unadded k (sym (ts k) ∙ h);
      }

-- With a child more.

module _ (es : List EntryValue) (child parent tag : ℕ) (child_in : child < length es) (parent_in : parent < length es) where
  abbrev above : List EntryValue
  above = with_changed parent (with_child child) es

  child_above : child < length above
  child_above = omega (arith, length-with_changed parent (with_child child) es)

  parents : (k : ℕ) → (entry_at (with_new_child child parent tag es) k).parent ≡ (if k == child then Some parent else (entry_at es k).parent)
  parents k = go (k == child) refl
    where
      before : (entry_at above k).parent ≡ (entry_at es k).parent
      before = seen_kept (λ e. e.parent) parent (with_child child) es (λ e. refl) k

      go : (b : Bool) → (k == child) ≡ b → (entry_at (with_new_child child parent tag es) k).parent ≡ (if b then Some parent else (entry_at es k).parent)
      go true e =
          ap (λ j. (entry_at (with_new_child child parent tag es) j).parent) (eqb-true k child e) ∙ seen_changed (λ e. e.parent) child (placed_under parent tag) above (λ _. Some parent) (λ x. refl) child_above
      go false e =
          seen_other (λ e. e.parent) child (placed_under parent tag) above k (λ same. false≢true (sym e ∙ eq-eqb k child same)) ∙ before

  tags : (k : ℕ) → (entry_at (with_new_child child parent tag es) k).tag ≡ (if k == child then tag else (entry_at es k).tag)
  tags k = go (k == child) refl
    where
      before : (entry_at above k).tag ≡ (entry_at es k).tag
      before = seen_kept (λ e. e.tag) parent (with_child child) es (λ e. refl) k

      go : (b : Bool) → (k == child) ≡ b → (entry_at (with_new_child child parent tag es) k).tag ≡ (if b then tag else (entry_at es k).tag)
      go true e =
          ap (λ j. (entry_at (with_new_child child parent tag es) j).tag) (eqb-true k child e) ∙ seen_changed (λ e. e.tag) child (placed_under parent tag) above (λ _. tag) (λ x. refl) child_above
      go false e =
          seen_other (λ e. e.tag) child (placed_under parent tag) above k (λ same. false≢true (sym e ∙ eq-eqb k child same)) ∙ before

  children : (k : ℕ) → (entry_at (with_new_child child parent tag es) k).children ≡ (if k == parent then (entry_at es k).children ++ child ∷ [] else (entry_at es k).children)
  children k = go (k == parent) refl
    where
      after : (entry_at (with_new_child child parent tag es) k).children ≡ (entry_at above k).children
      after = seen_kept (λ e. e.children) child (placed_under parent tag) above (λ e. refl) k

      go : (b : Bool) → (k == parent) ≡ b → (entry_at (with_new_child child parent tag es) k).children ≡ (if b then (entry_at es k).children ++ child ∷ [] else (entry_at es k).children)
      go true e =
          let same = eqb-true k parent e in
          after ∙ ap (λ k. (entry_at above k).children) same ∙ seen_changed (λ e. e.children) parent (with_child child) es (λ cs. cs ++ child ∷ []) (λ x. refl) parent_in ∙ ap (λ i. (entry_at es i).children ++ child ∷ []) (sym same)
      go false e =
          after ∙ seen_other (λ e. e.children) parent (with_child child) es k (λ same. false≢true (sym e ∙ eq-eqb k parent same))

  pub linked_new_child : AreLinked es → (entry_at es child).tag ≡ 0 → 0 < child → tag ≢ 0 → AreLinked (with_new_child child parent tag es)
  linked_new_child links fresh some tagged = record {
    own = λ p c h. own p c (p == parent) refl h;
    once = λ p. once p (p == parent) refl;
    root = parents 0 ∙ ap (λ b. if b then Some parent else (entry_at es 0).parent) (ne_eqb 0 child (λ e. omega arith)) ∙ links.root;
    unadded = λ k h. unadded k (k == child) refl h;
  }
    where
      unplaced : (entry_at es child).parent ≡ None
      unplaced = links.unadded child fresh

      unadded : (k : ℕ) (b : Bool) → (k == child) ≡ b → (entry_at (with_new_child child parent tag es) k).tag ≡ 0 → (entry_at (with_new_child child parent tag es) k).parent ≡ None
      unadded k true e h =
          absurd (tagged (sym (tags k ∙ ap (λ b. if b then tag else (entry_at es k).tag) e) ∙ h))
      unadded k false e h =
          parents k ∙ ap (λ b. if b then Some parent else (entry_at es k).parent) e ∙ links.unadded k (sym (tags k ∙ ap (λ b. if b then tag else (entry_at es k).tag) e) ∙ h)

      -- an old child has an old parent, and so isn't the new one
      old : (p c : ℕ) → (entry_at es c).parent ≡ Some p → (entry_at (with_new_child child parent tag es) c).parent ≡ Some p
      old p c e =
          let other : (c == child) ≡ false = ne_eqb c child (λ same. let clash : None ≡ Some p = sym unplaced ∙ ap (λ k. (entry_at es k).parent) (sym same) ∙ e in absurd cc) in
          parents c ∙ ap (λ b. if b then Some parent else (entry_at es c).parent) other ∙ e

      member : (p c : ℕ) → p ≡ parent → (a b : Bool) → list_any (λ x. c == x) (entry_at es p).children ≡ a → (c == child) ≡ b → (a || (b || false)) ≡ true → (entry_at (with_new_child child parent tag es) c).parent ≡ Some p
      member p c at true b e f h = old p c (links.own p c e)
      member p c at false true e f h =
          parents c ∙ ap (λ t. if t then Some parent else (entry_at es c).parent) f ∙ ap Some (sym at)
      member p c at false false e f h = absurd (false≢true h)

      own : (p c : ℕ) (b : Bool) → (p == parent) ≡ b → HasChild (entry_at (with_new_child child parent tag es) p).children c → (entry_at (with_new_child child parent tag es) c).parent ≡ Some p
      own p c true e h =
          let more : (entry_at (with_new_child child parent tag es) p).children ≡ (entry_at es p).children ++ child ∷ [] = children p ∙ ap (λ t. if t then (entry_at es p).children ++ child ∷ [] else (entry_at es p).children) e in
          member p c (eqb-true p parent e) _ _ refl refl (sym (list_any-append (λ x. c == x) (entry_at es p).children (child ∷ [])) ∙ ap (list_any (λ x. c == x)) (sym more) ∙ h)
      own p c false e h =
          let same : (entry_at (with_new_child child parent tag es) p).children ≡ (entry_at es p).children = children p ∙ ap (λ t. if t then (entry_at es p).children ++ child ∷ [] else (entry_at es p).children) e in
          old p c (links.own p c (ap (list_any (λ x. c == x)) (sym same) ∙ h))

      nowhere : (p : ℕ) (b : Bool) → list_any (λ x. child == x) (entry_at es p).children ≡ b → list_any (λ x. child == x) (entry_at es p).children ≡ false
      nowhere p true e = let clash : None ≡ Some p = sym unplaced ∙ links.own p child e in absurd cc
      nowhere p false e = e

      once : (p : ℕ) (b : Bool) → (p == parent) ≡ b → IsDistinct ◌==◌ (entry_at (with_new_child child parent tag es) p).children
      once p true e =
          let more : (entry_at (with_new_child child parent tag es) p).children ≡ (entry_at es p).children ++ child ∷ [] = children p ∙ ap (λ t. if t then (entry_at es p).children ++ child ∷ [] else (entry_at es p).children) e in
          subst (IsDistinct ◌==◌) (sym more) (IsDistinct-push nat_eq_equiv (entry_at es p).children child (links.once p) (nowhere p _ refl))
      once p false e =
          let same : (entry_at (with_new_child child parent tag es) p).children ≡ (entry_at es p).children = children p ∙ ap (λ t. if t then (entry_at es p).children ++ child ∷ [] else (entry_at es p).children) e in
          subst (IsDistinct ◌==◌) (sym same) (links.once p)
