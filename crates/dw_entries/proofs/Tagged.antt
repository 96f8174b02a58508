-- Each entry of the tree has a tag.
use Rattle.std.proofs.Common.{◌≡◌, ◌≢◌, ap, ℕ, zero, suc, ◌<◌, List, [], ◌∷◌, ◌++◌, length, Bool, true, false, refl, arith}
use Rattle.std.specs.Prelude.{◌==◌, ◌||◌}
use Rattle.std.specs.List.{flat_map, list_any}
use Rattle.std.proofs.lemmas.Bool.{eq-eqb}
use Rattle.dw_base.specs.Entries.{Mark, Null}
use Rattle.dw_entries.specs.Entries.{EntryValue, entry_at}
use Rattle.dw_entries.specs.Arena.{AreLinked}
use Rattle.dw_entries.specs.Tree.{closed, tree_from, preorder, AreTagged}
use Rattle.dw_entries.proofs.Children.{child_added}

tagged_append : (es : List EntryValue) (ms ns : List (Mark ℕ)) → AreTagged es ms → AreTagged es ns → AreTagged es (ms ++ ns)
tagged_append es [] ns h k = k
tagged_append es (m ∷ ms) ns h k = (h.0, tagged_append es ms ns h.1 k)

tagged_flat : (es : List EntryValue) (f : ℕ → List (Mark ℕ)) (cs : List ℕ) → ((c : ℕ) → list_any (λ x. c == x) cs ≡ true → AreTagged es (f c)) → AreTagged es (flat_map f cs)
tagged_flat es f [] h = tt
tagged_flat es f (c ∷ cs) h =
    tagged_append es (f c) (flat_map f cs) (h c (ap (λ b. b || list_any (λ x. c == x) cs) (eq-eqb c c refl))) (tagged_flat es f cs (λ d e. h d (later d e)))
  where
    either : (b : Bool) (t : Bool) → t ≡ true → (b || t) ≡ true
    either true t e = refl
    either false t e = e

    later : (d : ℕ) → list_any (λ x. d == x) cs ≡ true → list_any (λ x. d == x) (c ∷ cs) ≡ true
    later d e = either (d == c) (list_any (λ x. d == x) cs) e

tagged_closed : (es : List EntryValue) (cs : List ℕ) (ms : List (Mark ℕ)) → AreTagged es ms → AreTagged es (closed cs ms)
tagged_closed es [] ms h = tt
tagged_closed es (c ∷ cs) ms h = tagged_append es ms (Null ∷ []) h (tt, tt)

-- where the root has a tag there is a root
pub root_within : (es : List EntryValue) → (entry_at es 0).tag ≢ 0 → 0 < length es
root_within [] h = absurd (h refl)
root_within (e ∷ es) h = omega arith

module _ (es : List EntryValue) (links : AreLinked es) where
  tree_tagged : (n i : ℕ) → (entry_at es i).tag ≢ 0 → AreTagged es (tree_from n es i)
  unfolding tree_from
  tree_tagged zero i tag = tt
  tree_tagged (suc n) i tag =
      (tag, tagged_closed es (entry_at es i).children (flat_map (tree_from n es) (entry_at es i).children) (tagged_flat es (tree_from n es) (entry_at es i).children (λ c e. tree_tagged n c (child_added es links i c e))))

  pub preorder_tagged : (entry_at es 0).tag ≢ 0 → AreTagged es (preorder es)
  unfolding preorder
  preorder_tagged tag = tree_tagged (length es) 0 tag
