-- Each entry of the tree exists.
use Rattle.std.proofs.Common.{◌≡◌, ap, ℕ, zero, suc, ◌<◌, ◌≤◌, List, [], ◌∷◌, ◌++◌, length, Bool, true, false, refl, arith}
use Rattle.std.specs.Prelude.{◌==◌, ◌||◌}
use Rattle.std.specs.List.{flat_map, list_any}
use Rattle.std.proofs.lemmas.Bool.{eq-eqb}
use Rattle.dw_base.specs.Entries.{Mark, Null}
use Rattle.dw_entries.specs.Entries.{EntryValue, entry_at}
use Rattle.dw_entries.specs.Arena.{AreLinked}
use Rattle.dw_entries.specs.Tree.{closed, tree_from, preorder, AreIn}
use Rattle.dw_entries.proofs.Children.{parent_within}

in_append : (n : ℕ) (ms ns : List (Mark ℕ)) → AreIn n ms → AreIn n ns → AreIn n (ms ++ ns)
in_append n [] ns h k = k
in_append n (m ∷ ms) ns h k = (h.0, in_append n ms ns h.1 k)

in_flat : (n : ℕ) (f : ℕ → List (Mark ℕ)) (cs : List ℕ) → ((c : ℕ) → list_any (λ x. c == x) cs ≡ true → AreIn n (f c)) → AreIn n (flat_map f cs)
in_flat n f [] h = tt
in_flat n f (c ∷ cs) h =
    in_append n (f c) (flat_map f cs) (h c (ap (λ b. b || list_any (λ x. c == x) cs) (eq-eqb c c refl))) (in_flat n f cs (λ d e. h d (later d e)))
  where
    either : (b : Bool) (t : Bool) → t ≡ true → (b || t) ≡ true
    either true t e = refl
    either false t e = e

    later : (d : ℕ) → list_any (λ x. d == x) cs ≡ true → list_any (λ x. d == x) (c ∷ cs) ≡ true
    later d e = either (d == c) (list_any (λ x. d == x) cs) e

in_closed : (n : ℕ) (cs : List ℕ) (ms : List (Mark ℕ)) → AreIn n ms → AreIn n (closed cs ms)
in_closed n [] ms h = tt
in_closed n (c ∷ cs) ms h = in_append n ms (Null ∷ []) h (tt, tt)

module _ (es : List EntryValue) (links : AreLinked es) where
  tree_in : (k i : ℕ) → i < length es → AreIn (length es) (tree_from k es i)
  unfolding tree_from
  tree_in zero i lt = tt
  tree_in (suc k) i lt =
      (lt, in_closed (length es) (entry_at es i).children (flat_map (tree_from k es) (entry_at es i).children) (in_flat (length es) (tree_from k es) (entry_at es i).children (λ c e. tree_in k c (parent_within es c i (links.own i c e)))))

  root_in : (k : ℕ) → k ≤ length es → AreIn (length es) (tree_from k es 0)
  unfolding tree_from
  root_in zero le = tt
  root_in (suc k) le = tree_in (suc k) 0 (omega arith)

  pub preorder_in : AreIn (length es) (preorder es)
  unfolding preorder
  preorder_in = root_in (length es) (omega arith)
