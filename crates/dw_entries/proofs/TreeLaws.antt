-- The tree in preorder is one tree, in the grammar's sense.
use Rattle.std.proofs.Common.{◌≡◌, ◌∙◌, ap, ℕ, zero, suc, ◌-◌, ◌<◌, List, [], ◌∷◌, ◌++◌, length, map, Bool, true, refl, arith, append_assoc}
use Rattle.std.specs.List.{flat_map}
use Rattle.std.proofs.lemmas.List.{map-append}
use Rattle.dw_base.specs.Entries.{Mark, Open, Null, closes, is_one_tree}
use Rattle.dw_entries.specs.Entries.{EntryValue, entry_at, has_any}
use Rattle.dw_entries.specs.Tree.{children_in, closed, tree_from, preorder}

module _ (es : List EntryValue) where
  kinds : List (Mark ℕ) → List (Mark Bool)
  kinds ms = map (children_in es) ms

  -- where each way down is skipped, a list of them is
  skip_all : (f : ℕ → List (Mark ℕ)) → ((i d : ℕ) (rest : List (Mark Bool)) → closes (suc d) (kinds (f i) ++ rest) ≡ closes (suc d) rest) → (cs : List ℕ) (d : ℕ) (rest : List (Mark Bool)) → closes (suc d) (kinds (flat_map f cs) ++ rest) ≡ closes (suc d) rest
  unfolding kinds
  skip_all f h [] d rest = refl
  skip_all f h (c ∷ cs) d rest =
      ap (λ x. closes (suc d) (x ++ rest)) (map-append (children_in es) (f c) (flat_map f cs))
      ∙ ap (closes (suc d)) (append_assoc (map (children_in es) (f c)) (map (children_in es) (flat_map f cs)) rest)
      ∙ h c d (map (children_in es) (flat_map f cs) ++ rest)
      ∙ skip_all f h cs d rest

  -- what is behind an entry, by its children
  under : (f : ℕ → List (Mark ℕ)) → ((i d : ℕ) (rest : List (Mark Bool)) → closes (suc d) (kinds (f i) ++ rest) ≡ closes (suc d) rest) → (cs : List ℕ) (d : ℕ) (rest : List (Mark Bool)) → closes (suc d) (Open (has_any cs) ∷ (kinds (closed cs (flat_map f cs)) ++ rest)) ≡ closes (suc d) rest
  unfolding kinds closes
  under f h [] d rest = refl
  under f h (c ∷ cs) d rest =
      ap (λ x. closes (suc (suc d)) (x ++ rest)) (map-append (children_in es) (flat_map f (c ∷ cs)) (Null ∷ []))
      ∙ ap (closes (suc (suc d))) (append_assoc (map (children_in es) (flat_map f (c ∷ cs))) (Null ∷ []) rest)
      ∙ skip_all f h (c ∷ cs) (suc d) (Null ∷ rest)

  skip : (n i d : ℕ) (rest : List (Mark Bool)) → closes (suc d) (kinds (tree_from n es i) ++ rest) ≡ closes (suc d) rest
  unfolding kinds tree_from
  skip zero i d rest = refl
  skip (suc n) i d rest = under (tree_from n es) (skip n) (entry_at es i).children d rest

  -- the tree leaves as many lists open as there were
  pub preorder_closes : closes 1 (map (children_in es) (preorder es) ++ Null ∷ []) ≡ true
  unfolding kinds preorder closes
  preorder_closes = skip (length es) 0 0 (Null ∷ [])

  root_alone : (f : ℕ → List (Mark ℕ)) → ((i d : ℕ) (rest : List (Mark Bool)) → closes (suc d) (kinds (f i) ++ rest) ≡ closes (suc d) rest) → (cs : List ℕ) → is_one_tree (Open (has_any cs) ∷ kinds (closed cs (flat_map f cs))) ≡ true
  unfolding kinds closes is_one_tree
  root_alone f h [] = refl
  root_alone f h (c ∷ cs) =
      ap (closes 1) (map-append (children_in es) (flat_map f (c ∷ cs)) (Null ∷ []))
      ∙ skip_all f h (c ∷ cs) 0 (Null ∷ [])

  one_tree : (n : ℕ) → is_one_tree (kinds (tree_from (suc n) es 0)) ≡ true
  unfolding kinds tree_from
  one_tree n = root_alone (tree_from n es) (skip n) (entry_at es 0).children

  pub preorder_one_tree : 0 < length es → is_one_tree (map (children_in es) (preorder es)) ≡ true
  unfolding kinds preorder
  preorder_one_tree some =
      let n : length es ≡ suc (length es - 1) = omega arith in
      ap (λ k. is_one_tree (map (children_in es) (tree_from k es 0))) n ∙ one_tree (length es - 1)
