-- No entry stands twice in the tree.
use Rattle.std.proofs.Common.{◌≡◌, ◌∙◌, sym, ap, ℕ, zero, suc, ◌+◌, List, [], ◌∷◌, ◌++◌, length, Option, Some, None, Bool, true, false, refl, arith, ⊎_elim}
use Rattle.std.specs.Prelude.{option_and_then, not, ◌==◌, ◌||◌}
use Rattle.std.specs.List.{flat_map, list_any, IsDistinct}
use Rattle.std.proofs.lemmas.Bool.{and_from, and_parts, or_left, or_right, or_from, or_cases, not_from_true, not_from_false, false_from_ne_true, eq-eqb, eqb-true, false≢true}
use Rattle.std.proofs.lemmas.Option.{none-some, same_Some}
use Rattle.dw_base.specs.Entries.{Mark, Open, Null}
use Rattle.dw_entries.specs.Entries.{EntryValue, entry_at}
use Rattle.dw_entries.specs.Arena.{AreLinked, HasChild}
use Rattle.dw_entries.specs.Tree.{closed, tree_from, preorder, has_entry, are_entries_distinct}
use Rattle.dw_entries.proofs.Filtered.{not_in}

-- an entry among marks and others is among the ones or the others
has_entry_append : (ms ns : List (Mark ℕ)) (x : ℕ) → has_entry (ms ++ ns) x ≡ (has_entry ms x || has_entry ns x)
has_entry_append [] ns x = refl
has_entry_append (Null ∷ ms) ns x = has_entry_append ms ns x
has_entry_append (Open j ∷ ms) ns x = either (j == x) (has_entry_append ms ns x)
  where
    either : (b : Bool) → has_entry (ms ++ ns) x ≡ (has_entry ms x || has_entry ns x) → (b || has_entry (ms ++ ns) x) ≡ ((b || has_entry ms x) || has_entry ns x)
    either true e = refl
    either false e = e

-- marks that share no entry are distinct together
distinct_append : (ms ns : List (Mark ℕ)) → are_entries_distinct ms ≡ true → are_entries_distinct ns ≡ true → ((x : ℕ) → has_entry ms x ≡ true → has_entry ns x ≡ false) → are_entries_distinct (ms ++ ns) ≡ true
distinct_append [] ns d e apart = e
distinct_append (Null ∷ ms) ns d e apart = distinct_append ms ns d e apart
distinct_append (Open j ∷ ms) ns d e apart =
    let parts = and_parts (not (has_entry ms j)) (are_entries_distinct ms) d in
    let fresh : has_entry ms j ≡ true → ⊥ = λ h. false≢true (sym (not_from_true (has_entry ms j) h) ∙ parts.0) in
    let here = apart j (or_left (j == j) (has_entry ms j) (eq-eqb j j refl)) in
    and_from _ _
    (not_from_false _ (has_entry_append ms ns j ∙ or_from _ _ (false_from_ne_true (has_entry ms j) fresh) here))
    (distinct_append ms ns parts.1 e (λ x h. apart x (or_right (j == x) (has_entry ms x) h)))

-- a closing mark is no entry
has_entry_closed : (cs : List ℕ) (ms : List (Mark ℕ)) (x : ℕ) → has_entry (closed cs ms) x ≡ true → has_entry ms x ≡ true
has_entry_closed [] ms x h = absurd (false≢true h)
has_entry_closed (c ∷ cs) ms x h =
    ⊎_elim (λ e. e) (λ e. absurd (false≢true e)) (or_cases (has_entry ms x) false (sym (has_entry_append ms (Null ∷ []) x) ∙ h))

-- a closing mark leaves them distinct
distinct_closed : (cs : List ℕ) (ms : List (Mark ℕ)) → are_entries_distinct ms ≡ true → are_entries_distinct (closed cs ms) ≡ true
distinct_closed [] ms d = refl
distinct_closed (c ∷ cs) ms d = distinct_append ms (Null ∷ []) d refl (λ x h. refl)

module _ (f : ℕ → List (Mark ℕ)) where
  -- an entry among the marks of some children is among one's
  has_entry_flat : (cs : List ℕ) (x : ℕ) → has_entry (flat_map f cs) x ≡ true → (c : ℕ) × HasChild cs c × (has_entry (f c) x ≡ true)
  has_entry_flat [] x h = absurd (false≢true h)
  has_entry_flat (c ∷ cs) x h =
      ⊎_elim
      (λ here. (c, or_left (c == c) (list_any (λ y. c == y) cs) (eq-eqb c c refl), here))
      (λ later. let w = has_entry_flat cs x later in (w.0, or_right (w.0 == c) (list_any (λ y. w.0 == y) cs) w.1, w.2))
      (or_cases (has_entry (f c) x) (has_entry (flat_map f cs) x) (sym (has_entry_append (f c) (flat_map f cs) x) ∙ h))

  -- where no two children share an entry, their marks are distinct together
  distinct_flat : (cs : List ℕ) → IsDistinct ◌==◌ cs → ((c : ℕ) → HasChild cs c → are_entries_distinct (f c) ≡ true) → ((b c x : ℕ) → HasChild cs b → HasChild cs c → has_entry (f b) x ≡ true → has_entry (f c) x ≡ true → b ≡ c) → are_entries_distinct (flat_map f cs) ≡ true
  unfolding IsDistinct
  distinct_flat [] once each same = refl
  distinct_flat (c ∷ cs) once each same =
      distinct_append (f c) (flat_map f cs) (each c first) (distinct_flat cs once.1 (λ b h. each b (later b h)) (λ a b x h k. same a b x (later a h) (later b k))) (λ x h. false_from_ne_true _ (apart x h))
    where
      first : HasChild (c ∷ cs) c
      first = or_left (c == c) (list_any (λ y. c == y) cs) (eq-eqb c c refl)

      later : (b : ℕ) → HasChild cs b → HasChild (c ∷ cs) b
      later b h = or_right (b == c) (list_any (λ y. b == y) cs) h

      apart : (x : ℕ) → has_entry (f c) x ≡ true → has_entry (flat_map f cs) x ≡ true → ⊥
      apart x h k =
          let w = has_entry_flat cs x k in
          let at = same c w.0 x first (later w.0 w.1) h w.2 in
          not_in c cs once.0 (ap (λ y. list_any (λ z. y == z) cs) at ∙ w.1)

module _ (es : List EntryValue) (links : AreLinked es) where
  -- the parent, where there is an entry
  abbrev parent : Option ℕ → Option ℕ
  parent o = option_and_then (λ i. (entry_at es i).parent) o

  -- so many parents up
  abbrev above : ℕ → Option ℕ → Option ℕ
  above zero o = o
  above (suc k) o = above k (parent o)

  -- one way up after another
  above_sum : (j k : ℕ) (o : Option ℕ) → above (j + k) o ≡ above k (above j o)
  above_sum zero k o = let same : zero + k ≡ k = omega arith in ap (λ n. above n o) same
  above_sum (suc j) k o =
      let same : suc j + k ≡ suc (j + k) = omega arith in ap (λ n. above n o) same ∙ above_sum j k (parent o)

  -- nothing is above the top
  above_none : (k : ℕ) → above k None ≡ None
  above_none zero = refl
  above_none (suc k) = above_none k

  -- nothing above the root leads to it
  root_top : (k : ℕ) (o : Option ℕ) → o ≡ Some 0 → above k (parent o) ≡ Some 0 → ⊥
  root_top k o at h =
      none-some 0 (sym (above_none k) ∙ ap (above k) (sym links.root) ∙ ap (λ p. above k (parent p)) (sym at) ∙ h)

  -- an entry has one depth
  one_depth : (j k : ℕ) (o : Option ℕ) → above j o ≡ Some 0 → above k o ≡ Some 0 → j ≡ k
  one_depth zero zero o h g = refl
  one_depth zero (suc k) o h g = absurd (root_top k o h g)
  one_depth (suc j) zero o h g = absurd (root_top j o g h)
  one_depth (suc j) (suc k) o h g = ap suc (one_depth j k (parent o) h g)

  -- what the tree from an entry has behind the entry
  abbrev under : ℕ → ℕ → List (Mark ℕ)
  under n i = closed (entry_at es i).children (flat_map (tree_from n es) (entry_at es i).children)

  -- what is under an entry is in the tree from one of its children
  has_entry_under : (n i x : ℕ) → has_entry (under n i) x ≡ true → (c : ℕ) × HasChild (entry_at es i).children c × (has_entry (tree_from n es c) x ≡ true)
  has_entry_under n i x h =
      let cs = (entry_at es i).children in
      has_entry_flat (tree_from n es) cs x (has_entry_closed cs (flat_map (tree_from n es) cs) x h)

  -- what is in the tree from an entry is below it
  below : (n i x : ℕ) → has_entry (tree_from n es i) x ≡ true → (k : ℕ) × (above k (Some x) ≡ Some i)
  unfolding tree_from
  below zero i x h = absurd (false≢true h)
  below (suc n) i x h =
      ⊎_elim
      (λ same. (0, ap Some (sym (eqb-true i x same))))
      (λ deeper.
      let w = has_entry_under n i x deeper in
      let b = below n w.0 x w.2 in
      (b.0 + 1, above_sum b.0 1 (Some x) ∙ ap parent b.1 ∙ links.own i w.0 w.1))
      (or_cases (i == x) (has_entry (under n i) x) h)

  -- what is below a child is deeper than its parent
  depth_below : (d p c k x : ℕ) → above d (Some p) ≡ Some 0 → HasChild (entry_at es p).children c → above k (Some x) ≡ Some c → above (k + suc d) (Some x) ≡ Some 0
  depth_below d p c k x at child h =
      above_sum k (suc d) (Some x) ∙ ap (above (suc d)) h ∙ ap (above d) (links.own p c child) ∙ at

  -- an entry is below one child of a parent
  one_child : (n d p b c x : ℕ) → above d (Some p) ≡ Some 0 → HasChild (entry_at es p).children b → HasChild (entry_at es p).children c → has_entry (tree_from n es b) x ≡ true → has_entry (tree_from n es c) x ≡ true → b ≡ c
  one_child n d p b c x at child other h g =
      let u = below n b x h in
      let v = below n c x g in
      let level = one_depth (u.0 + suc d) (v.0 + suc d) (Some x) (depth_below d p b u.0 x at child u.1) (depth_below d p c v.0 x at other v.1) in
      let same : u.0 ≡ v.0 = omega (arith, level) in
      same_Some b c (sym u.1 ∙ ap (λ k. above k (Some x)) same ∙ v.1)

  -- no entry is below its child
  parent_apart : (n d p c : ℕ) → above d (Some p) ≡ Some 0 → HasChild (entry_at es p).children c → has_entry (tree_from n es c) p ≡ true → ⊥
  parent_apart n d p c at child h =
      let u = below n c p h in
      let level = one_depth (u.0 + suc d) d (Some p) (depth_below d p c u.0 p at child u.1) at in
      omega (arith, level)

  -- in the tree from an entry that has a depth no entry stands twice
  tree_distinct : (n d i : ℕ) → above d (Some i) ≡ Some 0 → are_entries_distinct (tree_from n es i) ≡ true
  unfolding tree_from
  tree_distinct zero d i at = refl
  tree_distinct (suc n) d i at =
      let cs = (entry_at es i).children in
      and_from _ _
      (not_from_false _ (false_from_ne_true (has_entry (under n i) i) (λ h. let w = has_entry_under n i i h in parent_apart n d i w.0 at w.1 w.2)))
      (distinct_closed cs (flat_map (tree_from n es) cs) (distinct_flat (tree_from n es) cs (links.once i) (λ c h. tree_distinct n (suc d) c (ap (above d) (links.own i c h) ∙ at)) (λ b c x. one_child n d i b c x at)))

-- in a tree no entry stands twice
pub preorder_distinct : (es : List EntryValue) → AreLinked es → are_entries_distinct (preorder es) ≡ true
unfolding preorder
preorder_distinct es links = tree_distinct es links (length es) 0 0 refl
