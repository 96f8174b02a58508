-- A walk down the tree with the path to where it stands.
use Rattle.std.proofs.Common.{◌≡◌, ◌≢◌, ◌∙◌, sym, ap, ℕ, zero, suc, ◌+◌, ◌-◌, ◌<◌, ◌≤◌, List, [], ◌∷◌, ◌++◌, length, map, drop, Option, Some, None, Bool, true, false, refl, arith, append_assoc, length-append, ⊎_elim}
use Rattle.std.specs.Prelude.{option_and_then, ◌==◌, ◌||◌}
use Rattle.std.specs.List.{flat_map, slice_get, list_any, IsDistinct, AllByRecursion}
use Rattle.std.proofs.lemmas.Bool.{ne_eqb, eqb-true, false≢true}
use Rattle.std.proofs.lemmas.List.{append-nil, drop_all, drop_more, length-map, length_push}
use Rattle.std.proofs.lemmas.Option.{slice_get_within, slice_get_cases, get_or_from_slice_get}
use Rattle.std.proofs.lemmas.Map.Steps.{length-le_from_distinct_below}
use Rattle.dw_base.specs.Entries.{Mark, Open, Null}
use Rattle.dw_entries.specs.declared.tree.Frame.{Frame}
use Rattle.dw_entries.specs.Entries.{EntryValue, entry_at}
use Rattle.dw_entries.specs.Tree.{closed, tree_from, preorder}
use Rattle.dw_entries.specs.Walk.{IsPath, top, left_of, pending}

none_past : (cs : List ℕ) (k : ℕ) → None ≡ slice_get cs k → length cs ≤ k
none_past cs k h =
    ⊎_elim
    (λ w. let lost : None ≡ Some w.0 = h ∙ w.2 in absurd cc)
    (λ w. w.0)
    (slice_get_cases cs k).1

module _ (es : List EntryValue) where
  pub path_push : (above : Option ℕ) (fs : List Frame) (g : Frame) → (IsPath es) above fs → (entry_at es g.index).parent ≡ (top es) above fs → g.index < length es → (IsPath es) above (fs ++ g ∷ [])
  path_push above [] g h p l = (p, l, tt)
  path_push above (f ∷ fs) g h p l = (h.0, h.1, path_push (Some f.index) fs g h.2 p l)

  pub path_pop : (above : Option ℕ) (fs : List Frame) (g : Frame) → (IsPath es) above (fs ++ g ∷ []) → (IsPath es) above fs × ((entry_at es g.index).parent ≡ (top es) above fs) × (g.index < length es)
  path_pop above [] g h = (tt, h.0, h.1)
  path_pop above (f ∷ fs) g h =
      let below = path_pop (Some f.index) fs g h.2 in ((h.0, h.1, below.0), below.1, below.2)

  pub top_push : (above : Option ℕ) (fs : List Frame) (g : Frame) → (top es) above (fs ++ g ∷ []) ≡ Some g.index
  top_push above [] g = refl
  top_push above (f ∷ fs) g = top_push (Some f.index) fs g

  up : Option ℕ → Option ℕ
  up o = option_and_then (λ i. (entry_at es i).parent) o

  -- so many steps up
  climb : ℕ → Option ℕ → Option ℕ
  climb zero o = o
  climb (suc k) o = climb k (up o)

  climb_on : (k : ℕ) (o : Option ℕ) → climb k o ≡ None → climb (suc k) o ≡ None
  unfolding climb up
  climb_on zero o h = ap up h
  climb_on (suc k) o h = climb_on k (up o) h

  -- exactly k steps lead out at the top
  record IsDeep (k : ℕ) (o : Option ℕ) : Type 0 where
    out : climb k o ≡ None
    inside : (m : ℕ) → m < k → climb m o ≢ None

  deeper : (k : ℕ) (above : Option ℕ) (i : ℕ) → IsDeep k above → (entry_at es i).parent ≡ above → IsDeep (suc k) (Some i)
  unfolding climb up
  deeper k above i h p = record { out = ap (climb k) p ∙ h.out; inside = inside }
    where
      inside : (m : ℕ) → m < suc k → climb m (Some i) ≢ None
      inside zero lt e = cc
      inside (suc m) lt e = h.inside m (omega arith) (ap (climb m) (sym p) ∙ e)

  below_top : (k : ℕ) (above : Option ℕ) (fs : List Frame) → IsDeep k above → (IsPath es) above fs → AllByRecursion (λ y. climb k (Some y) ≢ None) (map (λ f. f.index) fs)
  below_top k above [] d h = tt
  below_top k above (f ∷ fs) d h =
      let here = deeper k above f.index d h.0 in
      (here.inside k (omega arith), weaken (map (λ f. f.index) fs) (below_top (suc k) (Some f.index) fs here h.2))
    where
      weaken : (ys : List ℕ) → AllByRecursion (λ y. climb (suc k) (Some y) ≢ None) ys → AllByRecursion (λ y. climb k (Some y) ≢ None) ys
      weaken [] a = tt
      weaken (y ∷ ys) a = ((λ e. a.0 (climb_on k (Some y) e)), weaken ys a.1)

  distinct : (k : ℕ) (above : Option ℕ) (fs : List Frame) → IsDeep k above → (IsPath es) above fs → IsDistinct ◌==◌ (map (λ f. f.index) fs)
  unfolding IsDistinct
  distinct k above [] d h = tt
  distinct k above (f ∷ fs) d h =
      let here = deeper k above f.index d h.0 in
      (apart here.out (map (λ f. f.index) fs) (below_top (suc k) (Some f.index) fs here h.2), distinct (suc k) (Some f.index) fs here h.2)
    where
      apart : climb (suc k) (Some f.index) ≡ None → (ys : List ℕ) → AllByRecursion (λ y. climb (suc k) (Some y) ≢ None) ys → AllByRecursion (λ y. (f.index == y) ≡ false) ys
      apart out [] a = tt
      apart out (y ∷ ys) a =
          (ne_eqb f.index y (λ e. a.0 (ap (λ x. climb (suc k) (Some x)) (sym e) ∙ out)), apart out ys a.1)

  within : (above : Option ℕ) (fs : List Frame) (q : ℕ) → (IsPath es) above fs → list_any (λ x. q == x) (map (λ f. f.index) fs) ≡ true → q < length es
  within above [] q h e = absurd (false≢true e)
  within above (f ∷ fs) q h e = cases (q == f.index) refl (λ a. within (Some f.index) fs q h.2 a)
    where
      cases : (b : Bool) → (q == f.index) ≡ b → (list_any (λ x. q == x) (map (λ g. g.index) fs) ≡ true → q < length es) → q < length es
      cases true same next = let at = eqb-true q f.index same in omega (arith, h.1)
      cases false other next =
          next (ap (λ b. b || list_any (λ x. q == x) (map (λ g. g.index) fs)) (sym other) ∙ e)

  -- a path is no longer than there are entries
  pub path_short : (fs : List Frame) → (IsPath es) None fs → length fs ≤ length es
  unfolding climb
  path_short fs h =
      let none : IsDeep 0 None = record { out = refl; inside = λ m lt. absurd (omega arith) } in
      let short = length-le_from_distinct_below (map (λ f. f.index) fs) (length es) (distinct 0 None fs none h) (λ q e. within None fs q h e) in
      omega (arith, short, length-map fs (λ f. f.index))

  pub pending_push : (n k : ℕ) (fs : List Frame) (g : Frame) → n ≡ length fs + suc k → (pending es) n (fs ++ g ∷ []) ≡ (left_of es) k g ++ (pending es) n fs
  unfolding pending
  pending_push zero k fs g e = absurd (omega arith)
  pending_push (suc n) k [] g e =
      let same : n ≡ k = omega arith in ap (λ j. (left_of es) j g) same ∙ sym (append-nil ((left_of es) k g))
  pending_push (suc n) k (f ∷ fs) g e =
      ap (λ ms. ms ++ (left_of es) n f) (pending_push n k fs g (omega arith)) ∙ append_assoc ((left_of es) k g) ((pending es) n fs) ((left_of es) n f)

  -- a frame that is done gives a closing mark
  pub done_step : (n k : ℕ) (fs : List Frame) (f : Frame) (ms all : List (Mark ℕ)) → n ≡ length fs + suc k → None ≡ slice_get (entry_at es f.index).children f.next → ms ++ (pending es) n (fs ++ f ∷ []) ≡ all → (ms ++ Null ∷ []) ++ (pending es) n fs ≡ all
  done_step n k fs f ms all e past h =
      let none : drop f.next (entry_at es f.index).children ≡ [] = drop_all f.next (entry_at es f.index).children (none_past (entry_at es f.index).children f.next past) in
      append_assoc ms (Null ∷ []) ((pending es) n fs)
      ∙ ap (λ cs. ms ++ ((flat_map (tree_from k es) cs ++ Null ∷ []) ++ (pending es) n fs)) (sym none)
      ∙ ap (λ x. ms ++ x) (sym (pending_push n k fs f e))
      ∙ h

  -- a child gives its own mark, and where it has no children nothing more
  pub leaf : (k c : ℕ) → (entry_at es c).children ≡ [] → tree_from (suc k) es c ≡ Open c ∷ []
  unfolding tree_from
  leaf k c e = ap (λ cs. Open c ∷ closed cs (flat_map (tree_from k es) cs)) e

  pub branch : (k c : ℕ) → 0 < length (entry_at es c).children → tree_from (suc k) es c ≡ Open c ∷ (flat_map (tree_from k es) (entry_at es c).children ++ Null ∷ [])
  unfolding tree_from
  branch k c lt = ap (λ ms. Open c ∷ ms) (with_kids (entry_at es c).children lt)
    where
      with_kids : (cs : List ℕ) → 0 < length cs → closed cs (flat_map (tree_from k es) cs) ≡ flat_map (tree_from k es) cs ++ Null ∷ []
      with_kids [] lt = absurd (omega arith)
      with_kids (c ∷ cs) lt = refl

  pub next_child : (n k : ℕ) (fs : List Frame) (f : Frame) (c : ℕ) (ms all : List (Mark ℕ)) → n ≡ length fs + suc k → Some c ≡ slice_get (entry_at es f.index).children f.next → ms ++ (pending es) n (fs ++ f ∷ []) ≡ all → ms ++ (tree_from k es c ++ (pending es) n (fs ++ record { index = f.index; next = f.next + 1 } ∷ [])) ≡ all
  next_child n k fs f c ms all e read h =
      let cs = (entry_at es f.index).children in
      let lt = slice_get_within cs f.next c (sym read) in
      let is = get_or_from_slice_get cs f.next c c (sym read) in
      let g = record f { next = f.next + 1 } in
      let rest = flat_map (tree_from k es) (drop (f.next + 1) cs) in
      let front : drop f.next cs ≡ c ∷ drop (f.next + 1) cs = drop_more cs f.next c lt ∙ ap (λ x. x ∷ drop (f.next + 1) cs) is in
      ap (λ x. ms ++ (tree_from k es c ++ x)) (pending_push n k fs (record { index = f.index; next = f.next + 1 }) e)
      ∙ ap (λ x. ms ++ x) (sym (append_assoc (tree_from k es c) (rest ++ Null ∷ []) ((pending es) n fs)))
      ∙ ap (λ x. ms ++ (x ++ (pending es) n fs)) (sym (append_assoc (tree_from k es c) rest (Null ∷ [])))
      ∙ ap (λ x. ms ++ ((flat_map (tree_from k es) x ++ Null ∷ []) ++ (pending es) n fs)) (sym front)
      ∙ ap (λ x. ms ++ x) (sym (pending_push n k fs f e))
      ∙ h

  pub path_room : (fs : List Frame) (c : ℕ) → (IsPath es) None fs → (entry_at es c).parent ≡ (top es) None fs → c < length es → length fs < length es
  path_room fs c h p l =
      let g : Frame = record { index = c; next = 0 } in
      omega (arith, path_short (fs ++ g ∷ []) (path_push None fs g h p l), length_push fs g)

  pub enter_leaf : (fs : List Frame) (c : ℕ) (ms : List (Mark ℕ)) → length fs < length es → (entry_at es c).children ≡ [] → (ms ++ Open c ∷ []) ++ (pending es) (length es) fs ≡ ms ++ (tree_from (length es - length fs) es c ++ (pending es) (length es) fs)
  enter_leaf fs c ms lt none =
      let deep : suc (length es - length fs - 1) ≡ length es - length fs = omega arith in
      append_assoc ms (Open c ∷ []) ((pending es) (length es) fs)
      ∙ ap (λ x. ms ++ (x ++ (pending es) (length es) fs)) (sym (leaf (length es - length fs - 1) c none) ∙ ap (λ k. tree_from k es c) deep)

  pub enter_branch : (fs : List Frame) (c : ℕ) (ms : List (Mark ℕ)) → length fs < length es → 0 < length (entry_at es c).children → (ms ++ Open c ∷ []) ++ (pending es) (length es) (fs ++ record { index = c; next = 0 } ∷ []) ≡ ms ++ (tree_from (length es - length fs) es c ++ (pending es) (length es) fs)
  enter_branch fs c ms lt some =
      let k = length es - length fs - 1 in
      let g : Frame = record { index = c; next = 0 } in
      let deep : suc k ≡ length es - length fs = omega arith in
      let at : length es ≡ length fs + suc k = omega arith in
      append_assoc ms (Open c ∷ []) ((pending es) (length es) (fs ++ g ∷ []))
      ∙ ap (λ x. ms ++ (Open c ∷ x)) (pending_push (length es) k fs g at)
      ∙ ap (λ x. ms ++ (x ++ (pending es) (length es) fs)) (sym (branch k c some) ∙ ap (λ j. tree_from j es c) deep)

  pub given_room : (n k : ℕ) (fs : List Frame) (f : Frame) (ms all : List (Mark ℕ)) → n ≡ length fs + suc k → ms ++ (pending es) n (fs ++ f ∷ []) ≡ all → length ms < length all
  given_room n k fs f ms all e h =
      let rest = flat_map (tree_from k es) (drop f.next (entry_at es f.index).children) in
      omega (arith, ap length h, length-append ms ((pending es) n (fs ++ f ∷ [])), ap length (pending_push n k fs f e), length-append ((left_of es) k f) ((pending es) n fs), length-append rest (Null ∷ []))

  -- how deep the frames under a frame are
  pub path_depth : (fs : List Frame) (f : Frame) → (IsPath es) None (fs ++ f ∷ []) → length es ≡ length fs + suc (length es - length fs - 1)
  path_depth fs f h = omega (arith, path_short (fs ++ f ∷ []) h, length_push fs f)

  pub start : (items before : List (Mark ℕ)) (fs none : List Frame) → before ≡ [] → none ≡ [] → items ++ (pending es) (length es) fs ≡ before ++ (tree_from (length es - length none) es 0 ++ (pending es) (length es) none) → items ++ (pending es) (length es) fs ≡ preorder es
  unfolding preorder pending
  start items before fs none e1 e2 h =
      let n : length es - 0 ≡ length es = omega arith in
      h
      ∙ ap (λ x. x ++ (tree_from (length es - length none) es 0 ++ (pending es) (length es) none)) e1
      ∙ ap (λ x. tree_from (length es - length x) es 0 ++ (pending es) (length es) x) e2
      ∙ ap (λ k. tree_from k es 0 ++ []) n
      ∙ append-nil (tree_from (length es) es 0)

  pub finish : (items : List (Mark ℕ)) → items ++ (pending es) (length es) [] ≡ preorder es → items ≡ preorder es
  unfolding pending
  finish items h = sym (append-nil items) ∙ h

pub no_tree : (es : List EntryValue) → es ≡ [] → preorder es ≡ []
unfolding preorder tree_from
no_tree es e = ap preorder e
