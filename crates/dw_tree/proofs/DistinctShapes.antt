-- The different shapes of a list are its shapes, no two of them are equal, and a table that grows by one entry after another
-- has them in their order.
use Rattle.std.specs.Prelude.{◌≡◌, ◌≢◌, ℕ, zero, suc, ◌+◌, Bool, true, false, not, ◌&&◌, ◌||◌, ◌==◌, List, [], ◌∷◌, ◌++◌, filter, slice_get, if◌then◌else◌, Some, Contains, refl}
use Rattle.std.specs.List.{list_any}
use Rattle.std.proofs.Common.{sym, ◌∙◌, ap, arith, ⊎_elim}
use Rattle.std.proofs.lemmas.Bool.{and_right, or_left, or_right, or_cases, not_from_true, eq-eqb, eqb-true, false≢true, false_from_ne_true}
use Rattle.std.proofs.lemmas.List.{append-nil, append_assoc}
use Rattle.std.proofs.lemmas.List.Elements.{All-weaker, filter_agree, filter_passes}
use Rattle.std.proofs.lemmas.List.Folds.{list_any-append}
use Rattle.std.proofs.lemmas.List.Kept.{AllPairs-cons, AllPairs-filter}
use Rattle.std.proofs.lemmas.Option.{none-some, same_Some, slice_get_within, get_or_from_slice_get}
use Rattle.dw_base.specs.Abbreviations.{Shape, Declaration}
use Rattle.dw_base.specs.Entries.{Mark, Open, Null}
use Rattle.dw_base.specs.declared.common.Encoding.{Encoding}
use Rattle.dw_abbrev.specs.Equal.{shape_eq}
use Rattle.dw_abbrev.specs.EqualLaws.{shape_Decides}
use Rattle.dw_abbrev.specs.Codes.{code_in, with_shape, numbered, AllDiffer}
use Rattle.dw_abbrev.proofs.CodeLaws.{insert_key-with}
use Rattle.dw_entries.specs.Entries.{EntryValue, entry_at}
use Rattle.dw_tree.specs.Shapes.{shape_of_entry}
use Rattle.dw_tree.specs.Coded.{shapes_of}
use Rattle.dw_tree.specs.DistinctShapes.{entry_shapes, other_shapes, distinct_shapes}
use Rattle.dw_entries.specs.Tree.{preorder, has_entry}
use Rattle.dw_tree.specs.Whole.{tree_shapes}

-- a shape stands in a list
abbrev pub has_shape : List Shape → Shape → Bool
has_shape ss s = list_any (shape_eq s) ss

-- the shapes that don't stand in a list
abbrev outside : List Shape → List Shape → List Shape
outside t ss = filter (λ x. not (has_shape t x)) ss

filter_step : (b : Bool) (p : Shape → Bool) (s : Shape) (ys zs : List Shape) → filter p ys ≡ zs → filter p (if b then s ∷ ys else ys) ≡ (if b && p s then s ∷ zs else zs)
filter_step true p s ys zs e = ap (λ l. if p s then s ∷ l else l) e
filter_step false p s ys zs e = e

-- what passes two tests in turn passes both
filter-filter : (p q : Shape → Bool) (ss : List Shape) → filter p (filter q ss) ≡ filter (λ x. q x && p x) ss
filter-filter p q [] = refl
filter-filter p q (s ∷ ss) = filter_step (q s) p s (filter q ss) (filter (λ x. q x && p x) ss) (filter-filter p q ss)

filter_all : (ss : List Shape) → filter (λ x. true) ss ≡ ss
filter_all [] = refl
filter_all (s ∷ ss) = ap (λ l. s ∷ l) (filter_all ss)

seen_step : (b c : Bool) → (b ≡ true → c ≡ true) → (not b && not c) ≡ not c
seen_step true c f = sym (ap not (f refl))
seen_step false c f = refl

-- a shape that stands in a list is none that doesn't
outside-seen : (t : List Shape) (s : Shape) (ss : List Shape) → has_shape t s ≡ true → outside t (other_shapes s ss) ≡ outside t ss
outside-seen t s ss h =
    filter-filter (λ x. not (has_shape t x)) (λ x. not (shape_eq x s)) ss
    ∙ filter_agree (λ x. not (shape_eq x s) && not (has_shape t x)) (λ x. not (has_shape t x))
    (λ x. seen_step (shape_eq x s) (has_shape t x) (λ same. ap (has_shape t) ((shape_Decides x s).0 same) ∙ h)) ss

new_step : (b c : Bool) → (not b && not c) ≡ not (c || (b || false))
new_step true true = refl
new_step true false = refl
new_step false true = refl
new_step false false = refl

-- what stands neither in a list nor is one shape doesn't stand in the list with that shape behind it
outside-new : (t : List Shape) (s : Shape) (ss : List Shape) → outside t (other_shapes s ss) ≡ outside (t ++ s ∷ []) ss
outside-new t s ss =
    filter-filter (λ x. not (has_shape t x)) (λ x. not (shape_eq x s)) ss
    ∙ filter_agree (λ x. not (shape_eq x s) && not (has_shape t x)) (λ x. not (has_shape (t ++ s ∷ []) x))
    (λ x. new_step (shape_eq x s) (has_shape t x) ∙ sym (ap not (list_any-append (shape_eq x) t (s ∷ [])))) ss

grown : (b : Bool) (t : List Shape) (s : Shape) (ss : List Shape) → has_shape t s ≡ b → let u = if b then t else t ++ s ∷ [] in u ++ outside u ss ≡ t ++ outside t (s ∷ other_shapes s ss)
grown true t s ss h =
    let rest = outside t (other_shapes s ss) in
    ap (λ l. t ++ l) (sym (outside-seen t s ss h)) ∙ ap (λ (b : Bool). t ++ (if not b then s ∷ rest else rest)) (sym h)
grown false t s ss h =
    let rest = outside t (other_shapes s ss) in
    append_assoc t (s ∷ []) (outside (t ++ s ∷ []) ss)
    ∙ ap (λ l. t ++ s ∷ l) (sym (outside-new t s ss))
    ∙ ap (λ (b : Bool). t ++ (if not b then s ∷ rest else rest)) (sym h)

filtered_step : (b c y h q : Bool) → (c ≡ true → q ≡ b) → y ≡ (h && q) → (if b then c || y else y) ≡ ((c || h) && q)
filtered_step true true y h q f e = sym (f refl)
filtered_step true false y h q f e = e
filtered_step false true y h q f e = e ∙ and_right h q (f refl) ∙ sym (f refl)
filtered_step false false y h q f e = e

has_shape-if : (b : Bool) (x s : Shape) (ys : List Shape) → has_shape (if b then x ∷ ys else ys) s ≡ (if b then shape_eq s x || has_shape ys s else has_shape ys s)
has_shape-if true x s ys = refl
has_shape-if false x s ys = refl

-- a shape that a filter keeps is there, and passes
has_shape-filter : (p : Shape → Bool) (ss : List Shape) (s : Shape) → has_shape (filter p ss) s ≡ (has_shape ss s && p s)
has_shape-filter p [] s = refl
has_shape-filter p (x ∷ xs) s =
    has_shape-if (p x) x s (filter p xs)
    ∙ filtered_step (p x) (shape_eq s x) (has_shape (filter p xs) s) (has_shape xs s) (p s) (λ same. ap p ((shape_Decides s x).0 same)) (has_shape-filter p xs s)

other_step : (b c : Bool) → (b || (c && not b)) ≡ (b || c)
other_step true c = refl
other_step false true = refl
other_step false false = refl

-- the different shapes of a list are its shapes
pub has_shape-distinct : (ss : List Shape) (s : Shape) → has_shape (distinct_shapes ss) s ≡ has_shape ss s
has_shape-distinct [] s = refl
has_shape-distinct (x ∷ xs) s =
    ap (λ b. shape_eq s x || b) (has_shape-filter (λ y. not (shape_eq y x)) (distinct_shapes xs) s ∙ ap (λ b. b && not (shape_eq s x)) (has_shape-distinct xs s))
    ∙ other_step (shape_eq s x) (has_shape xs s)

-- no two of them are equal
pub distinct_shapes-differ : (ss : List Shape) → AllDiffer (distinct_shapes ss)
distinct_shapes-differ [] = λ i j d before within. absurd (omega arith)
distinct_shapes-differ (s ∷ ss) =
    let others = other_shapes s (distinct_shapes ss) in
    let apart = λ (x : Shape) (e : not (shape_eq x s) ≡ true) (same : s ≡ x). false≢true (sym (not_from_true (shape_eq x s) ((shape_Decides x s).1 (sym same))) ∙ e) in
    AllPairs-cons (λ a b. a ≢ b) s others
    (All-weaker (λ x. not (shape_eq x s) ≡ true) (λ x. s ≢ x) apart others (filter_passes (λ x. not (shape_eq x s)) (distinct_shapes ss)))
    (AllPairs-filter (λ a b. a ≢ b) (λ x. not (shape_eq x s)) (distinct_shapes ss) (distinct_shapes-differ ss))

-- a shape that stands in a list has a place there
pub Contains-shape : (ss : List Shape) (s : Shape) → has_shape ss s ≡ true → Contains ss s
Contains-shape [] s h = absurd (false≢true h)
Contains-shape (x ∷ xs) s h =
    ⊎_elim
    (λ here. (0, omega arith, sym ((shape_Decides s x).0 here)))
    (λ behind. let w = Contains-shape xs s behind in (suc w.0, omega (arith, w.1), w.2))
    (or_cases (shape_eq s x) (has_shape xs s) h)

-- a shape that has a place in a list stands there
pub has_shape-at : (ss : List Shape) (k : ℕ) (s : Shape) → slice_get ss k ≡ Some s → has_shape ss s ≡ true
has_shape-at [] k s h = absurd (none-some s h)
has_shape-at (x ∷ xs) zero s h = or_left (shape_eq s x) (has_shape xs s) ((shape_Decides s x).1 (sym (same_Some x s h)))
has_shape-at (x ∷ xs) (suc k) s h = or_right (shape_eq s x) (has_shape xs s) (has_shape-at xs k s h)

-- where no two shapes are equal, the code of a shape is its place, counted from 1
pub code_in-place : (ss : List Shape) (k : ℕ) (s : Shape) → AllDiffer ss → slice_get ss k ≡ Some s → code_in ss s ≡ suc k
code_in-place [] k s differ h = absurd (none-some s h)
code_in-place (x ∷ xs) zero s differ h =
    ap (λ (b : Bool). if b then 1 else suc (code_in xs s)) ((shape_Decides s x).1 (sym (same_Some x s h)))
code_in-place (x ∷ xs) (suc k) s differ h =
    let within = slice_get_within xs k s h in
    let other : x ≢ s = λ same. differ 0 (suc k) s (omega arith) (omega (arith, within)) (same ∙ sym (get_or_from_slice_get xs k s s h)) in
    ap (λ (b : Bool). if b then 1 else suc (code_in xs s)) (false_from_ne_true (shape_eq s x) (λ e. other (sym ((shape_Decides s x).0 e))))
    ∙ ap suc (code_in-place xs k s (λ i j d before inside. differ (suc i) (suc j) d (omega (arith, before)) (omega (arith, inside))) h)

-- what is declared at a place
pub numbered-declares : (n : ℕ) (ss : List Shape) (k : ℕ) (d : Declaration) → slice_get (numbered n ss) k ≡ Some d → (d.code ≡ n + k) × (slice_get ss k ≡ Some d.shape)
numbered-declares n [] k d h = absurd (none-some d h)
numbered-declares n (s ∷ ss) zero d h =
    let is = same_Some (record { code = n; shape = s }) d h in (sym (ap (λ x. x.code) is) ∙ omega arith, ap (λ x. Some x.shape) is)
numbered-declares n (s ∷ ss) (suc k) d h = let w = numbered-declares (suc n) ss k d h in (omega (arith, w.0), w.1)

module _ (e : Encoding) (es : List EntryValue) where
  -- a table that the entries' shapes are added to
  shapes_of-grown : (t : List Shape) (ms : List (Mark ℕ)) → shapes_of e es t ms ≡ t ++ outside t (distinct_shapes (entry_shapes e es ms))
  shapes_of-grown t [] = sym (append-nil t)
  shapes_of-grown t (Open i ∷ ms) =
      let s = shape_of_entry e (entry_at es i) in
      let rest = distinct_shapes (entry_shapes e es ms) in
      shapes_of-grown (with_shape t s) ms ∙ ap (λ u. u ++ outside u rest) (sym (insert_key-with t s)) ∙ grown (has_shape t s) t s rest refl
  shapes_of-grown t (Null ∷ ms) = shapes_of-grown t ms

  -- The shapes that are added to a table, one entry after another, are the different ones, in the order in which each first comes.
  pub first_used_in_order : (ms : List (Mark ℕ)) → shapes_of e es [] ms ≡ distinct_shapes (entry_shapes e es ms)
  first_used_in_order ms = shapes_of-grown [] ms ∙ filter_all (distinct_shapes (entry_shapes e es ms))

  -- those of the marks that were found are the tree's
  pub tree_shapes-found : (ms : List (Mark ℕ)) → ms ≡ preorder es → shapes_of e es [] ms ≡ tree_shapes e es
  tree_shapes-found ms tree = first_used_in_order ms ∙ ap (λ l. distinct_shapes (entry_shapes e es l)) tree

  -- each entry's shape is among the shapes
  pub has_shape-entry : (ms : List (Mark ℕ)) (i : ℕ) → has_entry ms i ≡ true → has_shape (entry_shapes e es ms) (shape_of_entry e (entry_at es i)) ≡ true
  has_shape-entry [] i h = absurd (false≢true h)
  has_shape-entry (Open j ∷ ms) i h =
      let s = shape_of_entry e (entry_at es i) in
      let first = shape_of_entry e (entry_at es j) in
      ⊎_elim
      (λ here. or_left (shape_eq s first) (has_shape (entry_shapes e es ms) s) ((shape_Decides s first).1 (ap (λ k. shape_of_entry e (entry_at es k)) (sym (eqb-true j i here)))))
      (λ behind. or_right (shape_eq s first) (has_shape (entry_shapes e es ms) s) (has_shape-entry ms i behind))
      (or_cases (j == i) (has_entry ms i) h)
  has_shape-entry (Null ∷ ms) i h = has_shape-entry ms i h

  -- each of the shapes is an entry's
  pub entry_of_shape : (ms : List (Mark ℕ)) (s : Shape) → has_shape (entry_shapes e es ms) s ≡ true → (i : ℕ) × (has_entry ms i ≡ true) × (shape_of_entry e (entry_at es i) ≡ s)
  entry_of_shape [] s h = absurd (false≢true h)
  entry_of_shape (Open j ∷ ms) s h =
      let first = shape_of_entry e (entry_at es j) in
      ⊎_elim
      (λ here. (j, or_left (j == j) (has_entry ms j) (eq-eqb j j refl), sym ((shape_Decides s first).0 here)))
      (λ behind. let w = entry_of_shape ms s behind in (w.0, or_right (j == w.0) (has_entry ms w.0) w.1, w.2))
      (or_cases (shape_eq s first) (has_shape (entry_shapes e es ms) s) h)
  entry_of_shape (Null ∷ ms) s h = entry_of_shape ms s h
