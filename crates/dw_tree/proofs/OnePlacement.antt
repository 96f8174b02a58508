-- A tree in which no size hangs on a later entry has one placement.
use Rattle.std.proofs.Common.{◌≡◌, ◌∙◌, sym, ap, subst, ℕ, zero, suc, ◌+◌, ◌<◌, ◌≤◌, ◌^◌, Bool, true, false, ◌||◌, ◌==◌, List, [], ◌∷◌, ◌++◌, length, arith, take, drop, refl, append_assoc}
use Rattle.std.specs.Prelude.{Option, Some, None, is_none, IsFalse, if◌then◌else◌, not}
use Rattle.std.proofs.lemmas.Bool.{or_left, or_right, or_parts, eqb-true, eq-eqb, ne_eqb, true≢false}
use Rattle.std.proofs.lemmas.Option.{none-some, same_Some}
use Rattle.dw_base.specs.Abbreviations.{Shape}
use Rattle.dw_base.specs.Entries.{Mark, Open, Null}
use Rattle.dw_base.specs.Leb128.{uleb}
use Rattle.dw_base.specs.Spelling.{header_size}
use Rattle.dw_base.specs.declared.common.Encoding.{Encoding}
use Rattle.dw_base.specs.declared.error.Error.{Error}
use Rattle.dw_base.specs.declared.error.Error.TheVariants as errors
use Rattle.dw_base.proofs.HeaderLaws.{header_size_pos}
use Rattle.dw_entries.specs.Entries.{EntryValue, entry_at, is_parent}
use Rattle.dw_entries.specs.Tree.{has_entry, preorder}
use Rattle.dw_entries.specs.Values.{KeepsPlaces}
use Rattle.dw_tree.specs.Coded.{code_of_entry}
use Rattle.dw_tree.specs.Early.{attributes_unplaced, mark_unplaced, standing, is_forward, tree_is_forward}
use Rattle.dw_tree.specs.Laid.{sibling_size, sized, sizes_of, place_from, behind_from, past_from}
use Rattle.dw_tree.specs.Places.{Placement, found, IsSamePlacement}
use Rattle.dw_tree.specs.Whole.{tree_shapes, tree_size, IsTreePlacement, TreeHasNoRoom}
use Rattle.std.proofs.Math.Path.{fun_ext}
use Rattle.dw_tree.proofs.EarlyLaws.{found_there, has_entry-append, attributes_unplaced-same, none_standing, values_kept, forward_front}
use Rattle.dw_tree.proofs.Placed.{sizes_of-split}

-- Sizes that agree on the entries of marks

abbrev pub AgreeOn : (s t : ℕ → ℕ) (ms : List (Mark ℕ)) → Type 0
AgreeOn s t ms = (i : ℕ) → has_entry ms i ≡ true → s i ≡ t i

module _ (s t : ℕ → ℕ) (es : List EntryValue) where
  own_size : (j : ℕ) (ms : List (Mark ℕ)) → AgreeOn s t (Open j ∷ ms) → s j ≡ t j
  own_size j ms h = h j (or_left (j == j) (has_entry ms j) (eq-eqb j j refl))

  behind_open : (j : ℕ) (ms : List (Mark ℕ)) → AgreeOn s t (Open j ∷ ms) → AgreeOn s t ms
  behind_open j ms h i there = h i (or_right (j == i) (has_entry ms i) there)

  pub place_agree : (at : ℕ) (ms : List (Mark ℕ)) → AgreeOn s t ms → (i : ℕ) → place_from s es at ms i ≡ place_from t es at ms i
  place_agree at [] h i = refl
  place_agree at (Open j ∷ ms) h i =
      ap (λ n. if j == i then at else place_from s es (at + n) ms i) (own_size j ms h)
      ∙ ap (λ n. if j == i then at else n) (place_agree (at + t j) ms (behind_open j ms h) i)
  place_agree at (Null ∷ ms) h i = place_agree (at + 1) ms h i

  sizes_agree : (ms : List (Mark ℕ)) → AgreeOn s t ms → sizes_of s es ms ≡ sizes_of t es ms
  sizes_agree [] h = refl
  sizes_agree (Open j ∷ ms) h = omega (arith, own_size j ms h, sizes_agree ms (behind_open j ms h))
  sizes_agree (Null ∷ ms) h = omega (arith, sizes_agree ms h)

  behind_agree : (d at : ℕ) (ms : List (Mark ℕ)) → AgreeOn s t ms → behind_from s es d at ms ≡ behind_from t es d at ms
  behind_agree d at [] h = refl
  behind_agree d at (Open j ∷ ms) h =
      ap (λ n. behind_from s es (if is_parent es j then suc d else d) (at + n) ms) (own_size j ms h)
      ∙ behind_agree (if is_parent es j then suc d else d) (at + t j) ms (behind_open j ms h)
  behind_agree zero at (Null ∷ ms) h = refl
  behind_agree (suc d) at (Null ∷ ms) h = behind_agree d (at + 1) ms h

  pub past_agree : (at : ℕ) (ms : List (Mark ℕ)) → AgreeOn s t ms → (i : ℕ) → past_from s es at ms i ≡ past_from t es at ms i
  past_agree at [] h i = refl
  past_agree at (Open j ∷ ms) h i =
      ap (λ n. if j == i then (if is_parent es j then behind_from s es 0 (at + n) ms else at + n) else past_from s es (at + n) ms i) (own_size j ms h)
      ∙ ap (λ n. if j == i then (if is_parent es j then n else at + t j) else past_from s es (at + t j) ms i) (behind_agree 0 (at + t j) ms (behind_open j ms h))
      ∙ ap (λ n. if j == i then (if is_parent es j then behind_from t es 0 (at + t j) ms else at + t j) else n) (past_agree (at + t j) ms (behind_open j ms h) i)
  past_agree at (Null ∷ ms) h i = past_agree (at + 1) ms h i

  -- the place of the next entry hangs on those before it alone
  pub place_next : (at : ℕ) (ms : List (Mark ℕ)) (m : Mark ℕ) → AgreeOn s t ms → (i : ℕ) → place_from s es at (ms ++ m ∷ []) i ≡ place_from t es at (ms ++ m ∷ []) i
  place_next at [] (Open j) h i = refl
  place_next at [] Null h i = refl
  place_next at (Open j ∷ ms) m h i =
      ap (λ n. if j == i then at else place_from s es (at + n) (ms ++ m ∷ []) i) (own_size j ms h)
      ∙ ap (λ n. if j == i then at else n) (place_next (at + t j) ms m (behind_open j ms h) i)
  place_next at (Null ∷ ms) m h i = place_next (at + 1) ms m h i

either_case : (b h : Bool) (at x y : ℕ) → (h ≡ true → x ≡ y) → (b || h) ≡ true → (if b then at else x) ≡ (if b then at else y)
either_case true h at x y same there = refl
either_case false h at x y same there = same there

either_least : (b h : Bool) (at x : ℕ) → (h ≡ true → at ≤ x) → (b || h) ≡ true → at ≤ (if b then at else x)
either_least true h at x more there = omega arith
either_least false h at x more there = more there

module _ (s : ℕ → ℕ) (es : List EntryValue) where
  -- what stands behind marks moves none of their entries
  pub place_append : (at : ℕ) (xs ys : List (Mark ℕ)) (i : ℕ) → has_entry xs i ≡ true → place_from s es at (xs ++ ys) i ≡ place_from s es at xs i
  place_append at [] ys i there = absurd (true≢false (sym there))
  place_append at (Open j ∷ xs) ys i there =
      either_case (j == i) (has_entry xs i) at (place_from s es (at + s j) (xs ++ ys) i) (place_from s es (at + s j) xs i) (place_append (at + s j) xs ys i) there
  place_append at (Null ∷ xs) ys i there = place_append (at + 1) xs ys i there

  pub place_least : (at : ℕ) (ms : List (Mark ℕ)) (i : ℕ) → has_entry ms i ≡ true → at ≤ place_from s es at ms i
  place_least at [] i there = absurd (true≢false (sym there))
  place_least at (Open j ∷ ms) i there =
      either_least (j == i) (has_entry ms i) at (place_from s es (at + s j) ms i) (λ more. omega (arith, place_least (at + s j) ms i more)) there
  place_least at (Null ∷ ms) i there = omega (arith, place_least (at + 1) ms i there)

pub or_none : (b : Bool) → (b || false) ≡ b
or_none true = refl
or_none false = refl

-- Two functions that put the entries of marks where their own sizes put them are the same on these

module _ (e : Encoding) (es : List EntryValue) (shapes : List Shape) (start : ℕ) (some : 0 < start) (all : List (Mark ℕ)) (p q : ℕ → ℕ)
    (P : (i : ℕ) → has_entry all i ≡ true → p i ≡ place_from (sized e es shapes p) es start all i) (Q : (i : ℕ) → has_entry all i ≡ true → q i ≡ place_from (sized e es shapes q) es start all i) where
  abbrev agree : List (Mark ℕ) → Type 0
  agree ms = AgreeOn (sized e es shapes p) (sized e es shapes q) ms

  module _ (before rest : List (Mark ℕ)) (m : Mark ℕ) (is : all ≡ (before ++ m ∷ []) ++ rest) (h : agree before) where
    abbrev here : List (Mark ℕ)
    here = before ++ m ∷ []

    among : (i : ℕ) → has_entry here i ≡ true → has_entry all i ≡ true
    among i there = ap (λ ms. has_entry ms i) is ∙ has_entry-append here rest i ∙ or_left (has_entry here i) (has_entry rest i) there

    -- where a function puts an entry of these marks
    put : (f : ℕ → ℕ) (i : ℕ) → (has_entry all i ≡ true → f i ≡ place_from (sized e es shapes f) es start all i) → has_entry here i ≡ true → f i ≡ place_from (sized e es shapes f) es start here i
    put f i F there = F (among i there) ∙ ap (λ ms. place_from (sized e es shapes f) es start ms i) is ∙ place_append (sized e es shapes f) es start here rest i there

    same_place : (i : ℕ) → has_entry here i ≡ true → p i ≡ q i
    same_place i there = put p i (P i) there ∙ place_next (sized e es shapes p) (sized e es shapes q) es start before m h i ∙ sym (put q i (Q i) there)

    some_place : (f : ℕ → ℕ) (i : ℕ) → (has_entry all i ≡ true → f i ≡ place_from (sized e es shapes f) es start all i) → has_entry here i ≡ true → (f i == 0) ≡ false
    some_place f i F there =
        let least = place_least (sized e es shapes f) es start here i there in
        let own = put f i F there in
        ne_eqb (f i) 0 (λ none. omega (arith, least, own, none, some))

    -- the places that both know
    abbrev known : ℕ → Option ℕ
    known i = if has_entry here i then Some (p i) else None

    known_is : (b : Bool) (i n : ℕ) → has_entry here i ≡ b → ◌≡◌ {A = Option ℕ} (if b then Some (p i) else None) (Some n) → (has_entry here i ≡ true) × (p i ≡ n)
    known_is true i n is h = (is, same_Some (p i) n h)
    known_is false i n is h = absurd (none-some n h)

    keeps_p : KeepsPlaces known (found p)
    keeps_p i n h = let k = known_is (has_entry here i) i n refl h in found_there p i (some_place p i (P i) k.0) ∙ ap Some k.1

    keeps_q : KeepsPlaces known (found q)
    keeps_q i n h = let k = known_is (has_entry here i) i n refl h in found_there q i (some_place q i (Q i) k.0) ∙ ap Some (sym (same_place i k.0) ∙ k.1)

    none_known : (i : ℕ) → is_none (known i) ≡ is_none (standing here i)
    none_known i = by (has_entry here i) ∙ sym (none_standing here i)
      where
        by : (b : Bool) → is_none (let o : Option ℕ = if b then Some (p i) else None in o) ≡ not b
        by true = refl
        by false = refl

    -- so the size of the next entry is the same
    next_size : (j : ℕ) → m ≡ Open j → IsFalse (mark_unplaced e es (standing here) m errors.UnsupportedExpressionForwardReference) → sized e es shapes p j ≡ sized e es shapes q j
    next_size j at early =
        let x = entry_at es j in
        let own : IsFalse (attributes_unplaced e (standing here) x.attributes errors.UnsupportedExpressionForwardReference) = subst (λ k. IsFalse (mark_unplaced e es (standing here) k errors.UnsupportedExpressionForwardReference)) at early in
        let mine = attributes_unplaced-same e known (standing here) none_known x.attributes errors.UnsupportedExpressionForwardReference ∙ own in
        let same = sym (values_kept e known (found p) keeps_p x.attributes mine) ∙ values_kept e known (found q) keeps_q x.attributes mine in
        ap (λ n. length (uleb (code_of_entry e es shapes j)) + (sibling_size e x + n)) same

    last_size : IsFalse (mark_unplaced e es (standing here) m errors.UnsupportedExpressionForwardReference) → (i : ℕ) (k : Mark ℕ) → m ≡ k → has_entry (k ∷ []) i ≡ true → sized e es shapes p i ≡ sized e es shapes q i
    last_size early i (Open j) is own = subst (λ x. sized e es shapes p x ≡ sized e es shapes q x) (eqb-true j i (sym (or_none (j == i)) ∙ own)) (next_size j is early)
    last_size early i Null is own = absurd (true≢false (sym own))

    agree_next : IsFalse (mark_unplaced e es (standing here) m errors.UnsupportedExpressionForwardReference) → agree here
    agree_next early i there = by_front (has_entry before i) refl
      where
        by_front : (b : Bool) → has_entry before i ≡ b → sized e es shapes p i ≡ sized e es shapes q i
        by_front true front = h i front
        by_front false front =
            last_size early i m refl (sym (ap (λ b. b || has_entry (m ∷ []) i) front) ∙ sym (has_entry-append before (m ∷ []) i) ∙ there)

  agree_from : (before rest : List (Mark ℕ)) → all ≡ before ++ rest → agree before → ((err : Error) → IsFalse (is_forward e es before rest err)) → agree all
  agree_from before [] is h early = λ i there. h i (sym (or_none (has_entry before i)) ∙ sym (ap (λ ms. has_entry ms i) is ∙ has_entry-append before [] i) ∙ there)
  agree_from before (m ∷ rest) is h early =
      let behind : all ≡ (before ++ m ∷ []) ++ rest = is ∙ sym (append_assoc before (m ∷ []) rest) in
      let parts = λ (err : Error). or_parts (mark_unplaced e es (standing (before ++ m ∷ [])) m err) (is_forward e es (before ++ m ∷ []) rest err) (early err) in
      agree_from (before ++ m ∷ []) rest behind (agree_next before rest m behind h (parts errors.UnsupportedExpressionForwardReference).0) (λ err. (parts err).1)

  pub agree_all : ((err : Error) → IsFalse (is_forward e es [] all err)) → agree all
  agree_all early = agree_from [] all refl (λ i there. absurd (true≢false (sym there))) early

-- places that are the same under each index are equal
pub placement-same : (p q : Placement) → IsSamePlacement p q → p ≡ q
placement-same p q same =
    ap (λ f. let x : Placement = record { place = f; past = p.past } in x) (fun_ext same.place)
    ∙ ap (λ f. let x : Placement = record { place = q.place; past = f } in x) (fun_ext same.past)

pub one_placement : (e : Encoding) (es : List EntryValue) (p q : Placement) → ((err : Error) → IsFalse (tree_is_forward e es err)) → IsTreePlacement e es p → IsTreePlacement e es q → IsSamePlacement p q
one_placement e es p q early left right =
    let shapes = tree_shapes e es in
    let start = header_size e in
    let ms = preorder es in
    let agree = agree_all e es shapes start (header_size_pos e) ms p.place q.place (λ i there. left.place i) (λ i there. right.place i) early in
    record {
      place = λ i. left.place i ∙ place_agree (sized e es shapes p.place) (sized e es shapes q.place) es start ms agree i ∙ sym (right.place i);
      past = λ i. left.past i ∙ past_agree (sized e es shapes p.place) (sized e es shapes q.place) es start ms agree i ∙ sym (right.past i);
    }

pub take_drop : (ms : List (Mark ℕ)) (n : ℕ) → ms ≡ take n ms ++ drop n ms
take_drop [] zero = refl
take_drop [] (suc n) = refl
take_drop (m ∷ ms) zero = refl
take_drop (m ∷ ms) (suc n) = ap (λ xs. m ∷ xs) (take_drop ms n)

-- a tree that ends within 64 bits has room
pub room_enough : (e : Encoding) (es : List EntryValue) (p : Placement) → ((err : Error) → IsFalse (tree_is_forward e es err)) → IsTreePlacement e es p → header_size e + tree_size e es p.place < 2 ^ 64 → TreeHasNoRoom e es → ⊥
room_enough e es p early placed small none =
    let ms = preorder es in
    let shapes = tree_shapes e es in
    let start = header_size e in
    let size = sized e es shapes p.place in
    let front = take none.count ms in
    let split = sizes_of-split size es ms none.count in
    let own : (i : ℕ) → has_entry front i ≡ true → p.place i ≡ place_from size es start front i =
    λ i there. placed.place i ∙ ap (λ xs. place_from size es start xs i) (take_drop ms none.count) ∙ place_append size es start front (drop none.count ms) i there in
    let agree = agree_all e es shapes start (header_size_pos e) front none.place p.place (λ i there. none.placed i) own (λ err. forward_front e es [] ms none.count err (early err)) in
    let same = sizes_agree (sized e es shapes none.place) size es front agree in
    omega (arith, none.full, small, same, split)
