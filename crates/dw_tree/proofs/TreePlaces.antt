-- Where the entries of a tree stand is what its one placement tells.
use Rattle.std.proofs.Common.{◌≡◌, ◌∙◌, sym, ap, subst, ℕ, zero, suc, ◌+◌, Bool, true, false, ◌||◌, ◌==◌, List, [], ◌∷◌, ◌++◌, length, arith, take, drop, refl, append_assoc, append-nil}
use Rattle.std.specs.Prelude.{Option, Some, None, is_none, IsFalse, if◌then◌else◌, not}
use Rattle.std.proofs.Math.Path.{fun_ext}
use Rattle.std.proofs.Math.Seq.{take-length}
use Rattle.std.proofs.lemmas.Bool.{or_left, or_parts, eqb-true, true≢false, ne_eqb}
use Rattle.std.proofs.lemmas.Option.{none-some, same_Some}
use Rattle.dw_base.specs.Abbreviations.{Shape}
use Rattle.dw_base.specs.Entries.{Mark, Open, Null}
use Rattle.dw_base.specs.Leb128.{uleb}
use Rattle.dw_base.specs.Spelling.{header_size}
use Rattle.dw_base.specs.declared.common.Encoding.{Encoding}
use Rattle.dw_base.specs.declared.error.Error.{Error}
use Rattle.dw_base.specs.declared.error.Error.TheVariants as errors
use Rattle.dw_base.proofs.HeaderLaws.{header_size_pos}
use Rattle.dw_entries.specs.Entries.{EntryValue, entry_at}
use Rattle.dw_entries.specs.Tree.{has_entry, preorder}
use Rattle.dw_entries.specs.Values.{KeepsPlaces}
use Rattle.dw_tree.specs.Coded.{code_of_entry}
use Rattle.dw_tree.specs.Early.{attributes_unplaced, mark_unplaced, standing, is_forward, tree_is_forward}
use Rattle.dw_tree.specs.Laid.{sibling_size, sized, place_from}
use Rattle.dw_tree.specs.Locations.{places_in_tree}
use Rattle.dw_tree.specs.Places.{Placement, found}
use Rattle.dw_tree.specs.Whole.{tree_shapes, surer_places, tree_places, IsTreePlacement}
use Rattle.dw_tree.proofs.EarlyLaws.{found_there, has_entry-append, attributes_unplaced-same, none_standing, values_kept, forward_front, take_next}
use Rattle.dw_tree.proofs.OnePlacement.{AgreeOn, place_agree, place_next, place_append, place_least, or_none, take_drop}

-- Two functions that put the entries of marks to the same places give them the same sizes

module _ (e : Encoding) (es : List EntryValue) (shapes : List Shape) (all : List (Mark ℕ)) (p q : ℕ → ℕ) (there : (i : ℕ) → has_entry all i ≡ true → (p i == 0) ≡ false) (same : (i : ℕ) → has_entry all i ≡ true → p i ≡ q i) where
  abbrev agree : List (Mark ℕ) → Type 0
  agree ms = AgreeOn (sized e es shapes p) (sized e es shapes q) ms

  module _ (before rest : List (Mark ℕ)) (m : Mark ℕ) (is : all ≡ (before ++ m ∷ []) ++ rest) (h : agree before) where
    abbrev here : List (Mark ℕ)
    here = before ++ m ∷ []

    among : (i : ℕ) → has_entry here i ≡ true → has_entry all i ≡ true
    among i k = ap (λ ms. has_entry ms i) is ∙ has_entry-append here rest i ∙ or_left (has_entry here i) (has_entry rest i) k

    -- the places that both know
    abbrev known : ℕ → Option ℕ
    known i = if has_entry here i then Some (p i) else None

    known_is : (b : Bool) (i n : ℕ) → has_entry here i ≡ b → ◌≡◌ {A = Option ℕ} (if b then Some (p i) else None) (Some n) → (has_entry here i ≡ true) × (p i ≡ n)
    known_is true i n is k = (is, same_Some (p i) n k)
    known_is false i n is k = absurd (none-some n k)

    keeps_p : KeepsPlaces known (found p)
    keeps_p i n k = let x = known_is (has_entry here i) i n refl k in found_there p i (there i (among i x.0)) ∙ ap Some x.1

    keeps_q : KeepsPlaces known (found q)
    keeps_q i n k =
        let x = known_is (has_entry here i) i n refl k in
        let equal = same i (among i x.0) in
        found_there q i (ap (λ y. y == 0) (sym equal) ∙ there i (among i x.0)) ∙ ap Some (sym equal ∙ x.1)

    none_known : (i : ℕ) → is_none (known i) ≡ is_none (standing here i)
    none_known i = by (has_entry here i) ∙ sym (none_standing here i)
      where
        by : (b : Bool) → is_none (let o : Option ℕ = if b then Some (p i) else None in o) ≡ not b
        by true = refl
        by false = refl

    next_size : (j : ℕ) → m ≡ Open j → IsFalse (mark_unplaced e es (standing here) m errors.UnsupportedExpressionForwardReference) → sized e es shapes p j ≡ sized e es shapes q j
    next_size j at early =
        let x = entry_at es j in
        let own : IsFalse (attributes_unplaced e (standing here) x.attributes errors.UnsupportedExpressionForwardReference) = subst (λ k. IsFalse (mark_unplaced e es (standing here) k errors.UnsupportedExpressionForwardReference)) at early in
        let mine = attributes_unplaced-same e known (standing here) none_known x.attributes errors.UnsupportedExpressionForwardReference ∙ own in
        let equal = sym (values_kept e known (found p) keeps_p x.attributes mine) ∙ values_kept e known (found q) keeps_q x.attributes mine in
        ap (λ n. length (uleb (code_of_entry e es shapes j)) + (sibling_size e x + n)) equal

    last_size : IsFalse (mark_unplaced e es (standing here) m errors.UnsupportedExpressionForwardReference) → (i : ℕ) (k : Mark ℕ) → m ≡ k → has_entry (k ∷ []) i ≡ true → sized e es shapes p i ≡ sized e es shapes q i
    last_size early i (Open j) is own = subst (λ x. sized e es shapes p x ≡ sized e es shapes q x) (eqb-true j i (sym (or_none (j == i)) ∙ own)) (next_size j is early)
    last_size early i Null is own = absurd (true≢false (sym own))

    agree_next : IsFalse (mark_unplaced e es (standing here) m errors.UnsupportedExpressionForwardReference) → agree here
    agree_next early i k = by_front (has_entry before i) refl
      where
        by_front : (b : Bool) → has_entry before i ≡ b → sized e es shapes p i ≡ sized e es shapes q i
        by_front true front = h i front
        by_front false front =
            last_size early i m refl (sym (ap (λ b. b || has_entry (m ∷ []) i) front) ∙ sym (has_entry-append before (m ∷ []) i) ∙ k)

  agree_from : (before rest : List (Mark ℕ)) → all ≡ before ++ rest → agree before → ((err : Error) → IsFalse (is_forward e es before rest err)) → agree all
  agree_from before [] is h early = λ i k. h i (sym (or_none (has_entry before i)) ∙ sym (ap (λ ms. has_entry ms i) is ∙ has_entry-append before [] i) ∙ k)
  agree_from before (m ∷ rest) is h early =
      let behind : all ≡ (before ++ m ∷ []) ++ rest = is ∙ sym (append_assoc before (m ∷ []) rest) in
      let parts = λ (err : Error). or_parts (mark_unplaced e es (standing (before ++ m ∷ [])) m err) (is_forward e es (before ++ m ∷ []) rest err) (early err) in
      agree_from (before ++ m ∷ []) rest behind (agree_next before rest m behind h (parts errors.UnsupportedExpressionForwardReference).0) (λ err. (parts err).1)

  pub sizes_same : ((err : Error) → IsFalse (is_forward e es [] all err)) → agree all
  sizes_same early = agree_from [] all refl (λ i k. absurd (true≢false (sym k))) early

-- an entry that isn't among marks stands at 0
place_absent : (s : ℕ → ℕ) (es : List EntryValue) (at : ℕ) (ms : List (Mark ℕ)) (i : ℕ) → has_entry ms i ≡ false → place_from s es at ms i ≡ 0
place_absent s es at [] i h = refl
place_absent s es at (Open j ∷ ms) i h =
    let parts = or_parts (j == i) (has_entry ms i) h in
    ap (λ b. if b then at else place_from s es (at + s j) ms i) parts.0 ∙ place_absent s es (at + s j) ms i parts.1
place_absent s es at (Null ∷ ms) i h = place_absent s es (at + 1) ms i h

no_front : (ms : List (Mark ℕ)) → take 0 ms ≡ []
no_front [] = refl
no_front (m ∷ ms) = refl

module _ (e : Encoding) (es : List EntryValue) (p : Placement) (early : (err : Error) → IsFalse (tree_is_forward e es err)) (placed : IsTreePlacement e es p) where
  abbrev all : List (Mark ℕ)
  all = preorder es

  abbrev start : ℕ
  start = header_size e

  abbrev put_by : (ℕ → ℕ) → List (Mark ℕ) → ℕ → ℕ
  put_by f ms i = place_from (sized e es (tree_shapes e es) f) es start ms i

  stands : (n i : ℕ) → has_entry (take n all) i ≡ true → has_entry all i ≡ true
  stands n i k = ap (λ ms. has_entry ms i) (take_drop all n) ∙ has_entry-append (take n all) (drop n all) i ∙ or_left (has_entry (take n all) i) (has_entry (drop n all) i) k

  some_place : (i : ℕ) → has_entry all i ≡ true → (p.place i == 0) ≡ false
  some_place i k =
      let least = place_least (sized e es (tree_shapes e es) p.place) es start all i k in
      let own = placed.place i in
      let pos = header_size_pos e in
      ne_eqb (p.place i) 0 (λ none. omega (arith, least, own, none, pos))

  -- sizes of a front whose places are sure
  front_sizes : (n : ℕ) → ((i : ℕ) → has_entry (take n all) i ≡ true → surer_places e es n i ≡ p.place i) → AgreeOn (sized e es (tree_shapes e es) p.place) (sized e es (tree_shapes e es) (surer_places e es n)) (take n all)
  front_sizes n sure =
      sizes_same e es (tree_shapes e es) (take n all) p.place (surer_places e es n) (λ i k. some_place i (stands n i k)) (λ i k. sym (sure i k)) (λ err. forward_front e es [] all n err (early err))

  next_sure : (n : ℕ) → ((i : ℕ) → has_entry (take n all) i ≡ true → surer_places e es n i ≡ p.place i) → (i : ℕ) → has_entry (take (suc n) all) i ≡ true → surer_places e es (suc n) i ≡ p.place i
  next_sure n sure i k = by_rest (drop n all) refl
    where
      f : ℕ → ℕ
      f = surer_places e es n

      by_rest : (rest : List (Mark ℕ)) → drop n all ≡ rest → put_by f all i ≡ p.place i
      by_rest [] is =
          let whole : all ≡ take n all = take_drop all n ∙ ap (λ ms. take n all ++ ms) is ∙ append-nil (take n all) in
          let agree = subst (AgreeOn (sized e es (tree_shapes e es) p.place) (sized e es (tree_shapes e es) f)) (sym whole) (front_sizes n sure) in
          sym (placed.place i ∙ place_agree (sized e es (tree_shapes e es) p.place) (sized e es (tree_shapes e es) f) es start all agree i)
      by_rest (m ∷ rest) is =
          let here : List (Mark ℕ) = take n all ++ m ∷ [] in
          let split : all ≡ here ++ rest = take_drop all n ∙ ap (λ ms. take n all ++ ms) is ∙ sym (append_assoc (take n all) (m ∷ []) rest) in
          let next : take (suc n) all ≡ here = ap (λ x. take x all) (let one : suc n ≡ n + 1 = omega arith in one) ∙ take_next all n m rest is in
          let own : has_entry here i ≡ true = sym (ap (λ ms. has_entry ms i) next) ∙ k in
          ap (λ ms. put_by f ms i) split
          ∙ place_append (sized e es (tree_shapes e es) f) es start here rest i own
          ∙ sym (place_next (sized e es (tree_shapes e es) p.place) (sized e es (tree_shapes e es) f) es start (take n all) m (front_sizes n sure) i)
          ∙ sym (place_append (sized e es (tree_shapes e es) p.place) es start here rest i own)
          ∙ sym (ap (λ ms. put_by p.place ms i) split)
          ∙ sym (placed.place i)

  front_sure : (n i : ℕ) → has_entry (take n all) i ≡ true → surer_places e es n i ≡ p.place i
  front_sure zero i k = absurd (true≢false (sym k ∙ ap (λ ms. has_entry ms i) (no_front all)))
  front_sure (suc n) i k = next_sure n (front_sure n) i k

  absent : (n i : ℕ) → has_entry all i ≡ false → surer_places e es n i ≡ 0
  absent zero i k = refl
  absent (suc n) i k = place_absent (sized e es (tree_shapes e es) (surer_places e es n)) es start all i k

  tree_place : (i : ℕ) → tree_places e es i ≡ p.place i
  tree_place i = by_entry (has_entry all i) refl
    where
      by_entry : (b : Bool) → has_entry all i ≡ b → tree_places e es i ≡ p.place i
      by_entry true k = front_sure (length all) i (ap (λ ms. has_entry ms i) (take-length all) ∙ k)
      by_entry false k = absent (length all) i k ∙ sym (placed.place i ∙ place_absent (sized e es (tree_shapes e es) p.place) es start all i k)

  pub tree_places-is : tree_places e es ≡ p.place
  tree_places-is = fun_ext tree_place

  -- where its entries stand
  pub places_in_tree-is : places_in_tree e es ≡ found p.place
  places_in_tree-is = ap found tree_places-is
