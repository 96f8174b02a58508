-- Sizes that hang on places of entries that stand no later in the tree.
use Rattle.std.specs.Prelude.{◌≡◌, ℕ, zero, suc, ◌+◌, ◌<◌, Bool, true, false, not, ◌||◌, ◌==◌, List, [], ◌∷◌, ◌++◌, length, take, drop, Option, Some, None, is_none, IsTrue, IsFalse, slice_index, if◌then◌else◌, refl}
use Rattle.std.proofs.Common.{◌∙◌, sym, ap, subst, arith}
use Rattle.std.proofs.lemmas.Bool.{or_left, or_parts, ne_eqb, true≢false, cond-false}
use Rattle.std.proofs.lemmas.Option.{none-some, same_Some}
use Rattle.dw_base.specs.Entries.{Mark, Open, Null}
use Rattle.dw_base.specs.declared.common.Encoding.{Encoding}
use Rattle.dw_base.specs.declared.error.Error.{Error}
use Rattle.dw_base.specs.declared.error.Error.TheVariants as errors
use Rattle.dw_expr.proofs.PartLaws.{nodes_quiet}
use Rattle.dw_expr.proofs.Placing.{size_same, unplaced-same}
use Rattle.dw_entries.specs.Content.{Content, Expression, counted, content_size, content_unplaced}
use Rattle.dw_entries.specs.declared.attribute.Attribute.{Attribute}
use Rattle.dw_entries.specs.Entries.{EntryValue, entry_at}
use Rattle.dw_entries.specs.Tree.{IsIn, has_entry, are_entries_distinct}
use Rattle.dw_entries.specs.Values.{content_of, KeepsPlaces}
use Rattle.dw_tree.specs.Early.{attributes_unplaced, mark_unplaced, standing, is_forward}
use Rattle.dw_tree.specs.Laid.{values_size}
use Rattle.dw_tree.specs.Laying.{LayoutValue, placement_in, begun, known_in, Extends}
use Rattle.dw_tree.specs.Places.{found, has_place}
use Rattle.dw_tree.proofs.LaidSoFar.{IsLaid}
use Rattle.dw_tree.proofs.Placed.{read_set, left_out, has_entry-split}

-- Which places are known

-- what is kept under an index is a place where it isn't 0
found_is : (b : Bool) (x n : ℕ) → ◌≡◌ {A = Option ℕ} (if b then None else Some x) (Some n) → (b ≡ false) × (x ≡ n)
found_is true x n h = absurd (none-some n h)
found_is false x n h = (refl, same_Some x n h)

pub found_there : (place : ℕ → ℕ) (i : ℕ) → (place i == 0) ≡ false → found place i ≡ Some (place i)
found_there place i h = cond-false (place i == 0) None (Some (place i)) h

-- places that keep those of a layout, where the others may come
pub keeps_found : (v : LayoutValue) (place : ℕ → ℕ) → Extends v place → KeepsPlaces (known_in v) (found place)
keeps_found v place ext i n h =
    let known = found_is (slice_index v.places i == 0) (slice_index v.places i) n h in
    let same = ext i (ap not known.0) in
    found_there place i (ap (λ x. x == 0) same ∙ known.0) ∙ ap Some (same ∙ known.1)

-- That an entry has a place decides, not which one

content_unplaced-same : (e : Encoding) (p q : ℕ → Option ℕ) → ((i : ℕ) → is_none (p i) ≡ is_none (q i)) → (c : Content) (err : Error) → content_unplaced e p c err ≡ content_unplaced e q c err
content_unplaced-same e p q same (Expression ns) err = unplaced-same e p q same ns err
content_unplaced-same e p q same c err = refl

pub attributes_unplaced-same : (e : Encoding) (p q : ℕ → Option ℕ) → ((i : ℕ) → is_none (p i) ≡ is_none (q i)) → (xs : List Attribute) (err : Error) → attributes_unplaced e p xs err ≡ attributes_unplaced e q xs err
attributes_unplaced-same e p q same [] err = refl
attributes_unplaced-same e p q same (a ∷ xs) err = λ i. content_unplaced-same e p q same (content_of e a.value) err i || attributes_unplaced-same e p q same xs err i

pub mark_unplaced-same : (e : Encoding) (es : List EntryValue) (p q : ℕ → Option ℕ) → ((i : ℕ) → is_none (p i) ≡ is_none (q i)) → (m : Mark ℕ) (err : Error) → mark_unplaced e es p m err ≡ mark_unplaced e es q m err
mark_unplaced-same e es p q same (Open j) err = attributes_unplaced-same e p q same (entry_at es j).attributes err
mark_unplaced-same e es p q same Null err = refl

-- no writer has a part in it
content_quiet : (e : Encoding) (known : ℕ → Option ℕ) (c : Content) → content_unplaced e known c errors.WriteFault ≡ false
content_quiet e known (Expression ns) = nodes_quiet e (Some known) ns
content_quiet e known c = refl

both_false : (a b : Bool) → a ≡ false → b ≡ false → (a || b) ≡ false
both_false true b h k = h
both_false false b h k = k

attributes_quiet : (e : Encoding) (known : ℕ → Option ℕ) (xs : List Attribute) → attributes_unplaced e known xs errors.WriteFault ≡ false
attributes_quiet e known [] = refl
attributes_quiet e known (a ∷ xs) = both_false (content_unplaced e known (content_of e a.value) errors.WriteFault) _ (content_quiet e known (content_of e a.value)) (attributes_quiet e known xs)

mark_quiet : (e : Encoding) (es : List EntryValue) (known : ℕ → Option ℕ) (m : Mark ℕ) → mark_unplaced e es known m errors.WriteFault ≡ false
mark_quiet e es known (Open j) = attributes_quiet e known (entry_at es j).attributes
mark_quiet e es known Null = refl

pub forward_quiet : (e : Encoding) (es : List EntryValue) (before ms : List (Mark ℕ)) → is_forward e es before ms errors.WriteFault ≡ false
forward_quiet e es before [] = refl
forward_quiet e es before (m ∷ ms) = both_false (mark_unplaced e es (standing (before ++ m ∷ [])) m errors.WriteFault) _ (mark_quiet e es (standing (before ++ m ∷ [])) m) (forward_quiet e es (before ++ m ∷ []) ms)

-- Sizes are the same where more entries have places

content_kept : (e : Encoding) (p q : ℕ → Option ℕ) → KeepsPlaces p q → (c : Content) → IsFalse (content_unplaced e p c errors.UnsupportedExpressionForwardReference) → content_size e p c ≡ content_size e q c
content_kept e p q keeps (Expression ns) h = ap counted (size_same e p q keeps ns h)
content_kept e p q keeps c h = refl

pub values_kept : (e : Encoding) (p q : ℕ → Option ℕ) → KeepsPlaces p q → (xs : List Attribute) → IsFalse (attributes_unplaced e p xs errors.UnsupportedExpressionForwardReference) → values_size e p xs ≡ values_size e q xs
values_kept e p q keeps [] h = refl
values_kept e p q keeps (a ∷ xs) h =
    let parts = or_parts (content_unplaced e p (content_of e a.value) errors.UnsupportedExpressionForwardReference) (attributes_unplaced e p xs errors.UnsupportedExpressionForwardReference) h in
    omega (arith, content_kept e p q keeps (content_of e a.value) parts.0, values_kept e p q keeps xs parts.1)

-- Marks one after another

pub has_entry-append : (xs ys : List (Mark ℕ)) (i : ℕ) → has_entry (xs ++ ys) i ≡ (has_entry xs i || has_entry ys i)
has_entry-append [] ys i = refl
has_entry-append (Open j ∷ xs) ys i = ap (λ b. (j == i) || b) (has_entry-append xs ys i) ∙ or_again (j == i) (has_entry xs i) (has_entry ys i)
  where
    or_again : (a b c : Bool) → (a || (b || c)) ≡ ((a || b) || c)
    or_again true b c = refl
    or_again false b c = refl
has_entry-append (Null ∷ xs) ys i = has_entry-append xs ys i

pub take_next : (ms : List (Mark ℕ)) (k : ℕ) (m : Mark ℕ) (rest : List (Mark ℕ)) → drop k ms ≡ m ∷ rest → take (k + 1) ms ≡ take k ms ++ m ∷ []
take_next [] zero m rest h = absurd cc
take_next [] (suc k) m rest h = absurd cc
take_next (x ∷ ms) zero m rest h = let same : x ≡ m = cc in first ms x m same
  where
    first : (ms : List (Mark ℕ)) (x m : Mark ℕ) → x ≡ m → take (0 + 1) (x ∷ ms) ≡ m ∷ []
    first [] x m same = ap (λ y. y ∷ []) same
    first (y ∷ ms) x m same = ap (λ y. y ∷ []) same
take_next (x ∷ ms) (suc k) m rest h =
    let next : suc k + 1 ≡ suc (k + 1) = omega arith in
    ap (λ n. take n (x ∷ ms)) next ∙ ap (λ ys. x ∷ ys) (take_next ms k m rest h)

-- no size hangs on a later entry among a front either
pub forward_front : (e : Encoding) (es : List EntryValue) (before ms : List (Mark ℕ)) (n : ℕ) (err : Error) → IsFalse (is_forward e es before ms err) → IsFalse (is_forward e es before (take n ms) err)
forward_front e es before [] zero err h = refl
forward_front e es before [] (suc n) err h = refl
forward_front e es before (m ∷ ms) zero err h = refl
forward_front e es before (m ∷ ms) (suc n) err h =
    let here = before ++ m ∷ [] in
    let parts = or_parts (mark_unplaced e es (standing here) m err) (is_forward e es here ms err) h in
    both (mark_unplaced e es (standing here) m err) _ parts.0 (forward_front e es here ms n err parts.1)
  where
    both : (a b : Bool) → IsFalse a → IsFalse b → IsFalse (a || b)
    both true b h k = h
    both false b h k = k

-- A layout's entries that have places are those of the marks so far

none_found : (place : ℕ → ℕ) (i : ℕ) → is_none (found place i) ≡ (place i == 0)
none_found place i = by (place i == 0)
  where
    by : (b : Bool) → is_none (let o : Option ℕ = if b then None else Some (place i) in o) ≡ b
    by true = refl
    by false = refl

pub none_standing : (ms : List (Mark ℕ)) (i : ℕ) → is_none (standing ms i) ≡ not (has_entry ms i)
none_standing ms i = by (has_entry ms i)
  where
    by : (b : Bool) → is_none (let o : Option ℕ = if b then Some 0 else None in o) ≡ not b
    by true = refl
    by false = refl

-- an entry of the front has a place, and one that is left has none
known_front : (left placed front : Bool) → (left || placed) ≡ (front || left) → (left ≡ true → placed ≡ false) → (front ≡ true → left ≡ false) → placed ≡ front
known_front true placed true is fresh out = absurd (true≢false (out refl))
known_front true placed false is fresh out = fresh refl
known_front false placed true is fresh out = is
known_front false placed false is fresh out = is

not_not : (b : Bool) → b ≡ not (not b)
not_not true = refl
not_not false = refl

module _ (size : (ℕ → ℕ) → ℕ → ℕ) (es : List EntryValue) (start : ℕ) (all : List (Mark ℕ)) (n : ℕ) (m : Mark ℕ) (rest : List (Mark ℕ)) (v : LayoutValue)
    (distinct : are_entries_distinct all ≡ true) (left : drop n all ≡ m ∷ rest) (within : IsIn (length es) m) (h : IsLaid size es start all (m ∷ rest) v) where
  placed_front : (i : ℕ) → has_place (placement_in v) i ≡ has_entry (take n all) i
  placed_front i =
      let split = has_entry-split all n i ∙ ap (λ ms. has_entry (take n all) i || has_entry ms i) left in
      known_front (has_entry (m ∷ rest) i) (has_place (placement_in v) i) (has_entry (take n all) i) (sym (h.inside i) ∙ split) (h.fresh i)
      (λ there. sym (ap (λ ms. has_entry ms i) left) ∙ left_out all n i distinct there)

  -- once the next entry has its place, these are it and those before it
  pub known_standing : (i : ℕ) → is_none (known_in (begun m v) i) ≡ is_none (standing (take n all ++ m ∷ []) i)
  known_standing i = by_mark m refl
    where
      with_own : (b kept front : Bool) (here : ℕ) → (here == 0) ≡ false → not kept ≡ front → (if b then here == 0 else kept) ≡ not (front || (b || false))
      with_own true kept true here some is = some
      with_own true kept false here some is = some
      with_own false kept true here some is = not_not kept ∙ ap not is
      with_own false kept false here some is = not_not kept ∙ ap not is

      if_zero : (b : Bool) (x y : ℕ) → ((if b then x else y) == 0) ≡ (if b then x == 0 else y == 0)
      if_zero true x y = refl
      if_zero false x y = refl

      by_mark : (k : Mark ℕ) → m ≡ k → is_none (known_in (begun m v) i) ≡ is_none (standing (take n all ++ m ∷ []) i)
      by_mark Null is =
          ap (λ k. is_none (known_in (begun k v) i)) is
          ∙ none_found (slice_index v.places) i
          ∙ not_not (slice_index v.places i == 0)
          ∙ ap not (placed_front i ∙ sym (or_none (has_entry (take n all) i)))
          ∙ ap not (sym (has_entry-append (take n all) (Null ∷ []) i))
          ∙ sym (none_standing (take n all ++ Null ∷ []) i)
          ∙ ap (λ k. is_none (standing (take n all ++ k ∷ []) i)) (sym is)
        where
          or_none : (b : Bool) → (b || false) ≡ b
          or_none true = refl
          or_none false = refl
      by_mark (Open j) is =
          let room : j < length v.places = omega (arith, h.room, subst (IsIn (length es)) is within) in
          let end : (v.end == 0) ≡ false = ne_eqb v.end 0 (λ (none : v.end ≡ 0). omega (arith, h.started, none)) in
          ap (λ k. is_none (known_in (begun k v) i)) is
          ∙ none_found (slice_index (begun (Open j) v).places) i
          ∙ ap (λ n. n == 0) (read_set v.places j v.end i room)
          ∙ if_zero (j == i) v.end (slice_index v.places i)
          ∙ with_own (j == i) (slice_index v.places i == 0) (has_entry (take n all) i) v.end end (placed_front i)
          ∙ ap not (sym (has_entry-append (take n all) (Open j ∷ []) i))
          ∙ sym (none_standing (take n all ++ Open j ∷ []) i)
          ∙ ap (λ k. is_none (standing (take n all ++ k ∷ []) i)) (sym is)

  -- whether the next entry's size hangs on a later one
  pub next_forward : (e : Encoding) (err : Error) → mark_unplaced e es (known_in (begun m v)) m err ≡ mark_unplaced e es (standing (take n all ++ m ∷ [])) m err
  next_forward e err = mark_unplaced-same e es (known_in (begun m v)) (standing (take n all ++ m ∷ [])) known_standing m err

  forward_at : (e : Encoding) (err : Error) → is_forward e es (take n all) (drop n all) err ≡ (mark_unplaced e es (known_in (begun m v)) m err || is_forward e es (take (n + 1) all) rest err)
  forward_at e err =
      ap (λ ms. is_forward e es (take n all) ms err) left
      ∙ ap (λ b. b || is_forward e es (take n all ++ m ∷ []) rest err) (sym (next_forward e err))
      ∙ ap (λ ms. mark_unplaced e es (known_in (begun m v)) m err || is_forward e es ms rest err) (sym (take_next all n m rest left))

  -- where it doesn't, the others tell
  pub forward_more : (e : Encoding) (err : Error) → IsFalse (mark_unplaced e es (known_in (begun m v)) m err) → is_forward e es (take (n + 1) all) rest err ≡ is_forward e es (take n all) (drop n all) err
  forward_more e err h = sym (forward_at e err ∙ ap (λ b. b || is_forward e es (take (n + 1) all) rest err) h)

  pub forward_here : (e : Encoding) (err : Error) → IsTrue (mark_unplaced e es (known_in (begun m v)) m err) → IsTrue (is_forward e es (take n all) (drop n all) err)
  forward_here e err h = forward_at e err ∙ or_left (mark_unplaced e es (known_in (begun m v)) m err) _ h

pub forward_start : (e : Encoding) (es : List EntryValue) (ms : List (Mark ℕ)) (err : Error) → is_forward e es (take 0 ms) (drop 0 ms) err ≡ is_forward e es [] ms err
forward_start e es [] err = refl
forward_start e es (m ∷ ms) err = refl
