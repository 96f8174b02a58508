-- The places that a layout keeps and those of the marks that are left stay the places of all marks.
use Rattle.std.specs.Prelude.{◌≡◌, ℕ, zero, suc, ◌+◌, ◌<◌, Bool, true, false, not, ◌||◌, ◌==◌, List, [], ◌∷◌, length, take, drop, replicate, slice_index, slice_set, if◌then◌else◌, refl}
use Rattle.std.proofs.Common.{◌∙◌, sym, ap, subst, arith, ⊎_elim}
use Rattle.std.specs.List.{list_any}
use Rattle.std.proofs.lemmas.Bool.{cases_lt, and_parts, not-true, cond_both, cond-true, cond-false, or_left, or_right, or_from, or_parts, eqb-true, eqb-false, eq-eqb, ne_eqb, true≢false}
use Rattle.std.proofs.lemmas.List.{get_or-replicate, get_or_past, length-replicate, get_or-set_same, get_or-set_other}
use Rattle.dw_base.specs.Entries.{Mark, Open, Null}
use Rattle.dw_entries.specs.Entries.{EntryValue, is_parent}
use Rattle.dw_entries.specs.Tree.{has_entry, are_entries_distinct}
use Rattle.dw_tree.specs.Laid.{size_of, sizes_of, place_from, past_from, behind_from}
use Rattle.dw_tree.specs.Laying.{LayoutValue, unlaid, begun, entered, closed_in}
use Rattle.dw_tree.proofs.LaidSoFar.{AreBehind, IsPlaced}

-- what is read after a number was put under an index
pub read_set : (xs : List ℕ) (j v i : ℕ) → j < length xs → slice_index (slice_set xs j v) i ≡ (if j == i then v else slice_index xs i)
read_set xs j v i lt =
    cond_both (j == i) v (slice_index xs i) (λ z. slice_index (slice_set xs j v) i ≡ z)
    (λ same. ap (slice_index (slice_set xs j v)) (sym (eqb-true j i same)) ∙ get_or-set_same xs j v 0 lt)
    (λ other. get_or-set_other xs j i v 0 (λ e. eqb-false j i other (sym e)))

-- nothing but zeros is read
pub read_zeros : (n i : ℕ) → slice_index (replicate n 0) i ≡ 0
read_zeros n i =
    ⊎_elim (λ within. get_or-replicate n i 0 0 within) (λ past. get_or_past (replicate n 0) i 0 (omega (arith, length-replicate {A = ℕ} n 0))) (cases_lt i n)

-- an entry that is not left is not the one that is
pub left_once : (rest : List (Mark ℕ)) (j i : ℕ) → has_entry rest j ≡ false → (j == i) ≡ true → has_entry rest i ≡ false
left_once rest j i once same = ap (has_entry rest) (sym (eqb-true j i same)) ∙ once

-- one more entry before a front
either_more : (b h x y : Bool) → h ≡ (x || y) → (b || h) ≡ ((b || x) || y)
either_more true h x y is = refl
either_more false h x y is = is

-- what holds of the first entry and of those behind it
front_step : (b h left : Bool) → (b ≡ true → left ≡ false) → (h ≡ true → left ≡ false) → (b || h) ≡ true → left ≡ false
front_step true h left first more there = first refl
front_step false h left first more there = more there

-- an entry that isn't among marks isn't among those behind a front of them
has_entry-dropped : (ms : List (Mark ℕ)) (n i : ℕ) → has_entry ms i ≡ false → has_entry (drop n ms) i ≡ false
has_entry-dropped [] zero i none = refl
has_entry-dropped [] (suc n) i none = refl
has_entry-dropped (m ∷ ms) zero i none = none
has_entry-dropped (Open j ∷ ms) (suc n) i none = has_entry-dropped ms n i (or_parts (j == i) (has_entry ms i) none).1
has_entry-dropped (Null ∷ ms) (suc n) i none = has_entry-dropped ms n i none

-- an entry of a front isn't left behind it
pub left_out : (ms : List (Mark ℕ)) (n i : ℕ) → are_entries_distinct ms ≡ true → has_entry (take n ms) i ≡ true → has_entry (drop n ms) i ≡ false
left_out [] zero i distinct there = refl
left_out [] (suc n) i distinct there = refl
left_out (m ∷ ms) zero i distinct there = absurd (true≢false (sym there))
left_out (Open j ∷ ms) (suc n) i distinct there =
    let parts = and_parts (not (has_entry ms j)) (are_entries_distinct ms) distinct in
    front_step (j == i) (has_entry (take n ms) i) (has_entry (drop n ms) i)
    (λ same. left_once (drop n ms) j i (has_entry-dropped ms n j (not-true (has_entry ms j) parts.0)) same)
    (left_out ms n i parts.1) there
left_out (Null ∷ ms) (suc n) i distinct there = left_out ms n i distinct there

-- the entries of marks are those of a front and of the rest
pub has_entry-split : (ms : List (Mark ℕ)) (n i : ℕ) → has_entry ms i ≡ (has_entry (take n ms) i || has_entry (drop n ms) i)
has_entry-split [] zero i = refl
has_entry-split [] (suc n) i = refl
has_entry-split (m ∷ ms) zero i = refl
has_entry-split (Open j ∷ ms) (suc n) i = either_more (j == i) (has_entry ms i) (has_entry (take n ms) i) (has_entry (drop n ms) i) (has_entry-split ms n i)
has_entry-split (Null ∷ ms) (suc n) i = has_entry-split ms n i

-- the place of an entry is kept as soon as it is not left
place_step : (b h : Bool) (place left here kept : ℕ) → (b ≡ true → h ≡ false) → place ≡ (if b || h then (if b then here else left) else kept) → place ≡ (if h then left else (if b then here else kept))
place_step true true place left here kept once e = absurd (true≢false (once refl))
place_step true false place left here kept once e = e
place_step false true place left here kept once e = e
place_step false false place left here kept once e = e

-- the place of the first entry is the same whatever stands behind it
both_cases : (b h : Bool) (at x y : ℕ) → (h ≡ true → x ≡ y) → (b || h) ≡ true → (if b then at else x) ≡ (if b then at else y)
both_cases true h at x y same there = refl
both_cases false h at x y same there = same there

module _ (size : ℕ → ℕ) (es : List EntryValue) where
  -- an entry that isn't there stands at 0
  pub place_from-none : (at : ℕ) (ms : List (Mark ℕ)) (i : ℕ) → has_entry ms i ≡ false → place_from size es at ms i ≡ 0
  place_from-none at [] i none = refl
  place_from-none at (Open j ∷ ms) i none =
      let parts = or_parts (j == i) (has_entry ms i) none in
      cond-false (j == i) _ _ parts.0 ∙ place_from-none (at + size_of size es (Open j)) ms i parts.1
  place_from-none at (Null ∷ ms) i none = place_from-none (at + 1) ms i none

  -- nor is a place past it
  pub past_from-none : (at : ℕ) (ms : List (Mark ℕ)) (i : ℕ) → has_entry ms i ≡ false → past_from size es at ms i ≡ 0
  past_from-none at [] i none = refl
  past_from-none at (Open j ∷ ms) i none =
      let parts = or_parts (j == i) (has_entry ms i) none in
      cond-false (j == i) _ _ parts.0 ∙ past_from-none (at + size_of size es (Open j)) ms i parts.1
  past_from-none at (Null ∷ ms) i none = past_from-none (at + 1) ms i none

  -- a front's entries stand where they stand among all marks
  pub place_from-front : (at : ℕ) (ms : List (Mark ℕ)) (n i : ℕ) → has_entry (take n ms) i ≡ true → place_from size es at (take n ms) i ≡ place_from size es at ms i
  place_from-front at [] zero i there = refl
  place_from-front at [] (suc n) i there = refl
  place_from-front at (m ∷ ms) zero i there = absurd (true≢false (sym there))
  place_from-front at (Open j ∷ ms) (suc n) i there =
      both_cases (j == i) (has_entry (take n ms) i) at (place_from size es (at + size_of size es (Open j)) (take n ms) i) (place_from size es (at + size_of size es (Open j)) ms i)
      (place_from-front (at + size_of size es (Open j)) ms n i) there
  place_from-front at (Null ∷ ms) (suc n) i there = place_from-front (at + 1) ms n i there

  -- the bytes of marks are those of a front and of the rest
  pub sizes_of-split : (ms : List (Mark ℕ)) (n : ℕ) → sizes_of size es ms ≡ sizes_of size es (take n ms) + sizes_of size es (drop n ms)
  sizes_of-split [] zero = refl
  sizes_of-split [] (suc n) = refl
  sizes_of-split (m ∷ ms) zero = omega arith
  sizes_of-split (m ∷ ms) (suc n) = omega (arith, sizes_of-split ms n)

  module _ (start : ℕ) (all : List (Mark ℕ)) where
    abbrev is_placed : List (Mark ℕ) → LayoutValue → Type 0
    is_placed rest v = IsPlaced size es start all rest v

    -- before the first mark all places are those of the marks
    pub placed_start : (n : ℕ) → is_placed all (unlaid n start)
    placed_start n = record {
      sum = refl;
      place = λ i. cond_both (has_entry all i) (place_from size es start all i) (slice_index (replicate n 0) i) (λ p. place_from size es start all i ≡ p) (λ _. refl) (λ none. place_from-none start all i none ∙ sym (read_zeros n i));
      past_left = λ i _. refl;
      past_behind = tt;
      past_kept = λ i none _. past_from-none start all i none ∙ sym (read_zeros n i);
    }

    -- an entry without children closes no list
    behind_leaf : (d at j : ℕ) (rest : List (Mark ℕ)) (parents : List ℕ) → is_parent es j ≡ false → AreBehind size es start all d at (Open j ∷ rest) parents → AreBehind size es start all d (at + size_of size es (Open j)) rest parents
    behind_leaf d at j rest [] leaf h = tt
    behind_leaf d at j rest (i ∷ parents) leaf h =
        (h.0 ∙ ap (λ b. behind_from size es (if b then suc d else d) (at + size_of size es (Open j)) rest) leaf, behind_leaf (suc d) at j rest parents leaf h.1)

    -- a parent's list is closed before the others
    behind_parent : (d at j : ℕ) (rest : List (Mark ℕ)) (parents : List ℕ) → is_parent es j ≡ true → AreBehind size es start all d at (Open j ∷ rest) parents → AreBehind size es start all (suc d) (at + size_of size es (Open j)) rest parents
    behind_parent d at j rest [] parent h = tt
    behind_parent d at j rest (i ∷ parents) parent h =
        (h.0 ∙ ap (λ b. behind_from size es (if b then suc d else d) (at + size_of size es (Open j)) rest) parent, behind_parent (suc d) at j rest parents parent h.1)

    -- behind the mark that closes one list the others are left
    behind_close : (d at : ℕ) (rest : List (Mark ℕ)) (parents : List ℕ) → AreBehind size es start all (suc d) at (Null ∷ rest) parents → AreBehind size es start all d (at + 1) rest parents
    behind_close d at rest [] h = tt
    behind_close d at rest (i ∷ parents) h = (h.0, behind_close (suc d) at rest parents h.1)

    module _ (j : ℕ) (rest : List (Mark ℕ)) (v : LayoutValue) (once : has_entry rest j ≡ false) (room : j < length v.places) (past_room : j < length v.pasts) (h : is_placed (Open j ∷ rest) v) where
      abbrev to : ℕ
      to = v.end + size_of size es (Open j)

      -- the entry's place is kept
      open_place : (i : ℕ) → place_from size es start all i ≡ (if has_entry rest i then place_from size es to rest i else slice_index (slice_set v.places j v.end) i)
      open_place i =
          rw (read_set v.places j v.end i room)
          (place_step (j == i) (has_entry rest i) (place_from size es start all i) (place_from size es to rest i) v.end (slice_index v.places i) (left_once rest j i once) (h.place i))

      -- those of the marks that are left stay
      open_past : (i : ℕ) → has_entry rest i ≡ true → past_from size es start all i ≡ past_from size es to rest i
      open_past i left =
          h.past_left i (or_right (j == i) (has_entry rest i) left)
          ∙ cond_both (j == i) _ (past_from size es to rest i) (λ p. p ≡ past_from size es to rest i) (λ same. absurd (true≢false (sym left ∙ left_once rest j i once same))) (λ _. refl)

      -- the place past the entry itself
      own_past : (i : ℕ) → (j == i) ≡ true → past_from size es start all i ≡ (if is_parent es j then behind_from size es 0 to rest else to)
      own_past i same = h.past_left i (or_left (j == i) (has_entry rest i) same) ∙ cond-true (j == i) _ _ same

      -- without children, its bytes end there
      placed_leaf : is_parent es j ≡ false → is_placed rest (entered j to false (begun (Open j) v))
      placed_leaf leaf = record {
        sum = omega (arith, h.sum);
        place = open_place;
        past_left = open_past;
        past_behind = behind_leaf 0 v.end j rest v.parents leaf h.past_behind;
        past_kept = λ i out none. rw (read_set v.pasts j to i past_room)
            (cond_both (j == i) to (slice_index v.pasts i) (λ p. past_from size es start all i ≡ p)
            (λ same. own_past i same ∙ cond-false (is_parent es j) _ _ leaf)
            (λ other. h.past_kept i (or_from (j == i) (has_entry rest i) other out) none));
      }

      -- a parent waits for the end of its list
      placed_parent : is_parent es j ≡ true → is_placed rest (entered j to true (begun (Open j) v))
      placed_parent parent = record {
        sum = omega (arith, h.sum);
        place = open_place;
        past_left = open_past;
        past_behind = (own_past j (eq-eqb j j refl) ∙ cond-true (is_parent es j) _ _ parent, behind_parent 0 v.end j rest v.parents parent h.past_behind);
        past_kept = λ i out none.
            let parts = or_parts (i == j) (list_any (λ x. i == x) v.parents) none in
            h.past_kept i (or_from (j == i) (has_entry rest i) (ne_eqb j i (λ same. eqb-false i j parts.0 (sym same))) out) parts.1;
      }

      -- an entry is laid out
      pub placed_open : (b : Bool) → is_parent es j ≡ b → is_placed rest (entered j to b (begun (Open j) v))
      placed_open true is = placed_parent is
      placed_open false is = placed_leaf is

    -- a list of children is closed
    pub placed_close : (i : ℕ) (parents : List ℕ) (rest : List (Mark ℕ)) (v : LayoutValue) → v.parents ≡ i ∷ parents → i < length v.pasts → is_placed (Null ∷ rest) v → is_placed rest (closed_in (i ∷ parents) (v.end + 1) v)
    placed_close i parents rest v is room h =
        let behind = subst (AreBehind size es start all 0 v.end (Null ∷ rest)) is h.past_behind in
        record {
          sum = omega (arith, h.sum);
          place = h.place;
          past_left = h.past_left;
          past_behind = behind_close 0 v.end rest parents behind.1;
          past_kept = λ k out none. rw (read_set v.pasts i (v.end + 1) k room)
              (cond_both (i == k) (v.end + 1) (slice_index v.pasts k) (λ p. past_from size es start all k ≡ p)
              (λ same. ap (past_from size es start all) (sym (eqb-true i k same)) ∙ behind.0)
              (λ other. h.past_kept k out (ap (list_any (λ x. k == x)) is ∙ or_from (k == i) (list_any (λ x. k == x) parents) (ne_eqb k i (λ same. eqb-false i k other (sym same))) none)));
        }
