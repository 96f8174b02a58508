-- A layout goes over one mark after another.
use Rattle.std.specs.Prelude.{◌≡◌, ℕ, suc, ◌+◌, ◌<◌, ◌≤◌, ◌^◌, Bool, true, false, not, ◌||◌, ◌==◌, List, [], ◌∷◌, ◌++◌, length, take, drop, map, All, IsTrue, slice_index, slice_set, if◌then◌else◌, refl}
use Rattle.std.proofs.Common.{◌∙◌, sym, ap, subst, arith}
use Rattle.std.specs.List.{list_any}
use Rattle.std.proofs.Math.Bool.{or-false}
use Rattle.std.proofs.lemmas.Bool.{and_parts, not-true, not-false, eqb-true, ne_eqb, true≢false, false≢true, cond-false, or_left, or_right, eq-eqb}
use Rattle.std.proofs.lemmas.List.{length-replicate, length-set}
use Rattle.std.proofs.lemmas.List.Elements.{All-nil, All-cons, All-head, All-tail}
use Rattle.dw_base.specs.Entries.{Mark, Open, Null, closes}
use Rattle.dw_base.specs.declared.error.Error.{Error}
use Rattle.dw_base.specs.declared.error.Error.TheVariants.{NoMemory, ValueTooLarge}
use Rattle.dw_entries.specs.Entries.{EntryValue, is_parent}
use Rattle.dw_entries.specs.Tree.{IsIn, children_in, has_entry, are_entries_distinct}
use Rattle.dw_tree.specs.Causes.{LayoutRefused}
use Rattle.dw_tree.specs.Laid.{size_of, sizes_of, place_from, IsPlacement, HasNoRoom}
use Rattle.dw_tree.specs.Laying.{LayoutValue, unlaid, placement_in, begun, entered, closed_in, stepped, Extends}
use Rattle.dw_tree.specs.Places.{has_place}
use Rattle.dw_tree.proofs.LaidSoFar.{IsPlaced, IsLaid}
use Rattle.dw_tree.proofs.Placed.{read_set, read_zeros, left_once, left_out, has_entry-split, place_from-none, place_from-front, sizes_of-split, placed_start, placed_open, placed_close}

-- the lists that are open behind an entry without children
closes_leaf : (d : ℕ) (ms : List (Mark Bool)) → closes (suc d) (Open false ∷ ms) ≡ true → closes (suc d) ms ≡ true
unfolding closes
closes_leaf d ms h = h

-- behind a parent
closes_parent : (d : ℕ) (ms : List (Mark Bool)) → closes (suc d) (Open true ∷ ms) ≡ true → closes (suc (suc d)) ms ≡ true
unfolding closes
closes_parent d ms h = h

-- and behind the mark that closes one
closes_close : (d : ℕ) (ms : List (Mark Bool)) → closes (suc d) (Null ∷ ms) ≡ true → closes d ms ≡ true
unfolding closes
closes_close d ms h = h

-- a list is open before the last mark
closes_last : (ms : List (Mark Bool)) → closes 0 (ms ++ Null ∷ []) ≡ true → ⊥
unfolding closes
closes_last [] h = false≢true h
closes_last (m ∷ ms) h = false≢true h

-- and only that one
no_parents : (parents : List ℕ) → closes (suc (length parents)) (Null ∷ []) ≡ true → parents ≡ []
unfolding closes
no_parents [] h = refl
no_parents (i ∷ parents) h = absurd (false≢true h)

-- an entry has a place as soon as it is not left
inside_step : (b h known : Bool) (here kept : ℕ) → 0 < here → (b ≡ true → h ≡ false) → known ≡ ((b || h) || not (kept == 0)) → known ≡ (h || not ((if b then here else kept) == 0))
inside_step true true known here kept pos once is = absurd (true≢false (once refl))
inside_step true false known here kept pos once is = is ∙ sym (ap not (ne_eqb here 0 (λ (none : here ≡ 0). omega arith)))
inside_step false h known here kept pos once is = is

either_bounded : (b : Bool) (x y end : ℕ) → x ≤ end → y ≤ end → (if b then x else y) ≤ end
either_bounded true x y end p q = p
either_bounded false x y end p q = q

-- what is put under an index stays below the end, as what is there does
bounded_set : (xs : List ℕ) (j x low end i : ℕ) → j < length xs → x ≤ end → low ≤ end → slice_index xs i ≤ low → slice_index (slice_set xs j x) i ≤ end
bounded_set xs j x low end i lt p q h = rw (read_set xs j x i lt) (either_bounded (j == i) x (slice_index xs i) end p (omega arith))

-- an entry that has a place is another than one that has none
other_entry : (j i : ℕ) (v : LayoutValue) → has_place (placement_in v) j ≡ false → has_place (placement_in v) i ≡ true → (j == i) ≡ false
other_entry j i v none known = ne_eqb j i (λ same. true≢false (sym known ∙ ap (has_place (placement_in v)) (sym same) ∙ none))

-- an entry that is left is another than one that isn't
other_left : (j i : ℕ) (rest : List (Mark ℕ)) → has_entry rest j ≡ false → has_entry rest i ≡ true → (j == i) ≡ false
other_left j i rest once left = ne_eqb j i (λ same. true≢false (sym left ∙ ap (has_entry rest) (sym same) ∙ once))

-- places that keep those of a layout keep the same ones of another
extends-same : (place : ℕ → ℕ) (u v : LayoutValue) → u.places ≡ v.places → Extends v place → Extends u place
extends-same place u v same ext i known =
    ext i (ap (λ (xs : List ℕ). not (slice_index xs i == 0)) (sym same) ∙ known) ∙ ap (λ (xs : List ℕ). slice_index xs i) (sym same)

-- an entry of a front stands where it stands among all, one behind it nowhere
front_place : (front behind : Bool) (here place all left : ℕ) → (front ≡ true → (behind ≡ false) × (place ≡ all)) → (front ≡ false → place ≡ 0) → ((front || behind) ≡ false → all ≡ 0) → (behind ≡ true → here ≡ 0) → all ≡ (if behind then left else here) → here ≡ place
front_place true true here place all left there none out fresh is = absurd (true≢false (there refl).0)
front_place true false here place all left there none out fresh is = sym ((there refl).1 ∙ is)
front_place false true here place all left there none out fresh is = fresh refl ∙ sym (none refl)
front_place false false here place all left there none out fresh is = sym is ∙ out refl ∙ sym (none refl)

unplaced : (n : ℕ) → not (n == 0) ≡ false → n ≡ 0
unplaced n none = eqb-true n 0 (not-false (n == 0) none)

-- sums that are the same behind one place
same_size : (at x y : ℕ) → at + x ≡ at + y → x ≡ y
same_size at x y same = omega (arith, same)

module _ (es : List EntryValue) where
  -- what is laid out, by what it does to the end and to the places
  entered_end : (j to : ℕ) (b : Bool) (v : LayoutValue) → (entered j to b v).end ≡ to
  entered_end j to true v = refl
  entered_end j to false v = refl

  entered_places : (j to : ℕ) (b : Bool) (v : LayoutValue) → (entered j to b v).places ≡ v.places
  entered_places j to true v = refl
  entered_places j to false v = refl

  closed_end : (parents : List ℕ) (to : ℕ) (v : LayoutValue) → (closed_in parents to v).end ≡ to
  closed_end [] to v = refl
  closed_end (i ∷ parents) to v = refl

  closed_places : (parents : List ℕ) (to : ℕ) (v : LayoutValue) → (closed_in parents to v).places ≡ v.places
  closed_places [] to v = refl
  closed_places (i ∷ parents) to v = refl

  -- a mark ends where it is laid out up to
  pub end-stepped : (m : Mark ℕ) (to : ℕ) (v : LayoutValue) → (stepped es m to v).end ≡ to
  end-stepped (Open j) to v = entered_end j to (is_parent es j) (begun (Open j) v)
  end-stepped Null to v = closed_end v.parents to v

  -- and the places are those known once the mark's entry has its own
  pub places-stepped : (m : Mark ℕ) (to : ℕ) (v : LayoutValue) → (stepped es m to v).places ≡ (begun m v).places
  places-stepped (Open j) to v = entered_places j to (is_parent es j) (begun (Open j) v)
  places-stepped Null to v = closed_places v.parents to v

module _ (size : (ℕ → ℕ) → ℕ → ℕ) (es : List EntryValue) (start : ℕ) (all : List (Mark ℕ)) where
  abbrev is_laid : List (Mark ℕ) → LayoutValue → Type 0
  is_laid rest v = IsLaid size es start all rest v

  -- what closes the lists behind marks
  abbrev closing : List (Mark ℕ) → List (Mark Bool)
  closing rest = map (children_in es) rest ++ Null ∷ []

  -- before the first mark
  pub laid_start : 0 < start → are_entries_distinct all ≡ true → closes 1 (closing all) ≡ true → is_laid all (unlaid (length es) start)
  laid_start pos distinct closed =
      let n = length es in
      record {
        distinct = distinct;
        closed = closed;
        parents_in = All-nil (λ i. i < n);
        room = length-replicate n 0;
        past_room = length-replicate n 0;
        started = pos;
        inside = λ i. sym (ap (λ x. has_entry all i || not (x == 0)) (read_zeros n i) ∙ or-false (has_entry all i));
        fresh = λ i left. ap (λ n. not (n == 0)) (read_zeros n i);
        place_bounded = λ i. omega (arith, read_zeros n i);
        past_bounded = λ i. omega (arith, read_zeros n i);
        placed = λ place ext. placed_start (size place) es start all n;
      }

  -- the first entry of those that are left gets its place
  module _ (j : ℕ) (rest : List (Mark ℕ)) (v : LayoutValue) (within : j < length es) (h : is_laid (Open j ∷ rest) v) where
    abbrev parts : (not (has_entry rest j) ≡ true) × (are_entries_distinct rest ≡ true)
    parts = and_parts (not (has_entry rest j)) (are_entries_distinct rest) h.distinct

    abbrev once : has_entry rest j ≡ false
    once = not-true (has_entry rest j) parts.0

    open_closed : (b : Bool) → is_parent es j ≡ b → closes (suc (length v.parents)) (Open b ∷ closing rest) ≡ true
    open_closed b is =
        subst (λ b. closes (suc (length v.parents)) (Open b ∷ closing rest) ≡ true) is h.closed

    open_inside : (i : ℕ) → has_entry all i ≡ (has_entry rest i || not (slice_index (slice_set v.places j v.end) i == 0))
    open_inside i =
        rw (read_set v.places j v.end i (omega (arith, h.room)))
        (inside_step (j == i) (has_entry rest i) (has_entry all i) v.end (slice_index v.places i) h.started (left_once rest j i once) (h.inside i))

    open_bounded : (own i : ℕ) → slice_index (slice_set v.places j v.end) i ≤ v.end + own
    open_bounded own i =
        bounded_set v.places j v.end v.end (v.end + own) i (omega (arith, h.room)) (omega arith) (omega arith) (h.place_bounded i)

    -- the entry had no place before
    fresh : has_place (placement_in v) j ≡ false
    fresh = h.fresh j (or_left (j == j) (has_entry rest j) (eq-eqb j j refl))

    -- nor have those that are left behind it
    still_fresh : (i : ℕ) → has_entry rest i ≡ true → has_place (placement_in (begun (Open j) v)) i ≡ false
    still_fresh i left =
        let other : (j == i) ≡ false = other_left j i rest once left in
        ap (λ n. not (n == 0)) (read_set v.places j v.end i (omega (arith, h.room)) ∙ cond-false (j == i) _ _ other) ∙ h.fresh i (or_right (j == i) (has_entry rest i) left)

    -- places that keep the entry's own keep those before it
    before : (place : ℕ → ℕ) → Extends (begun (Open j) v) place → Extends v place
    before place ext i known =
        let other : (j == i) ≡ false = other_entry j i v fresh known in
        let read = read_set v.places j v.end i (omega (arith, h.room)) in
        let still : slice_index (slice_set v.places j v.end) i ≡ slice_index v.places i = read ∙ cond-false (j == i) _ _ other in
        ext i (ap (λ n. not (n == 0)) still ∙ known) ∙ still

    -- the entry is placed as its size under such places says
    open_placed : (b : Bool) → is_parent es j ≡ b → (place : ℕ → ℕ) → Extends (begun (Open j) v) place → IsPlaced (size place) es start all rest (entered j (v.end + size place j) b (begun (Open j) v))
    open_placed b is place ext =
        placed_open (size place) es start all j rest v once (omega (arith, h.room)) (omega (arith, h.past_room)) (h.placed place (before place ext)) b is

    -- the entry's size is the same under all such places
    module _ (own : ℕ) (known : (place : ℕ → ℕ) → Extends (begun (Open j) v) place → size place j ≡ own) where
      own_placed : (b : Bool) → is_parent es j ≡ b → (place : ℕ → ℕ) → Extends (begun (Open j) v) place → IsPlaced (size place) es start all rest (entered j (v.end + own) b (begun (Open j) v))
      own_placed b is place ext =
          subst (λ (n : ℕ). IsPlaced (size place) es start all rest (entered j (v.end + n) b (begun (Open j) v))) (known place ext) (open_placed b is place ext)

      -- an entry is laid out
      laid_open : (b : Bool) → is_parent es j ≡ b → is_laid rest (entered j (v.end + own) b (begun (Open j) v))
      laid_open true is = record {
        distinct = parts.1;
        closed = closes_parent (length v.parents) (closing rest) (open_closed true is);
        parents_in = All-cons (λ i. i < length es) j v.parents within h.parents_in;
        room = length-set v.places j v.end ∙ h.room;
        past_room = h.past_room;
        started = omega (arith, h.started);
        inside = open_inside;
        fresh = still_fresh;
        place_bounded = open_bounded own;
        past_bounded = λ i. omega (arith, h.past_bounded i);
        placed = own_placed true is;
      }
      laid_open false is = record {
        distinct = parts.1;
        closed = closes_leaf (length v.parents) (closing rest) (open_closed false is);
        parents_in = h.parents_in;
        room = length-set v.places j v.end ∙ h.room;
        past_room = length-set v.pasts j (v.end + own) ∙ h.past_room;
        started = omega (arith, h.started);
        inside = open_inside;
        fresh = still_fresh;
        place_bounded = open_bounded own;
        past_bounded = λ i. bounded_set v.pasts j (v.end + own) v.end (v.end + own) i (omega (arith, h.past_room)) (omega arith) (omega arith) (h.past_bounded i);
        placed = own_placed false is;
      }

  close_closed : (parents : List ℕ) (rest : List (Mark ℕ)) (v : LayoutValue) → v.parents ≡ parents → is_laid (Null ∷ rest) v → closes (length parents) (closing rest) ≡ true
  close_closed parents rest v is h =
      subst (λ (ps : List ℕ). closes (length ps) (closing rest) ≡ true) is (closes_close (length v.parents) (closing rest) h.closed)

  -- a list of children is closed
  laid_close : (parents : List ℕ) (rest : List (Mark ℕ)) (v : LayoutValue) → v.parents ≡ parents → is_laid (Null ∷ rest) v → is_laid rest (closed_in parents (v.end + 1) v)
  laid_close [] rest v is h = absurd (closes_last (map (children_in es) rest) (close_closed [] rest v is h))
  laid_close (i ∷ parents) rest v is h =
      let to = v.end + 1 in
      let known = subst (All (λ k. k < length es)) is h.parents_in in
      let within = All-head (λ k. k < length es) i parents known in
      let lt : i < length v.pasts = omega (arith, h.past_room, within) in
      record {
        distinct = h.distinct;
        closed = close_closed (i ∷ parents) rest v is h;
        parents_in = All-tail (λ k. k < length es) i parents known;
        room = h.room;
        past_room = length-set v.pasts i to ∙ h.past_room;
        started = omega (arith, h.started);
        inside = h.inside;
        fresh = h.fresh;
        place_bounded = λ k. omega (arith, h.place_bounded k);
        past_bounded = λ k. bounded_set v.pasts i to v.end to k lt (omega arith) (omega arith) (h.past_bounded k);
        placed = λ place ext. placed_close (size place) es start all i parents rest v is lt (h.placed place ext);
      }

  -- a mark with a size that it has under all places that keep those known
  laid_sized : (m : Mark ℕ) (own : ℕ) (rest : List (Mark ℕ)) (v : LayoutValue) → IsIn (length es) m → ((place : ℕ → ℕ) → Extends (begun m v) place → size_of (size place) es m ≡ own) → is_laid (m ∷ rest) v → is_laid rest (stepped es m (v.end + own) v)
  laid_sized (Open j) own rest v within known h = laid_open j rest v within h own known (is_parent es j) refl
  laid_sized Null own rest v within known h =
      subst (λ (n : ℕ). is_laid rest (closed_in v.parents (v.end + n) v)) (known (slice_index v.places) (λ i _. refl)) (laid_close v.parents rest v refl h)

  -- one mark on
  pub laid_step : (m : Mark ℕ) (rest : List (Mark ℕ)) (v next : LayoutValue) → IsIn (length es) m → ((place : ℕ → ℕ) → Extends (begun m v) place → next ≡ stepped es m (v.end + size_of (size place) es m) v) → is_laid (m ∷ rest) v → is_laid rest next
  laid_step m rest v next within steps h =
      let here = slice_index (begun m v).places in
      let own = size_of (size here) es m in
      let is : next ≡ stepped es m (v.end + own) v = steps here (λ i _. refl) in
      let known : (place : ℕ → ℕ) → Extends (begun m v) place → size_of (size place) es m ≡ own =
      λ place ext. same_size v.end _ _ (sym (end-stepped es m (v.end + size_of (size place) es m) v) ∙ ap (λ (u : LayoutValue). u.end) (sym (steps place ext) ∙ is) ∙ end-stepped es m (v.end + own) v) in
      subst (λ (u : LayoutValue). is_laid rest u) (sym is) (laid_sized m own rest v within known h)

  -- a mark is placed with the size that it has under places that keep those known
  placed_step : (m : Mark ℕ) (rest : List (Mark ℕ)) (v : LayoutValue) → IsIn (length es) m → is_laid (m ∷ rest) v → (place : ℕ → ℕ) → Extends (begun m v) place → IsPlaced (size place) es start all rest (stepped es m (v.end + size_of (size place) es m) v)
  placed_step (Open j) rest v within h place ext = open_placed j rest v within h (is_parent es j) refl place ext
  placed_step Null rest v within h place ext = (laid_close v.parents rest v refl h).placed place (extends-same place (closed_in v.parents (v.end + 1) v) v (closed_places es v.parents (v.end + 1) v) ext)

  -- what is left behind a mark has no place
  left_behind : (m : Mark ℕ) (rest : List (Mark ℕ)) (v : LayoutValue) → IsIn (length es) m → is_laid (m ∷ rest) v → (i : ℕ) → has_entry rest i ≡ true → has_place (placement_in (begun m v)) i ≡ false
  left_behind (Open j) rest v within h i left = still_fresh j rest v within h i left
  left_behind Null rest v within h i left = h.fresh i left

  -- where a mark has no room, the marks up to it have none
  pub no_room_step : (n : ℕ) (m : Mark ℕ) (rest : List (Mark ℕ)) (v : LayoutValue) → are_entries_distinct all ≡ true → drop n all ≡ rest → IsIn (length es) m → ((place : ℕ → ℕ) → Extends (begun m v) place → 2 ^ 64 ≤ v.end + size_of (size place) es m) → is_laid (m ∷ rest) v → HasNoRoom size es start all
  no_room_step n m rest v distinct left within full h =
      let here = slice_index (begun m v).places in
      let to = v.end + size_of (size here) es m in
      let p = placed_step m rest v within h here (λ i _. refl) in
      let split = sizes_of-split (size here) es all n in
      let same : sizes_of (size here) es (drop n all) ≡ sizes_of (size here) es rest = ap (sizes_of (size here) es) left in
      record {
        count = n;
        place = here;
        placed = λ i.
            let known : slice_index (stepped es m to v).places i ≡ here i = ap (λ (xs : List ℕ). slice_index xs i) (places-stepped es m to v) in
            let rest_left = has_entry-split all n i ∙ ap (λ ms. has_entry (take n all) i || has_entry ms i) left in
            front_place (has_entry (take n all) i) (has_entry rest i) (here i) (place_from (size here) es start (take n all) i) (place_from (size here) es start all i) (place_from (size here) es to rest i)
            (λ there. (sym (ap (λ ms. has_entry ms i) left) ∙ left_out all n i distinct there, place_from-front (size here) es start all n i there))
            (λ none. place_from-none (size here) es start (take n all) i none)
            (λ none. place_from-none (size here) es start all i (rest_left ∙ none))
            (λ behind. unplaced (here i) (left_behind m rest v within h i behind))
            (p.place i ∙ ap (λ x. if has_entry rest i then place_from (size here) es (stepped es m to v).end rest i else x) known ∙ ap (λ x. if has_entry rest i then place_from (size here) es x rest i else here i) (end-stepped es m to v));
        full = omega (arith, full here (λ i _. refl), p.sum, end-stepped es m to v, split, same);
      }

  -- behind the last mark all places are kept: those of the sizes that they give
  pub placement_laid : (v : LayoutValue) → is_laid [] v → IsPlacement size es start all (placement_in v)
  placement_laid v h =
      let p = h.placed (slice_index v.places) (λ i _. refl) in
      record {
        place = λ i. sym (p.place i);
        past = λ i. sym (p.past_kept i refl (ap (list_any (λ x. i == x)) (no_parents v.parents h.closed)));
      }

  -- and the end is that of all
  pub end_laid : (v : LayoutValue) → is_laid [] v → v.end ≡ start + sizes_of (size (slice_index v.places)) es all
  end_laid v h = omega (arith, (h.placed (slice_index v.places) (λ i _. refl)).sum)

-- why a layout is refused, by other causes
pub layout_because : (P Q : Type 0) (f g : Error → Bool) (e : Error) → LayoutRefused P f e → (P → Q) → (IsTrue (f e) → IsTrue (g e)) → LayoutRefused Q g e
layout_because P Q f g NoMemory h more is = tt
layout_because P Q f g ValueTooLarge h more is = more h
layout_because P Q f g _ h more is = is h
