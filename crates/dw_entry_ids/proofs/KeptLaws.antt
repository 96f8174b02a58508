-- The rows of a unit that stay where some of its entries are left out.
use Rattle.std.proofs.Common.{◌≡◌, ◌∙◌, sym, ap, subst, ℕ, zero, suc, ◌+◌, ◌<◌, ◌≤◌, List, [], ◌∷◌, ◌++◌, length, get_or, slice_get, Option, Some, None, Bool, true, false, ◌⊎◌, inl, inr, ⊎_elim, refl, arith, append_assoc}
use Rattle.std.specs.Prelude.{map, ◌==◌, ◌&&◌, ◌||◌, if◌then◌else◌}
use Rattle.std.proofs.lemmas.Bool.{eq-eqb, eqb-true, ne_eqb}
use Rattle.std.proofs.lemmas.List.{append-nil, get_or_append_left, get_or_push, length-append}
use Rattle.dw_base.specs.Entries.{ReadEntry, Mark, Open, Null, Row}
use Rattle.dw_base.specs.Info.{ReadUnit}
use Rattle.dw_entry_ids.specs.Ids.{is_entry, entry_count, later_or, mark_places, places_among}
use Rattle.dw_entry_ids.specs.Plans.{Plan, counted, last_at, or_root, parent_behind, plans_of, plans_behind}
use Rattle.dw_entry_ids.specs.KeptRows.{all_kept, kept_unit, mark_stays, row_stays, kept_behind, kept_rows, mark_image, row_image, images_behind, images_of, IsClosed}
use Rattle.dw_entry_ids.proofs.Steps.{count_one, later_later}
use Rattle.dw_entry_ids.proofs.Planning.{parent_below, plans_around}

module _ (keep : ℕ → Bool) (from : ℕ) where
  -- a row, where it stays
  abbrev pub kept_one : ℕ → Row → List Row
  kept_one n r = if row_stays keep from n r then r ∷ [] else []

  pub kept_append : (n : ℕ) (xs ys : List Row) → kept_behind keep from n (xs ++ ys) ≡ kept_behind keep from n xs ++ kept_behind keep from (entry_count xs + n) ys
  unfolding kept_behind
  kept_append n [] ys = let e : n ≡ 0 + n = omega arith in ap (λ (m : ℕ). kept_behind keep from m ys) e
  kept_append n (r ∷ xs) ys =
      let e : entry_count xs + (counted r.mark + n) ≡ (counted r.mark + entry_count xs) + n = omega arith in
      ap (λ (zs : List Row). kept_one n r ++ zs) (kept_append (counted r.mark + n) xs ys ∙ ap (λ (m : ℕ). kept_behind keep from (counted r.mark + n) xs ++ kept_behind keep from m ys) e)
      ∙ sym (append_assoc (kept_one n r) (kept_behind keep from (counted r.mark + n) xs) (kept_behind keep from ((counted r.mark + entry_count xs) + n) ys))

  kept_single : (n : ℕ) (r : Row) → kept_behind keep from n (r ∷ []) ≡ kept_one n r
  unfolding kept_behind
  kept_single n r = append-nil (kept_one n r)

  pub kept_nil : (n : ℕ) → kept_behind keep from n [] ≡ []
  unfolding kept_behind
  kept_nil n = refl

  kept_first : (n : ℕ) (r : Row) (rows : List Row) → kept_behind keep from n (r ∷ rows) ≡ kept_one n r ++ kept_behind keep from (counted r.mark + n) rows
  unfolding kept_behind
  kept_first n r rows = refl

  -- one row more
  pub rows_kept_more : (front : List Row) (r : Row) → kept_rows keep from (front ++ r ∷ []) ≡ kept_rows keep from front ++ kept_one (entry_count front) r
  rows_kept_more front r =
      let e : entry_count front + 0 ≡ entry_count front = omega arith in
      kept_append 0 front (r ∷ []) ∙ ap (λ (zs : List Row). kept_rows keep from front ++ zs) (kept_single (entry_count front + 0) r ∙ ap (λ (n : ℕ). kept_one n r) e)

  -- rows without an entry stay
  pub kept_nulls : (n : ℕ) (nulls : List Row) → entry_count nulls ≡ 0 → kept_behind keep from n nulls ≡ nulls
  kept_nulls n [] h = kept_nil n
  kept_nulls n (r ∷ rows) h = kept_first n r rows ∙ go (kept_nulls (counted r.mark + n) rows) r.mark refl h
    where
      go : (entry_count rows ≡ 0 → kept_behind keep from (counted r.mark + n) rows ≡ rows) → (m : Mark ReadEntry) → r.mark ≡ m → (if is_entry m then 1 else 0) + entry_count rows ≡ 0 → kept_one n r ++ kept_behind keep from (counted r.mark + n) rows ≡ r ∷ rows
      go more (Open e) q k = absurd (omega (arith, k))
      go more Null q k =
          ap (λ (m : Mark ReadEntry). (if mark_stays (n == 0 || keep (from + r.from)) m then r ∷ [] else []) ++ kept_behind keep from (counted r.mark + n) rows) q
          ∙ ap (λ (zs : List Row). r ∷ zs) (more (omega (arith, k)))

  pub kept_past : (front nulls : List Row) → entry_count nulls ≡ 0 → kept_rows keep from (front ++ nulls) ≡ kept_rows keep from front ++ nulls
  kept_past front nulls h = kept_append 0 front nulls ∙ ap (λ (zs : List Row). kept_rows keep from front ++ zs) (kept_nulls (entry_count front + 0) nulls h)

  -- an entry's row, where it stays and where it is left out
  pub kept_stays : (n : ℕ) (r : Row) (e : ReadEntry) → r.mark ≡ Open e → (n == 0 || keep (from + r.from)) ≡ true → kept_one n r ≡ r ∷ []
  kept_stays n r e q b = ap (λ (m : Mark ReadEntry). if mark_stays (n == 0 || keep (from + r.from)) m then r ∷ [] else []) q ∙ ap (λ (c : Bool). if c then r ∷ [] else []) b

  pub kept_left_out : (n : ℕ) (r : Row) (e : ReadEntry) → r.mark ≡ Open e → (n == 0 || keep (from + r.from)) ≡ false → kept_one n r ≡ []
  kept_left_out n r e q b = ap (λ (m : Mark ReadEntry). if mark_stays (n == 0 || keep (from + r.from)) m then r ∷ [] else []) q ∙ ap (λ (c : Bool). if c then r ∷ [] else []) b

  -- the first entry is the first of those that are kept
  pub some_kept : (n : ℕ) (rows : List Row) → n ≡ 0 → 0 < entry_count rows → 0 < entry_count (kept_behind keep from n rows)
  some_kept n [] z l = absurd (omega (arith, l))
  some_kept n (r ∷ rows) z l = subst (λ (zs : List Row). 0 < entry_count zs) (sym (kept_first n r rows)) (go r.mark refl l (λ w k. some_kept (counted r.mark + n) rows w k))
    where
      go : (m : Mark ReadEntry) → r.mark ≡ m → 0 < (if is_entry m then 1 else 0) + entry_count rows → (counted r.mark + n ≡ 0 → 0 < entry_count rows → 0 < entry_count (kept_behind keep from (counted r.mark + n) rows)) → 0 < entry_count (kept_one n r ++ kept_behind keep from (counted r.mark + n) rows)
      go (Open e) q k more =
          let back : List Row = kept_behind keep from (counted r.mark + n) rows in
          let here : kept_one n r ++ back ≡ r ∷ back = ap (λ (zs : List Row). zs ++ back) (kept_stays n r e q (ap (λ (b : Bool). b || keep (from + r.from)) (eq-eqb n 0 z))) in
          let one : entry_count (kept_one n r ++ back) ≡ 1 + entry_count back = ap entry_count here ∙ ap (λ (m : Mark ReadEntry). (if is_entry m then 1 else 0) + entry_count back) q in
          omega (arith, one)
      go Null q k more =
          let back : List Row = kept_behind keep from (counted r.mark + n) rows in
          let here : kept_one n r ++ back ≡ r ∷ back = ap (λ (m : Mark ReadEntry). (if mark_stays (n == 0 || keep (from + r.from)) m then r ∷ [] else []) ++ back) q in
          let none : counted r.mark ≡ 0 = ap counted q in
          let one : entry_count (kept_one n r ++ back) ≡ 0 + entry_count back = ap entry_count here ∙ ap (λ (m : Mark ReadEntry). (if is_entry m then 1 else 0) + entry_count back) q in
          let rest : 0 < entry_count back = more (omega (arith, none, z)) (omega (arith, k)) in
          omega (arith, one, rest)

  pub first_alike : (front : List Row) → (entry_count front == 0) ≡ (entry_count (kept_rows keep from front) == 0)
  first_alike front = by (entry_count front == 0) refl
    where
      by : (b : Bool) → (entry_count front == 0) ≡ b → b ≡ (entry_count (kept_rows keep from front) == 0)
      by true q = let z : entry_count front ≡ 0 = eqb-true (entry_count front) 0 q in sym (eq-eqb (entry_count (kept_rows keep from front)) 0 (ap entry_count (kept_nulls 0 front z) ∙ z))
      by false q =
          let some : 0 < entry_count front = positive (entry_count front) q in
          let kept : 0 < entry_count (kept_rows keep from front) = some_kept 0 front refl some in
          sym (ne_eqb (entry_count (kept_rows keep from front)) 0 (λ z. omega (arith, z, kept)))
        where
          positive : (n : ℕ) → (n == 0) ≡ false → 0 < n
          positive zero h = absurd (let clash : true ≡ false = h in cc)
          positive (suc n) h = omega arith

  -- no more are kept than there are
  pub kept_fewer : (n : ℕ) (rows : List Row) → entry_count (kept_behind keep from n rows) ≤ entry_count rows
  kept_fewer n [] = subst (λ (zs : List Row). entry_count zs ≤ 0) (sym (kept_nil n)) (omega arith)
  kept_fewer n (r ∷ rows) = subst (λ (zs : List Row). entry_count zs ≤ (if is_entry r.mark then 1 else 0) + entry_count rows) (sym (kept_first n r rows)) (go (row_stays keep from n r) (kept_fewer (counted r.mark + n) rows))
    where
      go : (b : Bool) → entry_count (kept_behind keep from (counted r.mark + n) rows) ≤ entry_count rows → entry_count ((if b then r ∷ [] else []) ++ kept_behind keep from (counted r.mark + n) rows) ≤ (if is_entry r.mark then 1 else 0) + entry_count rows
      go true l = omega (arith, l)
      go false l = omega (arith, l)

  -- ---- the last entry at a depth
  abbrev IsAt : ℕ → Row → Bool
  IsAt depth r = is_entry r.mark && r.depth == depth

  abbrev NoneAt : ℕ → List Row → Type 0
  NoneAt depth [] = Unit {0}
  NoneAt depth (r ∷ rows) = (IsAt depth r ≡ false) × NoneAt depth rows

  none_last : (depth n : ℕ) (rows : List Row) → NoneAt depth rows → last_at depth n rows ≡ None
  none_last depth n [] h = refl
  none_last depth n (r ∷ rows) h = ap (λ (o : Option ℕ). later_or o (if IsAt depth r then Some n else None)) (none_last depth (counted r.mark + n) rows h.1) ∙ ap (λ (b : Bool). if b then Some n else None) h.0

  none_append : (depth : ℕ) (xs ys : List Row) → NoneAt depth xs → NoneAt depth ys → NoneAt depth (xs ++ ys)
  none_append depth [] ys h k = k
  none_append depth (x ∷ xs) ys h k = (h.0, none_append depth xs ys h.1 k)

  none_kept : (depth n : ℕ) (rows : List Row) → NoneAt depth rows → NoneAt depth (kept_behind keep from n rows)
  unfolding kept_behind
  none_kept depth n [] h = tt
  none_kept depth n (r ∷ rows) h = none_append depth (kept_one n r) (kept_behind keep from (counted r.mark + n) rows) (go (row_stays keep from n r)) (none_kept depth (counted r.mark + n) rows h.1)
    where
      go : (b : Bool) → NoneAt depth (if b then r ∷ [] else [])
      go true = (h.0, tt)
      go false = tt

  record Last (depth : ℕ) (rows : List Row) : Type 0 where
    before : List Row
    row : Row
    after : List Row
    is : rows ≡ before ++ row ∷ after
    entry : ReadEntry
    mark : row.mark ≡ Open entry
    depth_is : row.depth ≡ depth
    none : NoneAt depth after

  find_last : (depth : ℕ) (rows : List Row) → Last depth rows ⊎ NoneAt depth rows
  find_last depth [] = inr tt
  find_last depth (r ∷ rows) = ⊎_elim (λ w. inl (record { before = r ∷ w.before; row = w.row; after = w.after; is = ap (λ (zs : List Row). r ∷ zs) w.is; entry = w.entry; mark = w.mark; depth_is = w.depth_is; none = w.none })) (λ none. here r.mark refl (r.depth == depth) refl none) (find_last depth rows)
    where
      here : (m : Mark ReadEntry) → r.mark ≡ m → (b : Bool) → (r.depth == depth) ≡ b → NoneAt depth rows → Last depth (r ∷ rows) ⊎ NoneAt depth (r ∷ rows)
      here (Open e) q true d none = inl (record { before = []; row = r; after = rows; is = refl; entry = e; mark = q; depth_is = eqb-true r.depth depth d; none = none })
      here (Open e) q false d none = inr (ap (λ (m : Mark ReadEntry). is_entry m && r.depth == depth) q ∙ d, none)
      here Null q b d none = inr (ap (λ (m : Mark ReadEntry). is_entry m && r.depth == depth) q, none)

  last_append : (depth n : ℕ) (xs ys : List Row) → last_at depth n (xs ++ ys) ≡ later_or (last_at depth (entry_count xs + n) ys) (last_at depth n xs)
  last_append depth n [] ys = let e : n ≡ 0 + n = omega arith in ap (λ (m : ℕ). last_at depth m ys) e ∙ sym (later_none (last_at depth (0 + n) ys))
    where
      later_none : (o : Option ℕ) → later_or o None ≡ o
      later_none None = refl
      later_none (Some m) = refl
  last_append depth n (r ∷ xs) ys =
      let e : entry_count xs + (counted r.mark + n) ≡ (counted r.mark + entry_count xs) + n = omega arith in
      ap (λ (o : Option ℕ). later_or o (if IsAt depth r then Some n else None)) (last_append depth (counted r.mark + n) xs ys)
      ∙ later_later (last_at depth (entry_count xs + (counted r.mark + n)) ys) (last_at depth (counted r.mark + n) xs) (if IsAt depth r then Some n else None)
      ∙ ap (λ (m : ℕ). later_or (last_at depth m ys) (last_at depth n (r ∷ xs))) e

  -- the number of the last one
  last_number : (depth : ℕ) (before : List Row) (r : Row) (after : List Row) (e : ReadEntry) → r.mark ≡ Open e → r.depth ≡ depth → NoneAt depth after → last_at depth 0 (before ++ r ∷ after) ≡ Some (entry_count before)
  last_number depth before r after e q d none =
      let n : entry_count before + 0 ≡ entry_count before = omega arith in
      let here : IsAt depth r ≡ true = ap (λ (m : Mark ReadEntry). is_entry m && r.depth == depth) q ∙ eq-eqb r.depth depth d in
      last_append depth 0 before (r ∷ after)
      ∙ ap (λ (o : Option ℕ). later_or (later_or o (if IsAt depth r then Some (entry_count before + 0) else None)) (last_at depth 0 before)) (none_last depth (counted r.mark + (entry_count before + 0)) after none)
      ∙ ap (λ (b : Bool). later_or (if b then Some (entry_count before + 0) else None) (last_at depth 0 before)) here
      ∙ ap (λ (m : ℕ). Some m) n

  -- ---- what stands for entries
  images_first : (images : List ℕ) (front : List Row) (r : Row) (rows : List Row) → images_behind keep from images front (r ∷ rows) ≡ images_behind keep from (images ++ row_image keep from images front r) (front ++ r ∷ []) rows
  unfolding images_behind
  images_first images front r rows = refl

  images_end : (images : List ℕ) (front : List Row) → images_behind keep from images front [] ≡ images
  unfolding images_behind
  images_end images front = refl

  pub images_append : (images : List ℕ) (front xs ys : List Row) → images_behind keep from images front (xs ++ ys) ≡ images_behind keep from (images_behind keep from images front xs) (front ++ xs) ys
  unfolding images_behind
  images_append images front [] ys = ap (λ (zs : List Row). images_behind keep from images zs ys) (sym (append-nil front))
  images_append images front (r ∷ xs) ys =
      images_append (images ++ row_image keep from images front r) (front ++ r ∷ []) xs ys
      ∙ ap (λ (zs : List Row). images_behind keep from (images_behind keep from images front (r ∷ xs)) zs ys) (append_assoc front (r ∷ []) xs)

  images_single : (images : List ℕ) (front : List Row) (r : Row) → images_behind keep from images front (r ∷ []) ≡ images ++ row_image keep from images front r
  unfolding images_behind
  images_single images front r = refl

  pub images_none : images_of keep from [] ≡ []
  unfolding images_behind
  images_none = refl

  -- one row more
  pub images_more : (front : List Row) (r : Row) → images_of keep from (front ++ r ∷ []) ≡ images_of keep from front ++ row_image keep from (images_of keep from front) front r
  images_more front r = images_append [] [] front (r ∷ []) ∙ images_single (images_of keep from front) front r

  -- rows without an entry add none
  images_nulls : (images : List ℕ) (front nulls : List Row) → entry_count nulls ≡ 0 → images_behind keep from images front nulls ≡ images
  images_nulls images front [] h = images_end images front
  images_nulls images front (r ∷ rows) h = images_first images front r rows ∙ go (λ k. images_nulls images (front ++ r ∷ []) rows k) r.mark refl h
    where
      go : (entry_count rows ≡ 0 → images_behind keep from images (front ++ r ∷ []) rows ≡ images) → (m : Mark ReadEntry) → r.mark ≡ m → (if is_entry m then 1 else 0) + entry_count rows ≡ 0 → images_behind keep from (images ++ row_image keep from images front r) (front ++ r ∷ []) rows ≡ images
      go more (Open e) q k = absurd (omega (arith, k))
      go more Null q k =
          ap (λ (m : Mark ReadEntry). images_behind keep from (images ++ mark_image (mark_stays (entry_count front == 0 || keep (from + r.from)) m) (entry_count (kept_rows keep from front)) (get_or images (parent_behind front r.depth) 0) m) (front ++ r ∷ []) rows) q
          ∙ ap (λ (xs : List ℕ). images_behind keep from xs (front ++ r ∷ []) rows) (append-nil images)
          ∙ more (omega (arith, k))

  pub images_past : (front nulls : List Row) → entry_count nulls ≡ 0 → images_of keep from (front ++ nulls) ≡ images_of keep from front
  images_past front nulls h = images_append [] [] front nulls ∙ images_nulls (images_of keep from front) front nulls h

  image_count : (images : List ℕ) (front : List Row) (r : Row) → length (row_image keep from images front r) ≡ counted r.mark
  image_count images front r = go r.mark (row_stays keep from (entry_count front) r)
    where
      go : (m : Mark ReadEntry) (b : Bool) → length (mark_image b (entry_count (kept_rows keep from front)) (get_or images (parent_behind front r.depth) 0) m) ≡ counted m
      go (Open e) b = refl
      go Null b = refl

  pub images_count : (images : List ℕ) (front rows : List Row) → length (images_behind keep from images front rows) ≡ length images + entry_count rows
  unfolding images_behind
  images_count images front [] = omega arith
  images_count images front (r ∷ rows) =
      let more : length (images_behind keep from (images ++ row_image keep from images front r) (front ++ r ∷ []) rows) ≡ length (images ++ row_image keep from images front r) + entry_count rows = images_count (images ++ row_image keep from images front r) (front ++ r ∷ []) rows in
      let both : length (images ++ row_image keep from images front r) ≡ length images + length (row_image keep from images front r) = length-append images (row_image keep from images front r) in
      let one : length (row_image keep from images front r) ≡ counted r.mark = image_count images front r in
      omega (arith, more, both, one)

  -- those before stay
  pub images_stay : (images : List ℕ) (front rows : List Row) (i : ℕ) → i < length images → get_or (images_behind keep from images front rows) i 0 ≡ get_or images i 0
  unfolding images_behind
  images_stay images front [] i l = refl
  images_stay images front (r ∷ rows) i l =
      let both : length (images ++ row_image keep from images front r) ≡ length images + length (row_image keep from images front r) = length-append images (row_image keep from images front r) in
      images_stay (images ++ row_image keep from images front r) (front ++ r ∷ []) rows i (omega (arith, both, l))
      ∙ get_or_append_left images (row_image keep from images front r) 0 i l

  -- an entry that is kept has its own number
  pub image_own : (before : List Row) (r : Row) (after : List Row) (e : ReadEntry) → r.mark ≡ Open e → (entry_count before == 0 || keep (from + r.from)) ≡ true → get_or (images_of keep from (before ++ r ∷ after)) (entry_count before) 0 ≡ entry_count (kept_rows keep from before)
  image_own before r after e q b =
      let xs : List ℕ = images_of keep from before in
      let own : ℕ = entry_count (kept_rows keep from before) in
      let above : ℕ = get_or xs (parent_behind before r.depth) 0 in
      let all : length xs ≡ 0 + entry_count before = images_count [] [] before in
      let count : length xs ≡ entry_count before = omega (arith, all) in
      let image : row_image keep from xs before r ≡ own ∷ [] =
      ap (λ (m : Mark ReadEntry). mark_image (mark_stays (entry_count before == 0 || keep (from + r.from)) m) own above m) q ∙ ap (λ (c : Bool). (if c then own else above) ∷ []) b in
      let longer : length (xs ++ own ∷ []) ≡ length xs + 1 = length-append xs (own ∷ []) in
      ap (λ (zs : List ℕ). get_or zs (entry_count before) 0) (images_append [] [] before (r ∷ after) ∙ images_first xs before r after ∙ ap (λ (zs : List ℕ). images_behind keep from (xs ++ zs) (before ++ r ∷ []) after) image)
      ∙ images_stay (xs ++ own ∷ []) (before ++ r ∷ []) after (entry_count before) (omega (arith, longer, count))
      ∙ get_or_push xs own 0 (entry_count before) count

  -- so has the root
  pub root_image : (front rows : List Row) → entry_count front ≡ 0 → get_or (images_behind keep from [] front rows) 0 0 ≡ 0
  root_image front [] h = ap (λ (zs : List ℕ). get_or zs 0 0) (images_end [] front)
  root_image front (r ∷ rows) h = go r.mark refl (λ k. root_image (front ++ r ∷ []) rows k)
    where
      go : (m : Mark ReadEntry) → r.mark ≡ m → (entry_count (front ++ r ∷ []) ≡ 0 → get_or (images_behind keep from [] (front ++ r ∷ []) rows) 0 0 ≡ 0) → get_or (images_behind keep from [] front (r ∷ rows)) 0 0 ≡ 0
      go (Open e) q more =
          let first : (entry_count front == 0 || keep (from + r.from)) ≡ true = ap (λ (b : Bool). b || keep (from + r.from)) (eq-eqb (entry_count front) 0 h) in
          let own : ℕ = entry_count (kept_rows keep from front) in
          let above : ℕ = get_or [] (parent_behind front r.depth) 0 in
          let image : row_image keep from [] front r ≡ own ∷ [] =
          ap (λ (m : Mark ReadEntry). mark_image (mark_stays (entry_count front == 0 || keep (from + r.from)) m) own above m) q ∙ ap (λ (c : Bool). (if c then own else above) ∷ []) first in
          ap (λ (zs : List ℕ). get_or zs 0 0) (images_first [] front r rows ∙ ap (λ (zs : List ℕ). images_behind keep from zs (front ++ r ∷ []) rows) image)
          ∙ images_stay (own ∷ []) (front ++ r ∷ []) rows 0 (omega arith)
          ∙ ap entry_count (kept_nulls 0 front h) ∙ h
      go Null q more =
          let none : entry_count (front ++ r ∷ []) ≡ 0 = count_one front r ∙ ap (λ (m : Mark ReadEntry). entry_count front + (if is_entry m then 1 else 0)) q ∙ (let z : entry_count front + 0 ≡ 0 = omega (arith, h) in z) in
          ap (λ (zs : List ℕ). get_or zs 0 0) (images_first [] front r rows ∙ ap (λ (m : Mark ReadEntry). images_behind keep from (mark_image (mark_stays (entry_count front == 0 || keep (from + r.from)) m) (entry_count (kept_rows keep from front)) (get_or [] (parent_behind front r.depth) 0) m) (front ++ r ∷ []) rows) q)
          ∙ more none

  -- where an entry's place stands among those of its unit
  pub place_at : (before : List Row) (r : Row) (after : List Row) (e : ReadEntry) → r.mark ≡ Open e → slice_get (places_among from (before ++ r ∷ after)) (entry_count before) ≡ Some (from + r.from)
  place_at [] r after e q = ap (λ (m : Mark ReadEntry). slice_get (mark_places (from + r.from) m ++ places_among from after) 0) q
  place_at (x ∷ before) r after e q = go x.mark (place_at before r after e q)
    where
      go : (m : Mark ReadEntry) → slice_get (places_among from (before ++ r ∷ after)) (entry_count before) ≡ Some (from + r.from) → slice_get (mark_places (from + x.from) m ++ places_among from (before ++ r ∷ after)) ((if is_entry m then 1 else 0) + entry_count before) ≡ Some (from + r.from)
      go (Open y) h = let e : 1 + entry_count before ≡ suc (entry_count before) = omega arith in ap (slice_get ((from + x.from) ∷ places_among from (before ++ r ∷ after))) e ∙ h
      go Null h = let e : 0 + entry_count before ≡ entry_count before = omega arith in ap (slice_get (places_among from (before ++ r ∷ after))) e ∙ h

  placed_parent : (all front : List Row) (r : Row) (back : List Row) (e : ReadEntry) → IsClosed keep from all → all ≡ (front ++ r ∷ []) ++ back → r.mark ≡ Open e → keep (from + r.from) ≡ true → parent_behind (kept_rows keep from front) r.depth ≡ get_or (images_of keep from front) (parent_behind front r.depth) 0
  placed_parent all front r back e closed is q stays = by r.depth refl
    where
      flat : all ≡ front ++ r ∷ back
      flat = is ∙ append_assoc front (r ∷ []) back

      by : (depth : ℕ) → r.depth ≡ depth → parent_behind (kept_rows keep from front) depth ≡ get_or (images_of keep from front) (parent_behind front depth) 0
      by zero d = sym (root_image [] front refl)
      by (suc depth) d = ⊎_elim under none (find_last depth front)
        where
          none : NoneAt depth front → parent_behind (kept_rows keep from front) (suc depth) ≡ get_or (images_of keep from front) (parent_behind front (suc depth)) 0
          none h =
              ap or_root (none_last depth 0 (kept_rows keep from front) (none_kept depth 0 front h))
              ∙ sym (root_image [] front refl)
              ∙ ap (λ (o : Option ℕ). get_or (images_of keep from front) (or_root o) 0) (sym (none_last depth 0 front h))

          under : Last depth front → parent_behind (kept_rows keep from front) (suc depth) ≡ get_or (images_of keep from front) (parent_behind front (suc depth)) 0
          under w =
              let number : parent_behind front (suc depth) ≡ entry_count w.before = ap (λ (zs : List Row). or_root (last_at depth 0 zs)) w.is ∙ ap or_root (last_number depth w.before w.row w.after w.entry w.mark w.depth_is w.none) in
              let plan : Plan = record { number = entry_count front; parent = parent_behind front r.depth; entry = e } in
              let parent : parent_behind front r.depth ≡ entry_count w.before = ap (parent_behind front) d ∙ number in
              let whole : all ≡ w.before ++ w.row ∷ (w.after ++ r ∷ back) = flat ∙ ap (λ (zs : List Row). zs ++ r ∷ back) w.is ∙ append_assoc w.before (w.row ∷ w.after) (r ∷ back) in
              let mine : slice_get (places_among from all) plan.number ≡ Some (from + r.from) = ap (λ (zs : List Row). slice_get (places_among from zs) (entry_count front)) flat ∙ place_at front r back e q in
              let its : slice_get (places_among from all) plan.parent ≡ Some (from + w.row.from) = ap (slice_get (places_among from all)) parent ∙ ap (λ (zs : List Row). slice_get (places_among from zs) (entry_count w.before)) whole ∙ place_at w.before w.row (w.after ++ r ∷ back) w.entry w.mark in
              let kept = closed (plans_of front) (plans_behind (front ++ r ∷ []) back) plan (from + r.from) (from + w.row.from) (ap plans_of is ∙ plans_around front back r e q) mine its stays in
              let held : (entry_count w.before == 0 || keep (from + w.row.from)) ≡ true = held_by (entry_count w.before == 0) refl (⊎_elim (λ z. inl (sym parent ∙ z)) (λ b. inr b) kept) in
              let split : kept_rows keep from front ≡ kept_rows keep from w.before ++ w.row ∷ kept_behind keep from (counted w.row.mark + (entry_count w.before + 0)) w.after =
              ap (kept_rows keep from) w.is ∙ kept_append 0 w.before (w.row ∷ w.after)
              ∙ ap (λ (zs : List Row). kept_rows keep from w.before ++ zs) (kept_first (entry_count w.before + 0) w.row w.after ∙ ap (λ (zs : List Row). zs ++ kept_behind keep from (counted w.row.mark + (entry_count w.before + 0)) w.after) (kept_stays (entry_count w.before + 0) w.row w.entry w.mark (subst (λ (n : ℕ). (n == 0 || keep (from + w.row.from)) ≡ true) (let z : entry_count w.before ≡ entry_count w.before + 0 = omega arith in z) held))) in
              ap (λ (zs : List Row). or_root (last_at depth 0 zs)) split
              ∙ ap or_root (last_number depth (kept_rows keep from w.before) w.row (kept_behind keep from (counted w.row.mark + (entry_count w.before + 0)) w.after) w.entry w.mark w.depth_is (none_kept depth (counted w.row.mark + (entry_count w.before + 0)) w.after w.none))
              ∙ sym (image_own w.before w.row w.after w.entry w.mark held)
              ∙ ap (λ (zs : List Row). get_or (images_of keep from zs) (entry_count w.before) 0) (sym w.is)
              ∙ ap (λ (n : ℕ). get_or (images_of keep from front) n 0) (sym number)
            where
              held_by : (b : Bool) → (entry_count w.before == 0) ≡ b → (entry_count w.before ≡ 0) ⊎ (keep (from + w.row.from) ≡ true) → (b || keep (from + w.row.from)) ≡ true
              held_by true z h = refl
              held_by false z (inl n) = absurd (let clash : true ≡ false = sym (eq-eqb (entry_count w.before) 0 n) ∙ z in cc)
              held_by false z (inr k) = k

  -- An entry that is kept with its own parent stands, among those that are kept, under what stands for that.
  pub own_parent : (all front : List Row) (r : Row) (back : List Row) (e : ReadEntry) → IsClosed keep from all → all ≡ (front ++ r ∷ []) ++ back → r.mark ≡ Open e → (entry_count front == 0 || keep (from + r.from)) ≡ true → parent_behind (kept_rows keep from front) r.depth ≡ get_or (images_of keep from front) (parent_behind front r.depth) 0
  own_parent all front r back e closed is q stays = by (entry_count front == 0) refl stays
    where
      none : entry_count front ≡ 0 → parent_behind front r.depth ≡ 0
      none z = ⊎_elim (λ h. h) (λ l. absurd (omega (arith, z, l))) (parent_below front r.depth)

      by : (b : Bool) → (entry_count front == 0) ≡ b → (b || keep (from + r.from)) ≡ true → parent_behind (kept_rows keep from front) r.depth ≡ get_or (images_of keep from front) (parent_behind front r.depth) 0
      by true z k =
          let zero_count : entry_count front ≡ 0 = eqb-true (entry_count front) 0 z in
          ap (λ (zs : List Row). parent_behind zs r.depth) (kept_nulls 0 front zero_count) ∙ none zero_count ∙ sym (root_image [] front refl) ∙ ap (λ (n : ℕ). get_or (images_of keep from front) n 0) (sym (none zero_count))
      by false z k = placed_parent all front r back e closed is q k

-- ---- where all are kept
pub kept_all : (from n : ℕ) (rows : List Row) → kept_behind all_kept from n rows ≡ rows
unfolding kept_behind
kept_all from n [] = refl
kept_all from n (r ∷ rows) = ap (λ (zs : List Row). zs ++ kept_behind all_kept from (counted r.mark + n) rows) (go r.mark (n == 0)) ∙ ap (λ (zs : List Row). r ∷ zs) (kept_all from (counted r.mark + n) rows)
  where
    go : (m : Mark ReadEntry) (b : Bool) → (if mark_stays (b || true) m then r ∷ [] else []) ≡ r ∷ []
    go (Open e) true = refl
    go (Open e) false = refl
    go Null b = refl

pub all_closed : (from : ℕ) (rows : List Row) → IsClosed all_kept from rows
all_closed from rows front back p place above is own its k = inr refl

pub rows_all : (from : ℕ) (rows : List Row) → kept_rows all_kept from rows ≡ rows
rows_all from rows = kept_all from 0 rows

pub units_all : (us : List ReadUnit) → map (kept_unit all_kept) us ≡ us
units_all [] = refl
units_all (u ∷ us) = ap (λ (rows : List Row). let v : ReadUnit = record u { rows = rows } in v ∷ map (kept_unit all_kept) us) (rows_all u.from u.rows) ∙ ap (λ (vs : List ReadUnit). u ∷ vs) (units_all us)
