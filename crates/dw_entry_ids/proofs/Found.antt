-- Each entry is found at the place where it begins, since no two begin at one place.
use Rattle.std.proofs.Common.{◌≡◌, ◌∙◌, sym, ap, subst, ℕ, zero, suc, ◌+◌, ◌<◌, ◌≤◌, ◌==◌, List, [], ◌∷◌, ◌++◌, length, Option, Some, None, Bool, true, false, slice_get, ◌⊎◌, inl, inr, ⊎_elim, if◌then◌else◌, ap₂, append_assoc, append-nil, refl, arith}
use Rattle.std.proofs.lemmas.List.{length-append}
use Rattle.std.proofs.lemmas.Bool.{ne_eqb, eq-eqb, eqb-true}
use Rattle.dw_base.specs.Entries.{ReadEntry, Mark, Open, Null, Row}
use Rattle.dw_entry_ids.specs.Ids.{later_or, begins_at, is_entry, entry_count, mark_number, number_among, mark_places, places_among, number_in, places_of, with_unit, id_among, Id, AreFound, Begins}
use Rattle.dw_base.specs.Info.{ReadUnit}
use Rattle.dw_base.specs.declared.ids.UnitId.{UnitId}
use Rattle.dw_entry_ids.proofs.Steps.{number_one}

-- what stands in a list with one more at its end
pub at_end : {A : Type 0} (xs : List A) (y p : A) (j : ℕ) → slice_get (xs ++ y ∷ []) j ≡ Some p → (slice_get xs j ≡ Some p) ⊎ ((j ≡ length xs) × (y ≡ p))
at_end [] y p zero h = inr (refl, cc h)
at_end [] y p (suc j) h = absurd (let x : None ≡ Some p = h in cc)
at_end (x ∷ xs) y p zero h = inl h
at_end (x ∷ xs) y p (suc j) h = ⊎_elim inl (λ e. inr (let l : j ≡ length xs = e.0 in omega arith, e.1)) (at_end xs y p j h)

pub not_here : {A : Type 0} (place p : ℕ) (x : A) → (place ≡ p → ⊥) → begins_at place x p ≡ None
not_here place p x n = rw (ne_eqb place p n) refl

pub here : {A : Type 0} (place : ℕ) (x : A) → begins_at place x place ≡ Some x
here place x = rw (eq-eqb place place refl) refl

-- where no entry begins, none has a number
pub none_there : (from n : ℕ) (rows : List Row) (p : ℕ) → ((j : ℕ) → slice_get (places_among from rows) j ≡ Some p → ⊥) → number_among from n rows p ≡ None
unfolding number_among
none_there from n [] p h = refl
none_there from n (r ∷ rows) p h = by (λ m k. none_there from m rows p k) r.mark h
  where
    by : ((m : ℕ) → ((j : ℕ) → slice_get (places_among from rows) j ≡ Some p → ⊥) → number_among from m rows p ≡ None) → (m : Mark ReadEntry) → ((j : ℕ) → slice_get (mark_places (from + r.from) m ++ places_among from rows) j ≡ Some p → ⊥)
        → later_or (number_among from ((if is_entry m then 1 else 0) + n) rows p) (mark_number (from + r.from) n m p) ≡ None
    by none (Open e) k = rw (none (1 + n) (λ j q. k (suc j) q), not_here (from + r.from) p n (λ q. k 0 (ap (λ x. Some x) q))) refl
    by none Null k = rw (none (0 + n) k) refl

mark_count : (place : ℕ) (m : Mark ReadEntry) → length (mark_places place m) ≡ (if is_entry m then 1 else 0)
mark_count place (Open e) = refl
mark_count place Null = refl

places_append : (from : ℕ) (rows : List Row) (r : Row) → places_among from (rows ++ r ∷ []) ≡ places_among from rows ++ mark_places (from + r.from) r.mark
places_append from [] r = append-nil (mark_places (from + r.from) r.mark)
places_append from (x ∷ rows) r = ap (λ l. mark_places (from + x.from) x.mark ++ l) (places_append from rows r) ∙ sym (append_assoc (mark_places (from + x.from) x.mark) (places_among from rows) (mark_places (from + r.from) r.mark))

pub places_count : (from : ℕ) (rows : List Row) → length (places_among from rows) ≡ entry_count rows
places_count from [] = refl
places_count from (r ∷ rows) = length-append (mark_places (from + r.from) r.mark) (places_among from rows) ∙ ap₂ ◌+◌ (mark_count (from + r.from) r.mark) (places_count from rows)

module _ (from : ℕ) where
  pub found_none : (bound : ℕ) → AreFound from [] bound
  found_none bound = record { found = λ j p h. absurd (let x : None ≡ Some p = h in cc); within = λ j p h. absurd (let x : None ≡ Some p = h in cc) }

  -- those before a place are before a later one
  pub found_later : (rows : List Row) (bound next : ℕ) → AreFound from rows bound → bound < next → AreFound from rows next
  found_later rows bound next w more = record { found = w.found; within = λ j p h. let b = w.within j p h in (b.0, let l : p < bound = b.1 in omega (arith, more, l)) }

  pub found_more : (rows : List Row) (r : Row) (bound next : ℕ) → AreFound from rows bound → from + r.from ≡ bound → from ≤ bound → bound < next → AreFound from (rows ++ r ∷ []) next
  found_more rows r bound next w at above more = by r.mark refl
    where
      one : (m : Mark ReadEntry) → r.mark ≡ m → (p : ℕ) → number_among from 0 (rows ++ r ∷ []) p ≡ later_or (mark_number bound (entry_count rows) m p) (number_among from 0 rows p)
      one m e p =
          let z : entry_count rows + 0 ≡ entry_count rows = omega arith in
          number_one from 0 rows r p ∙ ap (λ (q : ℕ). later_or (mark_number q (entry_count rows + 0) r.mark p) (number_among from 0 rows p)) at
          ∙ ap (λ (n : ℕ). later_or (mark_number bound n r.mark p) (number_among from 0 rows p)) z
          ∙ ap (λ (k : Mark ReadEntry). later_or (mark_number bound (entry_count rows) k p) (number_among from 0 rows p)) e

      there : (m : Mark ReadEntry) → r.mark ≡ m → places_among from (rows ++ r ∷ []) ≡ places_among from rows ++ mark_places bound m
      there m e = places_append from rows r ∙ ap (λ (q : ℕ). places_among from rows ++ mark_places q r.mark) at ∙ ap (λ (k : Mark ReadEntry). places_among from rows ++ mark_places bound k) e

      earlier : (m : Mark ReadEntry) → r.mark ≡ m → (j p : ℕ) → slice_get (places_among from rows) j ≡ Some p → later_or (mark_number bound (entry_count rows) m p) (number_among from 0 rows p) ≡ Some j
      earlier (Open e) q j p h =
          let b : p < bound = (w.within j p h).1 in
          rw (not_here bound p (entry_count rows) (λ x. absurd (omega (arith, x, b)))) (w.found j p h)
      earlier Null q j p h = w.found j p h

      by : (m : Mark ReadEntry) → r.mark ≡ m → AreFound from (rows ++ r ∷ []) next
      by (Open e) q = record {
        found = λ j p h. one (Open e) q p ∙ ⊎_elim (λ k. earlier (Open e) q j p k)
            (λ k. let l : j ≡ entry_count rows = k.0 ∙ places_count from rows in
            subst (λ (x : ℕ). later_or (mark_number bound (entry_count rows) (Open e) x) (number_among from 0 rows x) ≡ Some j) k.1
            (subst (λ (x : ℕ). later_or (mark_number bound (entry_count rows) (Open e) bound) (number_among from 0 rows bound) ≡ Some x) (sym l) (rw (here bound (entry_count rows)) refl)))
            (at_end (places_among from rows) bound p j (subst (λ xs. slice_get xs j ≡ Some p) (there (Open e) q) h));
        within = λ j p h. ⊎_elim (λ k. let b = w.within j p k in (b.0, let l : p < bound = b.1 in omega arith)) (λ k. let l : bound ≡ p = k.1 in (omega arith, omega arith))
            (at_end (places_among from rows) bound p j (subst (λ xs. slice_get xs j ≡ Some p) (there (Open e) q) h));
      }
      by Null q = record {
        found = λ j p h. one Null q p ∙ w.found j p (subst (λ xs. slice_get xs j ≡ Some p) (there Null q ∙ append-nil (places_among from rows)) h);
        within = λ j p h. let b = w.within j p (subst (λ xs. slice_get xs j ≡ Some p) (there Null q ∙ append-nil (places_among from rows)) h) in (b.0, let l : p < bound = b.1 in omega arith);
      }

-- The way back: what has a number begins there

marked : (place n m p : ℕ) (b : Bool) → (place == p) ≡ b → (if b then Some n else None) ≡ Some m → (m ≡ n) × (place ≡ p)
marked place n m p true e h = (cc h, eqb-true place p e)
marked place n m p false e h = absurd (let x : None ≡ Some m = h in cc)

record Numbers (from n : ℕ) (rows : List Row) (m p : ℕ) : Type 0 where
  j : ℕ
  is : m ≡ n + j
  begins : slice_get (places_among from rows) j ≡ Some p

numbered_right : (from n : ℕ) (rows : List Row) (m p : ℕ) → number_among from n rows p ≡ Some m → Numbers from n rows m p
unfolding number_among
numbered_right from n [] m p h = absurd (let x : None ≡ Some m = h in cc)
numbered_right from n (r ∷ rows) m p h = by (λ k g. numbered_right from k rows m p g) r.mark (number_among from ((if is_entry r.mark then 1 else 0) + n) rows p) refl h
  where
    by : ((k : ℕ) → number_among from k rows p ≡ Some m → Numbers from k rows m p) → (a : Mark ReadEntry) (o : Option ℕ) → number_among from ((if is_entry a then 1 else 0) + n) rows p ≡ o → later_or o (mark_number (from + r.from) n a p) ≡ Some m
        → Numbers from n (record r { mark = a } ∷ rows) m p
    by more (Open e) (Some k) q g =
        let w = more (1 + n) (q ∙ g) in
        record { j = suc w.j; is = (let i : m ≡ (1 + n) + w.j = w.is in omega arith); begins = w.begins }
    by more (Open e) None q g =
        let z = marked (from + r.from) n m p ((from + r.from) == p) refl g in
        record { j = 0; is = (let i : m ≡ n = z.0 in omega arith); begins = ap (λ x. Some x) z.1 }
    by more Null (Some k) q g =
        let w = more (0 + n) (q ∙ g) in
        record { j = w.j; is = (let i : m ≡ (0 + n) + w.j = w.is in omega arith); begins = w.begins }
    by more Null None q g = absurd (let x : None ≡ Some m = g in cc)

with_right : (k : UnitId) (o : Option ℕ) (i : Id) → with_unit k o ≡ Some i → (o ≡ Some i.1.0) × (k ≡ i.0)
with_right k None i h = absurd (let x : None ≡ Some i = h in cc)
with_right k (Some n) i h = let e : (k, record { 0 = n }) ≡ i = cc h in (ap (λ (x : Id). Some x.1.0) e, ap (λ (x : Id). x.0) e)

pub ids_right : (n : ℕ) (us : List ReadUnit) (k j p : ℕ) → id_among n us p ≡ Some (record { 0 = k }, record { 0 = j }) → (i : ℕ) × (k ≡ n + i) × Begins us i j p
unfolding id_among
ids_right n [] k j p h = absurd (let x : None ≡ Some (record { 0 = k }, record { 0 = j }) = h in cc)
ids_right n (u ∷ us) k j p h = by (ids_right (n + 1) us k j p) (id_among (n + 1) us p) refl h
  where
    by : (id_among (n + 1) us p ≡ Some (record { 0 = k }, record { 0 = j }) → (i : ℕ) × (k ≡ (n + 1) + i) × Begins us i j p) → (o : Option Id) → id_among (n + 1) us p ≡ o → later_or o (with_unit (record { 0 = n }) (number_in u p)) ≡ Some (record { 0 = k }, record { 0 = j })
        → (i : ℕ) × (k ≡ n + i) × Begins (u ∷ us) i j p
    by more (Some x) q g =
        let w = more (q ∙ g) in
        (suc w.0, (let i : k ≡ (n + 1) + w.0 = w.1 in omega arith), record { unit = w.2.unit; stands = w.2.stands; begins = w.2.begins })
    by more None q g =
        let z = with_right (record { 0 = n }) (number_in u p) (record { 0 = k }, record { 0 = j }) g in
        let w = numbered_right u.from 0 u.rows j p z.0 in
        let i : j ≡ 0 + w.j = w.is in
        let same : w.j ≡ j = omega arith in
        let first : n ≡ k = ap (λ (x : UnitId). x.0) z.1 in
        (0, omega arith, record { unit = u; stands = refl; begins = subst (λ (x : ℕ). slice_get (places_of u) x ≡ Some p) same w.begins })
