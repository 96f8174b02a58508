-- Entries that are kept with their own parents, told by the rows of their unit.
use Rattle.std.proofs.Common.{◌≡◌, ◌∙◌, sym, ap, subst, ℕ, zero, suc, ◌+◌, ◌<◌, List, [], ◌∷◌, ◌++◌, length, Bool, true, Some, ◌⊎◌, inl, inr, refl, arith, append_assoc}
use Rattle.std.specs.Prelude.{slice_get}
use Rattle.dw_base.specs.Entries.{ReadEntry, Mark, Open, Null, Row}
use Rattle.dw_entry_ids.specs.Ids.{entry_count, mark_places, places_among}
use Rattle.dw_entry_ids.specs.Plans.{Plan, parent_behind, plan_of, plans_behind, plans_of}
use Rattle.dw_entry_ids.specs.KeptRows.{IsClosed}
use Rattle.dw_entry_ids.proofs.Found.{places_count}
use Rattle.dw_entry_ids.proofs.KeptLaws.{place_at}
use Rattle.dw_entry_ids.proofs.Planning.{parent_below}

-- An entry's row among those of its unit.
record Stands (all : List Row) (p : Plan) : Type 0 where
  front : List Row
  row : Row
  back : List Row
  is : all ≡ front ++ row ∷ back
  mark : row.mark ≡ Open p.entry
  number : p.number ≡ entry_count front
  parent : p.parent ≡ parent_behind front row.depth

first_plan : (p q : Plan) (ps qs : List Plan) → p ∷ ps ≡ q ∷ qs → (p ≡ q) × (ps ≡ qs)
first_plan p q ps qs h = (cc h, cc h)

plan_stands : (seen rows : List Row) (front back : List Plan) (p : Plan) → plans_behind seen rows ≡ front ++ p ∷ back → Stands (seen ++ rows) p
plan_stands seen [] [] back p h = absurd (let clash : [] ≡ p ∷ back = h in cc)
plan_stands seen [] (q ∷ front) back p h = absurd (let clash : [] ≡ q ∷ (front ++ p ∷ back) = h in cc)
plan_stands seen (r ∷ rows) front back p h = go r.mark refl (λ f k. plan_stands (seen ++ r ∷ []) rows f back p k) front h
  where
    later : Stands ((seen ++ r ∷ []) ++ rows) p → Stands (seen ++ r ∷ rows) p
    later w = subst (λ (zs : List Row). Stands zs p) (append_assoc seen (r ∷ []) rows) w

    go : (m : Mark ReadEntry) → r.mark ≡ m → ((f : List Plan) → plans_behind (seen ++ r ∷ []) rows ≡ f ++ p ∷ back → Stands ((seen ++ r ∷ []) ++ rows) p) → (f : List Plan) → plan_of (entry_count seen) (parent_behind seen r.depth) r.mark ++ plans_behind (seen ++ r ∷ []) rows ≡ f ++ p ∷ back → Stands (seen ++ r ∷ rows) p
    go Null q more f k = later (more f (ap (λ (m : Mark ReadEntry). plan_of (entry_count seen) (parent_behind seen r.depth) m ++ plans_behind (seen ++ r ∷ []) rows) (sym q) ∙ k))
    go (Open e) q more f k = by f (ap (λ (m : Mark ReadEntry). plan_of (entry_count seen) (parent_behind seen r.depth) m ++ plans_behind (seen ++ r ∷ []) rows) (sym q) ∙ k)
      where
        here : Plan
        here = record { number = entry_count seen; parent = parent_behind seen r.depth; entry = e }

        by : (f : List Plan) → here ∷ plans_behind (seen ++ r ∷ []) rows ≡ f ++ p ∷ back → Stands (seen ++ r ∷ rows) p
        by [] j =
            let same : here ≡ p = (first_plan here p (plans_behind (seen ++ r ∷ []) rows) back j).0 in
            record { front = seen; row = r; back = rows; is = refl; mark = q ∙ ap (λ (x : Plan). Open x.entry) same; number = sym (ap (λ (x : Plan). x.number) same); parent = sym (ap (λ (x : Plan). x.parent) same) }
        by (x ∷ f) j = later (more f (first_plan here x (plans_behind (seen ++ r ∷ []) rows) (f ++ p ∷ back) j).1)

-- what stands in a list stays where more come behind it
get_front : {A : Type 0} (xs ys : List A) (i : ℕ) → i < length xs → slice_get (xs ++ ys) i ≡ slice_get xs i
get_front [] ys i l = absurd (omega (arith, l))
get_front (x ∷ xs) ys zero l = refl
get_front (x ∷ xs) ys (suc i) l = get_front xs ys i (omega (arith, l))

places_split : (from : ℕ) (front rows : List Row) → places_among from (front ++ rows) ≡ places_among from front ++ places_among from rows
places_split from [] rows = refl
places_split from (r ∷ front) rows = ap (λ (zs : List ℕ). mark_places (from + r.from) r.mark ++ zs) (places_split from front rows) ∙ sym (append_assoc (mark_places (from + r.from) r.mark) (places_among from front) (places_among from rows))

-- It is enough that behind any rows of the unit an entry that is kept has its own parent kept, which is one of those before it.
pub closed_by_rows : (keep : ℕ → Bool) (from : ℕ) (all : List Row)
    → ((front back : List Row) (r : Row) (e : ReadEntry) (above : ℕ) → all ≡ front ++ r ∷ back → r.mark ≡ Open e → keep (from + r.from) ≡ true → slice_get (places_among from front) (parent_behind front r.depth) ≡ Some above → (parent_behind front r.depth ≡ 0) ⊎ (keep above ≡ true))
    → IsClosed keep from all
unfolding plans_of
closed_by_rows keep from all rule front back p place above is own up kept =
    let w = plan_stands [] all front back p is in
    let here : from + w.row.from ≡ place = same_place (from + w.row.from) place (sym (ap (slice_get (places_among from all)) w.number ∙ ap (λ (zs : List Row). slice_get (places_among from zs) (entry_count w.front)) w.is ∙ place_at keep from w.front w.row w.back p.entry w.mark) ∙ own) in
    by w here (parent_below w.front w.row.depth)
  where
    same_place : (m n : ℕ) → Some m ≡ Some n → m ≡ n
    same_place m n h = cc

    by : (w : Stands all p) → from + w.row.from ≡ place → (parent_behind w.front w.row.depth ≡ 0) ⊎ (parent_behind w.front w.row.depth < entry_count w.front) → (p.parent ≡ 0) ⊎ (keep above ≡ true)
    by w here (inl z) = inl (w.parent ∙ z)
    by w here (inr l) =
        let count : length (places_among from w.front) ≡ entry_count w.front = places_count from w.front in
        let there : slice_get (places_among from w.front) (parent_behind w.front w.row.depth) ≡ Some above =
        sym (get_front (places_among from w.front) (places_among from (w.row ∷ w.back)) (parent_behind w.front w.row.depth) (omega (arith, l, count)))
        ∙ ap (λ (zs : List ℕ). slice_get zs (parent_behind w.front w.row.depth)) (sym (places_split from w.front (w.row ∷ w.back)) ∙ ap (places_among from) (sym w.is))
        ∙ ap (slice_get (places_among from all)) (sym w.parent) ∙ up in
        subst (λ (n : ℕ). (n ≡ 0) ⊎ (keep above ≡ true)) (sym w.parent) (rule w.front w.back w.row p.entry above w.is w.mark (ap keep here ∙ kept) there)
