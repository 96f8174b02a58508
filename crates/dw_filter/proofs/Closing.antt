-- With an entry that is kept its own parent is kept, unless that is the root: no other entry begins at its place, and it leads to its
-- parent.
use Rattle.std.proofs.Common.{◌≡◌, ◌∙◌, sym, ap, subst, ℕ, zero, suc, ◌+◌, ◌-◌, ◌<◌, ◌≤◌, ◌==◌, ◌||◌, if◌then◌else◌, List, [], ◌∷◌, ◌++◌, length, get_or, slice_get, Some, Bool, true, false, Result, Ok, ◌⊎◌, inl, inr, ⊎_elim, ◌↔◌, refl, arith}
use Rattle.std.specs.List.{Contains, list_any, zip}
use Rattle.std.proofs.lemmas.Bool.{cases_eq, eq-eqb, eqb-true}
use Rattle.std.proofs.lemmas.Option.{slice_get-get_or, slice_get_within}
use Rattle.dw_base.specs.Abbreviations.{Declaration}
use Rattle.dw_base.specs.Entries.{Mark, Null, Open, ReadEntry, Row, next_depth}
use Rattle.dw_base.specs.declared.common.Encoding.{Encoding}
use Rattle.dw_base.specs.declared.offsets.UnitSectionOffset.{UnitSectionOffset}
use Rattle.dw_read.proofs.Items.{then_parts}
use Rattle.dw_read.proofs.Lefts.{length-left}
use Rattle.dw_read.proofs.Shorter.{mark_shorter}
use Rattle.dw_read.specs.FormReasons.{mark_read}
use Rattle.dw_read.specs.Reading.{IsReading, Reading, left}
use Rattle.dw_read.specs.Reasons.{◌=>>◌}
use Rattle.dw_read.specs.UnitHeaders.{header_size}
use Rattle.dw_read.specs.declared.error.ReadError.{ReadError}
use Rattle.dw_read_units.specs.Passes.{rows_reading}
use Rattle.dw_read_units.specs.Walks.{rows_read}
use Rattle.dw_read_units.specs.declared.dwarf.Dwarf.{Dwarf}
use Rattle.dw_read_units.specs.declared.dwarf.Unit.{Unit as UnitFields}
use Rattle.dw_entry_ids.proofs.Planning.{parent_below}
use Rattle.dw_entry_ids.proofs.Steps.{count_one}
use Rattle.dw_entry_ids.specs.Ids.{entry_count, is_entry, mark_places, places_among}
use Rattle.dw_entry_ids.specs.KeptRows.{IsClosed, keep_of}
use Rattle.dw_entry_ids.specs.KeptUnits.{AreUnitsBehind}
use Rattle.dw_entry_ids.specs.Plans.{Plan, parent_behind, plan_of, plans_behind, plans_of}
use Rattle.dw_filter.specs.FileGraph.{HasUnit, KeptIn, KnownIn, LeadsIn, count_at}
use Rattle.dw_filter.specs.Kept.{Walk}
use Rattle.dw_filter.specs.UnitGraph.{BeginsAt, IsRead, Placed, placed_in}
use Rattle.dw_filter.proofs.LinkSteps.{same_place}

-- ---- the kept places as a list and as a test
or_later : (a b : Bool) → b ≡ true → (a || b) ≡ true
or_later true b h = refl
or_later false b h = h

test_kept : (xs : List UnitSectionOffset) (k : ℕ) (q : UnitSectionOffset) → k < length xs → get_or xs k q ≡ q → keep_of (Some xs) q.0 ≡ true
test_kept [] k q l e = absurd (omega (arith, l))
test_kept (y ∷ xs) zero q l e = ap (λ b. b || list_any (λ (z : UnitSectionOffset). z.0 == q.0) xs) (eq-eqb y.0 q.0 (ap (λ (z : UnitSectionOffset). z.0) e))
test_kept (y ∷ xs) (suc k) q l e = or_later (y.0 == q.0) (list_any (λ (z : UnitSectionOffset). z.0 == q.0) xs) (test_kept xs k q (omega (arith, l)) e)

kept_there : (xs : List UnitSectionOffset) (q : UnitSectionOffset) → keep_of (Some xs) q.0 ≡ true → Contains xs q
kept_there [] q h = absurd (cc)
kept_there (y ∷ xs) q h = by (kept_there xs q) (y.0 == q.0) refl h
  where
    by : (keep_of (Some xs) q.0 ≡ true → Contains xs q) → (b : Bool) → (y.0 == q.0) ≡ b → (b || list_any (λ (z : UnitSectionOffset). z.0 == q.0) xs) ≡ true → Contains (y ∷ xs) q
    by more true e k = (0, omega arith, same_place y q (eqb-true y.0 q.0 e))
    by more false e k = let c = more k in (suc c.0, (let l : c.0 < length xs = c.1 in omega arith), c.2)

-- ---- places that rise, from one on and below another
abbrev Rise : ℕ → ℕ → List ℕ → Type 0
Rise low bound [] = Unit {0}
Rise low bound (p ∷ ps) = (low ≤ p) × (p < bound) × Rise (suc p) bound ps

none_at : {A : Type 0} (j : ℕ) (x : A) → slice_get [] j ≡ Some x → ⊥
none_at j x h = let l : j < 0 = slice_get_within [] j x h in omega arith

rise_wider : (low below bound above : ℕ) (ps : List ℕ) → below ≤ low → bound ≤ above → Rise low bound ps → Rise below above ps
rise_wider low below bound above [] l m h = tt
rise_wider low below bound above (p ∷ ps) l m h =
    let a : low ≤ p = h.0 in
    let b : p < bound = h.1 in
    (omega arith, omega arith, rise_wider (suc p) (suc p) bound above ps (omega arith) m h.2)

rise_within : (low bound : ℕ) (ps : List ℕ) → Rise low bound ps → (j p : ℕ) → slice_get ps j ≡ Some p → (low ≤ p) × (p < bound)
rise_within low bound [] h j p is = absurd (none_at j p is)
rise_within low bound (q ∷ ps) h zero p is =
    let e : q ≡ p = cc in
    let a : low ≤ q = h.0 in
    let b : q < bound = h.1 in
    (omega arith, omega arith)
rise_within low bound (q ∷ ps) h (suc j) p is =
    let a : low ≤ q = h.0 in
    let w = rise_within (suc q) bound ps h.2 j p is in
    let c : suc q ≤ p = w.0 in
    (omega arith, w.1)

-- no two are the same
rise_same : (low bound : ℕ) (ps : List ℕ) → Rise low bound ps → (i j p : ℕ) → slice_get ps i ≡ Some p → slice_get ps j ≡ Some p → i ≡ j
rise_same low bound [] h i j p a b = absurd (none_at i p a)
rise_same low bound (q ∷ ps) h zero zero p a b = refl
rise_same low bound (q ∷ ps) h zero (suc j) p a b = absurd (let e : q ≡ p = cc in let c : suc q ≤ p = (rise_within (suc q) bound ps h.2 j p b).0 in omega arith)
rise_same low bound (q ∷ ps) h (suc i) zero p a b = absurd (let e : q ≡ p = cc in let c : suc q ≤ p = (rise_within (suc q) bound ps h.2 i p a).0 in omega arith)
rise_same low bound (q ∷ ps) h (suc i) (suc j) p a b = ap suc (rise_same (suc q) bound ps h.2 i j p a b)

-- ---- the rows of a unit begin at such places
same_ok : {A : Type 0} (x y : A) → ◌≡◌ {A = Result A ReadError} (Ok x) (Ok y) → x ≡ y
same_ok x y h = cc

module _ (big : Bool) (e : Encoding) (table : List Declaration) (base : ℕ) where
  abbrev with_rows : ℕ → ℕ → List ℕ → Mark ReadEntry × List ℕ → List Row → Result (List Row) ReadError
  with_rows from depth bytes x more = Ok (record { from = from; depth = depth; mark = x.0; to = from + (length bytes - length x.1) } ∷ more)

  abbrev with_mark : ℕ → ℕ → ℕ → List ℕ → Mark ReadEntry × List ℕ → Result (List Row) ReadError
  with_mark fuel from depth bytes x = rows_read fuel big e table (from + (length bytes - length x.1)) (next_depth x.0 depth) x.1 =>> with_rows from depth bytes x

  rows_rise : (fuel from depth : ℕ) (bytes : List ℕ) (rows : List Row) → rows_read fuel big e table from depth bytes ≡ Ok rows → Rise (base + from) (base + from + length bytes) (places_among base rows)
  unfolding rows_read
  rows_rise fuel from depth [] rows h = subst (λ (xs : List Row). Rise (base + from) (base + from + 0) (places_among base xs)) (same_ok [] rows h) tt
  rows_rise zero from depth (b ∷ bs) rows h = absurd (cc)
  rows_rise (suc fuel) from depth (b ∷ bs) rows h =
      let a = then_parts (mark_read big e table (b ∷ bs)) (with_mark fuel from depth (b ∷ bs)) rows h in
      let c = then_parts (rows_read fuel big e table (from + (length (b ∷ bs) - length a.0.1)) (next_depth a.0.0 depth) a.0.1) (with_rows from depth (b ∷ bs) a.0) rows a.2 in
      let is = same_ok _ rows c.2 in
      let less : length a.0.1 < length (b ∷ bs) = mark_shorter big e table (b ∷ bs) a.0 a.1 in
      let rest = rows_rise fuel (from + (length (b ∷ bs) - length a.0.1)) (next_depth a.0.0 depth) a.0.1 c.0 c.1 in
      subst (λ (xs : List Row). Rise (base + from) (base + from + length (b ∷ bs)) (places_among base xs)) is
      (by (places_among base c.0) a.0.0 (rise_wider _ (suc (base + from)) _ (base + from + length (b ∷ bs)) (places_among base c.0) (omega (arith, less)) (omega (arith, less)) rest))
    where
      by : (ps : List ℕ) (m : Mark ReadEntry) → Rise (suc (base + from)) (base + from + length (b ∷ bs)) ps → Rise (base + from) (base + from + length (b ∷ bs)) (mark_places (base + from) m ++ ps)
      by ps (Open x) r = (omega arith, omega arith, r)
      by ps Null r = rise_wider (suc (base + from)) (base + from) _ _ ps (omega arith) (omega arith) r

-- ---- the plans of rows
record IsPlanned (n : ℕ) (p : Plan) : Type 0 where
  number : p.number ≡ n
  parent : (p.parent ≡ 0) ⊎ (p.parent < n)

plans_numbered : (front rows : List Row) (i : ℕ) (p : Plan) → slice_get (plans_behind front rows) i ≡ Some p → IsPlanned (entry_count front + i) p
plans_numbered front [] i p h = absurd (none_at i p h)
plans_numbered front (r ∷ rows) i p h = by (λ n k. plans_numbered (front ++ r ∷ []) rows n p k) r.mark refl i h
  where
    by : ((n : ℕ) → slice_get (plans_behind (front ++ r ∷ []) rows) n ≡ Some p → IsPlanned (entry_count (front ++ r ∷ []) + n) p) → (m : Mark ReadEntry) → r.mark ≡ m → (i : ℕ) → slice_get (plan_of (entry_count front) (parent_behind front r.depth) m ++ plans_behind (front ++ r ∷ []) rows) i ≡ Some p → IsPlanned (entry_count front + i) p
    by later (Open x) q zero k =
        let e : record { number = entry_count front; parent = parent_behind front r.depth; entry = x } ≡ p = cc in
        let z : entry_count front ≡ entry_count front + 0 = omega arith in
        subst (λ (n : ℕ). IsPlanned n p) z (subst (λ (y : Plan). IsPlanned (entry_count front) y) e (record { number = refl; parent = parent_below front r.depth }))
    by later (Open x) q (suc i) k =
        let one : entry_count (front ++ r ∷ []) ≡ entry_count front + 1 = count_one front r ∙ ap (λ (m : Mark ReadEntry). entry_count front + (if is_entry m then 1 else 0)) q in
        let z : entry_count (front ++ r ∷ []) + i ≡ entry_count front + suc i = omega (arith, one) in
        subst (λ (n : ℕ). IsPlanned n p) z (later i k)
    by later Null q i k =
        let none : entry_count (front ++ r ∷ []) ≡ entry_count front + 0 = count_one front r ∙ ap (λ (m : Mark ReadEntry). entry_count front + (if is_entry m then 1 else 0)) q in
        let z : entry_count (front ++ r ∷ []) + i ≡ entry_count front + i = omega (arith, none) in
        subst (λ (n : ℕ). IsPlanned n p) z (later i k)

planned : (rows : List Row) (i : ℕ) (p : Plan) → slice_get (plans_of rows) i ≡ Some p → IsPlanned i p
unfolding plans_of
planned rows i p h = let z : 0 + i ≡ i = omega arith in subst (λ (n : ℕ). IsPlanned n p) z (plans_numbered [] rows i p h)

zip_parts : {A B : Type 0} (xs : List A) (ys : List B) (n : ℕ) (z : A × B) → slice_get (zip xs ys) n ≡ Some z → (slice_get xs n ≡ Some z.0) × (slice_get ys n ≡ Some z.1)
zip_parts [] ys n z h = absurd (none_at n z h)
zip_parts (x ∷ xs) [] n z h = absurd (none_at n z h)
zip_parts (x ∷ xs) (y ∷ ys) zero z h = let e : (x, y) ≡ z = cc in (ap (λ (w : _ × _). Some w.0) e, ap (λ (w : _ × _). Some w.1) e)
zip_parts (x ∷ xs) (y ∷ ys) (suc n) z h = zip_parts xs ys n z h

zip_both : {A B : Type 0} (xs : List A) (ys : List B) (n : ℕ) (a : A) (b : B) → slice_get xs n ≡ Some a → slice_get ys n ≡ Some b → slice_get (zip xs ys) n ≡ Some (a, b)
zip_both [] ys n a b h k = absurd (none_at n a h)
zip_both (x ∷ xs) [] n a b h k = absurd (none_at n b k)
zip_both (x ∷ xs) (y ∷ ys) zero a b h k = let e : x ≡ a = cc in let f : y ≡ b = cc in ap (λ z. Some (z, y)) e ∙ ap (λ z. Some (a, z)) f
zip_both (x ∷ xs) (y ∷ ys) (suc n) a b h k = zip_both xs ys n a b h k

one_there : {A : Type 0} (xs : List A) (i j : ℕ) (x y : A) → i ≡ j → slice_get xs i ≡ Some x → slice_get xs j ≡ Some y → x ≡ y
one_there xs i j x y e h k = let q : ◌≡◌ (Some x) (Some y) = sym h ∙ ap (slice_get xs) e ∙ k in cc

-- ---- units each of which begins behind the one before it
module _ {R E : Type 0} (reading : R → Reading) (d : Dwarf R E) (legal : (r : R) → IsReading (reading r)) where
  abbrev start : UnitFields R E → ℕ
  start u = u.header.offset.0

  abbrev end_of : UnitFields R E → ℕ
  end_of u = (reading u.header.body).end

  unit_behind : (bound : ℕ) (units : List (UnitFields R E)) → AreUnitsBehind reading d bound units → (j : ℕ) (v : UnitFields R E) → slice_get units j ≡ Some v → (bound ≤ start v) × (start v ≤ (reading v.header.body).place)
  unit_behind bound [] h j v is = absurd (none_at j v is)
  unit_behind bound (u ∷ us) h zero v is = let e : u ≡ v = cc in subst (λ (w : UnitFields R E). (bound ≤ start w) × (start w ≤ (reading w.header.body).place)) e (h.0.begins, h.0.behind)
  unit_behind bound (u ∷ us) h (suc j) v is =
      let w = unit_behind (end_of u) us h.1 j v is in
      let a : bound ≤ start u = h.0.begins in
      let b : start u ≤ (reading u.header.body).place = h.0.behind in
      let c : (reading u.header.body).place ≤ end_of u = (legal u.header.body).place in
      let f : end_of u ≤ start v = w.0 in
      (omega arith, w.1)

  -- a place lies in one of them alone
  record IsIn (u : UnitFields R E) (p : ℕ) : Type 0 where
    from : start u ≤ p
    below : p < end_of u

  unit_same : (bound : ℕ) (units : List (UnitFields R E)) → AreUnitsBehind reading d bound units → (i j : ℕ) (u v : UnitFields R E) (p : ℕ) → slice_get units i ≡ Some u → slice_get units j ≡ Some v → IsIn u p → IsIn v p → i ≡ j
  unit_same bound [] h i j u v p a b x y = absurd (none_at i u a)
  unit_same bound (w ∷ us) h zero zero u v p a b x y = refl
  unit_same bound (w ∷ us) h zero (suc j) u v p a b x y = absurd (
      let e : w ≡ u = cc in
      let m : end_of w ≤ start v = (unit_behind (end_of w) us h.1 j v b).0 in
      let k : end_of w ≡ end_of u = ap end_of e in
      let f : p < end_of u = x.below in
      let g : start v ≤ p = y.from in
      omega arith
      )
  unit_same bound (w ∷ us) h (suc i) zero u v p a b x y = absurd (
      let e : w ≡ v = cc in
      let m : end_of w ≤ start u = (unit_behind (end_of w) us h.1 i u a).0 in
      let k : end_of w ≡ end_of v = ap end_of e in
      let f : p < end_of v = y.below in
      let g : start u ≤ p = x.from in
      omega arith
      )
  unit_same bound (w ∷ us) h (suc i) (suc j) u v p a b x y = ap suc (unit_same (end_of w) us h.1 i j u v p a b x y)

  module _ (units : List (UnitFields R E)) (counts : List ℕ) (behind : AreUnitsBehind reading d 0 units) where
    abbrev places : {i : ℕ} → HasUnit reading units i → List ℕ
    places h = places_among (start h.unit) h.rows

    unit_rises : (i : ℕ) (h : HasUnit reading units i) → Rise (start h.unit) (end_of h.unit) (places h)
    unit_rises i h =
        let body = reading h.unit.header.body in
        let r = rows_rise body.is_big h.unit.header.fields.encoding h.unit.abbreviations (start h.unit) (length (left body)) (header_size reading h.unit.header) 0 (left body) h.rows h.are in
        let b : start h.unit ≤ body.place = (unit_behind 0 units behind i h.unit h.stands).1 in
        let l : length (left body) ≡ body.end - body.place = length-left body (legal h.unit.header.body) in
        let p : body.place ≤ body.end = (legal h.unit.header.body).place in
        rise_wider _ (start h.unit) _ (end_of h.unit) (places h) (omega arith) (omega arith) r

    place_in : (i : ℕ) (h : HasUnit reading units i) (n p : ℕ) → slice_get (places h) n ≡ Some p → IsIn h.unit p
    place_in i h n p is = let w = rise_within (start h.unit) (end_of h.unit) (places h) (unit_rises i h) n p is in record { from = w.0; below = w.1 }

    abbrev entries : {i : ℕ} → HasUnit reading units i → List Placed
    entries h = placed_in (start h.unit) h.rows

    module _ (i : ℕ) (h : HasUnit reading units i) where
      -- where an entry of the unit begins, no other one does of any unit
      read_here : (j : ℕ) (v : HasUnit reading units j) (m n p : ℕ) (x : Placed) → slice_get (places h) n ≡ Some p → IsRead (entries v) (count_at counts j) m x → x.1 ≡ p → IsRead (entries h) (count_at counts i) n x
      read_here j v m n p x is r e =
          let its : slice_get (places v) m ≡ Some p = (zip_parts (plans_of v.rows) (places v) m x r.stands).1 ∙ ap (λ (q : ℕ). Some q) e in
          let one : j ≡ i = unit_same 0 units behind j i v.unit h.unit p v.stands h.stands (place_in j v m p its) (place_in i h n p is) in
          let unit : v.unit ≡ h.unit = one_there units j i v.unit h.unit one v.stands h.stands in
          let rows : v.rows ≡ h.rows = same_ok v.rows h.rows (sym v.are ∙ ap (λ (u : UnitFields R E). rows_reading reading u.header u.abbreviations) unit ∙ h.are) in
          let there : slice_get (places h) m ≡ Some p = subst (λ (xs : List Row). slice_get (places_among (start h.unit) xs) m ≡ Some p) rows (subst (λ (u : UnitFields R E). slice_get (places_among (start u) v.rows) m ≡ Some p) unit its) in
          let number : m ≡ n = rise_same (start h.unit) (end_of h.unit) (places h) (unit_rises i h) m n p there is in
          subst (λ (k : ℕ). IsRead (entries h) (count_at counts i) k x) number
          (subst (λ (k : ℕ). IsRead (entries h) (count_at counts k) m x) one
          (subst (λ (xs : List Row). IsRead (placed_in (start h.unit) xs) (count_at counts j) m x) rows
          (subst (λ (u : UnitFields R E). IsRead (placed_in (start u) v.rows) (count_at counts j) m x) unit r)))

      known_here : (q : UnitSectionOffset) (n : ℕ) → slice_get (places h) n ≡ Some q.0 → KnownIn reading units counts q → (x : Placed) × IsRead (entries h) (count_at counts i) n x × BeginsAt x q
      known_here q n is k = let a = k.2 in (a.1, read_here k.0 k.1 a.0 n q.0 a.1 is a.2 a.3, a.3)

      module _ (required kept : List UnitSectionOffset) (are : (q : UnitSectionOffset) → Contains kept q ↔ KeptIn reading d units counts required q) where
        walk_known : (n : ℕ) (q : UnitSectionOffset) → Walk (KnownIn reading units counts) (LeadsIn reading d units counts) (Contains required) n q → KnownIn reading units counts q
        walk_known zero q w = w.1
        walk_known (suc n) q w = w.3

        -- an entry of the unit leads to its parent, which is known
        kept_above : (p : Plan) (place above : ℕ) → slice_get (plans_of h.rows) p.number ≡ Some p → slice_get (places h) p.number ≡ Some place → slice_get (places h) p.parent ≡ Some above
            → Contains kept (record { 0 = place }) → 1 ≤ p.parent → p.parent < p.number → Contains kept (record { 0 = above })
        kept_above p place above is own its c some less =
            let q : UnitSectionOffset = record { 0 = place } in
            let parent_place : UnitSectionOffset = record { 0 = above } in
            let w = (are q).0 c in
            let x = known_here q p.number own (walk_known w.0 q w.1) in
            let same : x.0.0 ≡ p = one_there (plans_of h.rows) p.number p.number x.0.0 p refl (zip_parts (plans_of h.rows) (places h) p.number x.0 x.1.stands).0 is in
            let long : p.number < length (plans_of h.rows) = slice_get_within (plans_of h.rows) p.number p is in
            let parent : Placed = (get_or (plans_of h.rows) p.parent p, above) in
            let stands : slice_get (entries h) p.parent ≡ Some parent = zip_both (plans_of h.rows) (places h) p.parent parent.0 above (slice_get-get_or (plans_of h.rows) p.parent p (omega (arith, long, less))) its in
            let at_most : p.number ≤ count_at counts i = x.1.counted in
            let read : IsRead (entries h) (count_at counts i) p.parent parent = record { stands = stands; behind_root = some; counted = omega (arith, at_most, less) } in
            let known : KnownIn reading units counts parent_place = (i, h, (p.parent, parent, read, refl)) in
            let number : x.0.0.parent ≡ p.parent = ap (λ (y : Plan). y.parent) same in
            let leads : LeadsIn reading d units counts q parent_place = (i, h, (p.number, x.0, x.1, inl (x.2, inl (parent, record { stands = ap (slice_get (entries h)) number ∙ stands; not_root = subst (λ (n : ℕ). 1 ≤ n) (sym number) some }, refl)))) in
            (are parent_place).1 (suc w.0, (q, w.1, leads, known))

        pub kept_closed : IsClosed (keep_of (Some kept)) (start h.unit) h.rows
        kept_closed front back p place above is own its k =
            let there : slice_get (plans_of h.rows) (length front) ≡ Some p = ap (λ (ps : List Plan). slice_get ps (length front)) is ∙ get_first front back p in
            let w = planned h.rows (length front) p there in
            let number : p.number ≡ length front = w.number in
            let stands : slice_get (plans_of h.rows) p.number ≡ Some p = ap (slice_get (plans_of h.rows)) number ∙ there in
            ⊎_elim (λ z. inl z)
            (λ (n : p.parent ≡ 0 → ⊥). ⊎_elim (λ (z : p.parent ≡ 0). inl z)
            (λ (l : p.parent < length front).
            let c = kept_above p place above stands own its (kept_there kept (record { 0 = place }) k) (omega (arith, n)) (omega (arith, l, number)) in
            inr (test_kept kept c.0 (record { 0 = above }) c.1 c.2)) w.parent)
            (cases_eq p.parent 0)
          where
            get_first : (xs ys : List Plan) (x : Plan) → slice_get (xs ++ x ∷ ys) (length xs) ≡ Some x
            get_first [] ys x = refl
            get_first (y ∷ xs) ys x = get_first xs ys x
