-- Units that are held one after the other, with the numbers of their entries.
use Rattle.std.proofs.Common.{◌≡◌, ◌∙◌, sym, ap, subst, ℕ, ◌+◌, ◌<◌, ◌≤◌, Bool, List, [], ◌∷◌, ◌++◌, length, map, Some, None, slice_get, ◌⊎◌, inl, inr, ⊎_elim, refl, arith}
use Rattle.std.proofs.lemmas.List.{map-append, length-map}
use Rattle.dw_base.specs.Entries.{Row}
use Rattle.dw_base.specs.Info.{ReadUnit}
use Rattle.dw_base.specs.declared.ids.UnitId.{UnitId}
use Rattle.dw_read.specs.Reading.{Reading, IsReading}
use Rattle.dw_read.specs.Fields.{header_of}
use Rattle.dw_read.specs.declared.unit_header.UnitHeader.{UnitHeader}
use Rattle.dw_read_units.specs.UnitReads.{IsUnit}
use Rattle.dw_read_units.specs.declared.dwarf.Dwarf.{Dwarf}
use Rattle.dw_read_units.specs.declared.dwarf.Unit.{Unit as UnitFields}
use Rattle.dw_entry_ids.specs.Ids.{ids_at, entry_count, later_or, number_among, with_unit, id_among, places_of, AreFound, Begins, FindsEntries}
use Rattle.dw_entry_ids.specs.KeptRows.{kept_rows, kept_unit}
use Rattle.dw_entry_ids.specs.Units.{NumbersRows, IsNumbered, AreNumbered}
use Rattle.dw_entry_ids.specs.declared.ids.EntryIds.{EntryIds}
use Rattle.dw_entry_ids.specs.declared.units.NumberedUnit.{NumberedUnit}
use Rattle.dw_entry_ids.proofs.Found.{at_end, none_there, ids_right}
use Rattle.dw_entry_ids.proofs.Steps.{id_none, id_one}

module _ {R E : Type 0} (keep : ℕ → Bool) (reading : R → Reading) (d : Dwarf R E) where
  are_more : (xs : List (NumberedUnit R E)) (us : List ReadUnit) (x : NumberedUnit R E) (u : ReadUnit) → AreNumbered keep reading d xs us → IsNumbered keep reading d x u → AreNumbered keep reading d (xs ++ x ∷ []) (us ++ u ∷ [])
  are_more [] [] x u h i = (i, tt)
  are_more [] (v ∷ us) x u h i = absurd h
  are_more (y ∷ xs) [] x u h i = absurd h
  are_more (y ∷ xs) (v ∷ us) x u h i = (h.0, are_more xs us x u h.1 i)

  as_many : (xs : List (NumberedUnit R E)) (us : List ReadUnit) → AreNumbered keep reading d xs us → length xs ≡ length us
  as_many [] [] h = refl
  as_many [] (v ∷ us) h = absurd h
  as_many (y ∷ xs) [] h = absurd h
  as_many (y ∷ xs) (v ∷ us) h = let e : length xs ≡ length us = as_many xs us h.1 in omega arith

  abbrev stay : List ReadUnit → List ReadUnit
  stay us = map (kept_unit keep) us

  -- the units that are held, and the ids of their entries, all of which begin before a place
  pub record Held (held : List (NumberedUnit R E)) (ids : EntryIds) (front : List ReadUnit) (bound : ℕ) : Type 0 where
    pub numbered : AreNumbered keep reading d held front
    pub kept : (p : ℕ) → ids_at ids p ≡ id_among 0 (stay front) p
    pub found : (n j p : ℕ) → Begins (stay front) n j p → id_among 0 (stay front) p ≡ Some (record { 0 = n }, record { 0 = j })
    pub below : (n j p : ℕ) → Begins (stay front) n j p → p < bound

  pub held_none : (ids : EntryIds) (bound : ℕ) → ((p : ℕ) → ids_at ids p ≡ None) → Held [] ids [] bound
  held_none ids bound e = record { numbered = tt; kept = λ p. e p ∙ id_none p; found = λ n j p b. absurd (let x : None ≡ Some b.unit = b.stands in cc); below = λ n j p b. absurd (let x : None ≡ Some b.unit = b.stands in cc) }

  module _ (h : UnitHeader R E) (u : UnitFields R E) (k : UnitId) (before after : EntryIds) (count : ℕ) (i : IsUnit reading d h u) (n : NumbersRows keep reading u.header u.abbreviations k before after count) where
    -- the unit as the grammar has it
    abbrev pub read_unit : ReadUnit
    read_unit = record { from = h.offset.0; header = header_of h.fields; table = u.abbreviations; rows = n.rows }

    abbrev rows_here : List Row
    rows_here = kept_rows keep h.offset.0 n.rows

    is_numbered : h.offset.0 ≤ (reading h.body).place → (reading h.body).is_big ≡ (reading d.debug_info).is_big → IsNumbered keep reading d (record { unit = u; entries = count }) read_unit
    is_numbered l o = record {
      unit = subst (λ (g : UnitHeader R E). IsUnit reading d g u) (sym i.header) i;
      behind = subst (λ (g : UnitHeader R E). g.offset.0 ≤ (reading g.body).place) (sym i.header) l;
      order = ap (λ (g : UnitHeader R E). (reading g.body).is_big) i.header ∙ o;
      from = ap (λ (g : UnitHeader R E). g.offset.0) (sym i.header);
      header = ap (λ (g : UnitHeader R E). header_of g.fields) (sym i.header);
      table = refl;
      rows = n.is;
      count = subst (λ (g : UnitHeader R E). count ≡ entry_count (kept_rows keep g.offset.0 n.rows)) i.header n.counted;
    }

    stay_more : (front : List ReadUnit) → stay (front ++ read_unit ∷ []) ≡ stay front ++ kept_unit keep read_unit ∷ []
    stay_more front = map-append (kept_unit keep) front (read_unit ∷ [])

    -- an entry of the units up to this one is one of those before it, or its own
    begun : (us : List ReadUnit) (m j p : ℕ) → Begins (us ++ kept_unit keep read_unit ∷ []) m j p → Begins us m j p ⊎ ((m ≡ length us) × (slice_get (places_of (kept_unit keep read_unit)) j ≡ Some p))
    begun us m j p b = ⊎_elim (λ s. inl (record { unit = b.unit; stands = s; begins = b.begins })) (λ e. inr (e.0, subst (λ (x : ReadUnit). slice_get (places_of x) j ≡ Some p) (sym e.1) b.begins)) (at_end us (kept_unit keep read_unit) b.unit m b.stands)

    pub held_more : (held : List (NumberedUnit R E)) (front : List ReadUnit) (bound : ℕ) → IsReading (reading h.body) → h.offset.0 ≤ (reading h.body).place → (reading h.body).is_big ≡ (reading d.debug_info).is_big → bound ≤ h.offset.0 → Held held before front bound → k.0 ≡ length held
        → Held (held ++ record { unit = u; entries = count } ∷ []) after (front ++ read_unit ∷ []) (reading h.body).end
    held_more held front bound c l o from w e =
        let us : List ReadUnit = stay front in
        let many : length held ≡ length front = as_many held front w.numbered in
        let mapped : length us ≡ length front = length-map front (kept_unit keep) in
        let number : k.0 ≡ length us + 0 = omega arith in
        let last : length us + 0 ≡ length us = omega arith in
        let own : AreFound h.offset.0 rows_here (reading h.body).end = subst (λ (g : UnitHeader R E). AreFound g.offset.0 (kept_rows keep g.offset.0 n.rows) (reading g.body).end) i.header n.found in
        let behind : h.offset.0 ≤ (reading h.body).end = let x : (reading h.body).place ≤ (reading h.body).end = c.place in omega arith in
        record {
          numbered = are_more held front (record { unit = u; entries = count }) read_unit w.numbered (is_numbered l o);
          kept = λ q. n.kept q
              ∙ ap (λ (g : UnitHeader R E). later_or (with_unit k (number_among g.offset.0 0 (kept_rows keep g.offset.0 n.rows) q)) (ids_at before q)) i.header
              ∙ ap (λ (m : ℕ). later_or (with_unit (record { 0 = m }) (number_among h.offset.0 0 rows_here q)) (ids_at before q)) number
              ∙ ap (λ a. later_or (with_unit (record { 0 = length us + 0 }) (number_among h.offset.0 0 rows_here q)) a) (w.kept q)
              ∙ sym (id_one 0 us (kept_unit keep read_unit) q)
              ∙ ap (λ (vs : List ReadUnit). id_among 0 vs q) (sym (stay_more front));
          found = λ m j q s. ap (λ (vs : List ReadUnit). id_among 0 vs q) (stay_more front) ∙ id_one 0 us (kept_unit keep read_unit) q
              ∙ ⊎_elim
              (λ f. let before : q < bound = w.below m j q f in
              let none : number_among h.offset.0 0 rows_here q ≡ None = none_there h.offset.0 0 rows_here q (λ x y. let z : h.offset.0 ≤ q = (own.within x q y).0 in absurd (omega arith)) in
              ap (λ a. later_or (with_unit (record { 0 = length us + 0 }) a) (id_among 0 us q)) none ∙ w.found m j q f)
              (λ f. let one : number_among h.offset.0 0 rows_here q ≡ Some j = own.found j q f.1 in
              ap (λ a. later_or (with_unit (record { 0 = length us + 0 }) a) (id_among 0 us q)) one ∙ ap (λ (x : ℕ). Some (record { 0 = x }, record { 0 = j })) (last ∙ sym f.0))
              (begun us m j q (subst (λ (vs : List ReadUnit). Begins vs m j q) (stay_more front) s));
          below = λ m j q s.
              ⊎_elim (λ f. let before : q < bound = w.below m j q f in omega arith) (λ f. let inside : q < (reading h.body).end = (own.within j q f.1).1 in omega arith) (begun us m j q (subst (λ (vs : List ReadUnit). Begins vs m j q) (stay_more front) s));
        }

  -- so an entry is found exactly where one begins that is kept
  pub held_found : (held : List (NumberedUnit R E)) (ids : EntryIds) (front : List ReadUnit) (bound : ℕ) → Held held ids front bound → FindsEntries ids (stay front)
  held_found held ids front bound w = record {
    found = λ n j p b. w.kept p ∙ w.found n j p b;
    right = λ n j p e.
        let r = ids_right 0 (stay front) n j p (sym (w.kept p) ∙ e) in
        let same : r.0 ≡ n = let i : n ≡ 0 + r.0 = r.1 in omega arith in
        subst (λ (x : ℕ). Begins (stay front) x j p) same r.2;
  }
