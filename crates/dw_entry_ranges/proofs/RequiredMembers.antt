-- The places that are answered are exactly those of required entries.
use Rattle.std.proofs.Common.{◌≡◌, ◌∙◌, sym, ap, subst, ℕ, zero, suc, ◌+◌, ◌<◌, length, List, [], ◌∷◌, ◌++◌, drop, Bool, true, false, Result, Ok, ⊎_elim, refl, arith, slice_index_or}
use Rattle.std.specs.List.{Contains, list_any}
use Rattle.std.proofs.lemmas.List.Elements.{Contains-append_cases, Contains-append_left, Contains-append_right, Contains-push, Contains-push_cases}
use Rattle.dw_base.specs.Entries.{ReadEntry, Mark, Open, Null, Row}
use Rattle.dw_base.specs.declared.offsets.UnitSectionOffset.{UnitSectionOffset}
use Rattle.dw_read.specs.Reading.{Reading}
use Rattle.dw_read.specs.Reasons.{◌=>>◌}
use Rattle.dw_read.specs.declared.error.ReadError.{ReadError}
use Rattle.dw_read.proofs.Items.{then_parts}
use Rattle.dw_read_units.specs.declared.dwarf.Dwarf.{Dwarf}
use Rattle.dw_read_units.specs.declared.unit_ref.UnitRef.{UnitRef}
use Rattle.dw_entry_ranges.specs.Live.{meets}
use Rattle.dw_entry_ranges.specs.Required.{Held, place_if, ranges_in, mark_required, rows_required, unit_required, places_required}
use Rattle.dw_entry_ranges.specs.declared.live.LiveRange.{LiveRange}
use Rattle.dw_entry_ranges.specs.declared.range.AddressRange.{AddressRange}

abbrev Places : Type 0
Places = List UnitSectionOffset

abbrev ok_places : Places → Result Places ReadError
ok_places ps = Ok ps

none_in : {A : Type 0} (ps : List A) (p : A) → [] ≡ ps → Contains ps p → ⊥
none_in ps p e h = let k = subst (λ xs. Contains xs p) (sym e) h in absurd (omega (arith, k.1))

module _ {R E : Type 0} (reading : R → Reading) (u : UnitRef R E) (live : List LiveRange) where
  -- an entry of rows has a range that meets a live one, and stands at a place of the section
  pub record IsRequired (rows : List Row) (p : UnitSectionOffset) : Type 0 where
    pub front : List Row
    pub row : Row
    pub back : List Row
    pub stands : rows ≡ front ++ row ∷ back
    pub entry : ReadEntry
    pub mark : row.mark ≡ Open entry
    pub own : List AddressRange
    pub are : ranges_in reading u entry ≡ Ok own
    pub is_live : list_any (meets live) own ≡ true
    pub place : p ≡ record { 0 = u.unit.now.header.offset.0 + row.from }

  abbrev place_of : Row → ℕ
  place_of r = u.unit.now.header.offset.0 + r.from

  record Here (r : Row) (m : Mark ReadEntry) (p : UnitSectionOffset) : Type 0 where
    entry : ReadEntry
    mark : m ≡ Open entry
    own : List AddressRange
    are : ranges_in reading u entry ≡ Ok own
    is_live : list_any (meets live) own ≡ true
    place : p ≡ record { 0 = place_of r }

  here_if : (r : Row) (e : ReadEntry) (own : List AddressRange) (b : Bool) (ps : Places) (p : UnitSectionOffset) → ranges_in reading u e ≡ Ok own → list_any (meets live) own ≡ b → place_if b (place_of r) ≡ ps → Contains ps p → Here r (Open e) p
  here_if r e own true ps p a q s h =
      let one : Contains ([] ++ record { 0 = place_of r } ∷ []) p = subst (λ (xs : Places). Contains xs p) (sym s) h in
      let same : record { 0 = place_of r } ≡ p = ⊎_elim (λ (k : Contains [] p). absurd (none_in [] p refl k)) (λ x. x) (Contains-push_cases [] (record { 0 = place_of r }) p one) in
      record { entry = e; mark = refl; own = own; are = a; is_live = q; place = sym same }
  here_if r e own false ps p a q s h = absurd (none_in ps p s h)

  here_found : (r : Row) (m : Mark ReadEntry) (ps : Places) (p : UnitSectionOffset) → mark_required reading u live (place_of r) m ≡ ok_places ps → Contains ps p → Here r m p
  here_found r (Open e) ps p q h =
      let x = then_parts (ranges_in reading u e) _ ps q in
      let s : ok_places (place_if (list_any (meets live) x.0) (place_of r)) ≡ ok_places ps = x.2 in
      here_if r e x.0 (list_any (meets live) x.0) ps p x.1 refl (cc s) h
  here_found r Null ps p q h = let s : ok_places [] ≡ ok_places ps = q in absurd (none_in ps p (cc s) h)

  -- what is answered is required
  pub required_found : (rows : List Row) (ps : Places) (p : UnitSectionOffset) → rows_required reading u live rows ≡ ok_places ps → Contains ps p → IsRequired rows p
  unfolding rows_required
  required_found [] ps p e h = let s : ok_places [] ≡ ok_places ps = e in absurd (none_in ps p (cc s) h)
  required_found (r ∷ rows) ps p e h =
      let m = then_parts (mark_required reading u live (place_of r) r.mark) _ ps e in
      let n = then_parts (rows_required reading u live rows) _ ps m.2 in
      let s : ok_places (m.0 ++ n.0) ≡ ok_places ps = n.2 in
      let both : m.0 ++ n.0 ≡ ps = cc s in
      ⊎_elim
      (λ (k : Contains m.0 p). let x = here_found r r.mark m.0 p m.1 k in record { front = []; row = r; back = rows; stands = refl; entry = x.entry; mark = x.mark; own = x.own; are = x.are; is_live = x.is_live; place = x.place })
      (λ (k : Contains n.0 p). let x = required_found rows n.0 p n.1 k in record { front = r ∷ x.front; row = x.row; back = x.back; stands = ap (λ l. r ∷ l) x.stands; entry = x.entry; mark = x.mark; own = x.own; are = x.are; is_live = x.is_live; place = x.place })
      (Contains-append_cases m.0 n.0 p (subst (λ (xs : Places). Contains xs p) (sym both) h))

  here_answered : (r : Row) (e : ReadEntry) (own : List AddressRange) (ps : Places) → ranges_in reading u e ≡ Ok own → list_any (meets live) own ≡ true → mark_required reading u live (place_of r) (Open e) ≡ ok_places ps → Contains ps (record { 0 = place_of r })
  here_answered r e own ps a q h =
      let is : mark_required reading u live (place_of r) (Open e) ≡ ok_places (record { 0 = place_of r } ∷ []) = ap (λ (x : Result (List AddressRange) ReadError). x =>> λ ranges. ok_places (place_if (list_any (meets live) ranges) (place_of r))) a ∙ ap (λ b. ok_places (place_if b (place_of r))) q in
      let s : ok_places (record { 0 = place_of r } ∷ []) ≡ ok_places ps = sym is ∙ h in
      let same : [] ++ record { 0 = place_of r } ∷ [] ≡ ps = cc s in
      subst (λ (xs : Places). Contains xs (record { 0 = place_of r })) same (Contains-push [] (record { 0 = place_of r }))

  answered_at : (front : List Row) (row : Row) (back : List Row) (ps : Places) (e : ReadEntry) (own : List AddressRange) → rows_required reading u live (front ++ row ∷ back) ≡ ok_places ps → row.mark ≡ Open e → ranges_in reading u e ≡ Ok own → list_any (meets live) own ≡ true → Contains ps (record { 0 = place_of row })
  unfolding rows_required
  answered_at [] row back ps e own h k a q =
      let m = then_parts (mark_required reading u live (place_of row) row.mark) _ ps h in
      let n = then_parts (rows_required reading u live back) _ ps m.2 in
      let s : ok_places (m.0 ++ n.0) ≡ ok_places ps = n.2 in
      let both : m.0 ++ n.0 ≡ ps = cc s in
      let own_mark = ap (mark_required reading u live (place_of row)) (sym k) ∙ m.1 in
      subst (λ (xs : Places). Contains xs (record { 0 = place_of row })) both (Contains-append_left m.0 n.0 _ (here_answered row e own m.0 a q own_mark))
  answered_at (r ∷ front) row back ps e own h k a q =
      let m = then_parts (mark_required reading u live (place_of r) r.mark) _ ps h in
      let n = then_parts (rows_required reading u live (front ++ row ∷ back)) _ ps m.2 in
      let s : ok_places (m.0 ++ n.0) ≡ ok_places ps = n.2 in
      let both : m.0 ++ n.0 ≡ ps = cc s in
      subst (λ (xs : Places). Contains xs (record { 0 = place_of row })) both (Contains-append_right m.0 n.0 _ (answered_at front row back n.0 e own n.1 k a q))

  -- and what is required is answered
  pub required_answered : (rows : List Row) (ps : Places) (p : UnitSectionOffset) → rows_required reading u live rows ≡ ok_places ps → IsRequired rows p → Contains ps p
  required_answered rows ps p h r =
      subst (λ (x : UnitSectionOffset). Contains ps x) (sym r.place)
      (answered_at r.front r.row r.back ps r.entry r.own (subst (λ (xs : List Row). rows_required reading u live xs ≡ ok_places ps) r.stands h) r.mark r.are r.is_live)

module _ {R E : Type 0} (reading : R → Reading) (d : Dwarf R E) (live : List LiveRange) where
  abbrev Behind : Held R E → UnitSectionOffset → Type 0
  Behind h p = IsRequired reading h.at live (drop 1 h.unit.rows) p

  -- the same of units: what is answered is required in one of them, behind its root
  pub place_required : (hs : List (Held R E)) (ps : Places) (p : UnitSectionOffset) → places_required reading d live hs ≡ ok_places ps → Contains ps p → (h : Held R E) × Contains hs h × Behind h p
  unfolding places_required
  place_required [] ps p e c = let s : ok_places [] ≡ ok_places ps = e in absurd (none_in ps p (cc s) c)
  place_required (h ∷ hs) ps p e c =
      let m = then_parts (unit_required reading h.at live h.unit.rows) _ ps e in
      let n = then_parts (places_required reading d live hs) _ ps m.2 in
      let s : ok_places (m.0 ++ n.0) ≡ ok_places ps = n.2 in
      let both : m.0 ++ n.0 ≡ ps = cc s in
      ⊎_elim
      (λ (k : Contains m.0 p). (h, (0, omega arith, refl), required_found reading h.at live (drop 1 h.unit.rows) m.0 p m.1 k))
      (λ (k : Contains n.0 p). let x = place_required hs n.0 p n.1 k in let i : x.1.0 < length hs = x.1.1 in (x.0, (suc x.1.0, omega arith, x.1.2), x.2))
      (Contains-append_cases m.0 n.0 p (subst (λ (xs : Places). Contains xs p) (sym both) c))

  answered_of : (hs : List (Held R E)) (ps : Places) (p : UnitSectionOffset) (h : Held R E) (k : ℕ) → k < length hs → slice_index_or hs k h ≡ h → places_required reading d live hs ≡ ok_places ps → Behind h p → Contains ps p
  unfolding places_required
  answered_of [] ps p h k l i e r = absurd (omega (arith, l))
  answered_of (x ∷ hs) ps p h zero l i e r =
      let m = then_parts (unit_required reading x.at live x.unit.rows) _ ps e in
      let n = then_parts (places_required reading d live hs) _ ps m.2 in
      let s : ok_places (m.0 ++ n.0) ≡ ok_places ps = n.2 in
      let both : m.0 ++ n.0 ≡ ps = cc s in
      subst (λ (xs : Places). Contains xs p) both (Contains-append_left m.0 n.0 p (required_answered reading x.at live (drop 1 x.unit.rows) m.0 p m.1 (subst (λ (y : Held R E). Behind y p) (sym i) r)))
  answered_of (x ∷ hs) ps p h (suc k) l i e r =
      let m = then_parts (unit_required reading x.at live x.unit.rows) _ ps e in
      let n = then_parts (places_required reading d live hs) _ ps m.2 in
      let s : ok_places (m.0 ++ n.0) ≡ ok_places ps = n.2 in
      let both : m.0 ++ n.0 ≡ ps = cc s in
      subst (λ (xs : Places). Contains xs p) both (Contains-append_right m.0 n.0 p (answered_of hs n.0 p h k (omega (arith, l)) i n.1 r))

  -- and what is required behind the root of one is answered
  pub required_place : (hs : List (Held R E)) (ps : Places) (p : UnitSectionOffset) (h : Held R E) → places_required reading d live hs ≡ ok_places ps → Contains hs h → Behind h p → Contains ps p
  required_place hs ps p h e c r = answered_of hs ps p h c.0 c.1 c.2 e r
