-- The rows of a unit, one entry after the other, and the graph that they make.
use Rattle.std.proofs.Common.{◌≡◌, ◌∙◌, sym, ap, ap₂, subst, ℕ, ◌+◌, ◌-◌, ◌^◌, ◌<◌, ◌≤◌, List, [], ◌∷◌, ◌++◌, length, map, slice_get, Option, Some, None, IfSome, Bool, true, false, if◌then◌else◌, zero, suc, Result, Ok, Err, ◌⊎◌, inl, inr, ⊎_elim, ◌↔◌, append_assoc, refl, arith}
use Rattle.std.specs.List.{Contains, zip}
use Rattle.std.specs.Option.{option_map}
use Rattle.std.proofs.lemmas.Bool.{cases_eq, eq-eqb, ne_eqb}
use Rattle.std.proofs.lemmas.List.{map-append}
use Rattle.std.proofs.lemmas.List.Elements.{Contains-append_cases, Contains-append_left, Contains-push, Contains-push_cases}
use Rattle.std.proofs.lemmas.Option.{slice_get-map}
use Rattle.dw_base.specs.Entries.{Mark, ReadEntry, Row, next_depth}
use Rattle.dw_base.specs.declared.offsets.UnitSectionOffset.{UnitSectionOffset}
use Rattle.dw_base.specs.Abbreviations.{Declaration}
use Rattle.dw_base.specs.declared.common.Encoding.{Encoding}
use Rattle.dw_read.proofs.Lefts.{length-left}
use Rattle.dw_read.proofs.Shorter.{mark_shorter}
use Rattle.dw_read.specs.FormReasons.{mark_read}
use Rattle.dw_read.specs.Reading.{IsReading, Reading, left}
use Rattle.dw_read.specs.Rows.{entry_of}
use Rattle.dw_read.specs.UnitHeaders.{header_size}
use Rattle.dw_read.specs.declared.error.ReadError.{ReadError}
use Rattle.dw_read.specs.declared.error.ReadError.TheVariants.{NoMemory as ReadNoMemory}
use Rattle.dw_read.specs.declared.entry.DebuggingInformationEntry.{DebuggingInformationEntry}
use Rattle.dw_read_units.specs.Passes.{rows_reading}
use Rattle.dw_read_units.specs.declared.dwarf.Unit.{Unit as UnitFields}
use Rattle.dw_read_units.specs.declared.unit_ref.UnitRef.{UnitRef}
use Rattle.dw_entry_ids.proofs.Planning.{count_more, parent_below, plans_none}
use Rattle.dw_entry_ids.proofs.Steps.{count_one}
use Rattle.dw_entry_ids.specs.Ids.{entry_count, is_entry}
use Rattle.dw_entry_ids.specs.Plans.{Plan, parent_behind}
use Rattle.dw_entry_ids.proofs.Until.{none_missing, read_is, until_of, whole}
use Rattle.dw_entry_ids.specs.AnyUnit.{HandsOutNext, HandsOutNoMore, StandsAmong, StopsAtFault}
use Rattle.dw_entry_ids.specs.RowsUntil.{RowsUntil, rows_from, rows_until, unit_rows_until}
use Rattle.dw_entry_ids.specs.declared.unit_rows.UnitRows.{UnitRows}
use Rattle.dw_sources.specs.ConvertErrors.{from_read}
use Rattle.dw_sources.specs.declared.convert_error.ConvertError.{ConvertError}
use Rattle.dw_sources.specs.declared.convert_error.ConvertError.TheVariants.{NoMemory}
use Rattle.dw_filter.specs.AttributePlaces.{AddsAttributes, RefusesOne}
use Rattle.dw_filter.specs.Children.{leads_to_child}
use Rattle.dw_filter.specs.Dependencies.{Dependencies, Known, targets}
use Rattle.dw_filter.specs.FileGraph.{CanName, CannotRead, Names}
use Rattle.dw_filter.specs.Links.{Adds, AddsUnit, AreLinks, Grows, HasRows, RefusesLinks, RefusesUnit, StandsInUnit, is_led_to, parent_at}
use Rattle.dw_filter.specs.UnitGraph.{AddsEdge, BeginsAt, HasEdge, IsKnown, IsLedTo, IsRead, IsUnder, LeadsUp, Placed, placed_in, tag_of}
use Rattle.dw_filter.specs.declared.links.Links.{Links}
use Rattle.dw_filter.specs.declared.links.Parent.{Parent}
use Rattle.dw_filter.proofs.Growing.{Progress, get_front, get_here, get_still, none_behind, placed_at, placed_behind, placed_count, placed_entry, placed_more, no_read, only_root, placed_nulls, progress_more, progress_none, progress_root, progress_whole, read_there, read_which}
use Rattle.dw_filter.proofs.LinkSteps.{same_place}
use Rattle.dw_filter.proofs.Naming.{counting_same, names_same}

-- ---- the rows of a unit that can be read
only_one : (x r : Row) → Contains (x ∷ []) r → x ≡ r
only_one x r m = ⊎_elim (λ n. absurd (omega (arith, n.1))) (λ s. s) (Contains-push_cases [] x r m)

-- rows begin within the bytes from which they are read
module _ (big : Bool) (e : Encoding) (table : List Declaration) where
  row_within : (fuel from depth : ℕ) (bytes : List ℕ) (r : Row) → Contains (rows_until big e table fuel from depth bytes).rows r → r.from < from + length bytes
  unfolding rows_until
  row_within zero from depth [] r c = absurd (omega (arith, c.1))
  row_within (suc fuel) from depth [] r c = absurd (omega (arith, c.1))
  row_within zero from depth (b ∷ bs) r c = absurd (omega (arith, c.1))
  row_within (suc fuel) from depth (b ∷ bs) r c = go (row_within fuel) (mark_read big e table (b ∷ bs)) refl c
    where
      go : ((f d : ℕ) (rest : List ℕ) (r : Row) → Contains (rows_until big e table fuel f d rest).rows r → r.from < f + length rest) → (x : Result (Mark ReadEntry × List ℕ) ReadError) → mark_read big e table (b ∷ bs) ≡ x → Contains (rows_from big e table (rows_until big e table fuel) from depth (b ∷ bs) x).rows r → r.from < from + length (b ∷ bs)
      go less (Err why) h k = absurd (omega (arith, k.1))
      go less (Ok x) h k =
          let to : ℕ = from + (length (b ∷ bs) - length x.1) in
          let one : Row = record { from = from; depth = depth; mark = x.0; to = to } in
          let shorter : length x.1 < length (b ∷ bs) = mark_shorter big e table (b ∷ bs) x h in
          ⊎_elim
          (λ o. let same : from ≡ r.from = ap (λ (y : Row). y.from) (only_one one r o) in omega (arith, same, shorter))
          (λ m. let below : r.from < to + length x.1 = less to (next_depth x.0 depth) x.1 r m in omega (arith, below, shorter))
          (Contains-append_cases (one ∷ []) (rows_until big e table fuel to (next_depth x.0 depth) x.1).rows r k)

module _ {R E : Type 0} (reading : R → Reading) (u : UnitFields R E) where
  -- they begin at places in the section
  pub row_room : IsReading (reading u.header.body) → u.header.offset.0 ≤ (reading u.header.body).place → (r : Row) → Contains (unit_rows_until reading u).rows r → u.header.offset.0 + r.from < 2 ^ 64
  row_room i behind r c =
      let body = reading u.header.body in
      let from : r.from < header_size reading u.header + length (left body) =
      row_within body.is_big u.header.fields.encoding u.abbreviations (length (left body)) (header_size reading u.header) 0 (left body) r c in
      let long : length (left body) ≡ body.end - body.place = length-left body i in
      let place : body.place ≤ body.end = i.place in
      let small : body.end < 2 ^ 64 = i.small in
      omega (arith, from, long, place, small, behind)

  all_read : rows_reading reading u.header u.abbreviations ≡ whole (unit_rows_until reading u)
  all_read = read_is (reading u.header.body).is_big u.header.fields.encoding u.abbreviations (length (left (reading u.header.body))) (header_size reading u.header) 0 (left (reading u.header.body))

  module _ (c : UnitRows R E) (front rest : List Row) (fault : Option ReadError) (s : StandsAmong reading u c front rest fault) where
    -- those behind a cursor can be read, too
    pub read_whole : fault ≡ None → rows_reading reading u.header u.abbreviations ≡ Ok (front ++ rest)
    read_whole n = all_read ∙ ap whole s.all ∙ ap (λ (f : Option ReadError). whole (until_of (front ++ rest) f)) n

    pub read_faulty : (e : ReadError) → fault ≡ Some e → rows_reading reading u.header u.abbreviations ≡ Err e
    read_faulty e n = all_read ∙ ap whole s.all ∙ ap (λ (f : Option ReadError). whole (until_of (front ++ rest) f)) n

    -- all of them are those of the unit
    pub whole_read : (rows : List Row) → rows_reading reading u.header u.abbreviations ≡ Ok rows → rows_reading reading u.header u.abbreviations ≡ Ok (front ++ rest)
    whole_read rows h =
        let is : unit_rows_until reading u ≡ record { rows = rows; fault = None } = none_missing (unit_rows_until reading u) rows (sym all_read ∙ h) in
        read_whole (ap (λ (x : RowsUntil). x.fault) (sym s.all ∙ is))

    -- a row that can't be read is told
    pub stopped : (e : ReadError) → (e ≡ ReadNoMemory) ⊎ StopsAtFault reading u front rest fault e → (from_read e ≡ NoMemory) ⊎ CannotRead reading u (from_read e)
    stopped e h = ⊎_elim (λ n. inl (ap from_read n)) (λ (f : StopsAtFault reading u front rest fault e). inr (record { reason = e; read = read_faulty e f.why; is = refl })) h

  -- one entry more was counted, where there is room
  pub counts_on : (old new : UnitRows R E) (front rest : List Row) (fault : Option ReadError) → StandsAmong reading u old front rest fault → IsReading (reading old.rows.input) → (d : DebuggingInformationEntry R E) (id parent : ℕ) → HandsOutNext reading u front rest fault new d id parent
      → 2 ^ 64 - new.count < 2 ^ 64 - old.count
  counts_on old new front rest fault s i d id parent h =
      let nulls = h.next.nulls in
      let before_is : old.count ≡ entry_count front = s.counted in
      let after_is : new.count ≡ entry_count ((front ++ nulls) ++ h.next.row ∷ []) = h.stands.counted in
      let more : entry_count ((front ++ nulls) ++ h.next.row ∷ []) ≡ entry_count (front ++ nulls) + 1 = count_one (front ++ nulls) h.next.row ∙ ap (λ (k : Mark ReadEntry). entry_count (front ++ nulls) + (if is_entry k then 1 else 0)) h.next.mark in
      let z : entry_count nulls ≡ 0 = h.next.none in
      let both = count_more front nulls in
      let few : old.count ≤ (reading old.rows.input).place = s.few in
      let place : (reading old.rows.input).place ≤ (reading old.rows.input).end = i.place in
      let small : (reading old.rows.input).end < 2 ^ 64 = i.small in
      omega (arith, before_is, after_is, more, z, both, few, place, small)

-- ---- an entry as those under it see it
abbrev pub as_told : Placed → Parent
as_told x = record { place = record { 0 = x.1 }; tag = tag_of x }

-- no parent counts
record HasNoParent (qs : List Placed) (n : ℕ) : Type 0 where
  at : parent_at (map as_told qs) n ≡ None
  none : (t : Placed) → slice_get qs n ≡ Some t → 1 ≤ n → ⊥

record HasParent (qs : List Placed) (n : ℕ) : Type 0 where
  t : Placed
  is : slice_get qs n ≡ Some t
  some : 1 ≤ n
  at : parent_at (map as_told qs) n ≡ Some (as_told t)

parent_cases : (qs : List Placed) (n : ℕ) → HasNoParent qs n ⊎ HasParent qs n
parent_cases qs n = ⊎_elim root behind (cases_eq n 0)
  where
    root : n ≡ 0 → HasNoParent qs n ⊎ HasParent qs n
    root z = inl (record { at = ap (λ b. if b then None else slice_get (map as_told qs) n) (eq-eqb n 0 z); none = λ t h l. absurd (omega (arith, z, l)) })

    found : (n ≡ 0 → ⊥) → (o : Option Placed) → slice_get qs n ≡ o → HasNoParent qs n ⊎ HasParent qs n
    found z None h = inl (record {
      at = ap (λ b. if b then None else slice_get (map as_told qs) n) (ne_eqb n 0 z) ∙ slice_get-map as_told qs n ∙ ap (option_map as_told) h;
      none = λ t k l. absurd (let e : ◌≡◌ {A = Option Placed} None (Some t) = sym h ∙ k in cc);
    })
    found z (Some t) h = inr (record {
      t = t;
      is = h;
      some = omega (arith, z);
      at = ap (λ b. if b then None else slice_get (map as_told qs) n) (ne_eqb n 0 z) ∙ slice_get-map as_told qs n ∙ ap (option_map as_told) h;
    })

    behind : (n ≡ 0 → ⊥) → HasNoParent qs n ⊎ HasParent qs n
    behind z = found z (slice_get qs n) refl

abbrev leads_under : ReadEntry → Option Parent → Bool
leads_under x None = false
leads_under x (Some parent) = leads_to_child parent.tag x

some_alone : {A : Type 0} (o : Option A) (x y : A) → o ≡ Some x → o ≡ Some y → x ≡ y
some_alone o x y h k = let e : ◌≡◌ {A = Option _} (Some x) (Some y) = sym h ∙ k in cc

-- the links of an entry are its edges
module _ (names : ReadEntry → UnitSectionOffset → Type 0) (qs : List Placed) (x : Placed) (l : Links) (place : l.place.0 ≡ x.1) (parent : l.parent ≡ option_map (λ p. p.place) (parent_at (map as_told qs) x.0.parent)) (led : l.is_led_to ≡ leads_under x.0.entry (parent_at (map as_told qs) x.0.parent)) (named : (q : UnitSectionOffset) → Contains l.named.items q ↔ names x.0.entry q) where
  begins : (p : UnitSectionOffset) → l.place ≡ p → BeginsAt x p
  begins p e = sym place ∙ ap (λ (u : UnitSectionOffset). u.0) e

  begins_back : (p : UnitSectionOffset) → BeginsAt x p → l.place ≡ p
  begins_back p e = same_place l.place p (place ∙ e)

  pub adds_edge : (p q : UnitSectionOffset) → Adds l p q ↔ AddsEdge qs names x p q
  adds_edge p q = ⊎_elim alone under (parent_cases qs x.0.parent)
    where
      alone : HasNoParent qs x.0.parent → Adds l p q ↔ AddsEdge qs names x p q
      alone n =
          let none : l.parent ≡ None = parent ∙ ap (option_map (λ (p : Parent). p.place)) n.at in (
            λ h. ⊎_elim
                (λ (h : (l.place ≡ p) × ((l.parent ≡ Some q) ⊎ Contains l.named.items q)). inl (begins p h.0, ⊎_elim (λ (e : l.parent ≡ Some q). absurd (cc)) (λ c. inr ((named q).0 c)) h.1))
                (λ (h : (l.is_led_to ≡ true) × (l.parent ≡ Some p) × (l.place ≡ q)). absurd (let e = h.1 in cc)) h,
            λ h. ⊎_elim
                (λ (h : BeginsAt x p × (LeadsUp qs x q ⊎ names x.0.entry q)). inl (begins_back p h.0, ⊎_elim (λ (u : LeadsUp qs x q). absurd (n.none u.0 u.1.stands u.1.not_root)) (λ m. inr ((named q).1 m)) h.1))
                (λ (h : IsLedTo qs p x × BeginsAt x q). absurd (n.none h.0.0 h.0.1.stands h.0.1.not_root)) h,
          )

      under : HasParent qs x.0.parent → Adds l p q ↔ AddsEdge qs names x p q
      under w =
          let above : UnitSectionOffset = record { 0 = w.t.1 } in
          let some : l.parent ≡ Some above = parent ∙ ap (option_map (λ (p : Parent). p.place)) w.at in
          let leads : l.is_led_to ≡ leads_to_child (tag_of w.t) x.0.entry = led ∙ ap (leads_under x.0.entry) w.at in
          let is_under : IsUnder qs x w.t = record { stands = w.is; not_root = w.some } in (
            λ h. ⊎_elim
                (λ (h : (l.place ≡ p) × ((l.parent ≡ Some q) ⊎ Contains l.named.items q)).
                inl (begins p h.0, ⊎_elim (λ (e : l.parent ≡ Some q). inl (w.t, is_under, ap (λ (u : UnitSectionOffset). u.0) (some_alone l.parent above q some e))) (λ c. inr ((named q).0 c)) h.1))
                (λ (h : (l.is_led_to ≡ true) × (l.parent ≡ Some p) × (l.place ≡ q)).
                inr ((w.t, is_under, ap (λ (u : UnitSectionOffset). u.0) (some_alone l.parent above p some h.1), sym leads ∙ h.0), begins q h.2)) h,
            λ h. ⊎_elim
                (λ (h : BeginsAt x p × (LeadsUp qs x q ⊎ names x.0.entry q)).
                inl (
                  begins_back p h.0,
                  ⊎_elim (λ (u : LeadsUp qs x q).
                      let same : w.t ≡ u.0 = some_alone (slice_get qs x.0.parent) w.t u.0 w.is u.1.stands in
                      inl (some ∙ ap (λ (u : UnitSectionOffset). Some u) (same_place above q (ap (λ (t : Placed). t.1) same ∙ u.2)))) (λ m. inr ((named q).1 m)) h.1,
                ))
                (λ (h : IsLedTo qs p x × BeginsAt x q).
                let same : w.t ≡ h.0.0 = some_alone (slice_get qs x.0.parent) w.t h.0.0 w.is h.0.1.stands in
                inr (
                  leads ∙ ap (λ (t : Placed). leads_to_child (tag_of t) x.0.entry) same ∙ h.0.3,
                  some ∙ ap (λ (u : UnitSectionOffset). Some u) (same_place above p (ap (λ (t : Placed). t.1) same ∙ h.0.2)),
                  begins_back q h.1,
                )) h,
          )

no_items : {A : Type 0} (xs : List A) → length xs ≡ 0 → xs ≡ []
no_items [] h = refl
no_items (x ∷ xs) h = absurd (omega (arith, h))

-- ---- a unit whose entries so far are known
module _ {R E : Type 0} (reading : R → Reading) (unit : UnitRef R E) (count : ℕ) (old : Dependencies) where
  abbrev pub from : ℕ
  from = unit.unit.now.header.offset.0

  abbrev pub named_there : ReadEntry → UnitSectionOffset → Type 0
  named_there = Names reading unit.dwarf.now unit.unit.now

  pub record SoFar (rows : UnitRows R E) (read : List Parent) (now : Dependencies) : Type 0 where
    pub front : List Row
    pub rest : List Row
    pub fault : Option ReadError
    pub stands : StandsAmong reading unit.unit.now rows front rest fault
    pub room : (r : Row) → Contains (front ++ rest) r → from + r.from < 2 ^ 64
    pub told : read ≡ map as_told (placed_in from front)
    pub progress : Progress named_there count old (placed_in from front) now
    pub names : (n : ℕ) (x : Placed) → IsRead (placed_in from front) count n x → CanName reading unit.dwarf.now unit.unit.now x.0.entry

  none_placed : placed_in from [] ≡ []
  none_placed = ap (λ (ps : List Plan). zip ps []) plans_none

  -- all the rows that are left stand behind the first
  abbrev there : RowsUntil
  there = unit_rows_until reading unit.unit.now

  pub so_far_none : (rows : UnitRows R E) (read : List Parent) → read ≡ [] → IsReading (reading unit.unit.now.header.body) → from ≤ (reading unit.unit.now.header.body).place → StandsAmong reading unit.unit.now rows [] there.rows there.fault → SoFar rows read old
  so_far_none rows read none i behind s = record {
    front = [];
    rest = there.rows;
    fault = there.fault;
    stands = s;
    room = row_room reading unit.unit.now i behind;
    told = none ∙ ap (map as_told) (sym none_placed);
    progress = subst (λ ps. Progress named_there count old ps old) (sym none_placed) (progress_none named_there count old);
    names = λ n x r. absurd (no_read count n x (subst (λ ps. IsRead ps count n x) none_placed r));
  }

  module _ (rows next : UnitRows R E) (read : List Parent) (now : Dependencies) (w : SoFar rows read now) where
    -- none is left
    pub so_far_end : HandsOutNoMore reading unit.unit.now w.front w.rest w.fault next → AddsUnit reading unit.dwarf.now unit.unit.now count old now
    so_far_end h = record {
      rows = w.front ++ w.rest;
      are = read_whole reading unit.unit.now rows w.front w.rest w.fault w.stands h.whole;
      grows = subst (λ ps. Grows old now (IsKnown ps count) (HasEdge ps named_there count)) (sym (placed_more from w.front w.rest))
          (progress_whole named_there count old (placed_in from w.front) (placed_behind from w.front w.rest) now w.progress (inr (none_behind from w.front w.rest h.none)));
      names = λ n x r. w.names n x (read_there named_there count old (placed_in from w.front) (placed_behind from w.front w.rest) (inr (none_behind from w.front w.rest h.none)) n x (subst (λ ps. IsRead ps count n x) (placed_more from w.front w.rest) r));
    }

    module _ (d : DebuggingInformationEntry R E) (id parent : ℕ) (h : HandsOutNext reading unit.unit.now w.front w.rest w.fault next d id parent) where
      abbrev before : List Row
      before = w.front ++ h.next.nulls

      abbrev pub one : Placed
      one = placed_at from before h.next.row (entry_of reading h.next.code d)

      abbrev pub placed : List Placed
      placed = placed_in from w.front ++ one ∷ []

      no_more : entry_count before ≡ entry_count w.front
      no_more = let z : entry_count h.next.nulls ≡ 0 = h.next.none in omega (arith, count_more w.front h.next.nulls)

      pub placed_now : placed_in from (before ++ h.next.row ∷ []) ≡ placed
      placed_now = placed_entry from before h.next.row (entry_of reading h.next.code d) h.next.mark ∙ ap (λ (ps : List Placed). ps ++ one ∷ []) (placed_nulls from w.front h.next.nulls h.next.none)

      pub many : length (placed_in from w.front) ≡ id
      many = placed_count from w.front ∙ sym h.next.id_is

      -- one entry more is counted
      pub one_fewer : id ≤ count → (count + 1) - next.count < (count + 1) - rows.count
      one_fewer l =
          let before_is : rows.count ≡ entry_count w.front = w.stands.counted in
          let after_is : next.count ≡ entry_count (before ++ h.next.row ∷ []) = h.stands.counted in
          let is : id ≡ entry_count w.front = h.next.id_is in
          let more : entry_count (before ++ h.next.row ∷ []) ≡ entry_count before + 1 = count_one before h.next.row ∙ ap (λ (k : Mark ReadEntry). entry_count before + (if is_entry k then 1 else 0)) h.next.mark in
          omega (arith, before_is, after_is, is, more, no_more, l)

      under : (one.0.parent ≡ 0) ⊎ (one.0.parent < length (placed_in from w.front))
      under = ⊎_elim (λ z. inl z) (λ (l : parent_behind before h.next.row.depth < entry_count before). inr (omega (arith, l, no_more, placed_count from w.front))) (parent_below before h.next.row.depth)

      all_rows : w.front ++ w.rest ≡ (before ++ h.next.row ∷ []) ++ h.next.back
      all_rows =
          ap (λ (xs : List Row). w.front ++ xs) h.next.is ∙ sym (append_assoc w.front h.next.nulls (h.next.row ∷ h.next.back)) ∙ sym (append_assoc before (h.next.row ∷ []) h.next.back)

      pub room_here : from + d.offset.0 < 2 ^ 64
      room_here =
          let here : Contains (w.front ++ w.rest) h.next.row = subst (λ (xs : List Row). Contains xs h.next.row) (sym all_rows) (Contains-append_left (before ++ h.next.row ∷ []) h.next.back h.next.row (Contains-push before h.next.row)) in
          let l : from + h.next.row.from < 2 ^ 64 = w.room h.next.row here in
          let same : d.offset.0 ≡ h.next.row.from = h.next.offset in
          omega arith

      -- the cursor stands among the rows, and what is left can be read
      pub among_now : StandsInUnit reading unit.unit.now next
      among_now = record { front = before ++ h.next.row ∷ []; rest = h.next.back; fault = w.fault; stands = h.stands }

      -- those that count are all known
      pub so_far_enough : count < id → HasRows reading unit.unit.now → AddsUnit reading unit.dwarf.now unit.unit.now count old now
      so_far_enough l all = record {
        rows = w.front ++ w.rest;
        are = whole_read reading unit.unit.now rows w.front w.rest w.fault w.stands all.rows all.are;
        grows = subst (λ ps. Grows old now (IsKnown ps count) (HasEdge ps named_there count)) (sym (placed_more from w.front w.rest))
            (progress_whole named_there count old (placed_in from w.front) (placed_behind from w.front w.rest) now w.progress (inl (omega (arith, l, many))));
        names = λ n x r. w.names n x (read_there named_there count old (placed_in from w.front) (placed_behind from w.front w.rest) (inl (omega (arith, l, many))) n x (subst (λ ps. IsRead ps count n x) (placed_more from w.front w.rest) r));
      }

      -- what those under it see
      module _ (seen : Parent) (read' : List Parent) (place : seen.place.0 ≡ from + d.offset.0) (tag : seen.tag ≡ d.tag) (pushed : read' ≡ read ++ seen ∷ []) where
        seen_is : seen ≡ as_told one
        seen_is = ap₂ (λ (n : ℕ) t. let p : Parent = record { place = record { 0 = n }; tag = t } in p) (place ∙ ap (λ (n : ℕ). from + n) h.next.offset) tag

        pub told_now : read' ≡ map as_told placed
        told_now = pushed ∙ ap₂ (λ (xs : List Parent) (p : Parent). xs ++ p ∷ []) w.told seen_is ∙ sym (map-append as_told (placed_in from w.front) (one ∷ []))

        so_far : (new : Dependencies) → Progress named_there count old placed new → ((n : ℕ) (x : Placed) → IsRead placed count n x → CanName reading unit.dwarf.now unit.unit.now x.0.entry) → SoFar next read' new
        so_far new p named = record {
          front = before ++ h.next.row ∷ [];
          rest = h.next.back;
          fault = w.fault;
          stands = h.stands;
          room = subst (λ (xs : List Row). (r : Row) → Contains xs r → from + r.from < 2 ^ 64) all_rows w.room;
          told = told_now ∙ ap (map as_told) (sym placed_now);
          progress = subst (λ ps. Progress named_there count old ps new) (sym placed_now) p;
          names = λ n x r. named n x (subst (λ ps. IsRead ps count n x) placed_now r);
        }

        -- the root
        pub so_far_root : id ≡ 0 → SoFar next read' now
        so_far_root z = so_far now (progress_root named_there count old (placed_in from w.front) one now w.progress under (no_items (placed_in from w.front) (many ∙ z)))
            (λ n x r. absurd (only_root count n one x (subst (λ ps. IsRead (ps ++ one ∷ []) count n x) (no_items (placed_in from w.front) (many ∙ z)) r)))

        -- the parent is known
        module _ (behind : 1 ≤ id) (within : id ≤ count) (above : Option Parent) (is : above ≡ parent_at read' parent) where
          at_parent : above ≡ parent_at (map as_told placed) one.0.parent
          at_parent = is ∙ ap₂ parent_at told_now h.next.parent_is

          pub parent_known : IfSome (option_map (λ (p : Parent). p.place) above) (λ p. Known (targets now) p)
          parent_known = subst (λ (o : Option Parent). IfSome (option_map (λ (p : Parent). p.place) o) (λ p. Known (targets now) p)) (sym at_parent) (go (parent_cases placed one.0.parent))
            where
              go : HasNoParent placed one.0.parent ⊎ HasParent placed one.0.parent → IfSome (option_map (λ (p : Parent). p.place) (parent_at (map as_told placed) one.0.parent)) (λ p. Known (targets now) p)
              go (inl n) = subst (λ (o : Option Parent). IfSome (option_map (λ (p : Parent). p.place) o) (λ p. Known (targets now) p)) (sym n.at) tt
              go (inr t) =
                  let some : 1 ≤ one.0.parent = t.some in
                  let less : one.0.parent < length (placed_in from w.front) = ⊎_elim (λ (z : one.0.parent ≡ 0). omega arith) (λ l. l) under in
                  let long : length (placed_in from w.front) ≡ id = many in
                  let read_before : IsRead (placed_in from w.front) count one.0.parent t.t = record { stands = sym (get_front (placed_in from w.front) (one ∷ []) one.0.parent less) ∙ t.is; behind_root = some; counted = omega arith } in
                  subst (λ (o : Option Parent). IfSome (option_map (λ (p : Parent). p.place) o) (λ p. Known (targets now) p)) (sym t.at)
                  ((w.progress.grows.known (record { 0 = t.t.1 })).1 (inr (one.0.parent, t.t, read_before, refl)))

          -- an entry that counts
          pub so_far_more : (l : Links) (new : Dependencies) → AreLinks reading unit d seen.place above l → Grows now new (λ q. l.place ≡ q) (Adds l) → SoFar next read' new
          so_far_more l new a g =
              let begin : l.place.0 ≡ one.1 = ap (λ (u : UnitSectionOffset). u.0) a.place ∙ place ∙ ap (λ (n : ℕ). from + n) h.next.offset in
              let led : l.is_led_to ≡ leads_under (entry_of reading h.next.code d) above = a.led ∙ same_led above in
              so_far new (progress_more named_there count old (placed_in from w.front) one now w.progress under new (λ q. l.place ≡ q) (Adds l) (omega (arith, behind, many)) (omega (arith, within, many)) g
              (λ q. (λ e. sym begin ∙ ap (λ (u : UnitSectionOffset). u.0) e, λ e. same_place l.place q (begin ∙ e)))
              (adds_edge named_there placed one l begin (a.parent ∙ ap (option_map (λ (p : Parent). p.place)) at_parent) (led ∙ ap (leads_under (entry_of reading h.next.code d)) at_parent)
              (names_same reading unit d h.next.code h.next.encoded h.next.in_order l.named.items a.named)))
              (λ n x r. ⊎_elim (λ k. w.names n x k) (λ (e : one ≡ x). subst (λ (y : Placed). CanName reading unit.dwarf.now unit.unit.now y.0.entry) e named_here) (read_which named_there count (placed_in from w.front) one n x r))
            where
              named_here : CanName reading unit.dwarf.now unit.unit.now one.0.entry
              named_here = record { read = unit; of = record { file = refl; unit = refl }; places = l.named.items; adds = subst (λ xs. AddsAttributes reading unit xs [] l.named.items) (counting_same reading unit d h.next.code h.next.encoded h.next.in_order) a.named }

              same_led : (o : Option Parent) → is_led_to reading d o ≡ leads_under (entry_of reading h.next.code d) o
              same_led None = refl
              same_led (Some p) = refl

          -- its location list is refused
          pub so_far_refused : HasRows reading unit.unit.now → (e : ConvertError) → RefusesLinks reading unit d e → RefusesUnit reading unit.dwarf.now unit.unit.now count e
          so_far_refused all e r = record {
            rows = w.front ++ w.rest;
            are = whole_read reading unit.unit.now rows w.front w.rest w.fault w.stands all.rows all.are;
            refuses = record {
              number = id;
              entry = one;
              counted = record {
                stands = ap (λ (xs : List Row). slice_get (placed_in from xs) id) all_rows
                    ∙ ap (λ (ps : List Placed). slice_get ps id) (placed_more from (before ++ h.next.row ∷ []) h.next.back)
                    ∙ get_still (placed_in from (before ++ h.next.row ∷ [])) (placed_behind from (before ++ h.next.row ∷ []) h.next.back) id one
                    (ap (λ (ps : List Placed). slice_get ps id) placed_now ∙ ap (λ (n : ℕ). slice_get placed n) (sym many) ∙ get_here (placed_in from w.front) one);
                behind_root = behind;
                counted = within;
              };
              cannot = record { read = unit; of = record { file = refl; unit = refl }; places = r.places; refuses = subst (λ xs. RefusesOne reading unit xs [] r.places e) (counting_same reading unit d h.next.code h.next.encoded h.next.in_order) r.refuses };
            };
          }
