-- A unit that a filter reads, one entry further.
use Rattle.std.proofs.Common.{◌≡◌, ◌∙◌, sym, ap, subst, ℕ, ◌+◌, ◌^◌, ◌<◌, ◌≤◌, List, [], ◌∷◌, ◌++◌, map, if◌then◌else◌, Option, ◌⊎◌, inl, inr, ⊎_elim, MutBor, refl, arith, append_assoc, append-nil}
use Rattle.std.specs.Option.{option_map}
use Rattle.std.specs.declared.alloc.Global.{Global}
use Rattle.std.specs.declared.vec.Vec.{Vec}
use Rattle.dw_base.specs.Entries.{ReadEntry, Mark, Open, Null, Row}
use Rattle.dw_base.specs.declared.offsets.UnitSectionOffset.{UnitSectionOffset}
use Rattle.dw_entry_ids.proofs.Planning.{count_more}
use Rattle.dw_entry_ids.specs.AnyUnit.{HandsOutNext, HandsOutNoMore, StopsAtFault}
use Rattle.dw_entry_ids.specs.Ids.{entry_count, is_entry}
use Rattle.dw_entry_ids.specs.declared.unit_rows.UnitRows.{UnitRows}
use Rattle.dw_read.specs.Reading.{IsReading, Reading}
use Rattle.dw_read.specs.Rows.{entry_of}
use Rattle.dw_read.specs.declared.attribute.Attribute.{Attribute}
use Rattle.dw_read.specs.declared.entry.DebuggingInformationEntry.{DebuggingInformationEntry}
use Rattle.dw_read.specs.declared.error.ReadError.{ReadError}
use Rattle.dw_read.specs.declared.error.ReadError.TheVariants as read
use Rattle.dw_sources.specs.ConvertErrors.{from_read}
use Rattle.dw_sources.specs.declared.convert_error.ConvertError.{ConvertError}
use Rattle.dw_sources.specs.declared.convert_error.ConvertError.TheVariants.{NoMemory}
use Rattle.dw_filter.specs.AttributePlaces.{AddsAttributes, RefusesOne, seen}
use Rattle.dw_filter.specs.FilterEntries.{IsLess, Spot, mark_spot, spot_above, spots_in}
use Rattle.dw_filter.specs.FilterUnits.{HandsOutEntry, HandsOutNoEntry, RefusesList, RefusesRow, StandsBehind}
use Rattle.dw_filter.specs.declared.unit.FilterUnit.{FilterUnit}
use Rattle.dw_filter.specs.declared.unit_entry.FilterUnitEntry.{FilterUnitEntry}

spots_both : (xs ys : List Row) → spots_in (xs ++ ys) ≡ spots_in xs ++ spots_in ys
spots_both [] ys = refl
spots_both (x ∷ xs) ys = ap (λ (s : List Spot). mark_spot x.from x.mark ++ s) (spots_both xs ys) ∙ sym (append_assoc (mark_spot x.from x.mark) (spots_in xs) (spots_in ys))

-- what is no entry stands nowhere
spots_none : (nulls : List Row) → entry_count nulls ≡ 0 → spots_in nulls ≡ []
spots_none [] h = refl
spots_none (r ∷ rows) h = go r.mark h (spots_none rows)
  where
    go : (m : Mark ReadEntry) → (if is_entry m then 1 else 0) + entry_count rows ≡ 0 → (entry_count rows ≡ 0 → spots_in rows ≡ []) → mark_spot r.from m ++ spots_in rows ≡ []
    go (Open e) k rest = absurd (omega (arith, k))
    go Null k rest = rest (omega (arith, k))

spots_past : (front nulls : List Row) → entry_count nulls ≡ 0 → spots_in (front ++ nulls) ≡ spots_in front
spots_past front nulls h = spots_both front nulls ∙ ap (λ (s : List Spot). spots_in front ++ s) (spots_none nulls h) ∙ append-nil (spots_in front)

-- an entry's row
pub spots_row : {R E : Type 0} (reading : R → Reading) (row : Row) (code : ℕ) (d : DebuggingInformationEntry R E) → row.mark ≡ Open (entry_of reading code d) → d.offset.0 ≡ row.from → spots_in (row ∷ []) ≡ (d.offset, d.tag) ∷ []
spots_row reading row code d m o =
    append-nil (mark_spot row.from row.mark)
    ∙ ap (λ (k : Mark ReadEntry). mark_spot row.from k) m
    ∙ ap (λ (n : ℕ). mark_spot n (Open (entry_of reading code d))) (sym o)

counted_row : (m : Mark ReadEntry) (e : ReadEntry) (row : Row) → row.mark ≡ m → m ≡ Open e → entry_count (row ∷ []) ≡ 1
counted_row m e row p q = ap (λ (k : Mark ReadEntry). (if is_entry k then 1 else 0) + 0) (p ∙ q)

module _ {R E : Type 0} (reading : R → Reading) (old : FilterUnit R E) (front rest : List Row) (fault : Option ReadError) (s : StandsBehind reading old front rest fault) where
  -- the walk's reason is the filter's
  pub refuses_row : (error : ReadError) → (error ≡ read.NoMemory) ⊎ StopsAtFault reading old.read_unit.unit.now front rest fault error → (from_read error ≡ NoMemory) ⊎ (RefusesRow reading old front rest fault (from_read error) ⊎ RefusesList reading old front rest (from_read error))
  refuses_row error h = ⊎_elim (λ n. inl (ap from_read n)) (λ f. inr (inl (record { error = error; stops = f; is = refl }))) h

  pub hands_no_entry : (rows : UnitRows R E) → HandsOutNoMore reading old.read_unit.unit.now front rest fault rows → HandsOutNoEntry reading old front rest fault (record old { rows = rows })
  hands_no_entry rows h =
      let both : entry_count (front ++ rest) ≡ entry_count front + entry_count rest = count_more front rest in
      record {
        none = h.none;
        whole = h.whole;
        stands = record {
          rows = h.stands;
          seen = s.seen ∙ sym (spots_past front rest h.none);
          counted = omega (arith, both, h.none, s.counted);
          going = s.going;
        };
      }

  module _ (rows : UnitRows R E) (as_read : DebuggingInformationEntry R E) (id parent : ℕ) (h : HandsOutNext reading old.read_unit.unit.now front rest fault rows as_read id parent) where
    abbrev behind : List Row
    behind = (front ++ h.next.nulls) ++ h.next.row ∷ []

    one_more : entry_count behind ≡ entry_count front + 1
    one_more =
        let nulls : entry_count (front ++ h.next.nulls) ≡ entry_count front + entry_count h.next.nulls = count_more front h.next.nulls in
        let one : entry_count behind ≡ entry_count (front ++ h.next.nulls) + entry_count (h.next.row ∷ []) = count_more (front ++ h.next.nulls) (h.next.row ∷ []) in
        let here : entry_count (h.next.row ∷ []) ≡ 1 = counted_row h.next.row.mark (entry_of reading h.next.code as_read) h.next.row refl h.next.mark in
        omega (arith, nulls, one, here, h.next.none)

    spots_behind : spots_in behind ≡ spots_in front ++ (as_read.offset, as_read.tag) ∷ []
    spots_behind =
        spots_both (front ++ h.next.nulls) (h.next.row ∷ [])
        ∙ ap (λ (x : List Spot). x ++ spots_in (h.next.row ∷ [])) (spots_past front h.next.nulls h.next.none)
        ∙ ap (λ (x : List Spot). spots_in front ++ x) (spots_row reading h.next.row h.next.code as_read h.next.mark h.next.offset)

    -- the next number has room
    pub has_room : IsReading (reading rows.rows.input) → old.count.now + 1 < 2 ^ 64
    has_room i =
        let few : rows.count ≤ (reading rows.rows.input).place = h.stands.few in
        let place : (reading rows.rows.input).place ≤ (reading rows.rows.input).end = i.place in
        let small : (reading rows.rows.input).end < 2 ^ 64 = i.small in
        omega (arith, few, place, small, h.stands.counted, one_more, s.counted)

    module _ (above : Option Spot) (mid entry : FilterUnitEntry R E) (above_is : above ≡ spot_above old.seen.items parent)
        (mid_is : mid ≡ record { read_unit = old.read_unit; read_entry = as_read; parent = option_map (λ x. x.0) above; parent_tag = option_map (λ x. x.1) above }) (less : IsLess mid.read_entry entry.read_entry) (others : entry ≡ record mid { read_entry = entry.read_entry }) where
      less_read : IsLess as_read entry.read_entry
      less_read = subst (λ (x : FilterUnitEntry R E). IsLess x.read_entry entry.read_entry) mid_is less

      above_there : above ≡ spot_above (spots_in front) parent
      above_there = above_is ∙ ap (λ (x : List Spot). spot_above x parent) s.seen

      -- what attributes name is what those that are left name
      pub refuses_list : (attributes : List (Attribute R E)) (before named : List UnitSectionOffset) (e : ConvertError) → attributes ≡ entry.read_entry.attrs.items → before ≡ [] → (e ≡ NoMemory) ⊎ RefusesOne reading old.read_unit (map (seen reading) attributes) before named e → (e ≡ NoMemory) ⊎ (RefusesRow reading old front rest fault e ⊎ RefusesList reading old front rest e)
      refuses_list attributes before named e same none r =
          ⊎_elim (λ n. inl n)
          (λ f. inr (inr (record {
            as_read = as_read;
            id = id;
            parent = parent;
            next = h.next;
            named = named;
            refused = subst (λ (xs : List (Attribute R E)). RefusesOne reading old.read_unit (map (seen reading) xs) [] named e) (same ∙ less_read.attributes)
                (subst (λ (xs : List UnitSectionOffset). RefusesOne reading old.read_unit (map (seen reading) attributes) xs named e) none f);
          })))
          r

      pub hands_entry : (spots : Vec Spot Global) (named : Vec UnitSectionOffset Global) (count : MutBor ℕ) (attributes : List (Attribute R E)) (before : List UnitSectionOffset)
          → spots.items ≡ old.seen.items ++ (mid.read_entry.offset, mid.read_entry.tag) ∷ [] → count.now ≡ old.count.now + 1 → attributes ≡ entry.read_entry.attrs.items → before ≡ [] → AddsAttributes reading old.read_unit (map (seen reading) attributes) before named.items
          → HandsOutEntry reading old front rest fault (record old { rows = rows; seen = spots; named = named; count = count }) entry
      hands_entry spots named count attributes before spots_are counts same none lists =
          let where_is : ◌≡◌ {A = Spot} (mid.read_entry.offset, mid.read_entry.tag) (as_read.offset, as_read.tag) = ap (λ (x : FilterUnitEntry R E). (x.read_entry.offset, x.read_entry.tag)) mid_is in
          record {
            as_read = as_read;
            id = id;
            parent = parent;
            next = h.next;
            less = less_read;
            under = ap (λ (x : FilterUnitEntry R E). x.parent) (others) ∙ ap (λ (x : FilterUnitEntry R E). x.parent) mid_is ∙ ap (option_map (λ (x : Spot). x.0)) above_there;
            under_tag = ap (λ (x : FilterUnitEntry R E). x.parent_tag) (others) ∙ ap (λ (x : FilterUnitEntry R E). x.parent_tag) mid_is ∙ ap (option_map (λ (x : Spot). x.1)) above_there;
            read_unit = ap (λ (x : FilterUnitEntry R E). x.read_unit) (others) ∙ ap (λ (x : FilterUnitEntry R E). x.read_unit) mid_is;
            named = named.items;
            lists = subst (λ (xs : List (Attribute R E)). AddsAttributes reading old.read_unit (map (seen reading) xs) [] named.items) same
                (subst (λ (xs : List UnitSectionOffset). AddsAttributes reading old.read_unit (map (seen reading) attributes) xs named.items) none lists);
            count = counts;
            stands = record {
              rows = h.stands;
              seen = spots_are ∙ ap (λ (x : Spot). old.seen.items ++ x ∷ []) where_is ∙ ap (λ (x : List Spot). x ++ (as_read.offset, as_read.tag) ∷ []) s.seen ∙ sym spots_behind;
              counted = omega (arith, one_more, s.counted, counts);
              going = s.going;
            };
          }
