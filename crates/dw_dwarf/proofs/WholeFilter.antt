-- A filter that has read all units of its file, each to its end.
use Rattle.std.proofs.Common.{◌≡◌, ◌∙◌, sym, ap, subst, ℕ, zero, suc, ◌+◌, ◌<◌, ◌≤◌, List, [], ◌∷◌, ◌++◌, length, map, Bool, true, false, Option, Some, slice_get, Result, Ok, ◌⊎◌, ◌↔◌, refl, arith, append-nil, append_assoc, inl, inr, length-append}
use Rattle.std.proofs.lemmas.List.{length-map}
use Rattle.std.proofs.lemmas.Option.{slice_get_within}
use Rattle.std.specs.List.{zip}
use Rattle.dw_base.specs.Entries.{Row}
use Rattle.dw_base.specs.Info.{ReadUnit}
use Rattle.dw_base.specs.declared.address.Address.{Address}
use Rattle.dw_base.specs.declared.offsets.UnitSectionOffset.{UnitSectionOffset}
use Rattle.dw_read.proofs.Items.{then_parts}
use Rattle.dw_read.specs.Fields.{header_of}
use Rattle.dw_read.specs.Reading.{Reading, IsReading, left}
use Rattle.dw_read.specs.UnitHeaders.{IsOver}
use Rattle.dw_read.specs.declared.error.ReadError.{ReadError}
use Rattle.dw_read.specs.declared.unit_header.UnitHeadersIter.{UnitHeadersIter}
use Rattle.dw_read_units.proofs.UnitParts.{unit_whole}
use Rattle.dw_read_units.proofs.UnitWalk.{WalkedUnits, walked_none, walked_more, walked_end}
use Rattle.dw_read_units.specs.Walks.{units_read}
use Rattle.dw_read_units.specs.Passes.{rows_reading, unit_reading, units_reading}
use Rattle.dw_read_units.specs.declared.dwarf.Dwarf.{Dwarf}
use Rattle.dw_read_units.specs.declared.dwarf.Unit.{Unit as UnitFields}
use Rattle.dw_entry_ids.proofs.Found.{places_count}
use Rattle.dw_entry_ids.specs.FirstUnits.{AreFirstUnits, AreUnitsFrom}
use Rattle.dw_entry_ids.specs.Ids.{entry_count, places_among}
use Rattle.dw_entry_ids.specs.KeptRows.{keep_of}
use Rattle.dw_entry_ids.specs.Plans.{Plan, plans_of}
use Rattle.dw_entry_ids.specs.Units.{AreNumbered, IsNumbered}
use Rattle.dw_entry_ids.specs.declared.units.NumberedUnit.{NumberedUnit}
use Rattle.dw_filter.specs.FileGraph.{KnownIn, count_at}
use Rattle.dw_filter.specs.UnitGraph.{Placed, placed_in}
use Rattle.dw_filter.specs.declared.unit_section.FilterUnitSection.{FilterUnitSection}
use Rattle.dw_dwarf.specs.DwarfValue.{DwarfValue}
use Rattle.dw_dwarf.specs.FilteredDwarf.{IsFiltered}
use Rattle.dw_dwarf.specs.WholeFilter.{EntryIn, HasReadAll, IsFilteredWhole}

same_rows : (xs ys : List Row) → ◌≡◌ {A = Result (List Row) ReadError} (Ok xs) (Ok ys) → xs ≡ ys
same_rows xs ys h = cc

same_units : (xs ys : List ReadUnit) → ◌≡◌ {A = Result (List ReadUnit) ReadError} (Ok xs) (Ok ys) → xs ≡ ys
same_units xs ys h = cc

-- there is no more of a pair of lists than of the second
second_there : (xs : List Plan) (ys : List ℕ) (n : ℕ) (x : Placed) → slice_get (zip xs ys) n ≡ Some x → n < length ys
second_there [] ys n x h = absurd (let l : n < 0 = slice_get_within (zip [] ys) n x h in omega arith)
second_there (p ∷ xs) [] n x h = absurd (let l : n < 0 = slice_get_within (zip (p ∷ xs) []) n x h in omega arith)
second_there (p ∷ xs) (y ∷ ys) zero x h = omega arith
second_there (p ∷ xs) (y ∷ ys) (suc n) x h = let l : n < length ys = second_there xs ys n x h in omega arith

placed_within : (from : ℕ) (rows : List Row) (n : ℕ) (x : Placed) → slice_get (placed_in from rows) n ≡ Some x → n < entry_count rows
placed_within from rows n x h =
    let l : n < length (places_among from rows) = second_there (plans_of rows) (places_among from rows) n x h in
    let c : length (places_among from rows) ≡ entry_count rows = places_count from rows in
    omega (arith, l, c)

module _ {R E : Type 0} (keep : ℕ → Bool) (reading : R → Reading) (d : Dwarf R E) where
  abbrev units_in : List (NumberedUnit R E) → List (UnitFields R E)
  units_in xs = map (λ (n : NumberedUnit R E). n.unit) xs

  as_many : (xs : List (NumberedUnit R E)) (rs : List ReadUnit) → AreNumbered keep reading d xs rs → length xs ≡ length rs
  as_many [] [] h = refl
  as_many [] (r ∷ rs) h = absurd h
  as_many (x ∷ xs) [] h = absurd h
  as_many (x ∷ xs) (r ∷ rs) h = let e : length xs ≡ length rs = as_many xs rs h.1 in omega (arith, e)

  -- what is numbered is the unit of its header
  unit_read : (x : NumberedUnit R E) (r : ReadUnit) → IsNumbered keep reading d x r → unit_reading reading d x.unit.header ≡ Ok r
  unit_read x r n =
      let h = x.unit.header in
      let is : ReadUnit = record { from = h.offset.0; header = header_of h.fields; table = x.unit.abbreviations; rows = r.rows } in
      let same : is ≡ r =
      ap (λ (m : ℕ). let u : ReadUnit = record { from = m; header = header_of h.fields; table = x.unit.abbreviations; rows = r.rows } in u) (sym n.from)
      ∙ ap (λ t. let u : ReadUnit = record { from = r.from; header = t; table = x.unit.abbreviations; rows = r.rows } in u) (sym n.header)
      ∙ ap (λ t. let u : ReadUnit = record { from = r.from; header = r.header; table = t; rows = r.rows } in u) (sym n.table) in
      unit_whole reading d h x.unit r.rows n.unit n.rows ∙ ap (λ (u : ReadUnit). Ok u) same

  module _ (law : (x : R) → IsReading (reading x)) where
    walked_from : (now after : UnitHeadersIter R E) (front : List ReadUnit) (xs : List (NumberedUnit R E)) (rs : List ReadUnit) → WalkedUnits reading d now front → AreUnitsFrom reading d now (units_in xs) after → AreNumbered keep reading d xs rs → WalkedUnits reading d after (front ++ rs)
    walked_from now after front [] [] w a n = subst (λ (us : List ReadUnit). WalkedUnits reading d after us) (sym (append-nil front)) (subst (λ (h : UnitHeadersIter R E). WalkedUnits reading d h front) a w)
    walked_from now after front [] (r ∷ rs) w a n = absurd n
    walked_from now after front (x ∷ xs) [] w a n = absurd n
    walked_from now after front (x ∷ xs) (r ∷ rs) w a n =
        let next : UnitHeadersIter R E = a.0 in
        let more = walked_more reading d now next front x.unit.header r (law now.input) (law next.input) (law x.unit.header.body) w a.1.passes (unit_read x r n.0) in
        subst (λ (us : List ReadUnit). WalkedUnits reading d after us) (append_assoc front (r ∷ []) rs) (walked_from next after (front ++ r ∷ []) xs rs more a.2 n.1)

    -- the first units of a file are all, where there are no more
    pub all_units : (count : ℕ) (xs : List (NumberedUnit R E)) (rs all : List ReadUnit) → AreFirstUnits reading d count (units_in xs) → AreNumbered keep reading d xs rs → units_reading reading d ≡ Ok all → length all ≤ count → rs ≡ all
    all_units count xs rs all f n read few =
        let w = walked_from f.are.begin f.behind [] xs rs (walked_none reading d f.are.begin f.are.begins f.are.begun) f.are.are n in
        let p = then_parts (units_read w.fuel (reading d.debug_info).is_big (reading d.debug_abbrev) (reading d.debug_addr) (reading f.behind.input).place (left (reading f.behind.input))) (λ more. Ok (rs ++ more)) all (sym w.is ∙ read) in
        let whole : rs ++ p.0 ≡ all = same_units (rs ++ p.0) all p.2 in
        let many : length (rs ++ p.0) ≡ length rs + length p.0 = length-append rs p.0 in
        let counted : length (units_in xs) ≡ length xs = length-map xs (λ (m : NumberedUnit R E). m.unit) in
        let same : length xs ≡ length rs = as_many xs rs n in
        let total : length (rs ++ p.0) ≡ length all = ap length whole in
        go p.0 whole many total counted same w f.many
      where
        over : WalkedUnits reading d f.behind rs → IsOver reading f.behind → rs ≡ all
        over w (inl failed) = absurd (let clash : true ≡ false = sym failed ∙ w.going in cc)
        over w (inr none) = same_units rs all (sym (walked_end reading d f.behind rs w none) ∙ read)

        go : (more : List ReadUnit) → rs ++ more ≡ all → length (rs ++ more) ≡ length rs + length more → length (rs ++ more) ≡ length all → length (units_in xs) ≡ length xs → length xs ≡ length rs → WalkedUnits reading d f.behind rs → (length (units_in xs) ≡ count) ⊎ IsOver reading f.behind → rs ≡ all
        go [] whole many total counted same w h = sym (append-nil rs) ∙ whole
        go (m ∷ more) whole many total counted same w (inl e) = absurd (omega (arith, many, total, counted, same, e, few))
        go (m ∷ more) whole many total counted same w (inr o) = over w o

  -- ---- by their numbers
  -- the unit of the grammar at a number, and the one that was numbered
  read_at : (xs : List (NumberedUnit R E)) (rs : List ReadUnit) (i : ℕ) (u : UnitFields R E) → AreNumbered keep reading d xs rs → slice_get (units_in xs) i ≡ Some u → (x : NumberedUnit R E) × (r : ReadUnit) × (x.unit ≡ u) × (slice_get rs i ≡ Some r) × IsNumbered keep reading d x r
  read_at [] rs i u n h = absurd (let l : i < 0 = slice_get_within {A = UnitFields R E} [] i u h in omega arith)
  read_at (x ∷ xs) [] i u n h = absurd n
  read_at (x ∷ xs) (r ∷ rs) zero u n h = (x, r, let same : x.unit ≡ u = cc in same, refl, n.0)
  read_at (x ∷ xs) (r ∷ rs) (suc i) u n h = read_at xs rs i u n.1 h

  numbered_at : (xs : List (NumberedUnit R E)) (rs : List ReadUnit) (i : ℕ) (r : ReadUnit) → AreNumbered keep reading d xs rs → slice_get rs i ≡ Some r → (x : NumberedUnit R E) × (slice_get (units_in xs) i ≡ Some x.unit) × IsNumbered keep reading d x r
  numbered_at xs [] i r n h = absurd (let l : i < 0 = slice_get_within {A = ReadUnit} [] i r h in omega arith)
  numbered_at [] (s ∷ rs) i r n h = absurd n
  numbered_at (x ∷ xs) (s ∷ rs) zero r n h = (x, refl, let same : s ≡ r = cc in subst (λ (v : ReadUnit). IsNumbered keep reading d x v) same n.0)
  numbered_at (x ∷ xs) (s ∷ rs) (suc i) r n h = numbered_at xs rs i r n.1 h

  module _ (counts : List ℕ) (xs : List (NumberedUnit R E)) (rs : List ReadUnit) (n : AreNumbered keep reading d xs rs) (many : (i : ℕ) (u : ReadUnit) → slice_get rs i ≡ Some u → entry_count u.rows ≤ count_at counts i + 1) where
    known_there : (q : UnitSectionOffset) → KnownIn reading (units_in xs) counts q → EntryIn rs q
    known_there q k =
        let u = k.1 in
        let at = read_at xs rs k.0 u.unit n u.stands in
        let r = at.1 in
        let num = at.4 in
        let same : r.rows ≡ u.rows = same_rows r.rows u.rows (sym (subst (λ (v : UnitFields R E). rows_reading reading v.header v.abbreviations ≡ Ok r.rows) at.2 num.rows) ∙ u.are) in
        let from : u.unit.header.offset.0 ≡ r.from = ap (λ (v : UnitFields R E). v.header.offset.0) (sym at.2) ∙ sym num.from in
        let placed : placed_in u.unit.header.offset.0 u.rows ≡ placed_in r.from r.rows = ap (λ (m : ℕ). placed_in m u.rows) from ∙ ap (λ (rows : List Row). placed_in r.from rows) (sym same) in
        record {
          index = k.0;
          unit = r;
          stands = at.3;
          number = k.2.0;
          entry = k.2.1;
          behind_root = k.2.2.behind_root;
          is = ap (λ (ps : List Placed). slice_get ps k.2.0) (sym placed) ∙ k.2.2.stands;
          begins = k.2.3;
        }

    there_known : (q : UnitSectionOffset) → EntryIn rs q → KnownIn reading (units_in xs) counts q
    there_known q e =
        let at = numbered_at xs rs e.index e.unit n e.stands in
        let num = at.2 in
        let within : e.number < entry_count e.unit.rows = placed_within e.unit.from e.unit.rows e.number e.entry e.is in
        let counted : entry_count e.unit.rows ≤ count_at counts e.index + 1 = many e.index e.unit e.stands in
        (e.index, record { unit = at.0.unit; stands = at.1; rows = e.unit.rows; are = num.rows }, (e.number, e.entry, record { stands = ap (λ (m : ℕ). slice_get (placed_in m e.unit.rows) e.number) (sym num.from) ∙ e.is; behind_root = e.behind_root; counted = omega (arith, within, counted) }, e.begins))

    pub known_are : (q : UnitSectionOffset) → KnownIn reading (units_in xs) counts q ↔ EntryIn rs q
    known_are q = (known_there q, there_known q)

-- what a filter that has read all of its file becomes is all of it
pub filtered_whole : {R E : Type 0} (reading : R → Reading) (law : (x : R) → IsReading (reading x)) (f : FilterUnitSection R E) (answers : ℕ → Option Address → Type 0) (built : DwarfValue) → HasReadAll reading f → IsFiltered reading f answers built → IsFilteredWhole reading f answers built
filtered_whole {R} {E} reading law f answers built h w =
    let n = w.become.read in
    let d = f.dwarf.now in
    let keep = keep_of (Some w.kept) in
    let items = w.become.found.units.items in
    let first = subst (λ (us : List (UnitFields R E)). AreFirstUnits reading d (length f.counts.items) us) (sym n.held) w.are in
    let same : n.units ≡ h.units = all_units keep reading d law (length f.counts.items) items n.units h.units first n.numbered h.are h.all in
    let numbered = subst (λ (rs : List ReadUnit). AreNumbered keep reading d items rs) same n.numbered in
    record {
      filtered = w;
      units = h.units;
      are = h.are;
      numbered = numbered;
      known = λ q. subst (λ (us : List (UnitFields R E)). KnownIn reading us f.counts.items q ↔ EntryIn h.units q) n.held (known_are keep reading d f.counts.items items h.units numbered h.entries q);
    }
