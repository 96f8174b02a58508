-- Units whose own parts of other sections start later: what their operands lead to, and where they stand in a row.
use Rattle.std.specs.Prelude.{◌≡◌, ℕ, zero, suc, ◌+◌, ◌*◌, ◌==◌, nat_lt, Bool, true, false, List, [], ◌∷◌, length, map, Option, Some, None, slice_get, refl, if◌then◌else◌}
use Rattle.std.specs.Option.{option_map}
use Rattle.std.proofs.Common.{sym, ◌∙◌, ap, ap₂, arith}
use Rattle.std.proofs.Math.Path.{fun_ext}
use Rattle.dw_base.specs.Numbers.{◌>>=◌, when, word_of}
use Rattle.dw_base.specs.declared.common.Encoding.{Encoding}
use Rattle.dw_base.specs.declared.section_id.SectionId.{SectionId}
use Rattle.dw_base.specs.declared.section_id.SectionId.TheVariants.{DebugAbbrev, DebugLine, DebugRanges, DebugRngLists, DebugLoc, DebugLocLists, DebugInfo}
use Rattle.dw_writer.specs.Drafts.{no_draft, started}
use Rattle.dw_lists.specs.Items.{is_five}
use Rattle.dw_lists.specs.Kinds.{kinds_of}
use Rattle.dw_lists.specs.Parts.{Part}
use Rattle.dw_lists.specs.Tables.{base_from, offsets_by, no_place, ranges_in, locations_in}
use Rattle.dw_lists.specs.Texts.{list_draft, places_from}
use Rattle.dw_strings.specs.Strings.{string_place}
use Rattle.dw_tree.specs.Built.{Numbered, Starts, numbered_from}
use Rattle.dw_tree.specs.Elsewhere.{Elsewhere, string_there, unit_tables, past_parts, ranges_at, locations_at}
use Rattle.dw_tree.specs.Locations.{entry_places}
use Rattle.dw_tree.specs.Pending.{Kept, AreInRow, draft_at, past_kept, units_draft, kept_at, kept_offsets, info_of}
use Rattle.dw_tree.specs.Places.{Placement, Offsets, in_info}
use Rattle.dw_tree.specs.UnitValue.{UnitValue}
use Rattle.dw_tree.specs.Whole.{settled, lines_in_use, IsTreePlacement}
use Rattle.dw_tree.proofs.OnePlacement.{one_placement, placement-same}
use Rattle.dw_dwarf_laws.proofs.Alike.{IsAlike, alike_itself, then_alike, unit_alike}
use Rattle.dw_dwarf_laws.proofs.Moved.{IsMoved, moved}

-- Lists

module _ (loc : Bool) (e : Encoding) (place : ℕ → Option ℕ) where
  places_moved : (five : Bool) (at to s : ℕ) → to ≡ at + s → (xs : List (List Part)) (i : ℕ) → slice_get (places_from five e place (kinds_of loc) to xs) i ≡ moved s (slice_get (places_from five e place (kinds_of loc) at xs) i)
  places_moved five at to s same [] i = refl
  places_moved five at to s same (x ∷ xs) zero = ap Some same
  places_moved five at to s same (x ∷ xs) (suc i) =
      let n = (list_draft five e place (kinds_of loc) x).size in places_moved five (at + n) (to + n) s (omega (arith, same)) xs i

  offsets_moved : (five : Bool) (at to s : ℕ) → to ≡ at + s → (xs : List (List Part)) (i : ℕ) → slice_get (offsets_by loc e place five to xs).places i ≡ moved s (slice_get (offsets_by loc e place five at xs).places i)
  offsets_moved five at to s same [] i = refl
  offsets_moved true at to s same (x ∷ xs) i =
      let n = length (x ∷ xs) * word_of e.format in places_moved true (base_from e.format at + n) (base_from e.format to + n) s (omega (arith, same)) (x ∷ xs) i
  offsets_moved false at to s same (x ∷ xs) i = places_moved false at to s same (x ∷ xs) i

  -- only version 5 has a base
  base_moved : (five : Bool) (at to s : ℕ) → (five ≡ true → to ≡ at + s) → (xs : List (List Part)) → (offsets_by loc e place five to xs).base ≡ moved s (offsets_by loc e place five at xs).base
  base_moved five at to s same [] = refl
  base_moved true at to s same (x ∷ xs) = let is = same refl in ap Some (let sum : base_from e.format to ≡ base_from e.format at + s = omega (arith, is) in sum)
  base_moved false at to s same (x ∷ xs) = refl

-- What units find elsewhere: in one case their parts' places count from where their file's parts start, in the other from the begins of the sections.
pub record IsMovedElsewhere (starts : SectionId → ℕ) (t joined : Elsewhere) : Type 0 where
  pub strings : joined.strings ≡ t.strings
  pub line_strings : joined.line_strings ≡ t.line_strings
  pub lines : joined.ends.lines.size ≡ t.ends.lines.size + starts DebugLine
  pub ranges : joined.ends.ranges.size ≡ t.ends.ranges.size + starts DebugRanges
  pub range_lists : joined.ends.range_lists.size ≡ t.ends.range_lists.size + starts DebugRngLists
  pub locations : joined.ends.locations.size ≡ t.ends.locations.size + starts DebugLoc
  pub location_lists : joined.ends.location_lists.size ≡ t.ends.location_lists.size + starts DebugLocLists

-- one of two, by the version
by_new : (five : Bool) (a b c d s : ℕ) → a ≡ c + s → five ≡ true → (if five then a else b) ≡ (if five then c else d) + s
by_new true a b c d s h is = h
by_new false a b c d s h is = absurd (let k : false ≡ true = is in cc)

by_old : (five : Bool) (a b c d s : ℕ) → b ≡ d + s → five ≡ false → (if five then a else b) ≡ (if five then c else d) + s
by_old true a b c d s h is = absurd (let k : true ≡ false = is in cc)
by_old false a b c d s h is = h

string_told : (strings : List (List ℕ)) (i n : ℕ) → string_there strings i ≡ Some n → n ≡ string_place strings i
string_told strings i n h = by (nat_lt i (length strings)) h
  where
    by : (b : Bool) → when b (Some (string_place strings i)) ≡ Some n → n ≡ string_place strings i
    by true k = let same : string_place strings i ≡ n = cc in sym same
    by false k = absurd cc

module _ (starts : SectionId → ℕ) where
  module _ (t joined : Elsewhere) (h : IsMovedElsewhere starts t joined) (u : UnitValue) where
    pub past_moved : IsMovedElsewhere starts (past_parts t u) (past_parts joined u)
    past_moved = record {
      strings = h.strings;
      line_strings = h.line_strings;
      lines = omega (arith, h.lines);
      ranges = omega (arith, h.ranges);
      range_lists = omega (arith, h.range_lists);
      locations = omega (arith, h.locations);
      location_lists = omega (arith, h.location_lists);
    }

    line_moved : (b : Bool) → when b (Some joined.ends.lines.size) ≡ moved (starts DebugLine) (when b (Some t.ends.lines.size))
    line_moved true = ap Some h.lines
    line_moved false = refl

    abbrev five : Bool
    five = is_five u.encoding

    new_ranges : five ≡ true → ranges_at joined u ≡ ranges_at t u + starts DebugRngLists
    new_ranges is = by_new five joined.ends.range_lists.size joined.ends.ranges.size t.ends.range_lists.size t.ends.ranges.size (starts DebugRngLists) h.range_lists is

    old_ranges : five ≡ false → ranges_at joined u ≡ ranges_at t u + starts DebugRanges
    old_ranges is = by_old five joined.ends.range_lists.size joined.ends.ranges.size t.ends.range_lists.size t.ends.ranges.size (starts DebugRanges) h.ranges is

    new_locations : five ≡ true → locations_at joined u ≡ locations_at t u + starts DebugLocLists
    new_locations is = by_new five joined.ends.location_lists.size joined.ends.locations.size t.ends.location_lists.size t.ends.locations.size (starts DebugLocLists) h.location_lists is

    old_locations : five ≡ false → locations_at joined u ≡ locations_at t u + starts DebugLoc
    old_locations is = by_old five joined.ends.location_lists.size joined.ends.locations.size t.ends.location_lists.size t.ends.locations.size (starts DebugLoc) h.locations is

    -- what the operands of a unit lead to
    pub tables_moved : IsMoved starts t.strings t.line_strings u.encoding (unit_tables t u) (unit_tables joined u)
    tables_moved =
        let rs = ranges_in u.ranges in
        let ls = locations_in u.locations in
        let places = entry_places (settled u) in
        record {
          same_strings = λ i. ap (λ ss. string_there ss i) h.strings;
          string_places = string_told t.strings;
          same_line_strings = λ i. ap (λ ss. string_there ss i) h.line_strings;
          line_string_places = string_told t.line_strings;
          line_program = line_moved (lines_in_use u);
          range_base = base_moved false u.encoding no_place five (ranges_at t u) (ranges_at joined u) (starts DebugRngLists) new_ranges rs;
          location_base = base_moved true u.encoding places five (locations_at t u) (locations_at joined u) (starts DebugLocLists) new_locations ls;
          ranges = λ is. offsets_moved false u.encoding no_place five (ranges_at t u) (ranges_at joined u) (starts DebugRanges) (old_ranges is) rs;
          range_lists = λ is. offsets_moved false u.encoding no_place five (ranges_at t u) (ranges_at joined u) (starts DebugRngLists) (new_ranges is) rs;
          locations = λ is. offsets_moved true u.encoding places five (locations_at t u) (locations_at joined u) (starts DebugLoc) (old_locations is) ls;
          location_lists = λ is. offsets_moved true u.encoding places five (locations_at t u) (locations_at joined u) (starts DebugLocLists) (new_locations is) ls;
        }

  -- Rows of units

  -- a unit that stands so much further on
  abbrev pub moved_kept : Kept → Kept
  moved_kept k = record { starts = record { info = k.starts.info + starts DebugInfo; abbrevs = k.starts.abbrevs + starts DebugAbbrev }; places = k.places }

  kept_is : (j : Kept) (info abbrevs : ℕ) (p : Placement) → j.starts.info ≡ info → j.starts.abbrevs ≡ abbrevs → j.places ≡ p → j ≡ record { starts = record { info = info; abbrevs = abbrevs }; places = p }
  kept_is j info abbrevs p a b c =
      let with : ℕ → ℕ → Placement → Kept = λ m n q. record { starts = record { info = m; abbrevs = n }; places = q } in
      ap (λ m. with m j.starts.abbrevs j.places) a ∙ ap₂ (with info) b c

-- units that stand one behind another, each at its placement
abbrev pub IsPlacedRow : Starts → List Numbered → List Kept → Type 0
IsPlacedRow at [] [] = Unit {0}
IsPlacedRow at [] (k ∷ ks) = ⊥
IsPlacedRow at (u ∷ us) [] = ⊥
IsPlacedRow at (u ∷ us) (k ∷ ks) = (k.starts ≡ at) × IsTreePlacement u.unit.encoding u.unit.entries k.places × IsPlacedRow (past_kept at u k) us ks

pub row_placed : (at : Starts) (us : List Numbered) (ks : List Kept) → AreInRow at us ks → IsPlacedRow at us ks
row_placed at [] [] h = tt
row_placed at [] (k ∷ ks) h = absurd h
row_placed at (u ∷ us) [] h = absurd h
row_placed at (u ∷ us) (k ∷ ks) h = (h.0.starts, h.0.placed, row_placed (past_kept at u k) us ks h.1)

module _ (starts : SectionId → ℕ) where
  -- the units of a row that starts later, each with another's placement
  pub row_moved : (n : ℕ) (t joined : Elsewhere) (at to : Starts) (us : List UnitValue) (ks js : List Kept) → to.info ≡ at.info + starts DebugInfo → to.abbrevs ≡ at.abbrevs + starts DebugAbbrev →
      IsPlacedRow at (numbered_from n t us) ks → AreInRow to (numbered_from n joined us) js → js ≡ map (moved_kept starts) ks
  row_moved n t joined at to [] [] [] info abbrevs row behind = refl
  row_moved n t joined at to [] [] (j ∷ js) info abbrevs row behind = absurd behind
  row_moved n t joined at to [] (k ∷ ks) js info abbrevs row behind = absurd row
  row_moved n t joined at to (u ∷ us) [] js info abbrevs row behind = absurd row
  row_moved n t joined at to (u ∷ us) (k ∷ ks) [] info abbrevs row behind = absurd behind
  row_moved n t joined at to (u ∷ us) (k ∷ ks) (j ∷ js) info abbrevs row behind =
      let w = settled u in
      let same : j.places ≡ k.places = placement-same j.places k.places (one_placement w.encoding w.entries j.places k.places behind.0.early behind.0.placed row.1) in
      let long = (unit_alike w.encoding w.entries (unit_tables joined u) (unit_tables t u) j k same).size in
      let here = kept_is starts j (k.starts.info + starts DebugInfo) (k.starts.abbrevs + starts DebugAbbrev) k.places
      (ap (λ (s : Starts). s.info) behind.0.starts ∙ info ∙ ap (λ (s : Starts). s.info + starts DebugInfo) (sym row.0))
      (ap (λ (s : Starts). s.abbrevs) behind.0.starts ∙ abbrevs ∙ ap (λ (s : Starts). s.abbrevs + starts DebugAbbrev) (sym row.0)) same in
      ap₂ (λ x xs. x ∷ xs) here
      (row_moved (suc n) (past_parts t u) (past_parts joined u) (past_kept at (record { id = n; unit = w; tables = unit_tables t u }) k) (past_kept to (record { id = n; unit = w; tables = unit_tables joined u }) j) us ks js (omega (arith, info, long)) (omega (arith, abbrevs)) row.2 behind.1)

  -- they leave the same references open
  pub units_alike : (n : ℕ) (t joined : Elsewhere) (us : List UnitValue) (ks : List Kept) → IsAlike (units_draft (numbered_from n t us) ks) (units_draft (numbered_from n joined us) (map (moved_kept starts) ks))
  units_alike n t joined [] ks = alike_itself no_draft
  units_alike n t joined (u ∷ us) [] = alike_itself no_draft
  units_alike n t joined (u ∷ us) (k ∷ ks) =
      let here : Numbered = record { id = n; unit = settled u; tables = unit_tables t u } in
      let there : Numbered = record { id = n; unit = settled u; tables = unit_tables joined u } in
      then_alike (draft_at here k) (draft_at there (moved_kept starts k)) (units_draft (numbered_from (suc n) (past_parts t u) us) ks) (units_draft (numbered_from (suc n) (past_parts joined u) us) (map (moved_kept starts) ks))
      (unit_alike (settled u).encoding (settled u).entries (unit_tables t u) (unit_tables joined u) k (moved_kept starts k) refl) (units_alike (suc n) (past_parts t u) (past_parts joined u) us ks)

  -- Places in .debug_info

  abbrev moved_offsets : Offsets → Offsets
  moved_offsets o = record o { start = o.start + starts DebugInfo }

  offsets_moved_at : (m : ℕ) (t joined : Elsewhere) (us : List UnitValue) (ks : List Kept) (n : ℕ) →
      kept_at (numbered_from m joined us) (map (moved_kept starts) ks) n ≡ option_map moved_offsets (kept_at (numbered_from m t us) ks n)
  offsets_moved_at m t joined [] ks n = refl
  offsets_moved_at m t joined (u ∷ us) [] n = refl
  offsets_moved_at m t joined (u ∷ us) (k ∷ ks) n = by (m == n) (offsets_moved_at (suc m) (past_parts t u) (past_parts joined u) us ks n)
    where
      by : (b : Bool) → kept_at (numbered_from (suc m) (past_parts joined u) us) (map (moved_kept starts) ks) n ≡ option_map moved_offsets (kept_at (numbered_from (suc m) (past_parts t u) us) ks n) →
          ◌≡◌ {A = Option Offsets} (if b then Some (kept_offsets (moved_kept starts k)) else kept_at (numbered_from (suc m) (past_parts joined u) us) (map (moved_kept starts) ks) n)
          (option_map moved_offsets (if b then Some (kept_offsets k) else kept_at (numbered_from (suc m) (past_parts t u) us) ks n))
      by true h = refl
      by false h = h

  place_moved : (at : ℕ) (o : Option ℕ) → option_map (λ n. n + starts DebugInfo) (option_map (λ n. at + n) o) ≡ option_map (λ n. n + 0) (option_map (λ n. at + starts DebugInfo + n) o)
  place_moved at None = refl
  place_moved at (Some n) = ap Some (let sum : at + n + starts DebugInfo ≡ at + starts DebugInfo + n + 0 = omega arith in sum)

  entry_moved : (o : Option Offsets) (i : ℕ) → option_map (λ n. n + starts DebugInfo) (o >>= λ x. in_info x i) ≡ option_map (λ n. n + 0) (option_map moved_offsets o >>= λ x. in_info x i)
  entry_moved None i = refl
  entry_moved (Some x) i = place_moved x.start (x.place i)

  -- so the places of entries are the same, counted from the section's begin
  pub info_moved : (m : ℕ) (t joined : Elsewhere) (us : List UnitValue) (ks : List Kept) →
      started (starts DebugInfo) (info_of (numbered_from m t us) ks) ≡ started 0 (info_of (numbered_from m joined us) (map (moved_kept starts) ks))
  info_moved m t joined us ks =
      fun_ext (λ n. fun_ext (λ i. entry_moved (kept_at (numbered_from m t us) ks n) i ∙ ap (λ o. option_map (λ k. k + 0) (o >>= λ x. in_info x i)) (sym (offsets_moved_at m t joined us ks n))))
