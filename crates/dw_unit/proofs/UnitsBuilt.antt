-- Units that are read back are those that were built, where they are read.
use Rattle.std.specs.Prelude.{◌≡◌, ℕ, ◌+◌, Bool, true, false, ◌==◌, if◌then◌else◌, List, [], ◌∷◌, length, map, Option, Some, None, refl}
use Rattle.std.specs.Option.{option_map}
use Rattle.std.proofs.Common.{sym, ◌∙◌, ap, arith, length-append}
use Rattle.std.proofs.Math.Path.{fun_ext}
use Rattle.dw_base.specs.Entries.{Row}
use Rattle.dw_base.specs.Numbers.{◌>>=◌}
use Rattle.dw_base.specs.Info.{ReadUnit}
use Rattle.dw_base.specs.Spelling.{header_size}
use Rattle.dw_base.specs.declared.section_id.SectionId.TheVariants.{DebugAbbrev, DebugInfo}
use Rattle.dw_writer.specs.Meaning.{Layout, start_of}
use Rattle.dw_writer.specs.Drafts.{Info, then_draft, started}
use Rattle.dw_entries.specs.Targets.{targets_in}
use Rattle.dw_entries.specs.Tree.{preorder}
use Rattle.dw_tree.specs.Built.{Numbered, placement_read, places_read, unit_offsets_read, offsets_read, info_read, IsBuilt, AreBuilt, Starts, unit_size, past_unit, past_units}
use Rattle.dw_tree.specs.Pending.{Kept, draft_at, units_draft, tables_of, past_kept, kept_offsets, kept_at, info_of, StandsAt, AreInRow}
use Rattle.dw_tree.specs.Places.{Offsets, found, targets_of, in_info}
use Rattle.dw_tree.specs.Read.{read_tree}
use Rattle.dw_tree.specs.Whole.{tree_size, tree_table}
use Rattle.dw_tree.proofs.ReadMarks.{tree_draft-size}
use Rattle.dw_unit.specs.WrittenUnits.{AreKeptRead}
use Rattle.dw_unit.proofs.ReadPlaces.{marks-rows_of, placement-read}
use Rattle.dw_unit.proofs.ReadUnits.{IsReadAs, AreReadAs}

-- a place that is counted from the section's start, and from where the section's part starts
moved_place : (from start : ℕ) (o : Option ℕ) → option_map (λ n. (from + start) + n) o ≡ option_map (λ n. n + start) (option_map (λ n. from + n) o)
moved_place from start None = refl
moved_place from start (Some n) = ap Some (let k : (from + start) + n ≡ from + n + start = omega arith in k)

module _ (big : Bool) (l : Layout) (info : Info) where
  -- the entries of a unit are read where they stand
  unit_places : (at : Starts) (u : Numbered) (k : Kept) (r : ReadUnit) → StandsAt at u k → IsReadAs big l info u k r → k.places ≡ places_read u.unit r
  unit_places at u k r s h =
      placement-read big u.unit.encoding u.unit.entries u.tables k.places l info h.marks s.placed h.read ∙ ap (λ q. placement_read (preorder u.unit.entries) q.rows) (sym h.is)

  -- and the unit has as many bytes as is read
  unit_long : (at : Starts) (u : Numbered) (k : Kept) (r : ReadUnit) → StandsAt at u k → IsReadAs big l info u k r → unit_size u.unit r ≡ (draft_at u k).size
  unfolding then_draft
  unit_long at u k r s h =
      ap (λ p. header_size u.unit.encoding + tree_size u.unit.encoding u.unit.entries p.place) (sym (unit_places at u k r s h))
      ∙ ap (λ n. header_size u.unit.encoding + n) (sym (tree_draft-size u.unit.encoding u.unit.entries u.tables k.places))

  -- the offsets of the unit that has a number are those that are read
  offsets_are : (at : Starts) (u : Numbered) (k : Kept) (r : ReadUnit) → StandsAt at u k → IsReadAs big l info u k r → (i : ℕ) →
      in_info (unit_offsets_read u.unit r) i ≡ option_map (λ n. n + start_of l DebugInfo) (in_info (kept_offsets k) i)
  offsets_are at u k r s h i =
      let start = start_of l DebugInfo in
      ap (λ p. option_map (λ n. r.from + n) (found p.place i)) (sym (unit_places at u k r s h))
      ∙ ap (λ q. option_map (λ n. q.from + n) (found k.places.place i)) h.is
      ∙ moved_place k.starts.info start (found k.places.place i)

  -- units are read where they are kept
  pub kept_read : (at : Starts) (us : List Numbered) (ks : List Kept) (rs : List ReadUnit) → AreInRow at us ks → AreReadAs big l info us ks rs → AreKeptRead (start_of l DebugInfo) us ks rs
  kept_read at [] [] [] row h = tt
  kept_read at [] [] (r ∷ rs) row h = absurd h
  kept_read at [] (k ∷ ks) rs row h = absurd row
  kept_read at (u ∷ us) [] rs row h = absurd row
  kept_read at (u ∷ us) (k ∷ ks) [] row h = absurd h
  kept_read at (u ∷ us) (k ∷ ks) (r ∷ rs) row h = (ap (λ q. q.from) h.0.is, unit_places at u k r row.0 h.0, kept_read (past_kept at u k) us ks rs row.1 h.1)

  by_number : (b : Bool) (x y : Offsets) (more others : Option Offsets) (start i : ℕ) → in_info x i ≡ option_map (λ n. n + start) (in_info y i) →
      (more >>= λ o. in_info o i) ≡ option_map (λ n. n + start) (others >>= λ o. in_info o i) →
      ((if b then Some x else more) >>= λ o. in_info o i) ≡ option_map (λ n. n + start) ((if b then Some y else others) >>= λ o. in_info o i)
  by_number true x y more others start i here rest = here
  by_number false x y more others start i here rest = rest

  info_is : (at : Starts) (us : List Numbered) (ks : List Kept) (rs : List ReadUnit) → AreInRow at us ks → AreReadAs big l info us ks rs → (n i : ℕ) → info_read us rs n i ≡ started (start_of l DebugInfo) (info_of us ks) n i
  info_is at [] [] [] row h n i = refl
  info_is at [] [] (r ∷ rs) row h n i = absurd h
  info_is at [] (k ∷ ks) rs row h n i = absurd row
  info_is at (u ∷ us) [] rs row h n i = absurd row
  info_is at (u ∷ us) (k ∷ ks) [] row h n i = absurd h
  info_is at (u ∷ us) (k ∷ ks) (r ∷ rs) row h n i =
      by_number (u.id == n) (unit_offsets_read u.unit r) (kept_offsets k) (offsets_read us rs n) (kept_at us ks n) (start_of l DebugInfo) i
      (offsets_are at u k r row.0 h.0 i) (info_is (past_kept at u k) us ks rs row.1 h.1 n i)

  module _ (all : List Numbered) (rs : List ReadUnit) (same : info ≡ info_read all rs) where
    built_one : (at : Starts) (u : Numbered) (k : Kept) (r : ReadUnit) → StandsAt at u k → IsReadAs big l info u k r → IsBuilt big l all rs u r
    built_one at u k r s h =
        let e = u.unit.encoding in
        let t = u.tables in
        let es = u.unit.entries in
        record {
          encoding = ap (λ q. q.header.encoding) h.is;
          unit_type = ap (λ q. q.header.unit_type) h.is;
          entries =
              ap (λ p. read_tree big e (targets_in (targets_of t p) l (info_read all rs)) es) (sym (unit_places at u k r s h))
              ∙ ap (λ f. read_tree big e (targets_in (targets_of t k.places) l f) es) (sym same)
              ∙ h.read
              ∙ ap Some (sym (ap (λ q. map (λ (row : Row). row.mark) q.rows) h.is ∙ marks-rows_of big e (header_size e) 0 h.marks));
          declarations = ap (λ q. q.table) h.is;
        }

    built_all : (at place : Starts) (us : List Numbered) (ks : List Kept) (more : List ReadUnit) → AreInRow at us ks → AreReadAs big l info us ks more →
        place.info ≡ at.info + start_of l DebugInfo → place.abbrevs ≡ at.abbrevs + start_of l DebugAbbrev → AreBuilt big l all rs place us more
    built_all at place [] [] [] row h here tables_here = tt
    built_all at place [] [] (r ∷ more) row h here tables_here = absurd h
    built_all at place [] (k ∷ ks) more row h here tables_here = absurd row
    built_all at place (u ∷ us) [] more row h here tables_here = absurd row
    built_all at place (u ∷ us) (k ∷ ks) [] row h here tables_here = absurd h
    built_all at place (u ∷ us) (k ∷ ks) (r ∷ more) row h here tables_here =
        let s = row.0 in
        let long = unit_long at u k r s h.0 in (
          built_one at u k r s h.0,
          record {
            unit = ap (λ q. q.from) h.0.is ∙ omega (arith, here, ap (λ p. p.info) s.starts);
            table = ap (λ q. q.header.table_offset) h.0.is ∙ omega (arith, tables_here, ap (λ p. p.abbrevs) s.starts);
          },
          built_all (past_kept at u k) (past_unit place u.unit r) us ks more row.1 h.1 (omega (arith, here, long)) (omega (arith, tables_here)),
        )

  -- where units that are read end
  pub past_is : (at place : Starts) (us : List Numbered) (ks : List Kept) (rs : List ReadUnit) → AreInRow at us ks → AreReadAs big l info us ks rs →
      ((past_units place us rs).info ≡ place.info + (units_draft us ks).size) × ((past_units place us rs).abbrevs ≡ place.abbrevs + length (tables_of us))
  unfolding then_draft
  past_is at place [] [] [] row h = (omega arith, omega arith)
  past_is at place [] [] (r ∷ rs) row h = absurd h
  past_is at place [] (k ∷ ks) rs row h = absurd row
  past_is at place (u ∷ us) [] rs row h = absurd row
  past_is at place (u ∷ us) (k ∷ ks) [] row h = absurd h
  past_is at place (u ∷ us) (k ∷ ks) (r ∷ rs) row h =
      let more = past_is (past_kept at u k) (past_unit place u.unit r) us ks rs row.1 h.1 in
      (omega (arith, more.0, unit_long at u k r row.0 h.0), omega (arith, more.1, length-append (tree_table u.unit.encoding u.unit.entries) (tables_of us)))

-- Units whose references hold the places that were kept are built where they are read.
pub units_built : (big : Bool) (l : Layout) (at place : Starts) (us : List Numbered) (ks : List Kept) (rs : List ReadUnit) → AreInRow at us ks →
    AreReadAs big l (started (start_of l DebugInfo) (info_of us ks)) us ks rs → place.info ≡ at.info + start_of l DebugInfo → place.abbrevs ≡ at.abbrevs + start_of l DebugAbbrev → AreBuilt big l us rs place us rs
units_built big l at place us ks rs row h here tables_here =
    let info = started (start_of l DebugInfo) (info_of us ks) in
    built_all big l info us rs (fun_ext (λ n. fun_ext (λ i. sym (info_is big l info at us ks rs row h n i)))) at place us ks rs row h here tables_here
