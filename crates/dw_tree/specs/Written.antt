-- What writing units adds to the sections.
use Rattle.std.specs.Prelude.{◌≡◌, ◌⊎◌, ℕ, suc, ◌+◌, true, false, Some, List, [], ◌∷◌, ◌++◌, length, IsFalse, if◌then◌else◌}
use Rattle.std.specs.Option.{option_map}
use Rattle.dw_writer.specs.Meaning.{Meaning, Adds}
use Rattle.dw_writer.specs.Drafts.{Info}
use Rattle.dw_writer.specs.Sections.{NoFixups}
use Rattle.dw_base.specs.declared.error.Error.{Error}
use Rattle.dw_writer.specs.declared.sections.Sections.{Sections}
use Rattle.dw_tree.specs.Elsewhere.{Elsewhere, ends_of, unit_tables, past_parts, AppendsLine, AppendsRanges}
use Rattle.dw_tree.specs.Built.{Numbered, Starts, table_size, settled_at}
use Rattle.dw_tree.specs.Pending.{Kept, past_kept, tables_of, info_at, kept_offsets, KeepPlaces, Stands, PendsUnit, Pending, AddsUnits, AddsLocations}
use Rattle.dw_tree.specs.Places.{offsets_in}
use Rattle.dw_tree.specs.ReferenceFaults.{references_fail}
use Rattle.dw_tree.specs.UnitValue.{UnitValue}
use Rattle.dw_tree.specs.Whole.{settled, marked_written, IsRefused}

-- the units that aren't written yet, as they will be, each with its number
abbrev pub to_write_from : ℕ → Elsewhere → List UnitValue → List Numbered
to_write_from n t [] = []
to_write_from n t (u ∷ us) =
    if u.is_written then to_write_from (suc n) t us else settled_at n t u ∷ to_write_from (suc n) (past_parts t u) us

abbrev pub to_write : Elsewhere → List UnitValue → List Numbered
to_write t us = to_write_from 0 t us

-- where the next table of abbreviations is to begin
abbrev pub past_table : ℕ → UnitValue → ℕ
past_table at u = if u.is_written then at else at + table_size (settled u)

-- Settled units at the end of .debug_info, each of which tells the place of its table, these tables at the end of
-- .debug_abbrev, and their location lists at the end of the sections of their versions. References across units hold these
-- places.
pub record AppendsUnits {W : Type 0} (meaning : W → Meaning) (old new : Sections W) (info : Info) (us : List Numbered) (kept : List Kept) : Type 0 where
  pub units : AddsUnits (meaning old.debug_info.0) (meaning new.debug_info.0) (meaning old.debug_abbrev.0).size info us kept
  pub tables : Adds (meaning old.debug_abbrev.0) (meaning new.debug_abbrev.0) (tables_of us)
  pub lists : AddsLocations meaning old new info us

-- The units of a table are pending behind what the sections held. Where the table kept the places of some units, it keeps
-- those of all of them.
pub record PendsUnits {W : Type 0} (meaning : W → Meaning) (old new : Sections W) (old_table new_table : List UnitValue) (t : Elsewhere) : Type 0 where
  pub kept : List Kept
  pub pending : Pending meaning old new (to_write t old_table) kept
  pub keeps : (us : List Numbered) (ks : List Kept) → length us ≡ length ks → KeepPlaces old_table us ks → KeepPlaces new_table (us ++ to_write t old_table) (ks ++ kept)

-- The units of a table are added behind those that are pending, and every reference between them holds the place that its
-- entry's unit keeps. Where the table kept the places of the pending ones alone, it keeps those of all of them.
pub record CompletesPending {W : Type 0} (meaning : W → Meaning) (before new : Sections W) (old_table new_table : List UnitValue) (t : Elsewhere) (us : List Numbered) (ks : List Kept) : Type 0 where
  pub kept : List Kept
  pub appends : AppendsUnits meaning before new (info_at new_table) (us ++ to_write t old_table) (ks ++ kept)
  pub keeps : KeepPlaces old_table us ks → KeepPlaces new_table (us ++ to_write t old_table) (ks ++ kept)
  pub lead : (err : Error) → IsFalse (references_fail (info_at new_table) (meaning before.debug_info.0).is_plain (ends_of meaning before) (us ++ to_write t old_table) (ks ++ kept) err)

abbrev pub CompletesAny : {W : Type 0} → (W → Meaning) → Sections W → Sections W → List UnitValue → List UnitValue → Elsewhere → Type 0
CompletesAny {W} meaning old new old_table new_table t =
    (before : Sections W) (us : List Numbered) (ks : List Kept) → NoFixups before → Pending meaning before old us ks →
    CompletesPending meaning before new old_table new_table t us ks

-- a unit that was written before is passed over, another one is written and marked
abbrev pub WritesIfNew : {W : Type 0} → (W → Meaning) → Sections W → Sections W → UnitValue → UnitValue → Elsewhere → Type 0
WritesIfNew meaning old new u v t =
    ((u.is_written ≡ true) × (v ≡ u) × (new ≡ old))
    ⊎ ((u.is_written ≡ false) × (v ≡ marked_written v.offsets (settled u)) × PendsUnit meaning old new (settled u) (unit_tables t u) v.offsets
    × AppendsLine meaning old new t.line_strings t.strings u × AppendsRanges meaning old new u)

-- all but the sections that units with their parts are written into, and the lists of fixups, stay
abbrev pub KeepsOtherSections : {W : Type 0} → Sections W → Sections W → Type 0
KeepsOtherSections old new =
    new ≡ record old {
      debug_abbrev = new.debug_abbrev;
      debug_line = new.debug_line;
      debug_ranges = new.debug_ranges;
      debug_rnglists = new.debug_rnglists;
      debug_loc = new.debug_loc;
      debug_loclists = new.debug_loclists;
      debug_info = new.debug_info;
      debug_info_fixups = new.debug_info_fixups;
      debug_loc_fixups = new.debug_loc_fixups;
      debug_loclists_fixups = new.debug_loclists_fixups;
    }

-- the same of what a tree with its location lists is written into
abbrev pub KeepsAllButTree : {W : Type 0} → Sections W → Sections W → Type 0
KeepsAllButTree old new =
    new ≡ record old {
      debug_abbrev = new.debug_abbrev;
      debug_loc = new.debug_loc;
      debug_loclists = new.debug_loclists;
      debug_info = new.debug_info;
      debug_info_fixups = new.debug_info_fixups;
      debug_loc_fixups = new.debug_loc_fixups;
      debug_loclists_fixups = new.debug_loclists_fixups;
    }

-- a unit that was written before stays as it is
abbrev pub IsPassedOver : UnitValue → UnitValue → Type 0
IsPassedOver u v = (u.is_written ≡ true) × (v ≡ u)

-- Another one is settled and marked where the sections end, and keeps where its entries stand.
pub record IsWrittenAt (at : Starts) (t : Elsewhere) (u v : UnitValue) : Type 0 where
  pub kept : Kept
  pub stands : Stands at u.encoding (settled u).entries (unit_tables t u) kept
  pub unwritten : u.is_written ≡ false
  pub marked : v ≡ marked_written v.offsets (settled u)
  pub offsets_are : option_map offsets_in v.offsets ≡ Some (kept_offsets kept)

-- behind such a unit and its table
abbrev pub past_written : (at : Starts) (t : Elsewhere) (u v : UnitValue) → IsWrittenAt at t u v → Starts
past_written at t u v w = past_kept at (settled_at 0 t u) w.kept

-- The units of a table once they were written, in a row from where the sections ended to where they end.
abbrev pub AreWritten : Starts → Starts → Elsewhere → List UnitValue → List UnitValue → Type 0
AreWritten at end t [] [] = at ≡ end
AreWritten at end t [] (v ∷ vs) = ⊥
AreWritten at end t (u ∷ us) [] = ⊥
AreWritten at end t (u ∷ us) (v ∷ vs) =
    (IsPassedOver u v × AreWritten at end t us vs)
    ⊎ ((w : IsWrittenAt at t u v) × AreWritten (past_written at t u v w) end (past_parts t u) us vs)

-- The units of a table after a refusal: those before some unit were written, it is as it was or settled, and those behind it
-- are as they were. Where no unit was refused, a reference between them was.
abbrev pub AreStopped : Starts → Elsewhere → List UnitValue → List UnitValue → Type 0
AreStopped at t [] [] = Unit {0}
AreStopped at t [] (v ∷ vs) = ⊥
AreStopped at t (u ∷ us) [] = ⊥
AreStopped at t (u ∷ us) (v ∷ vs) =
    (IsPassedOver u v × AreStopped at t us vs)
    ⊎ (((w : IsWrittenAt at t u v) × AreStopped (past_written at t u v w) (past_parts t u) us vs)
    ⊎ (IsRefused u v × (vs ≡ us)))
