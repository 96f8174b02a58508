-- Units that were written into the sections of one file, whatever became of them afterwards, and what stands there of them.
use Rattle.std.specs.Prelude.{◌≡◌, ℕ, suc, ◌+◌, Bool, true, false, List, [], ◌∷◌, ◌++◌, All, map, Option, Some, IsFalse, if◌then◌else◌}
use Rattle.std.specs.Option.{option_map}
use Rattle.dw_base.specs.Info.{ReadUnit}
use Rattle.dw_base.specs.declared.error.Error.{Error}
use Rattle.dw_writer.specs.Meaning.{Meaning, Model, Appends}
use Rattle.dw_writer.specs.New.{IsEmptyPlainWriter}
use Rattle.dw_writer.specs.Sections.{NoFixups}
use Rattle.dw_writer.specs.declared.sections.Sections.{Sections}
use Rattle.dw_strings.specs.Strings.{KeepStrings}
use Rattle.dw_line.specs.Parts.{sizes, texts}
use Rattle.dw_tree.specs.Built.{Numbered, Built, settled_at, places_read, at_zero}
use Rattle.dw_tree.specs.Elsewhere.{Ends, Elsewhere, ends_of, line_size, line_text, range_size, range_text, ranges_fail_in, has_base_address, past_ends, AppendsBehind, AreFound}
use Rattle.dw_tree.specs.Locations.{lists_fail_in, entry_places}
use Rattle.dw_tree.specs.Pending.{Kept, Pending, KeepPlaces, kept_offsets}
use Rattle.dw_tree.specs.Places.{OffsetsValue, offsets_in}
use Rattle.dw_tree.specs.UnitValue.{UnitValue}
use Rattle.dw_tree.specs.Whole.{settled}
use Rattle.dw_tree.specs.Written.{KeepsOtherSections}

-- A unit as it was handed in to be written, the number by which references name it, and the strings of its file as they were
-- then.
pub record WrittenUnit : Type 0 where
  pub id : ℕ
  pub unit : UnitValue
  pub line_strings : List (List ℕ)
  pub strings : List (List ℕ)

-- what it found elsewhere, where its own parts of other sections begin there
abbrev pub found_at : Ends → WrittenUnit → Elsewhere
found_at ends w = record { line_strings = w.line_strings; strings = w.strings; ends = ends }

-- they as they stand, one behind another
abbrev pub written_from : Ends → List WrittenUnit → List Numbered
written_from ends [] = []
written_from ends (w ∷ ws) = settled_at w.id (found_at ends w) w.unit ∷ written_from (past_ends ends w.unit) ws

-- where the sections of their parts end behind them
abbrev pub ends_behind : Ends → List WrittenUnit → Ends
ends_behind ends [] = ends
ends_behind ends (w ∷ ws) = ends_behind (past_ends ends w.unit) ws

abbrev pub units_in : List WrittenUnit → List UnitValue
units_in ws = map (λ w. w.unit) ws

-- the units of a file that aren't written yet, the first unit of which has this number
abbrev pub unwritten_from : ℕ → List (List ℕ) → List (List ℕ) → List UnitValue → List WrittenUnit
unwritten_from n line_strings strings [] = []
unwritten_from n line_strings strings (u ∷ us) =
    let more = unwritten_from (suc n) line_strings strings us in
    if u.is_written then more else record { id = n; unit = u; line_strings = line_strings; strings = strings } ∷ more

-- its line program, where that is in use
abbrev pub written_line : WrittenUnit → Model
written_line w = line_text w.line_strings w.strings w.unit

-- its range lists, as far as they stand in the section of version 5, or in that of those before it
abbrev pub written_ranges : Bool → WrittenUnit → Model
written_ranges five w = range_text five w.unit

-- Units that are read in a section that starts so many bytes behind where it was counted from begin where they keep their places,
-- and so do their entries.
abbrev pub AreKeptRead : ℕ → List Numbered → List Kept → List ReadUnit → Type 0
AreKeptRead start [] [] [] = Unit {0}
AreKeptRead start [] [] (r ∷ rs) = ⊥
AreKeptRead start [] (k ∷ ks) rs = ⊥
AreKeptRead start (u ∷ us) [] rs = ⊥
AreKeptRead start (u ∷ us) (k ∷ ks) [] = ⊥
AreKeptRead start (u ∷ us) (k ∷ ks) (r ∷ rs) = (r.from ≡ k.starts.info + start) × (k.places ≡ places_read u.unit r) × AreKeptRead start us ks rs

-- The lists of a unit have no fault in a plain writer.
pub record AreListsSound (u : UnitValue) : Type 0 where
  pub ranges : (err : Error) → IsFalse (ranges_fail_in true u err)
  pub locations : (err : Error) → IsFalse (lists_fail_in u.encoding (entry_places (settled u)) u.locations (has_base_address u.entries) true err)

-- no symbols can be written into the sections of lists
pub record HavePlainLists (e : Ends) : Type 0 where
  pub ranges : e.ranges.is_plain ≡ true
  pub range_lists : e.range_lists.is_plain ≡ true
  pub locations : e.locations.is_plain ≡ true
  pub location_lists : e.location_lists.is_plain ≡ true

-- Line programs, where they are in use, and range lists are added, one unit's behind another's. Each list is found.
pub record AddsParts {W : Type 0} (meaning : W → Meaning) (old new : Sections W) (ws : List WrittenUnit) : Type 0 where
  pub lines : AppendsBehind (meaning old.debug_line.0) (meaning new.debug_line.0) (sizes (λ w. line_size w.unit) ws) (texts written_line ws)
  pub ranges : Appends (meaning old.debug_ranges.0) (meaning new.debug_ranges.0) (sizes (λ w. range_size false w.unit) ws) (texts (written_ranges false) ws)
  pub range_lists : Appends (meaning old.debug_rnglists.0) (meaning new.debug_rnglists.0) (sizes (λ w. range_size true w.unit) ws) (texts (written_ranges true) ws)
  pub found : All AreFound (units_in ws)
  pub sound : HavePlainLists (ends_of meaning old) → All AreListsSound (units_in ws)

-- the strings that a unit found are these strings still
abbrev pub KeepsStrings : List (List ℕ) → List (List ℕ) → WrittenUnit → Type 0
KeepsStrings line_strings strings w = KeepStrings w.line_strings line_strings × KeepStrings w.strings strings

-- Units of a file were written since its sections were handed in. They stand in a row behind what was there, with their tables,
-- their line programs and their lists, and each keeps these places. References across them are open. The strings that they
-- found are those of the file, which aren't written yet, as is nothing else.
pub record PendsFile {W : Type 0} (meaning : W → Meaning) (before now : Sections W) (line_strings strings : List (List ℕ)) (ws : List WrittenUnit) (kept : List Kept) : Type 0 where
  pub pending : Pending meaning before now (written_from (ends_of meaning before) ws) kept
  pub parts : AddsParts meaning before now ws
  pub ends : ends_of meaning now ≡ ends_behind (ends_of meaning before) ws
  pub stay : All (KeepsStrings line_strings strings) ws
  pub others : KeepsOtherSections before now
  pub none : ws ≡ [] → now ≡ before

-- whatever units of a file were written, this one is written behind them, and keeps where its entries stand
abbrev pub ExtendsFile : {W : Type 0} → (W → Meaning) → Sections W → Sections W → List (List ℕ) → List (List ℕ) → UnitValue → Option OffsetsValue → Type 0
ExtendsFile {W} meaning old new line_strings strings u offsets =
    (before : Sections W) (ws : List WrittenUnit) (kept : List Kept) (id : ℕ) → PendsFile meaning before old line_strings strings ws kept →
    (k : Kept) × (option_map offsets_in offsets ≡ Some (kept_offsets k))
    × PendsFile meaning before new line_strings strings (ws ++ record { id = id; unit = u; line_strings = line_strings; strings = strings } ∷ []) (kept ++ k ∷ [])

-- Sections of units, empty and plain, before the first unit of a file was written.
pub record BeginPlain {W : Type 0} (meaning : W → Meaning) (s : Sections W) : Type 0 where
  pub info : IsEmptyPlainWriter (meaning s.debug_info.0) (meaning s.debug_info.0).is_big
  pub abbrevs : IsEmptyPlainWriter (meaning s.debug_abbrev.0) (meaning s.debug_abbrev.0).is_big
  pub fixups : NoFixups s

-- The two sections are read, to their last byte, as exactly these units, in this order.
pub record HoldsUnits {W : Type 0} (meaning : W → Meaning) (s : Sections W) (us : List Numbered) : Type 0 where
  pub info : List ℕ
  pub abbrevs : List ℕ
  pub info_told : (meaning s.debug_info.0).bytes ≡ Some info
  pub abbrevs_told : (meaning s.debug_abbrev.0).bytes ≡ Some abbrevs
  pub built : Built (record { units = us; layout = at_zero } ∷ []) (meaning s.debug_info.0).is_big info abbrevs

-- Whatever units of the file were written before, the table keeping their places alone, they are held, and behind them those that
-- weren't written yet.
abbrev pub HoldsAllUnits : {W : Type 0} → (W → Meaning) → Sections W → Sections W → List (List ℕ) → List (List ℕ) → List UnitValue → Type 0
HoldsAllUnits {W} meaning old new line_strings strings us =
    (before : Sections W) (ws : List WrittenUnit) (kept : List Kept) → BeginPlain meaning before →
    PendsFile meaning before old line_strings strings ws kept → KeepPlaces us (written_from (ends_of meaning before) ws) kept →
    HoldsUnits meaning new (written_from (ends_of meaning before) (ws ++ unwritten_from 0 line_strings strings us))
