-- A Dwarf is written behind units of its file that were written before.
use Rattle.std.specs.Prelude.{◌≡◌, ℕ, Bool, true, false, List, [], ◌∷◌, ◌++◌, All, refl}
use Rattle.std.proofs.Common.{sym, ◌∙◌, ap, subst}
use Rattle.std.proofs.lemmas.List.Elements.{All-append}
use Rattle.dw_writer.specs.Contents.{Meaning}
use Rattle.dw_writer.specs.Layout.{Layout}
use Rattle.dw_writer.specs.Texts.{followed}
use Rattle.dw_writer.specs.declared.sections.Sections.{Sections}
use Rattle.dw_writer.proofs.Laws.{followed_assoc}
use Rattle.dw_writer.proofs.Steps.{Appends-then, Appends-as}
use Rattle.dw_line.specs.LinePrograms.{line_program_text}
use Rattle.dw_line.specs.Parts.{texts}
use Rattle.dw_tree.specs.Elsewhere.{Ends, ends_of, line_text, range_text, new_text, AppendsAllRanges, AreFound}
use Rattle.dw_tree.specs.Pending.{Kept, KeepPlaces}
use Rattle.dw_tree.specs.UnitValue.{UnitValue}
use Rattle.dw_tree.specs.Valid.{AreWritable}
use Rattle.dw_tree.specs.Written.{CompletesAny, KeepsOtherSections}
use Rattle.dw_unit.specs.WrittenUnits.{WrittenUnit, written_from, units_in, written_line, written_ranges, AreListsSound, HavePlainLists, KeepsStrings, PendsFile}
use Rattle.dw_unit.proofs.FileSteps.{texts-append, units-append, still_plain}
use Rattle.dw_unit.proofs.LeftUnits.{left_texts, left_found, left_stay, left_sound, written_units}
use Rattle.dw_unit.proofs.UnitTexts.{behind-then, behind-as}
use Rattle.dw_dwarf.specs.DwarfValue.{DwarfValue}
use Rattle.dw_dwarf.specs.Valid.{empty_ends, found_in}
use Rattle.dw_dwarf.specs.Written.{AreNewPlain, AddsLines, AddsStrings, KeepsOthers}
use Rattle.dw_dwarf.specs.WrittenFile.{left_in, file_lines, HoldsWhole}
use Rattle.dw_unit.proofs.FileCompleted.{Completes, file_completed}
use Rattle.dw_dwarf.proofs.Held.{plain_ends, texts_held}
use Rattle.dw_dwarf.proofs.RestSections.{strings_after}

-- the sections that stay
others_behind : {W : Type 0} (before old new : Sections W) → KeepsOtherSections before old → KeepsOthers old new → KeepsOthers before new
others_behind {W} before old new h k =
    k ∙ ap (λ (s : Sections W). let t : Sections W = record s {
      debug_abbrev = new.debug_abbrev;
      debug_str = new.debug_str;
      debug_line_str = new.debug_line_str;
      debug_line = new.debug_line;
      debug_ranges = new.debug_ranges;
      debug_rnglists = new.debug_rnglists;
      debug_loc = new.debug_loc;
      debug_loclists = new.debug_loclists;
      debug_info = new.debug_info;
      debug_info_fixups = new.debug_info_fixups;
      debug_loc_fixups = new.debug_loc_fixups;
      debug_loclists_fixups = new.debug_loclists_fixups;
    } in t) h

module _ {W : Type 0} (meaning : W → Meaning) (before old new : Sections W) (d : DwarfValue) (vs : List UnitValue) (ws : List WrittenUnit) (kept : List Kept) (empty : AreNewPlain meaning before)
    (f : PendsFile meaning before old d.line_strings d.strings ws kept) where
  abbrev from : Ends
  from = ends_of meaning before

  abbrev left : List WrittenUnit
  left = left_in d

  abbrev all : List WrittenUnit
  all = ws ++ left

  -- all units stand in a row, and their references lead
  module _ (keeps : KeepPlaces d.units (written_from from ws) kept) (any : CompletesAny meaning old new d.units vs (found_in meaning old d)) where
    all_whole : Completes meaning before new (written_from (empty_ends true) all)
    all_whole =
        subst (λ e. Completes meaning before new (written_from e all)) (plain_ends meaning before empty)
        (file_completed meaning before old new d.line_strings d.strings d.units vs ws kept empty.fixups f keeps any)

  plain_before : HavePlainLists from
  plain_before = record { ranges = empty.writers.debug_ranges.plain; range_lists = empty.writers.debug_rnglists.plain; locations = empty.writers.debug_loc.plain; location_lists = empty.writers.debug_loclists.plain }

  -- their lists have no fault
  all_sounds : (plain : Bool) (at : ℕ) → AreWritable plain (found_in meaning old d) at d.units → All AreListsSound (units_in all)
  all_sounds plain at can =
      let plain_old = still_plain meaning before old ws (written_from from ws) kept f.pending f.parts plain_before in
      subst (All AreListsSound) (sym (units-append ws left)) (All-append AreListsSound (units_in ws) (units_in left) (f.parts.sound plain_before) (left_sound 0 (found_in meaning old d) plain at d.units can plain_old))

  -- the line programs of no unit stand behind those of all units
  all_lines : (big : Bool) (l : Layout) →
      followed (texts written_line ws big l) (followed (texts (new_text (line_text d.line_strings d.strings)) d.units big l) (texts (line_program_text d.strings d.line_strings) d.line_programs big l)) ≡ file_lines all d big l
  all_lines big l =
      let programs = texts (line_program_text d.strings d.line_strings) d.line_programs big l in
      ap (λ t. followed (texts written_line ws big l) (followed t programs)) (left_texts d.line_strings d.strings (line_text d.line_strings d.strings) written_line (λ n u big l. refl) big l 0 d.units)
      ∙ sym (followed_assoc (texts written_line ws big l) (texts written_line left big l) programs)
      ∙ ap (λ t. followed t programs) (sym (texts-append written_line ws left big l))

  all_ranges : (five big : Bool) (l : Layout) → followed (texts (written_ranges five) ws big l) (texts (new_text (range_text five)) d.units big l) ≡ texts (range_text five) (units_in all) big l
  all_ranges five big l =
      ap (followed (texts (written_ranges five) ws big l)) (left_texts d.line_strings d.strings (range_text five) (written_ranges five) (λ n u big l. refl) big l 0 d.units)
      ∙ sym (texts-append (written_ranges five) ws left big l)
      ∙ texts_of_units all
    where
      texts_of_units : (xs : List WrittenUnit) → texts (written_ranges five) xs big l ≡ texts (range_text five) (units_in xs) big l
      texts_of_units [] = refl
      texts_of_units (x ∷ xs) = ap (followed (range_text five x.unit big l)) (texts_of_units xs)

  all_found : AppendsAllRanges meaning old new d.units → All AreFound (units_in all)
  all_found ranges = subst (All AreFound) (sym (units-append ws left)) (All-append AreFound (units_in ws) (units_in left) f.parts.found (left_found d.line_strings d.strings 0 d.units ranges.found))

-- The sections hold all of them.
pub file_held : {W : Type 0} (meaning : W → Meaning) → ((w : W) → (meaning w).is_plain ≡ true → (meaning w).records ≡ []) → (old new : Sections W) (d : DwarfValue) (vs : List UnitValue) → CompletesAny meaning old new d.units vs (found_in meaning old d) →
    AddsLines meaning old new d → AppendsAllRanges meaning old new d.units → AreWritable (meaning old.debug_info.0).is_plain (found_in meaning old d) (meaning old.debug_abbrev.0).size d.units →
    AddsStrings meaning old new d.line_strings d.strings → KeepsOthers old new → HoldsWhole meaning old new d
file_held meaning law old new d vs any lines ranges can strings others before ws kept empty f keeps =
    let every = ws ++ left_in d in
    let w = all_whole meaning before old new d vs ws kept empty f keeps any in
    let sounds = all_sounds meaning before old new d vs ws kept empty f (meaning old.debug_info.0).is_plain (meaning old.debug_abbrev.0).size can in
    let own_lines = behind-as (behind-then f.parts.lines lines) refl (all_lines meaning before old new d vs ws kept empty f) in
    let own_ranges = Appends-as (Appends-then f.parts.ranges ranges.ranges) refl (all_ranges meaning before old new d vs ws kept empty f false) in
    let own_lists = Appends-as (Appends-then f.parts.range_lists ranges.range_lists) refl (all_ranges meaning before old new d vs ws kept empty f true) in
    let again = all_found meaning before old new d vs ws kept empty f ranges in
    let own_strings = strings_after meaning before old new d.line_strings d.strings (ap (λ s. s.debug_line_str) f.others) (ap (λ s. s.debug_str) f.others) strings in
    let held = texts_held meaning law before new empty (written_from (empty_ends true) every) (units_in every) (written_units (empty_ends true) every) w _ _ _ (file_lines every d) d sounds own_lines own_ranges own_lists again own_strings
    (others_behind before old new f.others others)
    in
    record {
      texts = held.0;
      are = held.1;
      told = held.2;
      stay = All-append (KeepsStrings d.line_strings d.strings) ws (left_in d) f.stay (left_stay d.line_strings d.strings 0 d.units);
    }
