-- What sections hold once a Dwarf was written into them.
use Rattle.std.specs.Prelude.{◌≡◌, ◌⊎◌, ℕ, ◌+◌, Bool, true, List, [], ◌∷◌, Some, false, take, length}
use Rattle.dw_base.specs.declared.section_id.SectionId.TheVariants.{DebugAbbrev, DebugInfo}
use Rattle.dw_writer.specs.Causes.{HasRisen}
use Rattle.dw_writer.specs.Contents.{Meaning}
use Rattle.dw_writer.specs.Texts.{followed}
use Rattle.dw_writer.specs.Drafts.{started, filled_text}
use Rattle.dw_writer.specs.Meaning.{Model, Adds}
use Rattle.dw_writer.specs.Layout.{Layout, start_of}
use Rattle.dw_writer.specs.Resolved.{resolved}
use Rattle.dw_writer.specs.New.{IsEmptyPlainWriter, IsEmptyWriter}
use Rattle.dw_writer.specs.Sections.{EachWriter, NoFixups}
use Rattle.dw_writer.specs.declared.sections.Sections.{Sections}
use Rattle.dw_line.specs.LinePrograms.{LineProgramValue, line_program_size, line_program_text}
use Rattle.dw_line.specs.Parts.{sizes, texts}
use Rattle.dw_tree.specs.Built.{Numbered, Built, at_begin, at_zero}
use Rattle.dw_tree.specs.Pending.{Kept, AreInRow, info_of, locations_draft}
use Rattle.dw_tree.specs.Elsewhere.{Elsewhere, line_size, line_text, range_text, new_size, new_text, AppendsBehind}
use Rattle.dw_tree.specs.UnitValue.{UnitValue}
use Rattle.dw_unit.specs.WrittenUnits.{AreKeptRead}
use Rattle.dw_strings.specs.Strings.{string_bytes}
use Rattle.dw_dwarf.specs.Valid.{found_from, empty_ends, settled_units}
use Rattle.dw_dwarf.specs.DwarfValue.{DwarfValue}
use Rattle.dw_dwarf.specs.Lists.{FindAllLists, FindAllLocations}

-- nothing was written yet: every writer is empty, and plain, in an order of its own
pub record AreNewPlain {W : Type 0} (meaning : W → Meaning) (s : Sections W) : Type 0 where
  pub writers : EachWriter (λ w. IsEmptyPlainWriter (meaning w) (meaning w).is_big) s
  pub fixups : NoFixups s

-- the same of writers of any kind, of the sections that units with their own parts are written into
pub record AreNew {W : Type 0} (meaning : W → Meaning) (s : Sections W) : Type 0 where
  pub info : IsEmptyWriter (meaning s.debug_info.0) (meaning s.debug_info.0).is_big
  pub abbrevs : IsEmptyWriter (meaning s.debug_abbrev.0) (meaning s.debug_abbrev.0).is_big
  pub lines : IsEmptyWriter (meaning s.debug_line.0) (meaning s.debug_line.0).is_big
  pub ranges : IsEmptyWriter (meaning s.debug_ranges.0) (meaning s.debug_ranges.0).is_big
  pub range_lists : IsEmptyWriter (meaning s.debug_rnglists.0) (meaning s.debug_rnglists.0).is_big
  pub locations : IsEmptyWriter (meaning s.debug_loc.0) (meaning s.debug_loc.0).is_big
  pub location_lists : IsEmptyWriter (meaning s.debug_loclists.0) (meaning s.debug_loclists.0).is_big
  pub kind : (meaning s.debug_line.0).is_plain ≡ (meaning s.debug_info.0).is_plain
  pub ranges_kind : (meaning s.debug_ranges.0).is_plain ≡ (meaning s.debug_info.0).is_plain
  pub range_lists_kind : (meaning s.debug_rnglists.0).is_plain ≡ (meaning s.debug_info.0).is_plain
  pub locations_kind : (meaning s.debug_loc.0).is_plain ≡ (meaning s.debug_info.0).is_plain
  pub location_lists_kind : (meaning s.debug_loclists.0).is_plain ≡ (meaning s.debug_info.0).is_plain
  pub fixups : NoFixups s

-- the bytes of the eleven sections
pub record SectionTexts : Type 0 where
  pub debug_abbrev : List ℕ
  pub debug_str : List ℕ
  pub debug_line_str : List ℕ
  pub debug_line : List ℕ
  pub debug_ranges : List ℕ
  pub debug_rnglists : List ℕ
  pub debug_loc : List ℕ
  pub debug_loclists : List ℕ
  pub debug_info : List ℕ
  pub debug_frame : List ℕ
  pub eh_frame : List ℕ

-- the line programs of units that are in use, and those of no unit behind them
abbrev pub dwarf_lines : DwarfValue → Model
dwarf_lines d big l =
    followed (texts (line_text d.line_strings d.strings) d.units big l) (texts (line_program_text d.strings d.line_strings) d.line_programs big l)

-- the range lists of units in the section of version 5, or in that of those before it
abbrev pub dwarf_ranges : Bool → DwarfValue → Model
dwarf_ranges five d = texts (range_text five) d.units

-- The byte orders of sections in which numbers of several bytes stand.
pub record Orders : Type 0 where
  pub info : Bool
  pub lines : Bool
  pub ranges : Bool
  pub range_lists : Bool
  pub locations : Bool
  pub location_lists : Bool

abbrev pub orders_of : {W : Type 0} → (W → Meaning) → Sections W → Orders
orders_of meaning s = record {
  info = (meaning s.debug_info.0).is_big;
  lines = (meaning s.debug_line.0).is_big;
  ranges = (meaning s.debug_ranges.0).is_big;
  range_lists = (meaning s.debug_rnglists.0).is_big;
  locations = (meaning s.debug_loc.0).is_big;
  location_lists = (meaning s.debug_loclists.0).is_big;
}

-- one order for all
abbrev pub one_order : Bool → Orders
one_order big = record { info = big; lines = big; ranges = big; range_lists = big; locations = big; location_lists = big }

-- Location lists of units in both sections, to their last byte. Each reference from them to an entry by its place in .debug_info
-- has the place where the entry stands there, and each list is found where attributes of its unit lead to, and read there as it
-- was built. The units are told as they stand, and as they were handed in.
pub record HoldListsOf (o : Orders) (us : List Numbered) (vs : List UnitValue) (at : Elsewhere) (t : SectionTexts) : Type 0 where
  pub kept : List Kept
  pub in_row : AreInRow at_begin us kept
  pub locations : filled_text (info_of us kept) (locations_draft us false) o.locations at_zero ≡ Some t.debug_loc
  pub location_lists : filled_text (info_of us kept) (locations_draft us true) o.location_lists at_zero ≡ Some t.debug_loclists
  pub found : FindAllLocations (record { is_big = o.locations; bytes = t.debug_loc }) (record { is_big = o.location_lists; bytes = t.debug_loclists }) (started (start_of at_zero DebugInfo) (info_of us kept)) at vs

-- These are the texts of units with the strings and further line programs of a Dwarf: .debug_info and .debug_abbrev are read, to
-- their last byte, as exactly the units, each of which names the places of its line program and of its lists, these line
-- programs, their range lists, their location lists and the strings stand in their sections, and there is nothing else. Where an
-- attribute of a unit leads to, the list is found that was built, and the places of entries in it are those where they are read.
pub record AreTextsFor (o : Orders) (us : List Numbered) (vs : List UnitValue) (programs : Model) (d : DwarfValue) (t : SectionTexts) : Type 0 where
  pub units : Built (record { units = us; layout = at_zero } ∷ []) o.info t.debug_info t.debug_abbrev
  pub strings : t.debug_str ≡ string_bytes d.strings
  pub line_strings : t.debug_line_str ≡ string_bytes d.line_strings
  pub lines : programs o.lines at_zero ≡ Some t.debug_line
  pub ranges : texts (range_text false) vs o.ranges at_zero ≡ Some t.debug_ranges
  pub range_lists : texts (range_text true) vs o.range_lists at_zero ≡ Some t.debug_rnglists
  pub lists : FindAllLists (record { is_big = o.ranges; bytes = t.debug_ranges }) (record { is_big = o.range_lists; bytes = t.debug_rnglists }) (found_from (empty_ends true) d) vs
  pub locations : HoldListsOf o us vs (found_from (empty_ends true) d) t
  pub places : AreKeptRead 0 us locations.kept (take (length us) units.read)
  pub frames : t.debug_frame ≡ []
  pub eh_frames : t.eh_frame ≡ []

-- of a Dwarf, whose units are written one after another
abbrev pub AreTextsOf : Orders → DwarfValue → SectionTexts → Type 0
AreTextsOf o d t = AreTextsFor o (settled_units (empty_ends true) d) d.units (dwarf_lines d) d t

-- the writers tell these bytes
pub record TellTexts {W : Type 0} (meaning : W → Meaning) (s : Sections W) (t : SectionTexts) : Type 0 where
  pub debug_abbrev : (meaning s.debug_abbrev.0).bytes ≡ Some t.debug_abbrev
  pub debug_str : (meaning s.debug_str.0).bytes ≡ Some t.debug_str
  pub debug_line_str : (meaning s.debug_line_str.0).bytes ≡ Some t.debug_line_str
  pub debug_line : (meaning s.debug_line.0).bytes ≡ Some t.debug_line
  pub debug_ranges : (meaning s.debug_ranges.0).bytes ≡ Some t.debug_ranges
  pub debug_rnglists : (meaning s.debug_rnglists.0).bytes ≡ Some t.debug_rnglists
  pub debug_loc : (meaning s.debug_loc.0).bytes ≡ Some t.debug_loc
  pub debug_loclists : (meaning s.debug_loclists.0).bytes ≡ Some t.debug_loclists
  pub debug_info : (meaning s.debug_info.0).bytes ≡ Some t.debug_info
  pub debug_frame : (meaning s.debug_frame.0).bytes ≡ Some t.debug_frame
  pub eh_frame : (meaning s.eh_frame.0).bytes ≡ Some t.eh_frame

-- the sections hold exactly this Dwarf
pub record HoldsDwarf {W : Type 0} (meaning : W → Meaning) (s : Sections W) (d : DwarfValue) : Type 0 where
  pub texts : SectionTexts
  pub are : AreTextsOf (orders_of meaning s) d texts
  pub told : TellTexts meaning s texts

-- The location lists of a Dwarf, in whatever layout its sections resolve: each reference from them to an entry by its place in
-- .debug_info has that of the entry in its unit, which stands in a row with the others.
pub record ResolveLocations {W : Type 0} (meaning : W → Meaning) (s : Sections W) (d : DwarfValue) : Type 0 where
  pub kept : List Kept
  pub in_row : AreInRow at_begin (settled_units (empty_ends true) d) kept
  pub locations : (l : Layout) (bytes : List ℕ) → resolved l (meaning s.debug_loc.0) ≡ Some bytes →
      filled_text (info_of (settled_units (empty_ends true) d) kept) (locations_draft (settled_units (empty_ends true) d) false) (meaning s.debug_loc.0).is_big l ≡ Some bytes
  pub location_lists : (l : Layout) (bytes : List ℕ) → resolved l (meaning s.debug_loclists.0) ≡ Some bytes →
      filled_text (info_of (settled_units (empty_ends true) d) kept) (locations_draft (settled_units (empty_ends true) d) true) (meaning s.debug_loclists.0).is_big l ≡ Some bytes

-- Once a linker has put every record's number in, where the two sections start at 0, they are read as exactly the units, with
-- the layout's values in the place of symbols, .debug_line is the line programs, and the sections of lists are these.
pub record ResolvesTo {W : Type 0} (meaning : W → Meaning) (s : Sections W) (d : DwarfValue) : Type 0 where
  pub built : (l : Layout) (info abbrevs : List ℕ) → start_of l DebugInfo ≡ 0 → start_of l DebugAbbrev ≡ 0 →
      resolved l (meaning s.debug_info.0) ≡ Some info → resolved l (meaning s.debug_abbrev.0) ≡ Some abbrevs →
      Built (record { units = settled_units (empty_ends true) d; layout = l } ∷ []) (meaning s.debug_info.0).is_big info abbrevs
  pub lines : (l : Layout) (bytes : List ℕ) → resolved l (meaning s.debug_line.0) ≡ Some bytes → dwarf_lines d (meaning s.debug_line.0).is_big l ≡ Some bytes
  pub ranges : (l : Layout) (bytes : List ℕ) → resolved l (meaning s.debug_ranges.0) ≡ Some bytes → dwarf_ranges false d (meaning s.debug_ranges.0).is_big l ≡ Some bytes
  pub range_lists : (l : Layout) (bytes : List ℕ) → resolved l (meaning s.debug_rnglists.0) ≡ Some bytes → dwarf_ranges true d (meaning s.debug_rnglists.0).is_big l ≡ Some bytes
  pub locations : ResolveLocations meaning s d

-- all but the sections of units with their own parts and of strings and the lists of fixups is as before
abbrev pub KeepsOthers : {W : Type 0} → Sections W → Sections W → Type 0
KeepsOthers old new =
    new ≡ record old {
      debug_abbrev = new.debug_abbrev;
      debug_str = new.debug_str;
      debug_line_str = new.debug_line_str;
      debug_line = new.debug_line;
      debug_ranges = new.debug_ranges;
      debug_rnglists = new.debug_rnglists;
      debug_loc = new.debug_loc;
      debug_loclists = new.debug_loclists;
      debug_info = new.debug_info;
      debug_info_fixups = new.debug_info_fixups;
      debug_loc_fixups = new.debug_loc_fixups;
      debug_loclists_fixups = new.debug_loclists_fixups;
    }

-- strings are added to their sections
pub record AddsStrings {W : Type 0} (meaning : W → Meaning) (old new : Sections W) (line_strings strings : List (List ℕ)) : Type 0 where
  pub lines : Adds (meaning old.debug_line_str.0) (meaning new.debug_line_str.0) (string_bytes line_strings)
  pub others : Adds (meaning old.debug_str.0) (meaning new.debug_str.0) (string_bytes strings)

-- line programs of no unit are added
abbrev pub AddsPrograms : {W : Type 0} → (W → Meaning) → Sections W → Sections W → List (List ℕ) → List (List ℕ) → List LineProgramValue → Type 0
AddsPrograms meaning old new line_strings strings programs =
    AppendsBehind (meaning old.debug_line.0) (meaning new.debug_line.0) (sizes line_program_size programs) (texts (line_program_text strings line_strings) programs)

-- line programs are added, those of units and behind them those of no unit
abbrev pub AddsLines : {W : Type 0} → (W → Meaning) → Sections W → Sections W → DwarfValue → Type 0
AddsLines meaning old new d =
    AppendsBehind (meaning old.debug_line.0) (meaning new.debug_line.0) (sizes (new_size line_size) d.units + sizes line_program_size d.line_programs)
    (λ big l. followed (texts (new_text (line_text d.line_strings d.strings)) d.units big l) (texts (line_program_text d.strings d.line_strings) d.line_programs big l))

-- all but the sections of line programs and of strings is as before
abbrev pub KeepsAllButRest : {W : Type 0} → Sections W → Sections W → Type 0
KeepsAllButRest old new = new ≡ record old { debug_str = new.debug_str; debug_line_str = new.debug_line_str; debug_line = new.debug_line }

-- a fault was counted in one of these sections
abbrev pub RestHasRisen : {W : Type 0} → (W → Meaning) → Sections W → Sections W → Type 0
RestHasRisen meaning old new =
    HasRisen (meaning old.debug_line.0) (meaning new.debug_line.0)
    ⊎ (HasRisen (meaning old.debug_line_str.0) (meaning new.debug_line_str.0) ⊎ HasRisen (meaning old.debug_str.0) (meaning new.debug_str.0))
