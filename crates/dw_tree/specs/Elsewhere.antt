-- What units find and leave in other sections than .debug_info and .debug_abbrev: strings, which stand in the end, and line
-- programs, range lists and location lists, each of which stand where those before them end (DWARF 5, 2.6.2, 2.17.3, 6.2 and
-- 7.5.5).
use Rattle.std.specs.Prelude.{◌≡◌, [], ℕ, ◌+◌, Bool, true, false, not, ◌==◌, ◌&&◌, ◌||◌, List, All, Option, Some, None, IsFalse, length, nat_lt, slice_get, if◌then◌else◌}
use Rattle.dw_base.specs.Numbers.{when}
use Rattle.dw_base.specs.declared.address.Address.TheVariants.{Constant}
use Rattle.dw_base.specs.declared.common.Encoding.{Encoding}
use Rattle.dw_lists.specs.declared.location.Location.{Location}
use Rattle.dw_base.specs.declared.constants.TheConstants.{DW_AT_low_pc}
use Rattle.dw_base.specs.declared.error.Error.{Error}
use Rattle.dw_base.specs.declared.section_id.SectionId.{SectionId}
use Rattle.dw_base.specs.declared.section_id.SectionId.TheVariants.{DebugStr, DebugLineStr, DebugLine, DebugRanges, DebugRngLists, DebugLoc, DebugLocLists}
use Rattle.dw_writer.specs.Drafts.{Draft, open_text}
use Rattle.dw_writer.specs.Meaning.{Meaning, Model, IsTidy, Appends}
use Rattle.dw_writer.specs.declared.sections.Sections.{Sections}
use Rattle.dw_lists.specs.Causes.{table_fails}
use Rattle.dw_lists.specs.Items.{is_five}
use Rattle.dw_lists.specs.Tables.{Offsets as ListOffsets, IsReadAgain, table_draft, offsets_from, no_place, ranges_in, locations_in}
use Rattle.dw_strings.specs.Strings.{string_place}
use Rattle.dw_entries.specs.declared.value.AttributeValue.{AttributeValue}
use Rattle.dw_entries.specs.declared.value.AttributeValue.TheVariants as values
use Rattle.dw_entries.specs.Entries.{EntryValue, value_of}
use Rattle.dw_entries.specs.Targets.{Tables}
use Rattle.dw_line.specs.LinePrograms.{line_program_size, line_program_text, line_program_fails}
use Rattle.dw_line.specs.Parts.{sizes, texts, KeepsFront}
use Rattle.dw_tree.specs.Locations.{is_own_section, lists_fail_in, places_in_tree, entry_places, location_part}
use Rattle.dw_tree.specs.UnitValue.{UnitValue}
use Rattle.dw_tree.specs.Whole.{lines_in_use, settled}

-- where a string of a table begins in its section, if it is there
abbrev pub string_there : List (List ℕ) → ℕ → Option ℕ
string_there strings i = when (nat_lt i (length strings)) (Some (string_place strings i))

-- Where what a unit leaves elsewhere stands that hangs on no place of its entries: its line program, if it has one, and its
-- range lists.
pub record PartPlaces : Type 0 where
  pub line_program : Option ℕ
  pub ranges : ListOffsets

-- The same with its location lists.
pub record OwnPlaces : Type 0 where
  pub line_program : Option ℕ
  pub ranges : ListOffsets
  pub locations : ListOffsets

abbrev pub with_locations : PartPlaces → ListOffsets → OwnPlaces
with_locations parts locations = record { line_program = parts.line_program; ranges = parts.ranges; locations = locations }

-- the strings of line programs, the others, and the lists of the unit, in the sections of its version
abbrev pub part_in : OwnPlaces → List (List ℕ) → List (List ℕ) → SectionId → ℕ → Option ℕ
part_in own line_strings strings DebugStr i = string_there strings i
part_in own line_strings strings DebugLineStr i = string_there line_strings i
part_in own line_strings strings DebugRanges i = slice_get own.ranges.places i
part_in own line_strings strings DebugRngLists i = slice_get own.ranges.places i
part_in own line_strings strings DebugLoc i = slice_get own.locations.places i
part_in own line_strings strings DebugLocLists i = slice_get own.locations.places i
part_in own line_strings strings section i = None

-- the unit's own line program, and the first offset entries of its lists, which they have in version 5
abbrev pub own_in : OwnPlaces → SectionId → Option ℕ
own_in own DebugLine = own.line_program
own_in own DebugRngLists = own.ranges.base
own_in own DebugLocLists = own.locations.base
own_in own section = None

-- what operands lead to, where the unit's own parts stand there
abbrev pub tables_in : OwnPlaces → List (List ℕ) → List (List ℕ) → Tables
tables_in own line_strings strings = record { part = part_in own line_strings strings; own = own_in own }

-- what the operands of a tree lead to, whose location lists are to begin there
abbrev pub tree_tables : Encoding → List EntryValue → PartPlaces → List (List Location) → ℕ → List (List ℕ) → List (List ℕ) → Tables
tree_tables e es parts xs at line_strings strings =
    tables_in (with_locations parts (offsets_from true e (places_in_tree e es) at (locations_in xs))) line_strings strings

-- Where a section ends that is being added to, and whether its writer is plain.
pub record End : Type 0 where
  pub size : ℕ
  pub is_plain : Bool

abbrev pub end_of : Meaning → End
end_of m = record { size = m.size; is_plain = m.is_plain }

-- The same of the sections of line programs, of range lists and of location lists, each up to version 4, and of version 5.
pub record Ends : Type 0 where
  pub lines : End
  pub ranges : End
  pub range_lists : End
  pub locations : End
  pub location_lists : End

abbrev pub ends_of : {W : Type 0} → (W → Meaning) → Sections W → Ends
ends_of meaning s = record {
  lines = end_of (meaning s.debug_line.0);
  ranges = end_of (meaning s.debug_ranges.0);
  range_lists = end_of (meaning s.debug_rnglists.0);
  locations = end_of (meaning s.debug_loc.0);
  location_lists = end_of (meaning s.debug_loclists.0);
}

-- What a unit finds elsewhere: the strings of its file, and where its own parts of other sections are to stand.
pub record Elsewhere : Type 0 where
  pub line_strings : List (List ℕ)
  pub strings : List (List ℕ)
  pub ends : Ends

abbrev pub elsewhere : {W : Type 0} → (W → Meaning) → Sections W → List (List ℕ) → List (List ℕ) → Elsewhere
elsewhere meaning s line_strings strings = record { line_strings = line_strings; strings = strings; ends = ends_of meaning s }

-- Line programs

-- the place of the unit's line program, where it is in use
abbrev pub line_place : Elsewhere → UnitValue → Option ℕ
line_place t u = when (lines_in_use u) (Some t.ends.lines.size)

-- the unit's line program, where it is in use
abbrev pub line_size : UnitValue → ℕ
line_size u = if lines_in_use u then line_program_size u.line_program else 0

abbrev pub line_text : List (List ℕ) → List (List ℕ) → UnitValue → Model
line_text line_strings strings u big l = if lines_in_use u then line_program_text strings line_strings u.line_program big l else Some []

abbrev pub line_fails : Elsewhere → UnitValue → Error → Bool
line_fails t u err = lines_in_use u && line_program_fails t.strings t.line_strings t.ends.lines.is_plain u.encoding u.line_program err

-- it has no fault
abbrev pub LinesAreSound : Elsewhere → UnitValue → Type 0
LinesAreSound t u = (err : Error) → IsFalse (line_fails t u err)

-- Range lists

-- A root's address puts a base in force, unless it is a constant 0 (DWARF 4, 2.17.3).
abbrev pub is_base_address : Option AttributeValue → Bool
is_base_address None = false
is_base_address (Some (values.Address (Constant n))) = not (n == 0)
is_base_address (Some v) = true

-- the root of these entries has such an address
abbrev pub has_base_address : List EntryValue → Bool
has_base_address es = is_base_address (value_of es 0 DW_AT_low_pc.0)

-- where they are to begin in the section of their version
abbrev pub ranges_at : Elsewhere → UnitValue → ℕ
ranges_at t u = if is_five u.encoding then t.ends.range_lists.size else t.ends.ranges.size

-- whether its writer is plain
abbrev pub ranges_plain : Elsewhere → UnitValue → Bool
ranges_plain t u = if is_five u.encoding then t.ends.range_lists.is_plain else t.ends.ranges.is_plain

-- where they stand behind so many bytes
abbrev pub range_places_at : ℕ → UnitValue → ListOffsets
range_places_at at u = offsets_from false u.encoding no_place at (ranges_in u.ranges)

abbrev pub range_places : Elsewhere → UnitValue → ListOffsets
range_places t u = range_places_at (ranges_at t u) u

-- their table
abbrev pub range_draft : UnitValue → Draft
range_draft u = table_draft false u.encoding no_place (ranges_in u.ranges)

-- the part of it in a section
abbrev pub range_size : Bool → UnitValue → ℕ
range_size five u = if is_own_section five u.encoding then (range_draft u).size else 0

abbrev pub range_text : Bool → UnitValue → Model
range_text five u big l = if is_own_section five u.encoding then open_text (range_draft u) big l else Some []

-- they have this fault in a writer that is plain or not
abbrev pub ranges_fail_in : Bool → UnitValue → Error → Bool
ranges_fail_in is_plain u err = table_fails false u.encoding None (has_base_address u.entries) is_plain (ranges_in u.ranges) err

abbrev pub ranges_fail : Elsewhere → UnitValue → Error → Bool
ranges_fail t u err = ranges_fail_in (ranges_plain t u) u err

-- they have no fault
abbrev pub RangesAreSound : Elsewhere → UnitValue → Type 0
RangesAreSound t u = (err : Error) → IsFalse (ranges_fail t u err)

-- Location lists, which stand as those of the unit that is written, the settled one

-- where they are to begin in the section of their version
abbrev pub locations_at : Elsewhere → UnitValue → ℕ
locations_at t u = if is_five u.encoding then t.ends.location_lists.size else t.ends.locations.size

-- whether its writer is plain
abbrev pub locations_plain : Elsewhere → UnitValue → Bool
locations_plain t u = if is_five u.encoding then t.ends.location_lists.is_plain else t.ends.locations.is_plain

-- where they stand
abbrev pub location_places : Elsewhere → UnitValue → ListOffsets
location_places t u = offsets_from true u.encoding (entry_places (settled u)) (locations_at t u) (locations_in u.locations)

-- the part of their table in a section
abbrev pub location_size : Bool → UnitValue → ℕ
location_size five u = (location_part five (settled u)).size

-- they have this fault
abbrev pub locations_fail : Elsewhere → UnitValue → Error → Bool
locations_fail t u err = lists_fail_in u.encoding (entry_places (settled u)) u.locations (has_base_address u.entries) (locations_plain t u) err

-- they have none
abbrev pub LocationsAreSound : Elsewhere → UnitValue → Type 0
LocationsAreSound t u = (err : Error) → IsFalse (locations_fail t u err)

-- All

-- where those stand that hang on no place of an entry
abbrev pub part_places : Elsewhere → UnitValue → PartPlaces
part_places t u = record { line_program = line_place t u; ranges = range_places t u }

-- where they stand
abbrev pub own_places : Elsewhere → UnitValue → OwnPlaces
own_places t u = with_locations (part_places t u) (location_places t u)

-- what the operands of a unit lead to
abbrev pub unit_tables : Elsewhere → UnitValue → Tables
unit_tables t u = tables_in (own_places t u) t.line_strings t.strings

-- one of those has this fault that hang on no place of an entry
abbrev pub parts_fail : Elsewhere → UnitValue → Error → Bool
parts_fail t u err = line_fails t u err || ranges_fail t u err

-- none has
abbrev pub PartsAreSound : Elsewhere → UnitValue → Type 0
PartsAreSound t u = (err : Error) → IsFalse (parts_fail t u err)

abbrev pub past_end : End → ℕ → End
past_end e n = record e { size = e.size + n }

-- where the sections end behind the unit's parts
abbrev pub past_ends : Ends → UnitValue → Ends
past_ends e u = record {
  lines = past_end e.lines (line_size u);
  ranges = past_end e.ranges (range_size false u);
  range_lists = past_end e.range_lists (range_size true u);
  locations = past_end e.locations (location_size false u);
  location_lists = past_end e.location_lists (location_size true u);
}

-- what the unit behind this one finds
abbrev pub past_parts : Elsewhere → UnitValue → Elsewhere
past_parts t u = record t { ends = past_ends t.ends u }

-- a unit that was written before adds nothing
abbrev pub new_size : (UnitValue → ℕ) → UnitValue → ℕ
new_size size u = if u.is_written then 0 else size u

abbrev pub new_text : (UnitValue → Model) → UnitValue → Model
new_text text u big l = if u.is_written then Some [] else text u big l

abbrev pub past_elsewhere : Elsewhere → UnitValue → Elsewhere
past_elsewhere t u = if u.is_written then t else past_parts t u

-- A text is added behind what a writer holds, which stays in front of it, byte for byte.
pub record AppendsBehind (old new : Meaning) (size : ℕ) (text : Model) : Type 0 where
  pub text_is : Appends old new size text
  pub front : IsTidy old → KeepsFront old new

-- The line program of a unit, where it is in use, is added.
abbrev pub AppendsLine : {W : Type 0} → (W → Meaning) → Sections W → Sections W → List (List ℕ) → List (List ℕ) → UnitValue → Type 0
AppendsLine meaning old new line_strings strings u =
    AppendsBehind (meaning old.debug_line.0) (meaning new.debug_line.0) (line_size u) (line_text line_strings strings u)

-- So are those of units that weren't written before, in the order of the units.
abbrev pub AppendsLines : {W : Type 0} → (W → Meaning) → Sections W → Sections W → List (List ℕ) → List (List ℕ) → List UnitValue → Type 0
AppendsLines meaning old new line_strings strings us =
    AppendsBehind (meaning old.debug_line.0) (meaning new.debug_line.0) (sizes (new_size line_size) us) (texts (new_text (line_text line_strings strings)) us)

-- Wherever the text of a unit's range lists stands, each of them is found, in version 5 by its offset entry, and read as it was
-- built.
abbrev pub AreFound : UnitValue → Type 0
AreFound u = IsReadAgain false u.encoding no_place (ranges_in u.ranges)

-- so are those of units that weren't written before
abbrev pub AreAllFound : List UnitValue → Type 0
AreAllFound us = All (λ u. u.is_written ≡ false → AreFound u) us

-- The range lists of a unit are added to the section of its version, and nothing to the other one. They are found there.
pub record AppendsRanges {W : Type 0} (meaning : W → Meaning) (old new : Sections W) (u : UnitValue) : Type 0 where
  pub found : AreFound u
  pub ranges : Appends (meaning old.debug_ranges.0) (meaning new.debug_ranges.0) (range_size false u) (range_text false u)
  pub range_lists : Appends (meaning old.debug_rnglists.0) (meaning new.debug_rnglists.0) (range_size true u) (range_text true u)

-- So are those of units that weren't written before, in the order of the units.
pub record AppendsAllRanges {W : Type 0} (meaning : W → Meaning) (old new : Sections W) (us : List UnitValue) : Type 0 where
  pub found : AreAllFound us
  pub ranges : Appends (meaning old.debug_ranges.0) (meaning new.debug_ranges.0) (sizes (new_size (range_size false)) us) (texts (new_text (range_text false)) us)
  pub range_lists : Appends (meaning old.debug_rnglists.0) (meaning new.debug_rnglists.0) (sizes (new_size (range_size true)) us) (texts (new_text (range_text true)) us)

-- what the line programs and range lists of units are written into may change, and nothing else
abbrev pub KeepsAllButParts : {W : Type 0} → Sections W → Sections W → Type 0
KeepsAllButParts old new = new ≡ record old { debug_line = new.debug_line; debug_ranges = new.debug_ranges; debug_rnglists = new.debug_rnglists }
