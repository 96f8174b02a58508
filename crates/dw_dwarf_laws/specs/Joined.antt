-- Dwarfs that a plain writer takes behind what their sections already hold, as a linker joins the sections of several.
use Rattle.std.specs.Prelude.{ℕ, Bool, true, ◌&&◌, List, IsTrue, if◌then◌else◌}
use Rattle.std.specs.List.{list_all}
use Rattle.dw_base.specs.Numbers.{word_of}
use Rattle.dw_base.specs.declared.section_id.SectionId.{SectionId}
use Rattle.dw_base.specs.declared.section_id.SectionId.TheVariants.{DebugAbbrev, DebugLine, DebugRanges, DebugRngLists, DebugLoc, DebugLocLists, DebugInfo}
use Rattle.dw_tree.specs.Built.{Starts}
use Rattle.dw_tree.specs.Elsewhere.{End, Ends}
use Rattle.dw_tree.specs.UnitValue.{UnitValue}
use Rattle.dw_tree.specs.Whole.{lines_in_use, settled}
use Rattle.dw_dwarf.specs.DwarfValue.{DwarfValue}
use Rattle.dw_dwarf.specs.Valid.{IsValidAt}
use Rattle.dw_dwarf_laws.specs.LineStrings.{line_program_fits}
use Rattle.dw_dwarf_laws.specs.Values.{value_fits, tree_passes, has_no_macros}

-- where units and their tables are to begin
abbrev pub starts_in : (SectionId → ℕ) → Starts
starts_in starts = record { info = starts DebugInfo; abbrevs = starts DebugAbbrev }

-- where a section of a plain writer ends
abbrev pub plain_end : ℕ → End
plain_end n = record { size = n; is_plain = true }

-- where the other parts of units are to begin
abbrev pub ends_in : (SectionId → ℕ) → Ends
ends_in starts = record {
  lines = plain_end (starts DebugLine);
  ranges = plain_end (starts DebugRanges);
  range_lists = plain_end (starts DebugRngLists);
  locations = plain_end (starts DebugLoc);
  location_lists = plain_end (starts DebugLocLists);
}

module _ (starts : SectionId → ℕ) (strings line_strings : List (List ℕ)) where
  -- the place of each string that a unit's tree names has room in a word
  abbrev pub tree_strings_fit : UnitValue → Bool
  tree_strings_fit u = tree_passes (value_fits starts strings line_strings (word_of u.encoding.format)) (settled u).entries

  -- so has that of each one in its line program, where this is in use
  abbrev pub line_strings_fit : UnitValue → Bool
  line_strings_fit u = if lines_in_use u then line_program_fits starts strings line_strings u.line_program else true

  abbrev pub unit_strings_fit : UnitValue → Bool
  unit_strings_fit u = tree_strings_fit u && line_strings_fit u

-- the places of all strings that a Dwarf names have room, counted from the begins of the sections
abbrev pub strings_fit : (SectionId → ℕ) → DwarfValue → Bool
strings_fit starts d = list_all (unit_strings_fit starts d.strings d.line_strings) d.units && list_all (line_program_fits starts d.strings d.line_strings) d.line_programs

-- no unit leads into a section of macros
abbrev pub leads_to_no_macros : DwarfValue → Bool
leads_to_no_macros d = list_all (λ u. has_no_macros (settled u).entries) d.units

-- Where its parts of the sections begin there, a Dwarf is valid for plain writers, and each place fits its field, that of a string
-- too. It leads into no section that isn't joined.
pub record IsValidBehind (starts : SectionId → ℕ) (d : DwarfValue) : Type 0 where
  pub valid : IsValidAt true (starts_in starts) (ends_in starts) d
  pub strings : IsTrue (strings_fit starts d)
  pub macros : IsTrue (leads_to_no_macros d)
