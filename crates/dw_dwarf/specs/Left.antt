-- What writing a Dwarf leaves in sections that were new, of any kind, as a linker finds it.
use Rattle.std.specs.Prelude.{◌≡◌, ℕ, Bool, true, List, All, Some, false}
use Rattle.dw_writer.specs.Drafts.{filled_text}
use Rattle.dw_writer.specs.Layout.{Layout}
use Rattle.dw_writer.specs.Meaning.{Meaning, IsTidy}
use Rattle.dw_writer.specs.Resolved.{resolved}
use Rattle.dw_writer.specs.declared.sections.Sections.{Sections}
use Rattle.dw_strings.specs.Strings.{string_bytes}
use Rattle.dw_tree.specs.Built.{Numbered, at_begin}
use Rattle.dw_tree.specs.Elsewhere.{AreFound}
use Rattle.dw_tree.specs.Locations.{AreLocated}
use Rattle.dw_tree.specs.Pending.{Kept, AreInRow, info_of, units_draft, tables_of, locations_draft}
use Rattle.dw_dwarf.specs.DwarfValue.{DwarfValue}
use Rattle.dw_dwarf.specs.Valid.{empty_ends, settled_units}
use Rattle.dw_dwarf.specs.Written.{dwarf_lines, dwarf_ranges}

-- its units as they are written into sections of their own; that these take symbols or not makes no difference to them
abbrev pub units_of : DwarfValue → List Numbered
units_of d = settled_units (empty_ends true) d

-- Wherever the sections come to stand and whatever symbols are, what resolves in them is the units with the places that they
-- keep, their tables, the line programs, the range lists, the location lists and the strings. Wherever the text of a table of
-- lists stands, each list is found there and read as it was built.
pub record IsLeft {W : Type 0} (meaning : W → Meaning) (big : Bool) (s : Sections W) (d : DwarfValue) : Type 0 where
  pub kept : List Kept
  pub in_row : AreInRow at_begin (units_of d) kept
  pub info : (l : Layout) (xs : List ℕ) → resolved l (meaning s.debug_info.0) ≡ Some xs → filled_text (info_of (units_of d) kept) (units_draft (units_of d) kept) big l ≡ Some xs
  pub abbrevs : (l : Layout) (xs : List ℕ) → resolved l (meaning s.debug_abbrev.0) ≡ Some xs → tables_of (units_of d) ≡ xs
  pub lines : (l : Layout) (xs : List ℕ) → resolved l (meaning s.debug_line.0) ≡ Some xs → dwarf_lines d big l ≡ Some xs
  pub ranges : (l : Layout) (xs : List ℕ) → resolved l (meaning s.debug_ranges.0) ≡ Some xs → dwarf_ranges false d big l ≡ Some xs
  pub range_lists : (l : Layout) (xs : List ℕ) → resolved l (meaning s.debug_rnglists.0) ≡ Some xs → dwarf_ranges true d big l ≡ Some xs
  pub locations : (l : Layout) (xs : List ℕ) → resolved l (meaning s.debug_loc.0) ≡ Some xs → filled_text (info_of (units_of d) kept) (locations_draft (units_of d) false) big l ≡ Some xs
  pub location_lists : (l : Layout) (xs : List ℕ) → resolved l (meaning s.debug_loclists.0) ≡ Some xs → filled_text (info_of (units_of d) kept) (locations_draft (units_of d) true) big l ≡ Some xs
  pub strings : (l : Layout) (xs : List ℕ) → resolved l (meaning s.debug_str.0) ≡ Some xs → string_bytes d.strings ≡ xs
  pub line_strings : (l : Layout) (xs : List ℕ) → resolved l (meaning s.debug_line_str.0) ≡ Some xs → string_bytes d.line_strings ≡ xs
  pub ranges_found : All AreFound d.units
  pub located : All (λ u. AreLocated u.unit) (units_of d)
  pub info_tidy : IsTidy (meaning s.debug_info.0)
  pub abbrevs_tidy : IsTidy (meaning s.debug_abbrev.0)
  pub ranges_tidy : IsTidy (meaning s.debug_ranges.0)
  pub range_lists_tidy : IsTidy (meaning s.debug_rnglists.0)
  pub locations_tidy : IsTidy (meaning s.debug_loc.0)
  pub location_lists_tidy : IsTidy (meaning s.debug_loclists.0)
