-- Sets that writing a Dwarf left, each of its own, once they are joined.
use Rattle.std.specs.Prelude.{◌≡◌, ℕ, ◌+◌, Bool, true, false, List, [], ◌∷◌, Some}
use Rattle.std.specs.List.{flat_map}
use Rattle.dw_base.specs.declared.section_id.SectionId.{SectionId}
use Rattle.dw_base.specs.declared.section_id.SectionId.TheVariants.{DebugInfo, DebugLine, DebugRanges, DebugRngLists, DebugLoc, DebugLocLists}
use Rattle.dw_writer.specs.Texts.{Text, followed}
use Rattle.dw_writer.specs.Meaning.{Meaning, Model}
use Rattle.dw_writer.specs.declared.sections.Sections.{Sections}
use Rattle.dw_strings.specs.Strings.{string_bytes}
use Rattle.dw_writer.specs.Drafts.{filled_text}
use Rattle.dw_tree.specs.Built.{File, Built}
use Rattle.dw_tree.specs.Pending.{Kept, info_of, locations_draft}
use Rattle.dw_dwarf.specs.DwarfValue.{DwarfValue}
use Rattle.dw_dwarf.specs.Left.{units_of, IsLeft}
use Rattle.dw_dwarf.specs.Written.{dwarf_lines, dwarf_ranges}
use Rattle.dw_link.specs.Lists.{AreRows, FindRanges, FindLocations}
use Rattle.dw_link.specs.Sets.{Parts, sets_of, layout_in}

-- each set is as writing a Dwarf over new sections left it
abbrev pub AreLeft : {W : Type 0} → (W → Meaning) → Bool → List (Sections W) → List DwarfValue → Type 0
AreLeft meaning big [] [] = Unit {0}
AreLeft meaning big [] (d ∷ ds) = ⊥
AreLeft meaning big (s ∷ sets) [] = ⊥
AreLeft meaning big (s ∷ sets) (d ∷ ds) = IsLeft meaning big s d × AreLeft meaning big sets ds

module _ (sets : List Parts) (symbols : List ℕ) where
  -- their units, each set's where its parts stand in the joined sections; the first of them is set n
  abbrev pub files_from : ℕ → List DwarfValue → List File
  files_from n [] = []
  files_from n (d ∷ ds) = record { units = units_of d; layout = layout_in sets symbols n DebugInfo } ∷ files_from (n + 1) ds

  -- what each has in a section, where its parts stand
  abbrev pub texts_from : SectionId → (DwarfValue → Model) → Bool → ℕ → List DwarfValue → Text
  texts_from id text big n [] = Some []
  texts_from id text big n (d ∷ ds) = followed (text d big (layout_in sets symbols n id)) (texts_from id text big (n + 1) ds)

  -- their line programs
  abbrev pub lines_from : Bool → ℕ → List DwarfValue → Text
  lines_from big n ds = texts_from DebugLine dwarf_lines big n ds

  -- their range lists up to version 4, and those of version 5
  abbrev pub ranges_from : Bool → ℕ → List DwarfValue → Text
  ranges_from big n ds = texts_from DebugRanges (dwarf_ranges false) big n ds

  abbrev pub range_lists_from : Bool → ℕ → List DwarfValue → Text
  range_lists_from big n ds = texts_from DebugRngLists (dwarf_ranges true) big n ds

  -- their location lists in a section, where units keep these places, set by set
  abbrev pub locations_from : SectionId → Bool → Bool → ℕ → List DwarfValue → List (List Kept) → Text
  locations_from id five big n [] ks = Some []
  locations_from id five big n (d ∷ ds) [] = Some []
  locations_from id five big n (d ∷ ds) (k ∷ ks) =
      followed (filled_text (info_of (units_of d) k) (locations_draft (units_of d) five) big (layout_in sets symbols n id)) (locations_from id five big (n + 1) ds ks)

-- The joined sections of location lists are those of all sets: each reference from a list to an entry by its place in
-- .debug_info has that of the entry in its own set.
pub record LinkLocations {X : Type 0} (to : X → Meaning) (big : Bool) (sets : List Parts) (symbols : List ℕ) (ds : List DwarfValue) (joined : Sections X) : Type 0 where
  pub kept : List (List Kept)
  pub rows : AreRows ds kept
  pub locations : (bytes : List ℕ) → (to joined.debug_loc.0).bytes ≡ Some bytes → locations_from sets symbols DebugLoc false big 0 ds kept ≡ Some bytes
  pub location_lists : (bytes : List ℕ) → (to joined.debug_loclists.0).bytes ≡ Some bytes → locations_from sets symbols DebugLocLists true big 0 ds kept ≡ Some bytes

-- The joined sections are those of all: .debug_info and .debug_abbrev are read, to their last byte, as exactly the units of
-- all sets in order, each reference leading to an entry of its own set, and strings, line programs and lists named in the set's
-- own parts; and these parts hold what each set has. Where an attribute of a unit leads to in a joined section of lists, the list is
-- found that was built.
pub record LinksDwarfs {W X : Type 0} (from : W → Meaning) (to : X → Meaning) (big : Bool) (sets : List (Sections W)) (symbols : List ℕ) (ds : List DwarfValue) (joined : Sections X) : Type 0 where
  pub built : (info abbrevs : List ℕ) → (to joined.debug_info.0).bytes ≡ Some info → (to joined.debug_abbrev.0).bytes ≡ Some abbrevs → Built (files_from (sets_of from sets) symbols 0 ds) big info abbrevs
  pub lines : (bytes : List ℕ) → (to joined.debug_line.0).bytes ≡ Some bytes → lines_from (sets_of from sets) symbols big 0 ds ≡ Some bytes
  pub ranges : (bytes : List ℕ) → (to joined.debug_ranges.0).bytes ≡ Some bytes → ranges_from (sets_of from sets) symbols big 0 ds ≡ Some bytes
  pub range_lists : (bytes : List ℕ) → (to joined.debug_rnglists.0).bytes ≡ Some bytes → range_lists_from (sets_of from sets) symbols big 0 ds ≡ Some bytes
  pub found_ranges : (old new : List ℕ) → (to joined.debug_ranges.0).bytes ≡ Some old → (to joined.debug_rnglists.0).bytes ≡ Some new → FindRanges (layout_in (sets_of from sets) symbols) big old new ds
  pub locations : LinkLocations to big (sets_of from sets) symbols ds joined
  pub found_locations : (old new : List ℕ) → (to joined.debug_loc.0).bytes ≡ Some old → (to joined.debug_loclists.0).bytes ≡ Some new → FindLocations (layout_in (sets_of from sets) symbols) big old new ds
  pub strings : (bytes : List ℕ) → (to joined.debug_str.0).bytes ≡ Some bytes → flat_map (λ d. string_bytes d.strings) ds ≡ bytes
  pub line_strings : (bytes : List ℕ) → (to joined.debug_line_str.0).bytes ≡ Some bytes → flat_map (λ d. string_bytes d.line_strings) ds ≡ bytes
