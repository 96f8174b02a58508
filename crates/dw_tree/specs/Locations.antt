-- The location lists of units, which hang on where the entries stand (DWARF 4, 2.6.2; DWARF 5, 2.6.2 and 7.29). References from
-- their expressions to entries by their place in .debug_info are left open until every unit stands.
use Rattle.std.specs.Prelude.{◌≡◌, ℕ, Bool, true, false, not, List, map, Option, Some, IsTrue, if◌then◌else◌}
use Rattle.dw_base.specs.declared.common.Encoding.{Encoding}
use Rattle.dw_base.specs.declared.error.Error.{Error}
use Rattle.dw_writer.specs.Drafts.{Draft, no_draft, all_drafts, IsDraft, Drafts}
use Rattle.dw_writer.specs.Meaning.{Meaning}
use Rattle.dw_writer.specs.declared.sections.Sections.{Sections}
use Rattle.dw_lists.specs.Causes.{table_fails}
use Rattle.dw_lists.specs.Items.{is_five}
use Rattle.dw_lists.specs.Tables.{IsReadAgain, table_draft, locations_in}
use Rattle.dw_lists.specs.declared.location.Location.{Location}
use Rattle.dw_entries.specs.Entries.{EntryValue}
use Rattle.dw_tree.specs.Places.{Placement, found}
use Rattle.dw_tree.specs.UnitValue.{UnitValue}
use Rattle.dw_tree.specs.Whole.{tree_places, IsTreePlacement}

-- a section of lists is that of version 5, or that of those before it, as the version of a unit is
abbrev pub is_own_section : Bool → Encoding → Bool
is_own_section true e = is_five e
is_own_section false e = not (is_five e)

-- Tables of location lists, where entries have these places

module _ (e : Encoding) (place : ℕ → Option ℕ) (xs : List (List Location)) where
  -- a table
  abbrev pub lists_draft : Draft
  lists_draft = table_draft true e place (locations_in xs)

  -- the part of it in a section
  abbrev pub lists_part : Bool → Draft
  lists_part five = if is_own_section five e then lists_draft else no_draft

  -- it has this fault, with a base in force or without one, in a writer that is plain or not
  abbrev pub lists_fail_in : Bool → Bool → Error → Bool
  lists_fail_in has_base is_plain err = table_fails true e (Some place) has_base is_plain (locations_in xs) err

-- where the entries of a tree stand, counted from its unit's first byte
abbrev pub places_in_tree : Encoding → List EntryValue → ℕ → Option ℕ
places_in_tree e es = found (tree_places e es)

-- Where the entries of a tree stand, one of its location lists has a fault.
pub record ListsFail (e : Encoding) (es : List EntryValue) (xs : List (List Location)) (has_base is_plain : Bool) (err : Error) : Type 0 where
  pub places : Placement
  pub placed : IsTreePlacement e es places
  pub fails : IsTrue (lists_fail_in e (places_in_tree e es) xs has_base is_plain err)

-- The text of a tree's location lists is as wide as they come to, and wherever it stands, each of them is found, in version 5 by
-- its offset entry, and read as it was built.
pub record AreListed (e : Encoding) (es : List EntryValue) (xs : List (List Location)) : Type 0 where
  pub draft : IsDraft (lists_draft e (places_in_tree e es) xs)
  pub again : IsReadAgain true e (places_in_tree e es) (locations_in xs)

-- Units as they are written

abbrev pub AreLocated : UnitValue → Type 0
AreLocated w = AreListed w.encoding w.entries w.locations

abbrev pub entry_places : UnitValue → ℕ → Option ℕ
entry_places w = places_in_tree w.encoding w.entries

abbrev pub location_draft : UnitValue → Draft
location_draft w = lists_draft w.encoding (entry_places w) w.locations

abbrev pub location_part : Bool → UnitValue → Draft
location_part five w = lists_part w.encoding (entry_places w) w.locations five

-- those of units one behind another
abbrev pub location_drafts : Bool → List UnitValue → Draft
location_drafts five ws = all_drafts (map (location_part five) ws)

-- Location lists are added to the section of their version, and nothing to the other one.
pub record DraftLocations {W : Type 0} (meaning : W → Meaning) (old new : Sections W) (part : Bool → Draft) : Type 0 where
  pub locations : Drafts (meaning old.debug_loc.0) (meaning new.debug_loc.0) old.debug_loc_fixups new.debug_loc_fixups (part false)
  pub location_lists : Drafts (meaning old.debug_loclists.0) (meaning new.debug_loclists.0) old.debug_loclists_fixups new.debug_loclists_fixups (part true)

-- The location lists of a tree are added, and are found where they stand.
pub record AppendsLists {W : Type 0} (meaning : W → Meaning) (old new : Sections W) (e : Encoding) (es : List EntryValue) (xs : List (List Location)) : Type 0 where
  pub located : AreListed e es xs
  pub drafts : DraftLocations meaning old new (lists_part e (places_in_tree e es) xs)

-- those of a unit that is written
abbrev pub AppendsLocations : {W : Type 0} → (W → Meaning) → Sections W → Sections W → UnitValue → Type 0
AppendsLocations meaning old new w = AppendsLists meaning old new w.encoding w.entries w.locations

-- all but the two sections and their references stays
abbrev pub KeepsAllButLocations : {W : Type 0} → Sections W → Sections W → Type 0
KeepsAllButLocations old new = new ≡ record old {
  debug_loc = new.debug_loc;
  debug_loclists = new.debug_loclists;
  debug_loc_fixups = new.debug_loc_fixups;
  debug_loclists_fixups = new.debug_loclists_fixups;
}
