-- Range lists and location lists in joined sections (DWARF 4, 2.6.2 and 2.17.3; DWARF 5, 2.6.2, 2.17.3, 7.28 and 7.29).
use Rattle.std.specs.Prelude.{◌≡◌, ◌⊎◌, ℕ, ◌+◌, ◌==◌, ◌&&◌, not, Bool, true, false, List, [], ◌∷◌, All, map, Some, IsTrue, slice_get, if◌then◌else◌}
use Rattle.std.specs.Option.{option_map}
use Rattle.dw_base.specs.declared.section_id.SectionId.{SectionId}
use Rattle.dw_base.specs.declared.section_id.SectionId.TheVariants.{DebugInfo, DebugRanges, DebugRngLists, DebugLoc, DebugLocLists}
use Rattle.dw_writer.specs.Drafts.{Info, left_open, started}
use Rattle.dw_writer.specs.Layout.{Layout, start_of}
use Rattle.dw_lists.specs.Items.{Span, Pair, marker, is_five}
use Rattle.dw_lists.specs.Parts.{Part}
use Rattle.dw_lists.specs.Texts.{span_in}
use Rattle.dw_lists.specs.Tables.{Offsets, IsFound, AreNumbered, no_place, ranges_in, locations_in}
use Rattle.dw_tree.specs.Built.{at_begin}
use Rattle.dw_tree.specs.Elsewhere.{Elsewhere, past_parts, range_places, location_places}
use Rattle.dw_tree.specs.Locations.{entry_places}
use Rattle.dw_tree.specs.Pending.{Kept, AreInRow, info_of}
use Rattle.dw_tree.specs.UnitValue.{UnitValue}
use Rattle.dw_tree.specs.Whole.{settled}
use Rattle.dw_dwarf.specs.DwarfValue.{DwarfValue}
use Rattle.dw_dwarf.specs.Left.{units_of}
use Rattle.dw_dwarf.specs.Valid.{found_from, empty_ends}

-- A joined section, the byte order of its numbers, and the layout of a set whose part of it starts at the layout's own start.
pub record Joined : Type 0 where
  pub is_big : Bool
  pub bytes : List ℕ
  pub layout : Layout

-- where the lists of a set's table stand in a joined section, in which the set's part starts there
abbrev pub counted_from : ℕ → Offsets → Offsets
counted_from start at = record { base = option_map (λ n. n + start) at.base; places = map (λ n. n + start) at.places }

-- Up to version 4 two equal numbers could be what closes a list, and behind a marker stands a base.
abbrev pub is_apart : ℕ → Span → Bool
is_apart w (Pair m n) = not (m == n) && not (m == marker w)
is_apart w s = true

-- so the numbers of an item, with the values of symbols, are told apart from both
abbrev pub IsApart : Layout → ℕ → Part → Type 0
IsApart l w p = (s : Span) → span_in false l p.range ≡ Some s → IsTrue (is_apart w s)

abbrev pub AreApart : Layout → ℕ → List Part → Type 0
AreApart l w ps = All (IsApart l w) ps

-- A list can be read again: in version 5 always, and up to version 4 where it has no symbols, or its numbers are told apart with
-- their values.
abbrev pub CanBeRead : Layout → UnitValue → List Part → Type 0
CanBeRead l u x = (is_five u.encoding ≡ true) ⊎ (AreNumbered x ⊎ AreApart l u.encoding.address_size x)

-- Each range list of a unit is found in a section where the unit's attributes lead to, which find this elsewhere in the set's own
-- parts: at its place up to version 4, in version 5 by the offset entry of its number behind the base, both counted from the joined
-- section's start. It is read there as it was built, with the values of symbols.
abbrev pub FindsRangesIn : Joined → Elsewhere → UnitValue → Type 0
FindsRangesIn s found u =
    (i : ℕ) (x : List Part) → slice_get (ranges_in u.ranges) i ≡ Some x → CanBeRead s.layout u x →
    IsFound false u.encoding no_place left_open s.is_big s.layout s.bytes (counted_from s.layout.own_start (range_places found u)) i x

-- The same of its location lists, where references from them lead to these places of entries in the set's own .debug_info.
abbrev pub FindsLocationsIn : Joined → Info → Elsewhere → UnitValue → Type 0
FindsLocationsIn s info found u =
    (i : ℕ) (x : List Part) → slice_get (locations_in u.locations) i ≡ Some x → CanBeRead s.layout u x →
    IsFound true u.encoding (entry_places (settled u)) (started (start_of s.layout DebugInfo) info) s.is_big s.layout s.bytes (counted_from s.layout.own_start (location_places found u)) i x

-- Both in the joined sections of lists up to version 4, and of version 5.
module _ (old new : Joined) where
  -- the one of a unit's version
  abbrev pub joined_of : UnitValue → Joined
  joined_of u = if is_five u.encoding then new else old

  abbrev pub FindsRanges : Elsewhere → UnitValue → Type 0
  FindsRanges found u = FindsRangesIn (joined_of u) found u

  -- those of units, whose lists stand one behind another
  abbrev pub FindAllRanges : Elsewhere → List UnitValue → Type 0
  FindAllRanges found [] = Unit {0}
  FindAllRanges found (u ∷ us) = FindsRanges found u × FindAllRanges (past_parts found u) us

  abbrev pub FindsLocations : Info → Elsewhere → UnitValue → Type 0
  FindsLocations info found u = FindsLocationsIn (joined_of u) info found u

  abbrev pub FindAllLocations : Info → Elsewhere → List UnitValue → Type 0
  FindAllLocations info found [] = Unit {0}
  FindAllLocations info found (u ∷ us) = FindsLocations info found u × FindAllLocations info (past_parts found u) us

-- the units of each set stand in a row
abbrev pub AreRows : List DwarfValue → List (List Kept) → Type 0
AreRows [] [] = Unit {0}
AreRows [] (k ∷ ks) = ⊥
AreRows (d ∷ ds) [] = ⊥
AreRows (d ∷ ds) (k ∷ ks) = AreInRow at_begin (units_of d) k × AreRows ds ks

-- Sets, each with its layout in every section, which are joined to these sections of lists up to version 4, and of version 5

module _ (layout : ℕ → SectionId → Layout) (big : Bool) (old new : List ℕ) where
  -- each as set n lies in it
  abbrev pub old_in : ℕ → SectionId → Joined
  old_in n id = record { is_big = big; bytes = old; layout = layout n id }

  abbrev pub new_in : ℕ → SectionId → Joined
  new_in n id = record { is_big = big; bytes = new; layout = layout n id }

  -- the range lists of these sets are found, of which the first is set n
  abbrev pub FindRangesFrom : ℕ → List DwarfValue → Type 0
  FindRangesFrom n [] = Unit {0}
  FindRangesFrom n (d ∷ ds) = FindAllRanges (old_in n DebugRanges) (new_in n DebugRngLists) (found_from (empty_ends true) d) d.units × FindRangesFrom (n + 1) ds

  -- so are their location lists, where units keep these places, set by set
  abbrev pub FindLocationsFrom : ℕ → List DwarfValue → List (List Kept) → Type 0
  FindLocationsFrom n [] ks = Unit {0}
  FindLocationsFrom n (d ∷ ds) [] = Unit {0}
  FindLocationsFrom n (d ∷ ds) (k ∷ ks) =
      FindAllLocations (old_in n DebugLoc) (new_in n DebugLocLists) (info_of (units_of d) k) (found_from (empty_ends true) d) d.units × FindLocationsFrom (n + 1) ds ks

-- The range lists of sets are found in sections up to version 4, and of version 5.
abbrev pub FindRanges : (ℕ → SectionId → Layout) → Bool → List ℕ → List ℕ → List DwarfValue → Type 0
FindRanges layout big old new ds = FindRangesFrom layout big old new 0 ds

-- So are their location lists. Each reference from a list to an entry by its place in .debug_info has that of the entry in its own
-- set.
pub record FindLocations (layout : ℕ → SectionId → Layout) (big : Bool) (old new : List ℕ) (ds : List DwarfValue) : Type 0 where
  pub kept : List (List Kept)
  pub rows : AreRows ds kept
  pub found : FindLocationsFrom layout big old new 0 ds kept
