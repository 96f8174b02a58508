-- Range lists and location lists in finished sections (DWARF 4, 2.6.2 and 2.17.3; DWARF 5, 2.6.2, 2.17.3, 7.28 and 7.29).
use Rattle.std.specs.Prelude.{◌≡◌, ℕ, Bool, List, [], ◌∷◌, Some, slice_get, if◌then◌else◌, true, false}
use Rattle.dw_writer.specs.Drafts.{Info, left_open}
use Rattle.dw_lists.specs.Items.{is_five}
use Rattle.dw_lists.specs.Parts.{Part}
use Rattle.dw_lists.specs.Tables.{IsFound, no_place, ranges_in, locations_in}
use Rattle.dw_tree.specs.Built.{at_zero}
use Rattle.dw_tree.specs.Elsewhere.{Elsewhere, past_parts, range_places, location_places}
use Rattle.dw_tree.specs.Locations.{entry_places}
use Rattle.dw_tree.specs.UnitValue.{UnitValue}
use Rattle.dw_tree.specs.Whole.{settled}

-- A section, and the byte order of its numbers.
pub record InOrder : Type 0 where
  pub is_big : Bool
  pub bytes : List ℕ

-- in the sections of lists up to version 4, and of version 5
module _ (old new : InOrder) where
  -- the one of a unit's version
  abbrev pub section_of : UnitValue → InOrder
  section_of u = if is_five u.encoding then new else old

  -- Each range list of a unit is found where its attributes lead to, which find this elsewhere, and is read there as it was
  -- built: up to version 4 at its place, in version 5 by the offset entry of its number behind the base.
  abbrev pub FindsLists : Elsewhere → UnitValue → Type 0
  FindsLists found u =
      (i : ℕ) (x : List Part) → slice_get (ranges_in u.ranges) i ≡ Some x →
      IsFound false u.encoding no_place left_open (section_of u).is_big at_zero (section_of u).bytes (range_places found u) i x

  -- so is each list of units, whose lists stand one behind another
  abbrev pub FindAllLists : Elsewhere → List UnitValue → Type 0
  FindAllLists found [] = Unit {0}
  FindAllLists found (u ∷ us) = FindsLists found u × FindAllLists (past_parts found u) us

  -- The same of its location lists, where references from them lead to these places of entries in .debug_info.
  abbrev pub FindsLocations : Info → Elsewhere → UnitValue → Type 0
  FindsLocations info found u =
      (i : ℕ) (x : List Part) → slice_get (locations_in u.locations) i ≡ Some x →
      IsFound true u.encoding (entry_places (settled u)) info (section_of u).is_big at_zero (section_of u).bytes (location_places found u) i x

  abbrev pub FindAllLocations : Info → Elsewhere → List UnitValue → Type 0
  FindAllLocations info found [] = Unit {0}
  FindAllLocations info found (u ∷ us) = FindsLocations info found u × FindAllLocations info (past_parts found u) us
