-- The entries of units behind their roots, and where they lead (DWARF 5, 2.2 and 2.3).
use Rattle.std.specs.Prelude.{◌≡◌, ℕ, ◌≤◌, List, slice_get, Some}
use Rattle.dw_base.specs.declared.offsets.UnitSectionOffset.{UnitSectionOffset}
use Rattle.dw_read.specs.Reading.{Reading}
use Rattle.dw_read_units.specs.declared.dwarf.Dwarf.{Dwarf}
use Rattle.dw_read_units.specs.declared.dwarf.Unit.{Unit as UnitFields}
use Rattle.dw_filter.specs.FileGraph.{HasUnit, Names}
use Rattle.dw_filter.specs.UnitGraph.{AddsEdge, BeginsAt, Placed, placed_in}

module _ {R E : Type 0} (reading : R → Reading) (units : List (UnitFields R E)) where
  -- an entry of one of the units, which isn't its root
  pub record EntryOf : Type 0 where
    pub index : ℕ
    pub unit : HasUnit reading units index
    pub number : ℕ
    pub entry : Placed
    pub stands : slice_get (placed_in unit.unit.header.offset.0 unit.rows) number ≡ Some entry
    pub behind_root : 1 ≤ number

  -- such an entry begins at a place of .debug_info
  abbrev pub HasEntry : UnitSectionOffset → Type 0
  HasEntry q = (x : EntryOf) × BeginsAt x.entry q

  -- One entry leads to another: to its parent, unless that is the root, to what its attributes name, and to those of its children that
  -- describe it.
  abbrev pub LeadsTo : Dwarf R E → UnitSectionOffset → UnitSectionOffset → Type 0
  LeadsTo d p q = (x : EntryOf) × AddsEdge (placed_in x.unit.unit.header.offset.0 x.unit.rows) (Names reading d x.unit.unit) x.entry p q
