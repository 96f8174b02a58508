-- What a filter that has read all of its file makes of it.
use Rattle.std.specs.Prelude.{◌≡◌, ◌↔◌, ℕ, ◌+◌, ◌≤◌, List, length, Option, Some, Ok, slice_get}
use Rattle.dw_base.specs.Info.{ReadUnit}
use Rattle.dw_base.specs.declared.address.Address.{Address}
use Rattle.dw_base.specs.declared.offsets.UnitSectionOffset.{UnitSectionOffset}
use Rattle.dw_read.specs.Reading.{Reading}
use Rattle.dw_read_units.specs.Passes.{units_reading}
use Rattle.dw_entry_ids.specs.Ids.{entry_count}
use Rattle.dw_entry_ids.specs.KeptRows.{keep_of}
use Rattle.dw_entry_ids.specs.Units.{AreNumbered}
use Rattle.dw_filter.specs.FileGraph.{KnownIn, count_at}
use Rattle.dw_filter.specs.UnitGraph.{BeginsAt, Placed, placed_in}
use Rattle.dw_filter.specs.declared.unit_section.FilterUnitSection.{FilterUnitSection}
use Rattle.dw_dwarf.specs.DwarfValue.{DwarfValue}
use Rattle.dw_dwarf.specs.FilteredDwarf.{IsFiltered}

-- an entry of one of the units, which isn't its root, begins at a place of .debug_info
pub record EntryIn (units : List ReadUnit) (q : UnitSectionOffset) : Type 0 where
  pub index : ℕ
  pub unit : ReadUnit
  pub stands : slice_get units index ≡ Some unit
  pub number : ℕ
  pub entry : Placed
  pub behind_root : 1 ≤ number
  pub is : slice_get (placed_in unit.from unit.rows) number ≡ Some entry
  pub begins : BeginsAt entry q

module _ {R E : Type 0} (reading : R → Reading) (f : FilterUnitSection R E) where
  -- It has read all units of its file, each to its end.
  pub record HasReadAll : Type 0 where
    pub units : List ReadUnit
    pub are : units_reading reading f.dwarf.now ≡ Ok units
    pub all : length units ≤ length f.counts.items
    pub entries : (i : ℕ) (u : ReadUnit) → slice_get units i ≡ Some u → entry_count u.rows ≤ count_at f.counts.items i + 1

  -- Each unit of the file becomes one, in order, with its root and the entries that are kept of all that the file has: known is
  -- every one but for roots.
  pub record IsFilteredWhole (answers : ℕ → Option Address → Type 0) (built : DwarfValue) : Type 0 where
    pub filtered : IsFiltered reading f answers built
    pub units : List ReadUnit
    pub are : units_reading reading f.dwarf.now ≡ Ok units
    pub numbered : AreNumbered (keep_of (Some filtered.kept)) reading f.dwarf.now filtered.become.found.units.items units
    pub known : (q : UnitSectionOffset) → KnownIn reading filtered.units f.counts.items q ↔ EntryIn units q
