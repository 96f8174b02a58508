-- The units of a file while they are converted, one after the other.
use Rattle.std.specs.Prelude.{◌≡◌, ℕ, ◌+◌, ◌-◌, ◌<◌, ◌≤◌, List, [], ◌++◌, length, map, take, Option, Some, None, Result, Ok, Err, slice_get}
use Rattle.dw_base.specs.declared.endianity.Endianity as Endianity
use Rattle.dw_base.specs.declared.ids.UnitId.{UnitId}
use Rattle.dw_read.specs.Reading.{Reading}
use Rattle.dw_read.specs.declared.entry.DebuggingInformationEntry.{DebuggingInformationEntry}
use Rattle.dw_read.specs.declared.reader.Reader as Reader
use Rattle.dw_read_units.specs.declared.dwarf.Dwarf.{Dwarf as ReadDwarf}
use Rattle.dw_entry_ids.specs.Units.{NumbersUnits}
use Rattle.dw_entry_ids.specs.declared.units.NumberedUnit.{NumberedUnit}
use Rattle.dw_filter.specs.declared.unit_section.FilterUnitSection.{FilterUnitSection}
use Rattle.dw_sources.specs.declared.convert_error.ConvertError.{ConvertError}
use Rattle.dw_sources.specs.declared.convert_error.ConvertError.TheVariants.{NoMemory}
use Rattle.dw_dwarf.specs.Converters.{held}
use Rattle.dw_dwarf.specs.DwarfValue.{DwarfValue, dwarf_in}
use Rattle.dw_dwarf.specs.FilteredDwarf.{NumbersFiltered}
use Rattle.dw_dwarf.specs.FileUnits.{AreFound}
use Rattle.dw_dwarf.specs.FoundUnits.{IsGiven}
use Rattle.dw_dwarf.specs.NewUnits.{unit_for}
use Rattle.dw_dwarf.specs.Readable.{rows_held}
use Rattle.dw_entry_ids.specs.KeptWalk.{HandsOutKept}
use Rattle.dw_dwarf.specs.UnitEntries.{IsLess}
use Rattle.dw_dwarf.specs.declared.convert.convert_unit.ConvertUnit.{ConvertUnit}
use Rattle.dw_dwarf.specs.declared.convert.unit_entry.ConvertUnitEntry.{ConvertUnitEntry}
use Rattle.dw_dwarf.specs.declared.convert.unit_section.ConvertUnitSection.{ConvertUnitSection}

module _ {R E : Type 0} {RG : Reader.Ghosts R E} {EG : Endianity.Ghosts E} where
  -- the units that were read, each of which has one that is written
  abbrev pub units_of : ConvertUnitSection R E RG EG → List (NumberedUnit R E)
  units_of s = take (length s.dwarf.now.units - s.first) s.found.found.units.items

  -- the next unit is passed, with the id of the one that it becomes, or all were
  abbrev pub PassesUnit : ConvertUnitSection R E RG EG → ConvertUnitSection R E RG EG → Option (ℕ × UnitId) → Type 0
  PassesUnit old new (Some x) = (x.0 ≡ old.next) × (old.next < length (units_of old)) × (x.1.0 ≡ old.first + old.next) × (new ≡ record old { next = old.next + 1 })
  PassesUnit old new None = (length (units_of old) ≤ old.next) × (new ≡ old)

  -- The next of the units of the file that is read, with what is written for it, the strings of its file and its root, which was read.
  pub record HandsOutUnit (reading : R → Reading) (s : ConvertUnitSection R E RG EG) (c : ConvertUnit R E RG EG) (root : ConvertUnitEntry R E) : Type 0 where
    pub left : s.next < length (units_of s)
    pub file : ∥ AreFound reading s.found.read.now s.found.kept s.found.found ∥₁
    pub given : IsGiven s.found s.next s.first c.given
    pub read_unit : c.read_unit ≡ c.given.read
    pub skeleton : c.read_skeleton_unit ≡ None
    pub id : c.id.0 ≡ s.first + s.next
    pub unit : slice_get s.dwarf.now.units (s.first + s.next) ≡ Some c.unit.now
    pub strings : c.strings.now ≡ s.dwarf.now.strings
    pub line_strings : c.line_strings.now ≡ s.dwarf.now.line_strings
    pub files : c.files.items ≡ []
    pub as_read : DebuggingInformationEntry R E
    pub parent : ℕ
    pub row : HandsOutKept reading (held c) c.given.kept.now [] (rows_held reading (held c)) c.rows as_read (Some (record { 0 = 0 })) parent
    pub less : IsLess reading as_read root
    pub under : root.parent ≡ None
    pub root_unit : root.read_unit ≡ c.read_unit

  -- the next unit, or None exactly where all were handed out
  abbrev pub HandsOut : (R → Reading) → ConvertUnitSection R E RG EG → Result (Option (ConvertUnit R E RG EG × ConvertUnitEntry R E)) ConvertError → Type 0
  HandsOut reading s (Ok None) = length (units_of s) ≤ s.next
  HandsOut reading s (Ok (Some x)) = HandsOutUnit reading s x.0 x.1
  HandsOut reading s (Err e) = e ≡ NoMemory

  -- All units of a file were read, and for each a new one is behind those that were there: in its encoding, with its root alone, and
  -- with an id for each entry. None was handed out yet.
  pub record BeginsUnits (reading : R → Reading) (d : ReadDwarf R E) (old : DwarfValue) (s : ConvertUnitSection R E RG EG) : Type 0 where
    pub read : s.found.read.now ≡ d
    pub found : NumbersUnits reading d s.found.found
    pub kept : s.found.kept ≡ None
    pub dwarf : dwarf_in s.dwarf.now ≡ record old { units = old.units ++ map unit_for s.found.found.units.items }
    pub first : s.first ≡ length old.units
    pub next : s.next ≡ 0

  -- The units that a filter has read were read again, and for each a new one is behind those that were there: in its encoding, with
  -- its root alone, and with an id for each entry that is kept. None was handed out yet.
  pub record BeginsFiltered (reading : R → Reading) (f : FilterUnitSection R E) (old : DwarfValue) (s : ConvertUnitSection R E RG EG) : Type 0 where
    pub read : s.found.read.now ≡ f.dwarf.now
    pub found : NumbersFiltered reading f s.found.kept s.found.found
    pub dwarf : dwarf_in s.dwarf.now ≡ record old { units = old.units ++ map unit_for s.found.found.units.items }
    pub first : s.first ≡ length old.units
    pub next : s.next ≡ 0
