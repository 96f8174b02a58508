-- A unit that was split off while it is put back into its skeleton's (DWARF 5, 3.1.3).
use Rattle.std.specs.Prelude.{◌≡◌, ◌⊎◌, ℕ, List, [], take, Option, Some, None, Result, Ok, Err}
use Rattle.std.specs.Borrow.{Bor}
use Rattle.dw_base.specs.declared.endianity.Endianity as Endianity
use Rattle.dw_base.specs.declared.offsets.UnitSectionOffset.{UnitSectionOffset}
use Rattle.dw_entry_ids.specs.FirstUnits.{AreFirstUnits, MissesFirst}
use Rattle.dw_entry_ids.specs.KeptWalk.{HandsOutKept}
use Rattle.dw_filter.specs.declared.unit_section.FilterUnitSection.{FilterUnitSection}
use Rattle.dw_read.specs.Reading.{Reading}
use Rattle.dw_read.specs.declared.entry.DebuggingInformationEntry.{DebuggingInformationEntry}
use Rattle.dw_read.specs.declared.error.ReadError.{ReadError}
use Rattle.dw_read.specs.declared.reader.Reader as Reader
use Rattle.dw_read_units.specs.declared.dwarf.Dwarf.{Dwarf}
use Rattle.dw_read_units.specs.declared.dwarf.Unit.{Unit as UnitFields}
use Rattle.dw_sources.specs.ConvertErrors.{from_read}
use Rattle.dw_sources.specs.declared.convert_error.ConvertError.{ConvertError}
use Rattle.dw_sources.specs.declared.convert_error.ConvertError.TheVariants.{NoMemory}
use Rattle.dw_dwarf.specs.Converters.{held}
use Rattle.dw_dwarf.specs.FilteredDwarf.{AreFilterUnits, AreKept, CannotBegin}
use Rattle.dw_dwarf.specs.Readable.{rows_held}
use Rattle.dw_dwarf.specs.SplitUnits.{CannotPutBack, IsGivenSplit, IsSplit}
use Rattle.dw_dwarf.specs.UnitEntries.{IsLess}
use Rattle.dw_dwarf.specs.UnitIds.{id_behind}
use Rattle.dw_dwarf.specs.declared.convert.convert_unit.ConvertUnit.{ConvertUnit}
use Rattle.dw_dwarf.specs.declared.convert.skeleton.Skeleton.{Skeleton}
use Rattle.dw_dwarf.specs.declared.convert.split_section.ConvertSplitUnitSection.{ConvertSplitUnitSection}
use Rattle.dw_dwarf.specs.declared.convert.unit_entry.ConvertUnitEntry.{ConvertUnitEntry}

module _ {R E : Type 0} {RG : Reader.Ghosts R E} {EG : Endianity.Ghosts E} (reading : R → Reading) where
  -- what a split unit takes from the unit of its skeleton, as that is before
  abbrev pub skeleton_in : ConvertUnit R E RG EG → Skeleton R E
  skeleton_in c = record { read = c.read_unit; first = c.unit.now.reserved }

  -- The first of the given units of a split file was read, and the unit of its skeleton has handed out an id for each of its entries
  -- that are kept, but for the root.
  pub record BeginsPuttingBack (d : Bor (Dwarf R E)) (given : List (UnitFields R E)) (kept : Option (List UnitSectionOffset)) (old : ConvertUnit R E RG EG) (s : ConvertSplitUnitSection R E RG EG) : Type 0 where
    pub split : IsSplit reading d given kept (skeleton_in old) s.split
    pub unit : s.unit.now ≡ record old.unit.now { reserved = id_behind old.unit.now.reserved s.split.numbered.entries }
    pub id : s.id ≡ old.id
    pub line_strings : s.line_strings.now ≡ old.line_strings.now
    pub strings : s.strings.now ≡ old.strings.now

  -- so it is of the file's first unit, with all of its entries
  pub record BeginsSplit (d : Bor (Dwarf R E)) (old : ConvertUnit R E RG EG) (s : ConvertSplitUnitSection R E RG EG) : Type 0 where
    pub units : List (UnitFields R E)
    pub are : AreFirstUnits reading d.now 1 units
    pub begins : BeginsPuttingBack d (take 1 units) None old s

  -- or of the first that a filter has read, with those that it keeps
  pub record BeginsSplitFiltered (f : FilterUnitSection R E) (old : ConvertUnit R E RG EG) (s : ConvertSplitUnitSection R E RG EG) : Type 0 where
    pub units : List (UnitFields R E)
    pub are : AreFilterUnits reading f units
    pub kept : List UnitSectionOffset
    pub keeps : AreKept reading f units kept
    pub begins : BeginsPuttingBack f.dwarf (take 1 units) (Some kept) old s

  -- the split unit, with what is written for it, the strings of its file and its root, which was read
  pub record HandsOutSplitUnit (s : ConvertSplitUnitSection R E RG EG) (c : ConvertUnit R E RG EG) (root : ConvertUnitEntry R E) : Type 0 where
    pub given : IsGivenSplit s.split s.id.0 c.given
    pub read_unit : c.read_unit ≡ c.given.read
    pub skeleton : c.read_skeleton_unit ≡ Some s.split.skeleton.read
    pub id : c.id ≡ s.id
    pub unit : c.unit.now ≡ s.unit.now
    pub strings : c.strings.now ≡ s.strings.now
    pub line_strings : c.line_strings.now ≡ s.line_strings.now
    pub files : c.files.items ≡ []
    pub as_read : DebuggingInformationEntry R E
    pub parent : ℕ
    pub row : HandsOutKept reading (held c) c.given.kept.now [] (rows_held reading (held c)) c.rows as_read (Some (record { 0 = 0 })) parent
    pub less : IsLess reading as_read root
    pub under : root.parent ≡ None
    pub root_unit : root.read_unit ≡ c.read_unit

  abbrev pub HandsOutSplit : ConvertSplitUnitSection R E RG EG → Result (ConvertUnit R E RG EG × ConvertUnitEntry R E) ConvertError → Type 0
  HandsOutSplit s (Ok x) = HandsOutSplitUnit s x.0 x.1
  HandsOutSplit s (Err e) = e ≡ NoMemory

module _ {R E : Type 0} (reading : R → Reading) where
  -- the first unit of a split file can't be read, for this reason
  pub record CannotReadFirst (d : Dwarf R E) (e : ConvertError) : Type 0 where
    pub reason : ReadError
    pub misses : MissesFirst reading d reason
    pub is : e ≡ from_read reason

  -- a row of it can't be, or there is none
  pub record CannotPutFirst (d : Dwarf R E) (e : ConvertError) : Type 0 where
    pub units : List (UnitFields R E)
    pub are : AreFirstUnits reading d 1 units
    pub why : CannotPutBack reading (take 1 units) e

  abbrev pub CannotSplit : Dwarf R E → ConvertError → Type 0
  CannotSplit d e = CannotReadFirst d e ⊎ CannotPutFirst d e

  -- a row of the first unit that a filter has read can't be read, or it has read none
  pub record CannotPutFiltered (f : FilterUnitSection R E) (e : ConvertError) : Type 0 where
    pub units : List (UnitFields R E)
    pub are : AreFilterUnits reading f units
    pub why : CannotPutBack reading (take 1 units) e

  abbrev pub CannotSplitFiltered : FilterUnitSection R E → ConvertError → Type 0
  CannotSplitFiltered f e = CannotBegin reading f e ⊎ CannotPutFiltered f e
