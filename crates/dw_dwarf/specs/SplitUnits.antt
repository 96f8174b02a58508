-- A unit that was split off, and its skeleton (DWARF 5, 3.1.2 and 3.1.3).
use Rattle.std.specs.Prelude.{◌≡◌, ◌⊎◌, ℕ, List, [], Option, Some, Err, slice_get}
use Rattle.std.specs.Borrow.{Bor}
use Rattle.dw_base.specs.declared.endianity.Endianity as Endianity
use Rattle.dw_base.specs.declared.offsets.UnitSectionOffset.{UnitSectionOffset}
use Rattle.dw_entry_ids.specs.KeptRows.{keep_of}
use Rattle.dw_entry_ids.specs.KeptUnits.{NumbersKept, all_rows}
use Rattle.dw_entry_ids.specs.declared.units.NumberedUnit.{NumberedUnit}
use Rattle.dw_entry_ids.specs.declared.units.NumberedUnits.{NumberedUnits}
use Rattle.dw_read.specs.Reading.{Reading}
use Rattle.dw_read.specs.declared.error.ReadError.{ReadError}
use Rattle.dw_read.specs.declared.error.ReadError.TheVariants.{MissingSplitUnit}
use Rattle.dw_read.specs.declared.reader.Reader as Reader
use Rattle.dw_read_units.specs.Relocated.{relocated_as}
use Rattle.dw_read_units.specs.declared.dwarf.Dwarf.{Dwarf}
use Rattle.dw_read_units.specs.declared.dwarf.Unit.{Unit as UnitFields}
use Rattle.dw_sources.specs.ConvertErrors.{from_read}
use Rattle.dw_sources.specs.declared.convert_error.ConvertError.{ConvertError}
use Rattle.dw_dwarf.specs.declared.convert.found.GivenUnit.{GivenUnit}
use Rattle.dw_dwarf.specs.declared.convert.skeleton.Skeleton.{Skeleton}
use Rattle.dw_dwarf.specs.declared.convert.split_unit.SplitUnit.{SplitUnit}

-- a unit with what its skeleton says of addresses
abbrev pub with_addresses : {R E : Type 0} → Skeleton R E → NumberedUnit R E → NumberedUnit R E
with_addresses skeleton n = record n { unit = relocated_as skeleton.read.unit.now n.unit }

module _ {R E : Type 0} (reading : R → Reading) where
  -- a unit's rows can't be read, or there is no unit, for this reason
  pub record CannotNumber (given : List (UnitFields R E)) (e : ConvertError) : Type 0 where
    pub reason : ReadError
    pub read : all_rows reading given ≡ Err reason
    pub is : e ≡ from_read reason

  abbrev pub CannotPutBack : List (UnitFields R E) → ConvertError → Type 0
  CannotPutBack given e = CannotNumber given e ⊎ ((given ≡ []) × (e ≡ from_read MissingSplitUnit))

module _ {R E : Type 0} {RG : Reader.Ghosts R E} {EG : Endianity.Ghosts E} where
  -- The first of the given units of a file, with the numbers of its entries that are kept and what its skeleton says of addresses.
  pub record IsSplit (reading : R → Reading) (d : Bor (Dwarf R E)) (given : List (UnitFields R E)) (kept : Option (List UnitSectionOffset)) (skeleton : Skeleton R E) (s : SplitUnit R E RG EG) : Type 0 where
    pub read : s.read ≡ d
    pub kept_is : s.kept ≡ kept
    pub skeleton_is : s.skeleton ≡ skeleton
    pub found : NumberedUnits R E
    pub are : NumbersKept reading d.now (keep_of kept) given found
    pub held : NumberedUnit R E
    pub first : slice_get found.units.items 0 ≡ Some held
    pub numbered : s.numbered ≡ with_addresses skeleton held
    pub ids : s.ids ≡ found.ids

  -- the unit as it is given to a conversion, where its skeleton's becomes that of a number
  pub record IsGivenSplit (s : SplitUnit R E RG EG) (id : ℕ) (g : GivenUnit R E RG EG) : Type 0 where
    pub dwarf : g.read.dwarf.now ≡ s.read.now
    pub unit : g.read.unit.now ≡ s.numbered.unit
    pub entries : g.entries ≡ s.numbered.entries
    pub kept : g.kept.now ≡ s.kept
    pub skeleton : g.skeleton ≡ Some s.skeleton
    pub ids : g.refs.ids.now ≡ s.ids
    pub number : g.refs.unit.0 ≡ 0
    pub start : g.refs.start ≡ s.numbered.unit.header.offset.0
    pub first : g.refs.first ≡ id
    pub behind : g.refs.behind ≡ Some s.skeleton.first
