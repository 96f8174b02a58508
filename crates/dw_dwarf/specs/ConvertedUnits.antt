-- What the units of a file become, one after the other.
use Rattle.std.specs.Prelude.{◌≡◌, ◌⊎◌, ℕ, ◌+◌, List, [], ◌∷◌, ◌++◌, length, All, Option, None, Err, Bool}
use Rattle.dw_base.specs.declared.address.Address.{Address}
use Rattle.dw_base.specs.declared.address.DebugInfoRef.{DebugInfoRef}
use Rattle.dw_base.specs.declared.ids.UnitEntryId.{UnitEntryId}
use Rattle.dw_read.specs.Reading.{Reading}
use Rattle.dw_read.specs.declared.error.ReadError.{ReadError}
use Rattle.dw_read_units.specs.Passes.{units_reading}
use Rattle.dw_read_units.specs.declared.dwarf.Dwarf.{Dwarf}
use Rattle.dw_read_units.specs.declared.dwarf.Unit.{Unit as UnitFields}
use Rattle.dw_read_units.specs.declared.unit_ref.UnitRef.{UnitRef}
use Rattle.dw_sources.specs.ConvertErrors.{from_read}
use Rattle.dw_sources.specs.declared.convert_error.ConvertError.{ConvertError}
use Rattle.dw_base.specs.Info.{ReadUnit}
use Rattle.dw_entry_ids.specs.KeptRows.{IsClosed, all_kept}
use Rattle.dw_entry_ids.specs.KeptUnits.{NumbersKept, all_rows}
use Rattle.dw_entry_ids.specs.Units.{IsNumbered, NumbersUnits}
use Rattle.dw_entry_ids.specs.declared.ids.EntryIds.{EntryIds}
use Rattle.dw_entry_ids.specs.declared.units.NumberedUnit.{NumberedUnit}
use Rattle.dw_entry_ids.specs.declared.units.NumberedUnits.{NumberedUnits}
use Rattle.dw_tree.specs.UnitValue.{UnitValue}
use Rattle.dw_convert_lines.specs.EntryNames.{Tables}
use Rattle.dw_dwarf.specs.ConvertedUnit.{ConvertsUnit, RefusesUnit}
use Rattle.dw_dwarf.specs.EntryRefs.{entry_for, info_for}
use Rattle.dw_dwarf.specs.NewUnits.{unit_for}
use Rattle.dw_dwarf.specs.Readable.{rows_held}

-- the unit that was read, in its file
pub record IsOf {R E : Type 0} (d : Dwarf R E) (held : NumberedUnit R E) (read : UnitRef R E) : Type 0 where
  pub file : read.dwarf.now ≡ d
  pub unit : read.unit.now ≡ held.unit

-- it is a unit that the grammar reads, with the number of its entries that are kept, each of them with its own parent
pub record IsRead {R E : Type 0} (keep : ℕ → Bool) (reading : R → Reading) (d : Dwarf R E) (held : NumberedUnit R E) : Type 0 where
  pub unit : ReadUnit
  pub numbered : IsNumbered keep reading d held unit
  pub closed : IsClosed keep unit.from unit.rows

-- the units can't be read, for this reason
pub record CannotRead {R E : Type 0} (reading : R → Reading) (d : Dwarf R E) (e : ConvertError) : Type 0 where
  pub reason : ReadError
  pub read : units_reading reading d ≡ Err reason
  pub is : e ≡ from_read reason

module _ {R E : Type 0} (keep : ℕ → Bool) (reading : R → Reading) (answers : ℕ → Option Address → Type 0) (d : Dwarf R E) where
  module _ (entries : ℕ → Option UnitEntryId) (infos : ℕ → Option DebugInfoRef) (held : NumberedUnit R E) where
    -- a unit that was read becomes this one, where these are the entries that it may name
    pub record UnitBecomes (old : Tables) (built : UnitValue) (new : Tables) : Type 0 where
      pub read : UnitRef R E
      pub of : IsOf d held read
      pub becomes : ConvertsUnit None keep reading answers entries infos read (unit_for held) old built new

    -- it becomes nothing, for this reason
    pub record UnitRefuses (old : Tables) (e : ConvertError) : Type 0 where
      pub read : UnitRef R E
      pub of : IsOf d held read
      pub refuses : RefusesUnit None keep reading answers entries infos read (unit_for held) old e

module _ {R E : Type 0} (keep : ℕ → Bool) (reading : R → Reading) (answers : ℕ → Option Address → Type 0) (d : Dwarf R E) (ids : EntryIds) (first : ℕ) where
  -- unit k of those that were read becomes this one
  abbrev pub BecomesUnit : ℕ → NumberedUnit R E → Tables → UnitValue → Tables → Type 0
  BecomesUnit k held old built new = UnitBecomes keep reading answers d (entry_for ids k held.unit.header.offset.0) (info_for ids first) held old built new

  -- the units from number k on become these
  abbrev pub UnitsBecome : ℕ → List (NumberedUnit R E) → Tables → List UnitValue → Tables → Type 0
  UnitsBecome k [] t [] end = end ≡ t
  UnitsBecome k [] t (u ∷ us) end = ⊥
  UnitsBecome k (x ∷ xs) t [] end = ⊥
  UnitsBecome k (x ∷ xs) t (u ∷ us) end = (next : Tables) × BecomesUnit k x t u next × UnitsBecome (k + 1) xs next us end

  -- behind units that become others, one becomes nothing
  pub record RefusesOne (units : List (NumberedUnit R E)) (old : Tables) (e : ConvertError) : Type 0 where
    pub front : List (NumberedUnit R E)
    pub held : NumberedUnit R E
    pub back : List (NumberedUnit R E)
    pub is : units ≡ front ++ held ∷ back
    pub built : List UnitValue
    pub between : Tables
    pub before : UnitsBecome 0 front old built between
    pub refuses : UnitRefuses keep reading answers d (entry_for ids (length front) held.unit.header.offset.0) (info_for ids first) held between e

  -- each becomes one, in order, behind the units that are there
  pub record FoundBecome (units : List (NumberedUnit R E)) (before : List UnitValue) (old : Tables) (after : List UnitValue) (new : Tables) : Type 0 where
    pub built : List UnitValue
    pub become : UnitsBecome 0 units old built new
    pub added : after ≡ before ++ built

module _ {R E : Type 0} (reading : R → Reading) (answers : ℕ → Option Address → Type 0) (d : Dwarf R E) where
  -- All units are read, to the end of the section, and each becomes one, in order, behind the units that are there. Entries are
  -- named by where they begin.
  pub record ConvertsUnits (before : List UnitValue) (old : Tables) (after : List UnitValue) (new : Tables) : Type 0 where
    pub found : NumberedUnits R E
    pub read : NumbersUnits reading d found
    pub built : List UnitValue
    pub become : UnitsBecome all_kept reading answers d found.ids (length before) 0 found.units.items old built new
    pub added : after ≡ before ++ built

  -- all units can be read, and one becomes nothing
  pub record RefusesAny (before : List UnitValue) (old : Tables) (e : ConvertError) : Type 0 where
    pub found : NumberedUnits R E
    pub read : NumbersUnits reading d found
    pub refused : RefusesOne all_kept reading answers d found.ids (length before) found.units.items old e

  abbrev pub RefusesUnits : List UnitValue → Tables → ConvertError → Type 0
  RefusesUnits before old e = CannotRead reading d e ⊎ RefusesAny before old e

module _ {R E : Type 0} (keep : ℕ → Bool) (reading : R → Reading) (answers : ℕ → Option Address → Type 0) (d : Dwarf R E) (given : List (UnitFields R E)) where
  -- These units were read from the file, and each becomes one of the entries that are kept, in order, behind the units that are
  -- there.
  pub record ConvertsKept (before : List UnitValue) (old : Tables) (after : List UnitValue) (new : Tables) : Type 0 where
    pub found : NumberedUnits R E
    pub read : NumbersKept reading d keep given found
    pub built : List UnitValue
    pub become : UnitsBecome keep reading answers d found.ids (length before) 0 found.units.items old built new
    pub added : after ≡ before ++ built

  -- a row of theirs can't be read
  pub record CannotReadRows (e : ConvertError) : Type 0 where
    pub reason : ReadError
    pub read : all_rows reading given ≡ Err reason
    pub is : e ≡ from_read reason

  -- all rows can be read, and one unit becomes nothing
  pub record RefusesKeptOne (before : List UnitValue) (old : Tables) (e : ConvertError) : Type 0 where
    pub found : NumberedUnits R E
    pub read : NumbersKept reading d keep given found
    pub refused : RefusesOne keep reading answers d found.ids (length before) found.units.items old e

  abbrev pub RefusesKept : List UnitValue → Tables → ConvertError → Type 0
  RefusesKept before old e = CannotReadRows e ⊎ RefusesKeptOne before old e

-- With each entry of units that is kept its own parent is, unless that is the root.
abbrev pub AreClosed : {R E : Type 0} → (ℕ → Bool) → (R → Reading) → List (UnitFields R E) → Type 0
AreClosed keep reading us = All (λ u. IsClosed keep u.header.offset.0 (rows_held reading u)) us
