-- What a file of which a filter keeps some entries becomes.
use Rattle.std.specs.Prelude.{◌≡◌, ◌⊎◌, ◌↔◌, ℕ, List, [], length, map, Option, Some}
use Rattle.std.specs.List.{Contains}
use Rattle.std.specs.List.Sorted.{IsStrictlyIncreasing}
use Rattle.dw_base.specs.declared.address.Address.{Address}
use Rattle.dw_base.specs.declared.offsets.UnitSectionOffset.{UnitSectionOffset}
use Rattle.dw_entry_ids.specs.FirstUnits.{AreFirstUnits, MissesFirst}
use Rattle.dw_entry_ids.specs.KeptRows.{keep_of}
use Rattle.dw_entry_ids.specs.KeptUnits.{NumbersKept}
use Rattle.dw_entry_ids.specs.declared.units.NumberedUnits.{NumberedUnits}
use Rattle.dw_filter.specs.FileGraph.{KeptIn, MissesPlaces, MissesRows}
use Rattle.dw_filter.specs.declared.unit_section.FilterUnitSection.{FilterUnitSection}
use Rattle.dw_read.specs.Reading.{Reading}
use Rattle.dw_read.specs.declared.error.ReadError.{ReadError}
use Rattle.dw_read_units.specs.declared.dwarf.Unit.{Unit as UnitFields}
use Rattle.dw_sources.specs.ConvertErrors.{from_read}
use Rattle.dw_sources.specs.declared.convert_error.ConvertError.{ConvertError}
use Rattle.dw_convert_lines.specs.Views.{tables}
use Rattle.dw_dwarf.specs.ConvertedDwarf.{no_strings}
use Rattle.dw_dwarf.specs.ConvertedUnits.{AreClosed, ConvertsKept, RefusesKept}
use Rattle.dw_dwarf.specs.DwarfValue.{DwarfValue}

module _ {R E : Type 0} (reading : R → Reading) (f : FilterUnitSection R E) where
  -- the units that the filter has read, which are the first of its file
  abbrev pub AreFilterUnits : List (UnitFields R E) → Type 0
  AreFilterUnits units = AreFirstUnits reading f.dwarf.now (length f.counts.items) units

  -- of these units the filter keeps the entries at these places, which rise
  pub record AreKept (units : List (UnitFields R E)) (kept : List UnitSectionOffset) : Type 0 where
    pub sorted : IsStrictlyIncreasing (map (λ e. e.0) kept)
    pub are : (q : UnitSectionOffset) → Contains kept q ↔ KeptIn reading f.dwarf.now units f.counts.items f.required.items q

  -- which these are
  pub record KeepsOf (units : List (UnitFields R E)) (kept : Option (List UnitSectionOffset)) : Type 0 where
    pub places : List UnitSectionOffset
    pub is : kept ≡ Some places
    pub keeps : AreKept units places

  -- one of its units can't be read again, for this reason
  pub record CannotReadUnits (e : ConvertError) : Type 0 where
    pub reason : ReadError
    pub misses : MissesFirst reading f.dwarf.now reason
    pub is : e ≡ from_read reason

  -- a row of its units can't be read, or the location list of an entry that it has read, for this reason
  pub record CannotReadEntries (e : ConvertError) : Type 0 where
    pub units : List (UnitFields R E)
    pub are : AreFilterUnits units
    pub why : MissesRows reading units e ⊎ MissesPlaces reading f.dwarf.now units f.counts.items e

  -- its units or entries can't be read again
  abbrev pub CannotBegin : ConvertError → Type 0
  CannotBegin e = CannotReadUnits e ⊎ CannotReadEntries e

  -- the first units of the file, as many as the filter has read, with the entries that it keeps numbered
  pub record NumbersFiltered (kept : Option (List UnitSectionOffset)) (found : NumberedUnits R E) : Type 0 where
    pub units : List (UnitFields R E)
    pub are : AreFilterUnits units
    pub places : List UnitSectionOffset
    pub keeps : AreKept units places
    pub is : kept ≡ Some places
    pub numbered : NumbersKept reading f.dwarf.now (keep_of (Some places)) units found
    pub closed : AreClosed (keep_of (Some places)) reading units

  module _ (answers : ℕ → Option Address → Type 0) where
    -- Each unit that the filter has read becomes one, in order, with its root and the entries that are kept, and the strings that
    -- these name; there is no line program of no unit.
    pub record IsFiltered (built : DwarfValue) : Type 0 where
      pub units : List (UnitFields R E)
      pub are : AreFilterUnits units
      pub kept : List UnitSectionOffset
      pub keeps : AreKept units kept
      pub become : ConvertsKept (keep_of (Some kept)) reading answers f.dwarf.now units [] no_strings built.units (tables built.strings built.line_strings)
      pub programs : built.line_programs ≡ []

    -- what is kept becomes nothing, for this reason
    pub record RefusesFiltered (e : ConvertError) : Type 0 where
      pub units : List (UnitFields R E)
      pub are : AreFilterUnits units
      pub kept : List UnitSectionOffset
      pub keeps : AreKept units kept
      pub refuses : RefusesKept (keep_of (Some kept)) reading answers f.dwarf.now units [] no_strings e

    abbrev pub CannotFilter : ConvertError → Type 0
    CannotFilter e = CannotBegin e ⊎ RefusesFiltered e
