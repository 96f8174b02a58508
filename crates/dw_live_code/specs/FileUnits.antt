-- All units of a file, in order (DWARF 5, 3.1 and 7.5.1).
use Rattle.std.specs.Prelude.{◌≡◌, ◌<◌, ℕ, ◌^◌, ◌-◌, List, length}
use Rattle.dw_read.specs.Reading.{Reading}
use Rattle.dw_read.specs.UnitHeaders.{IsOver}
use Rattle.dw_read.specs.declared.error.ReadError.{ReadError}
use Rattle.dw_read.specs.declared.unit_header.UnitHeadersIter.{UnitHeadersIter}
use Rattle.dw_read_units.specs.declared.dwarf.Dwarf.{Dwarf}
use Rattle.dw_read_units.specs.declared.dwarf.Unit.{Unit as UnitFields}
use Rattle.dw_entry_ids.specs.FirstUnits.{AreUpTo, MissesFirst}
use Rattle.dw_filter.specs.FileGraph.{count_at}
use Rattle.dw_sources.specs.ConvertErrors.{from_read}
use Rattle.dw_sources.specs.declared.convert_error.ConvertError.{ConvertError}

-- more entries than a unit can have
abbrev pub most_entries : ℕ
most_entries = 2 ^ 64 - 1

module _ {R E : Type 0} (reading : R → Reading) (d : Dwarf R E) where
  -- these are all units of the file
  pub record AreAllUnits (units : List (UnitFields R E)) : Type 0 where
    pub behind : UnitHeadersIter R E
    pub are : AreUpTo reading d units behind
    pub over : IsOver reading behind

  -- one of its units can't be read, for this reason
  pub record MissesUnitOf (e : ConvertError) : Type 0 where
    pub reason : ReadError
    pub misses : MissesFirst reading d reason
    pub is : e ≡ from_read reason

-- with each unit all of its entries count
abbrev pub CountAll : {R E : Type 0} → List (UnitFields R E) → List ℕ → Type 0
CountAll units counts = (i : ℕ) → i < length units → count_at counts i ≡ most_entries
