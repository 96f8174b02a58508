-- The first units of a file, one behind the other (DWARF 5, 3.1 and 7.5.1).
use Rattle.std.specs.Prelude.{◌≡◌, ◌⊎◌, ◌≤◌, ℕ, List, [], ◌∷◌, length, false}
use Rattle.dw_read.specs.Reading.{Reading}
use Rattle.dw_read.specs.UnitHeaders.{HeaderRefused, IsOver, PassesUnit}
use Rattle.dw_read.specs.declared.error.ReadError.{ReadError}
use Rattle.dw_read.specs.declared.unit_header.UnitHeader.{UnitHeader}
use Rattle.dw_read.specs.declared.unit_header.UnitHeadersIter.{UnitHeadersIter}
use Rattle.dw_read_units.specs.UnitReads.{IsUnit, MissesUnit}
use Rattle.dw_read_units.specs.declared.dwarf.Dwarf.{Dwarf}
use Rattle.dw_read_units.specs.declared.dwarf.Unit.{Unit as UnitFields}

module _ {R E : Type 0} (reading : R → Reading) (d : Dwarf R E) where
  -- the unit whose header stands where headers are read, and from where they are read behind it
  pub record IsUnitAt (headers after : UnitHeadersIter R E) (u : UnitFields R E) : Type 0 where
    pub passes : PassesUnit reading headers after u.header
    pub unit : IsUnit reading d u.header u

  -- these units stand one behind the other
  abbrev pub AreUnitsFrom : UnitHeadersIter R E → List (UnitFields R E) → UnitHeadersIter R E → Type 0
  AreUnitsFrom headers [] after = headers ≡ after
  AreUnitsFrom headers (u ∷ units) after = (next : UnitHeadersIter R E) × IsUnitAt headers next u × AreUnitsFrom next units after

  -- they are the first of the file, up to where the headers of the others are read
  pub record AreUpTo (units : List (UnitFields R E)) (now : UnitHeadersIter R E) : Type 0 where
    pub begin : UnitHeadersIter R E
    pub begins : reading begin.input ≡ reading d.debug_info
    pub begun : begin.has_failed ≡ false
    pub are : AreUnitsFrom begin units now

  -- the first so many units of the file, or all of them, where there are fewer
  pub record AreFirstUnits (count : ℕ) (units : List (UnitFields R E)) : Type 0 where
    pub behind : UnitHeadersIter R E
    pub are : AreUpTo units behind
    pub few : length units ≤ count
    pub many : (length units ≡ count) ⊎ IsOver reading behind

  -- the next header can be read, and the unit's table or root can't, for this reason
  pub record MissesAt (now : UnitHeadersIter R E) (e : ReadError) : Type 0 where
    pub after : UnitHeadersIter R E
    pub header : UnitHeader R E
    pub passes : PassesUnit reading now after header
    pub misses : MissesUnit reading d header e

  -- behind some of the first units one can't be read, for this reason
  pub record MissesFirst (e : ReadError) : Type 0 where
    pub front : List (UnitFields R E)
    pub here : UnitHeadersIter R E
    pub are : AreUpTo front here
    pub why : ((after : UnitHeadersIter R E) × HeaderRefused reading here after e) ⊎ MissesAt here e
