-- The units of a file while a filter reads them, one after the other.
use Rattle.std.specs.Prelude.{◌≡◌, ◌⊎◌, List, [], ◌∷◌, ◌++◌, true, false, Bool, Option, Some, None, Result, Ok, Err}
use Rattle.std.specs.Borrow.{Bor}
use Rattle.dw_base.specs.Entries.{Row}
use Rattle.dw_entry_ids.specs.Ids.{is_entry}
use Rattle.dw_read.specs.Reading.{Reading}
use Rattle.dw_read.specs.UnitHeaders.{HeaderRefused, IsOver, PassesUnit}
use Rattle.dw_read.specs.declared.error.ReadError.{ReadError}
use Rattle.dw_read.specs.declared.unit_header.UnitHeader.{UnitHeader}
use Rattle.dw_read.specs.declared.unit_header.UnitHeadersIter.{UnitHeadersIter}
use Rattle.dw_read_units.specs.Relocated.{relocated_as}
use Rattle.dw_read_units.specs.UnitReads.{IsUnit, MissesUnit}
use Rattle.dw_read_units.specs.declared.dwarf.Dwarf.{Dwarf}
use Rattle.dw_read_units.specs.declared.dwarf.Unit.{Unit as UnitFields}
use Rattle.dw_read_units.specs.declared.unit_ref.UnitRef.{UnitRef}
use Rattle.dw_sources.specs.ConvertErrors.{from_read}
use Rattle.dw_sources.specs.declared.convert_error.ConvertError.{ConvertError}
use Rattle.dw_sources.specs.declared.convert_error.ConvertError.TheVariants.{NoMemory}
use Rattle.dw_filter.specs.FilterUnits.{StandsBehind}
use Rattle.dw_filter.specs.declared.unit.FilterUnit.{FilterUnit}
use Rattle.dw_filter.specs.declared.unit_section.FilterUnitSection.{FilterUnitSection}

-- a unit as it is handed out: a split one with what its skeleton says of addresses
abbrev pub with_skeleton : {R E : Type 0} → Option (UnitRef R E) → UnitFields R E → UnitFields R E
with_skeleton None u = u
with_skeleton (Some s) u = relocated_as s.unit.now u

module _ {R E : Type 0} (reading : R → Reading) where
  -- no unit of the file was read, and no entry is required
  pub record Begins (dwarf : Bor (Dwarf R E)) (skeleton : Option (UnitRef R E)) (s : FilterUnitSection R E) : Type 0 where
    pub dwarf_is : s.dwarf ≡ dwarf
    pub skeleton_is : s.skeleton_unit ≡ skeleton
    pub headers : reading s.headers.input ≡ reading dwarf.now.debug_info
    pub begun : s.headers.has_failed ≡ false
    pub going : s.has_failed ≡ false
    pub units : s.units.items ≡ []
    pub counts : s.counts.items ≡ []
    pub required : s.required.items ≡ []

  -- the next unit of the file, whose header stands where the headers are read
  pub record IsNextUnit (s : FilterUnitSection R E) (u : UnitFields R E) : Type 0 where
    pub going : s.has_failed ≡ false
    pub after : UnitHeadersIter R E
    pub as_read : UnitFields R E
    pub passes : PassesUnit reading s.headers after as_read.header
    pub unit : IsUnit reading s.dwarf.now as_read.header as_read
    pub is : u ≡ with_skeleton s.skeleton_unit as_read

  -- all units were handed out, or an error was answered
  abbrev pub HasEnded : FilterUnitSection R E → Type 0
  HasEnded s = (s.has_failed ≡ true) ⊎ IsOver reading s.headers

  -- the next header can't be read, for this reason
  pub record RefusesHeader (s : FilterUnitSection R E) (e : ConvertError) : Type 0 where
    pub after : UnitHeadersIter R E
    pub error : ReadError
    pub refused : HeaderRefused reading s.headers after error
    pub is : e ≡ from_read error

  -- the next header can be read, and its unit's table or root can't, for this reason
  pub record RefusesUnit (s : FilterUnitSection R E) (e : ConvertError) : Type 0 where
    pub after : UnitHeadersIter R E
    pub header : UnitHeader R E
    pub passes : PassesUnit reading s.headers after header
    pub error : ReadError
    pub misses : MissesUnit reading s.dwarf.now header error
    pub is : e ≡ from_read error

  -- no error was answered before, and the next unit can't be read, for this reason
  abbrev pub RefusesNext : FilterUnitSection R E → ConvertError → Type 0
  RefusesNext s e = (s.has_failed ≡ false) × ((e ≡ NoMemory) ⊎ (RefusesHeader s e ⊎ RefusesUnit s e))

  -- the next unit is kept behind the others, and none of its entries was read
  pub record KeepsNext (old new : FilterUnitSection R E) : Type 0 where
    pub unit : UnitFields R E
    pub next : IsNextUnit old unit
    pub headers : new.headers ≡ next.after
    pub units : new.units.items ≡ old.units.items ++ unit ∷ []
    pub counts : new.counts.items ≡ old.counts.items ++ 0 ∷ []
    pub others : new ≡ record old { headers = new.headers; units = new.units; counts = new.counts }

  abbrev pub KeepsUnit : FilterUnitSection R E → FilterUnitSection R E → Result Bool ConvertError → Type 0
  KeepsUnit old new (Ok true) = KeepsNext old new
  KeepsUnit old new (Ok false) = HasEnded old × (new ≡ old)
  KeepsUnit old new (Err e) = RefusesNext old e

  -- The next unit is handed out, with the file and the skeleton. Its root was read, and nothing behind it; the places that are
  -- required are those of before.
  pub record HandsOutUnit (s : FilterUnitSection R E) (f : FilterUnit R E) : Type 0 where
    pub next : IsNextUnit s f.read_unit.unit.now
    pub dwarf : f.read_unit.dwarf ≡ s.dwarf
    pub skeleton : f.read_skeleton_unit ≡ s.skeleton_unit
    pub root : Row
    pub rest : List Row
    pub fault : Option ReadError
    pub is_root : is_entry root.mark ≡ true
    pub stands : StandsBehind reading f (root ∷ []) rest fault
    pub required : f.required.now.items ≡ s.required.items

  -- the next unit, or None exactly where none is left or an error was answered
  abbrev pub HandsOut : FilterUnitSection R E → Result (Option (FilterUnit R E)) ConvertError → Type 0
  HandsOut s (Ok None) = HasEnded s
  HandsOut s (Ok (Some f)) = HandsOutUnit s f
  HandsOut s (Err e) = RefusesNext s e
