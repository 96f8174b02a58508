-- What is given of a unit that was found.
use Rattle.std.specs.Prelude.{◌≡◌, ℕ, Some, None, slice_get}
use Rattle.dw_base.specs.declared.endianity.Endianity as Endianity
use Rattle.dw_read.specs.declared.reader.Reader as Reader
use Rattle.dw_entry_ids.specs.declared.units.NumberedUnit.{NumberedUnit}
use Rattle.dw_dwarf.specs.declared.convert.found.FoundUnits.{FoundUnits}
use Rattle.dw_dwarf.specs.declared.convert.found.GivenUnit.{GivenUnit}

-- the unit of a number in its file, and what knows the entries of all units, the first of which becomes that of another number
pub record IsGiven {R E : Type 0} {RG : Reader.Ghosts R E} {EG : Endianity.Ghosts E} (f : FoundUnits R E RG EG) (index first : ℕ) (g : GivenUnit R E RG EG) : Type 0 where
  pub numbered : NumberedUnit R E
  pub at : slice_get f.found.units.items index ≡ Some numbered
  pub dwarf : g.read.dwarf.now ≡ f.read.now
  pub unit : g.read.unit.now ≡ numbered.unit
  pub entries : g.entries ≡ numbered.entries
  pub kept : g.kept.now ≡ f.kept
  pub ids : g.refs.ids.now ≡ f.found.ids
  pub number : g.refs.unit.0 ≡ index
  pub start : g.refs.start ≡ numbered.unit.header.offset.0
  pub first_is : g.refs.first ≡ first
  pub behind : g.refs.behind ≡ None
  pub skeleton : g.skeleton ≡ None
