-- The units that were found of a file.
use Rattle.std.specs.Prelude.{◌≡◌, List, Option, None}
use Rattle.dw_base.specs.declared.offsets.UnitSectionOffset.{UnitSectionOffset}
use Rattle.dw_read.specs.Reading.{Reading}
use Rattle.dw_read_units.specs.declared.dwarf.Dwarf.{Dwarf}
use Rattle.dw_read_units.specs.declared.dwarf.Unit.{Unit as UnitFields}
use Rattle.dw_entry_ids.specs.KeptRows.{keep_of}
use Rattle.dw_entry_ids.specs.KeptUnits.{NumbersKept}
use Rattle.dw_entry_ids.specs.Units.{NumbersUnits}
use Rattle.dw_entry_ids.specs.declared.units.NumberedUnits.{NumberedUnits}

-- these are units of a file with the entries that are kept, and where all are, all units of it
pub record AreFound {R E : Type 0} (reading : R → Reading) (d : Dwarf R E) (kept : Option (List UnitSectionOffset)) (found : NumberedUnits R E) : Type 0 where
  pub given : List (UnitFields R E)
  pub numbered : NumbersKept reading d (keep_of kept) given found
  pub whole : kept ≡ None → NumbersUnits reading d found
