-- What numbering the entries answers that are kept of units.
use Rattle.std.specs.Prelude.{◌≡◌, ℕ, ◌≤◌, List, [], ◌∷◌, map, Result, Ok, Bool}
use Rattle.dw_base.specs.Entries.{Row}
use Rattle.dw_base.specs.Info.{ReadUnit}
use Rattle.dw_read.specs.Reasons.{◌=>>◌}
use Rattle.dw_read.specs.Reading.{Reading}
use Rattle.dw_read.specs.declared.error.ReadError.{ReadError}
use Rattle.dw_read_units.specs.Passes.{rows_reading}
use Rattle.dw_read_units.specs.UnitReads.{IsUnit}
use Rattle.dw_read_units.specs.declared.dwarf.Dwarf.{Dwarf}
use Rattle.dw_read_units.specs.declared.dwarf.Unit.{Unit as UnitFields}
use Rattle.dw_entry_ids.specs.Ids.{ids_at, id_among, FindsEntries}
use Rattle.dw_entry_ids.specs.KeptRows.{kept_unit}
use Rattle.dw_entry_ids.specs.Units.{AreNumbered}
use Rattle.dw_entry_ids.specs.declared.units.NumberedUnit.{NumberedUnit}
use Rattle.dw_entry_ids.specs.declared.units.NumberedUnits.{NumberedUnits}

module _ {R E : Type 0} (reading : R → Reading) where
  -- the rows of units, or the reason why the first that can't be read isn't
  abbrev pub all_rows : List (UnitFields R E) → Result (List (List Row)) ReadError
  all_rows [] = Ok []
  all_rows (u ∷ us) = rows_reading reading u.header u.abbreviations =>> λ rows. all_rows us =>> λ more. Ok (rows ∷ more)

  module _ (d : Dwarf R E) where
    -- a unit was read from the file, behind a place
    pub record IsUnitBehind (place : ℕ) (u : UnitFields R E) : Type 0 where
      pub unit : IsUnit reading d u.header u
      pub begins : place ≤ u.header.offset.0
      pub behind : u.header.offset.0 ≤ (reading u.header.body).place
      pub order : (reading u.header.body).is_big ≡ (reading d.debug_info).is_big

    -- so were units, each behind the one before it
    abbrev pub AreUnitsBehind : ℕ → List (UnitFields R E) → Type 0
    AreUnitsBehind place [] = Unit {0}
    AreUnitsBehind place (u ∷ us) = IsUnitBehind place u × AreUnitsBehind (reading u.header.body).end us

    -- These are held, each with how many of its entries are kept, and an id is kept exactly at the place of each of those.
    pub record NumbersKept (keep : ℕ → Bool) (given : List (UnitFields R E)) (r : NumberedUnits R E) : Type 0 where
      pub units : List ReadUnit
      pub numbered : AreNumbered keep reading d r.units.items units
      pub held : map (λ (n : NumberedUnit R E). n.unit) r.units.items ≡ given
      pub ids : (p : ℕ) → ids_at r.ids p ≡ id_among 0 (map (kept_unit keep) units) p
      pub entries : FindsEntries r.ids (map (kept_unit keep) units)
