-- Units that were read from a file, each behind the one before it, with one more.
use Rattle.std.proofs.Common.{ℕ, List, [], ◌∷◌, ◌++◌}
use Rattle.dw_read.specs.Reading.{Reading}
use Rattle.dw_read_units.specs.declared.dwarf.Dwarf.{Dwarf}
use Rattle.dw_read_units.specs.declared.dwarf.Unit.{Unit as UnitFields}
use Rattle.dw_entry_ids.specs.KeptUnits.{AreUnitsBehind, IsUnitBehind}

module _ {R E : Type 0} (reading : R → Reading) (d : Dwarf R E) where
  -- where the last of them ends
  abbrev pub end_behind : ℕ → List (UnitFields R E) → ℕ
  end_behind place [] = place
  end_behind place (u ∷ us) = end_behind (reading u.header.body).end us

  pub units_behind_more : (place : ℕ) (us : List (UnitFields R E)) (u : UnitFields R E) → AreUnitsBehind reading d place us → IsUnitBehind reading d (end_behind place us) u → AreUnitsBehind reading d place (us ++ u ∷ [])
  units_behind_more place [] u h i = (i, tt)
  units_behind_more place (v ∷ us) u h i = (h.0, units_behind_more (reading v.header.body).end us u h.1 i)
