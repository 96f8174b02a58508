-- What a unit that was split off takes from its skeleton (DWARF 5, 3.1.2 and 3.1.3).
use Rattle.std.specs.Prelude.{ℕ, Option, Some, None}
use Rattle.dw_read_units.specs.declared.unit_ref.UnitRef.{UnitRef}
use Rattle.dw_dwarf.specs.declared.convert.skeleton.Skeleton.{Skeleton}

module _ {R E : Type 0} where
  -- the id of its first entry behind the root, where these aren't as they are numbered
  abbrev pub first_of : Option (Skeleton R E) → Option ℕ
  first_of None = None
  first_of (Some s) = Some s.first

  -- the unit that has its line program and its encoding
  abbrev pub lines_of : Option (Skeleton R E) → UnitRef R E → UnitRef R E
  lines_of None u = u
  lines_of (Some s) u = s.read

  abbrev pub skeleton_unit : Option (Skeleton R E) → Option (UnitRef R E)
  skeleton_unit None = None
  skeleton_unit (Some s) = Some s.read
