-- A unit whose rows were all read before.
use Rattle.std.specs.Prelude.{◌≡◌, ◌≢◌, ◌≤◌, ℕ, List, [], ◌∷◌, ◌++◌, All, Result, Ok, Err, Some, Bool, true, slice_get}
use Rattle.dw_base.specs.Abbreviations.{Declaration}
use Rattle.dw_base.specs.Entries.{Row}
use Rattle.dw_read.specs.Reading.{Reading}
use Rattle.dw_read.specs.declared.error.ReadError.{ReadError}
use Rattle.dw_read_units.specs.Passes.{rows_reading}
use Rattle.dw_read_units.specs.declared.dwarf.Unit.{Unit as UnitFields}
use Rattle.dw_entry_ids.specs.Ids.{entry_count, places_among}
use Rattle.dw_entry_ids.specs.KeptRows.{kept_rows}
use Rattle.dw_entry_ids.specs.Plans.{Plan, plans_of}
use Rattle.dw_entry_ids.specs.declared.units.NumberedUnit.{NumberedUnit}

-- rows that are read, or none
abbrev pub rows_or_none : Result (List Row) ReadError → List Row
rows_or_none (Ok rows) = rows
rows_or_none (Err e) = []

-- With an entry its own parent is kept, where that isn't the root.
abbrev pub KeepsParents : (ℕ → Bool) → ℕ → List Row → Type 0
KeepsParents keep from rows =
    (front back : List Plan) (p : Plan) (place above : ℕ) → plans_of rows ≡ front ++ p ∷ back → slice_get (places_among from rows) p.number ≡ Some place → slice_get (places_among from rows) p.parent ≡ Some above → keep place ≡ true
    → p.parent ≢ 0 → keep above ≡ true

module _ {R E : Type 0} (reading : R → Reading) where
  -- the rows of a unit
  abbrev pub rows_held : UnitFields R E → List Row
  rows_held u = rows_or_none (rows_reading reading u.header u.abbreviations)

  -- They can be read, so many entries among them are kept, one at least, each with its own parent, and no tag of the unit's table is
  -- zero.
  abbrev pub IsReadable : (ℕ → Bool) → UnitFields R E → ℕ → Type 0
  IsReadable keep u entries =
      (rows_reading reading u.header u.abbreviations ≡ Ok (rows_held u))
      × (entries ≡ entry_count (kept_rows keep u.header.offset.0 (rows_held u)))
      × (1 ≤ entries)
      × (u.header.offset.0 ≤ (reading u.header.body).place)
      × All (λ (d : Declaration). d.shape.tag ≢ 0) u.abbreviations
      × KeepsParents keep u.header.offset.0 (rows_held u)

  abbrev pub IsReadableUnit : (ℕ → Bool) → NumberedUnit R E → Type 0
  IsReadableUnit keep n = IsReadable keep n.unit n.entries
