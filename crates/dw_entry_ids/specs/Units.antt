-- What numbering the entries of units answers.
use Rattle.std.specs.Prelude.{◌≡◌, ℕ, ◌≤◌, ◌==◌, ◌&&◌, ◌||◌, List, [], ◌∷◌, Some, None, Ok, Bool, if◌then◌else◌}
use Rattle.dw_base.specs.Abbreviations.{Declaration}
use Rattle.dw_base.specs.Entries.{ReadEntry, Mark, Row}
use Rattle.dw_base.specs.Info.{ReadUnit}
use Rattle.dw_base.specs.declared.ids.UnitId.{UnitId}
use Rattle.dw_read.specs.Reading.{Reading}
use Rattle.dw_read.specs.Fields.{header_of}
use Rattle.dw_read.specs.declared.entries.EntriesRaw.{EntriesRaw}
use Rattle.dw_read.specs.declared.unit_header.UnitHeader.{UnitHeader}
use Rattle.dw_read_units.specs.Passes.{rows_reading, units_there, PassesRow}
use Rattle.dw_read_units.specs.UnitReads.{IsUnit}
use Rattle.dw_read_units.specs.declared.dwarf.Dwarf.{Dwarf}
use Rattle.dw_entry_ids.specs.Ids.{Id, ids_at, later_or, begins_at, is_entry, entry_count, number_among, with_unit, id_among, AreFound, FindsEntries}
use Rattle.dw_entry_ids.specs.KeptRows.{all_kept, kept_rows}
use Rattle.dw_entry_ids.specs.declared.ids.EntryIds.{EntryIds}
use Rattle.dw_entry_ids.specs.declared.units.NumberedUnit.{NumberedUnit}
use Rattle.dw_entry_ids.specs.declared.units.NumberedUnits.{NumberedUnits}

-- The row at the place is read and passed; where it is an entry that is kept, its place has the id. The first one is.
pub record NumbersRow {R E : Type 0} (keep : ℕ → Bool) (reading : R → Reading) (old new : EntriesRaw R E) (id : Id) (before after : EntryIds) (is : Bool) : Type 0 where
  pub mark : Mark ReadEntry
  pub passes : PassesRow reading old new mark
  pub told : is ≡ (is_entry mark && (id.1.0 == 0 || keep (reading old.input).place))
  pub kept : (p : ℕ) → ids_at after p ≡ later_or (if is then begins_at (reading old.input).place id p else None) (ids_at before p)

-- all rows of a unit are read; the places of its entries that are kept have their numbers among these
pub record NumbersRows {R E : Type 0} (keep : ℕ → Bool) (reading : R → Reading) (h : UnitHeader R E) (table : List Declaration) (k : UnitId) (before after : EntryIds) (count : ℕ) : Type 0 where
  pub rows : List Row
  pub is : rows_reading reading h table ≡ Ok rows
  pub counted : count ≡ entry_count (kept_rows keep h.offset.0 rows)
  pub found : AreFound h.offset.0 (kept_rows keep h.offset.0 rows) (reading h.body).end
  pub kept : (p : ℕ) → ids_at after p ≡ later_or (with_unit k (number_among h.offset.0 0 (kept_rows keep h.offset.0 rows) p)) (ids_at before p)

-- what is held of a unit of the grammar, with how many of its entries are kept
pub record IsNumbered {R E : Type 0} (keep : ℕ → Bool) (reading : R → Reading) (d : Dwarf R E) (held : NumberedUnit R E) (u : ReadUnit) : Type 0 where
  pub unit : IsUnit reading d held.unit.header held.unit
  pub behind : held.unit.header.offset.0 ≤ (reading held.unit.header.body).place
  pub order : (reading held.unit.header.body).is_big ≡ (reading d.debug_info).is_big
  pub from : u.from ≡ held.unit.header.offset.0
  pub header : u.header ≡ header_of held.unit.header.fields
  pub table : u.table ≡ held.unit.abbreviations
  pub rows : rows_reading reading held.unit.header held.unit.abbreviations ≡ Ok u.rows
  pub count : held.entries ≡ entry_count (kept_rows keep u.from u.rows)

abbrev pub AreNumbered : {R E : Type 0} → (ℕ → Bool) → (R → Reading) → Dwarf R E → List (NumberedUnit R E) → List ReadUnit → Type 0
AreNumbered keep reading d [] [] = Unit {0}
AreNumbered keep reading d [] (u ∷ us) = ⊥
AreNumbered keep reading d (x ∷ xs) [] = ⊥
AreNumbered keep reading d (x ∷ xs) (u ∷ us) = IsNumbered keep reading d x u × AreNumbered keep reading d xs us

-- the units are all that the grammar reads, each with its number of entries, and an id is kept exactly at the place of each
-- entry
pub record NumbersUnits {R E : Type 0} (reading : R → Reading) (d : Dwarf R E) (r : NumberedUnits R E) : Type 0 where
  pub units : List ReadUnit
  pub are : units_there reading d ≡ Some units
  pub numbered : AreNumbered all_kept reading d r.units.items units
  pub ids : (p : ℕ) → ids_at r.ids p ≡ id_among 0 units p
  pub entries : FindsEntries r.ids units
