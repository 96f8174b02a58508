-- A unit while a filter reads it, entry by entry.
use Rattle.std.specs.Prelude.{◌≡◌, ◌⊎◌, ℕ, ◌+◌, ◌≤◌, List, [], ◌∷◌, ◌++◌, map, true, false, Bool, Option, None, Result, Ok, Err}
use Rattle.std.specs.declared.alloc.Global.{Global}
use Rattle.std.specs.Option.{option_map}
use Rattle.std.specs.declared.vec.Vec.{Vec}
use Rattle.dw_base.specs.Entries.{Row}
use Rattle.dw_base.specs.declared.offsets.UnitSectionOffset.{UnitSectionOffset}
use Rattle.dw_entry_ids.specs.AnyUnit.{IsNextEntry, StandsAmong, StopsAtFault}
use Rattle.dw_entry_ids.specs.Ids.{entry_count, is_entry}
use Rattle.dw_entry_ids.specs.RowsUntil.{unit_rows_until}
use Rattle.dw_entry_ids.specs.declared.unit_rows.UnitRows.{UnitRows}
use Rattle.dw_read.specs.Reading.{Reading}
use Rattle.dw_read.specs.declared.entry.DebuggingInformationEntry.{DebuggingInformationEntry}
use Rattle.dw_read.specs.declared.error.ReadError.{ReadError}
use Rattle.dw_read_units.specs.declared.dwarf.Unit.{Unit as UnitFields}
use Rattle.dw_sources.specs.ConvertErrors.{from_read}
use Rattle.dw_sources.specs.declared.convert_error.ConvertError.{ConvertError}
use Rattle.dw_sources.specs.declared.convert_error.ConvertError.TheVariants.{NoMemory}
use Rattle.dw_filter.specs.AttributePlaces.{AddsAttributes, RefusesOne, seen}
use Rattle.dw_filter.specs.FilterEntries.{IsLess, Spot, kept_attributes, spot_above, spots_in}
use Rattle.dw_filter.specs.declared.unit.FilterUnit.{FilterUnit}
use Rattle.dw_filter.specs.declared.unit_entry.FilterUnitEntry.{FilterUnitEntry}

module _ {R E : Type 0} (reading : R → Reading) where
  module _ (u : UnitFields R E) (root : Row) (rest : List Row) (fault : Option ReadError) where
    -- the rows of a unit begin with its root, behind its header
    pub record HasRoot : Type 0 where
      pub placed : u.header.offset.0 ≤ (reading u.header.body).place
      pub rows : unit_rows_until reading u ≡ record { rows = root ∷ rest; fault = fault }
      pub is_root : is_entry root.mark ≡ true

    -- the root was read, and nothing behind it
    pub record StandsBehindRoot (rows : UnitRows R E) (spots : List Spot) : Type 0 where
      pub stands : StandsAmong reading u rows (root ∷ []) rest fault
      pub seen : spots ≡ spots_in (root ∷ [])

    abbrev pub BeginsUnit : Result (UnitRows R E × Vec Spot Global) ConvertError → Type 0
    BeginsUnit (Ok x) = StandsBehindRoot x.0 x.1.items
    BeginsUnit (Err e) = e ≡ NoMemory

  -- It stands behind some of the unit's rows, of which the root is one, and has answered no error. The others, up to the first that
  -- can't be read, come next. Of the entries among those before it knows where they stand, and it has counted them but for the root.
  pub record StandsBehind (f : FilterUnit R E) (front rest : List Row) (fault : Option ReadError) : Type 0 where
    pub rows : StandsAmong reading f.read_unit.unit.now f.rows front rest fault
    pub seen : f.seen.items ≡ spots_in front
    pub counted : entry_count front ≡ f.count.now + 1
    pub going : f.error ≡ None

  module _ (old : FilterUnit R E) (front rest : List Row) where
    -- The next of the entries that are left, behind null entries, less the attributes that what is written has of its own; the
    -- location lists that the others name can be read.
    pub record HandsOutEntry (fault : Option ReadError) (new : FilterUnit R E) (entry : FilterUnitEntry R E) : Type 0 where
      pub as_read : DebuggingInformationEntry R E
      pub id : ℕ
      pub parent : ℕ
      pub next : IsNextEntry reading old.read_unit.unit.now front rest as_read id parent
      pub less : IsLess as_read entry.read_entry
      pub under : entry.parent ≡ option_map (λ s. s.0) (spot_above (spots_in front) parent)
      pub under_tag : entry.parent_tag ≡ option_map (λ s. s.1) (spot_above (spots_in front) parent)
      pub read_unit : entry.read_unit ≡ old.read_unit
      pub named : List UnitSectionOffset
      pub lists : AddsAttributes reading old.read_unit (map (seen reading) entry.read_entry.attrs.items) [] named
      pub count : new.count.now ≡ old.count.now + 1
      pub stands : StandsBehind new ((front ++ next.nulls) ++ next.row ∷ []) next.back fault

    -- no entry is left, and the rows were read to the unit's end
    pub record HandsOutNoEntry (fault : Option ReadError) (new : FilterUnit R E) : Type 0 where
      pub none : entry_count rest ≡ 0
      pub whole : fault ≡ None
      pub stands : StandsBehind new (front ++ rest) [] None

    -- a row can't be read, for this reason, and all entries before it were handed out
    pub record RefusesRow (fault : Option ReadError) (e : ConvertError) : Type 0 where
      pub error : ReadError
      pub stops : StopsAtFault reading old.read_unit.unit.now front rest fault error
      pub is : e ≡ from_read error

    -- a location list that the next entry names can't be found or read, for this reason
    pub record RefusesList (e : ConvertError) : Type 0 where
      pub as_read : DebuggingInformationEntry R E
      pub id : ℕ
      pub parent : ℕ
      pub next : IsNextEntry reading old.read_unit.unit.now front rest as_read id parent
      pub named : List UnitSectionOffset
      pub refused : RefusesOne reading old.read_unit (map (seen reading) (kept_attributes as_read.attrs.items)) [] named e

    -- the next entry is read, or none is left, or one can't be read
    abbrev pub ReadsEntry : Option ReadError → FilterUnit R E → FilterUnitEntry R E → Result Bool ConvertError → Type 0
    ReadsEntry fault new entry (Ok true) = HandsOutEntry fault new entry
    ReadsEntry fault new entry (Ok false) = HandsOutNoEntry fault new
    ReadsEntry fault new entry (Err e) = (e ≡ NoMemory) ⊎ (RefusesRow fault e ⊎ RefusesList e)
