-- Where the rows of a unit are read, entry by entry, also of one that has a row that can't be read.
use Rattle.std.specs.Prelude.{◌≡◌, ◌⊎◌, ℕ, ◌-◌, ◌≤◌, List, [], ◌∷◌, ◌++◌, All, length, map, false, Option, Some, None, Result, Ok, Err}
use Rattle.dw_base.specs.Entries.{Row, Open}
use Rattle.dw_base.specs.declared.ids.UnitEntryId.{UnitEntryId}
use Rattle.dw_read.specs.Orders.{attribute_order, IsInOrder}
use Rattle.dw_read.specs.Reading.{Reading, left}
use Rattle.dw_read.specs.Rows.{entry_of, shown_depth}
use Rattle.dw_read.specs.declared.entry.DebuggingInformationEntry.{DebuggingInformationEntry}
use Rattle.dw_read.specs.declared.error.ReadError.{ReadError}
use Rattle.dw_read.specs.declared.error.ReadError.TheVariants.{NoMemory}
use Rattle.dw_read_units.specs.declared.dwarf.Unit.{Unit as UnitFields}
use Rattle.dw_entry_ids.specs.Ids.{entry_count}
use Rattle.dw_entry_ids.specs.Plans.{opened, parent_behind}
use Rattle.dw_entry_ids.specs.RowsUntil.{rows_until, unit_rows_until}
use Rattle.dw_entry_ids.specs.UnitWalk.{IsTagged}
use Rattle.dw_entry_ids.specs.declared.unit_rows.UnitRows.{UnitRows}

module _ {R E : Type 0} (reading : R → Reading) (u : UnitFields R E) where
  -- A cursor stands behind some of the rows of a unit up to the first that can't be read. Those that are read from there are the
  -- others, up to that one. It has counted the entries among those before it, and keeps which of them have lists of children that
  -- are open.
  pub record StandsAmong (c : UnitRows R E) (front rest : List Row) (fault : Option ReadError) : Type 0 where
    pub all : unit_rows_until reading u ≡ record { rows = front ++ rest; fault = fault }
    pub fuel : ℕ
    pub enough : length (left (reading c.rows.input)) ≤ fuel
    pub reads : rows_until (reading u.header.body).is_big u.header.fields.encoding u.abbreviations fuel ((reading c.rows.input).place - u.header.offset.0) c.rows.open_lists (left (reading c.rows.input)) ≡ record { rows = rest; fault = fault }
    pub declarations : c.rows.abbreviations.now ≡ u.abbreviations
    pub fields : c.rows.fields.now ≡ u.header.fields
    pub start : c.rows.start ≡ u.header.offset.0
    pub order : (reading c.rows.input).is_big ≡ (reading u.header.body).is_big
    pub began : u.header.offset.0 ≤ (reading c.rows.input).place
    pub deep : c.rows.open_lists ≤ (reading c.rows.input).place
    pub counted : c.count ≡ entry_count front
    pub few : c.count ≤ (reading c.rows.input).place
    pub parents : map (λ (i : UnitEntryId). i.0) c.parents.items ≡ opened front c.rows.open_lists
    pub going : c.is_ended ≡ false

  -- The next of the entries that are left, behind null entries. It has the next number, and the entry under which it stands that of
  -- its own parent.
  pub record IsNextEntry (front rest : List Row) (entry : DebuggingInformationEntry R E) (id parent : ℕ) : Type 0 where
    pub nulls : List Row
    pub row : Row
    pub back : List Row
    pub is : rest ≡ nulls ++ row ∷ back
    pub none : entry_count nulls ≡ 0
    pub code : ℕ
    pub mark : row.mark ≡ Open (entry_of reading code entry)
    pub encoded : All (λ a. a.encoding ≡ u.header.fields.encoding) entry.attrs.items
    pub in_order : All (λ a. IsInOrder (reading u.header.body).is_big (attribute_order reading a)) entry.attrs.items
    pub offset : entry.offset.0 ≡ row.from
    pub depth : entry.depth ≡ shown_depth row.depth
    pub id_is : id ≡ entry_count front
    pub parent_is : parent ≡ parent_behind (front ++ nulls) row.depth

  module _ (front rest : List Row) (fault : Option ReadError) where
    -- the next entry is handed out, and the cursor stands behind its row
    pub record HandsOutNext (new : UnitRows R E) (entry : DebuggingInformationEntry R E) (id parent : ℕ) : Type 0 where
      pub next : IsNextEntry front rest entry id parent
      pub tagged : IsTagged u entry
      pub stands : StandsAmong new ((front ++ next.nulls) ++ next.row ∷ []) next.back fault

    -- no entry is left, and the rows were read to the unit's end
    pub record HandsOutNoMore (new : UnitRows R E) : Type 0 where
      pub none : entry_count rest ≡ 0
      pub whole : fault ≡ None
      pub stands : StandsAmong new (front ++ rest) [] None

    -- no entry is left before the row that can't be read, for this reason
    pub record StopsAtFault (e : ReadError) : Type 0 where
      pub none : entry_count rest ≡ 0
      pub why : fault ≡ Some e

    -- from among these rows, the next entry is read, with its id and its parent's, or none is left, or the fault is answered
    abbrev pub WalksAmong : UnitRows R E → DebuggingInformationEntry R E → Result (Option (UnitEntryId × UnitEntryId)) ReadError → Type 0
    WalksAmong new entry (Ok (Some x)) = HandsOutNext new entry x.0.0 x.1.0
    WalksAmong new entry (Ok None) = HandsOutNoMore new
    WalksAmong new entry (Err e) = (e ≡ NoMemory) ⊎ StopsAtFault e
