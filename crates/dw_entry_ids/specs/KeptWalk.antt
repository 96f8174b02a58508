-- A walk over the entries of a unit of which some are kept.
use Rattle.std.specs.Prelude.{◌≡◌, ℕ, ◌≤◌, List, [], ◌∷◌, ◌++◌, map, get_or, Option, Some, None, Result, Ok, Err, Bool, if◌then◌else◌}
use Rattle.dw_base.specs.Entries.{Row}
use Rattle.dw_base.specs.declared.ids.UnitEntryId.{UnitEntryId}
use Rattle.dw_base.specs.declared.offsets.UnitSectionOffset.{UnitSectionOffset}
use Rattle.dw_read.specs.Reading.{Reading}
use Rattle.dw_read.specs.declared.entry.DebuggingInformationEntry.{DebuggingInformationEntry}
use Rattle.dw_read.specs.declared.error.ReadError.{ReadError}
use Rattle.dw_read.specs.declared.error.ReadError.TheVariants.{NoMemory}
use Rattle.dw_read_units.specs.declared.dwarf.Unit.{Unit as UnitFields}
use Rattle.dw_entry_ids.specs.Ids.{entry_count}
use Rattle.dw_entry_ids.specs.KeptRows.{keep_of, kept_rows, images_of, row_stays}
use Rattle.dw_entry_ids.specs.UnitCursor.{StandsBetween, HandsOutRow, HandsOutNone}
use Rattle.dw_entry_ids.specs.UnitWalk.{IsTagged}
use Rattle.dw_entry_ids.specs.declared.kept_rows.KeptRows.{KeptRows}

module _ {R E : Type 0} (reading : R → Reading) (u : UnitFields R E) (kept : Option (List UnitSectionOffset)) where
  -- the rows of the unit that stay
  abbrev pub stay : List Row → List Row
  stay rows = kept_rows (keep_of kept) u.header.offset.0 rows

  -- It stands behind some of a unit's rows, has counted the entries among those that are kept, and knows for each entry the number
  -- of the kept one that it is, or below which it stands.
  pub record StandsKept (c : KeptRows R E) (front rest : List Row) : Type 0 where
    pub rows : StandsBetween reading u c.rows front rest
    pub behind : u.header.offset.0 ≤ (reading u.header.body).place
    pub keeps : c.kept.now ≡ kept
    pub start : c.start ≡ u.header.offset.0
    pub count : c.count ≡ entry_count (stay front)
    pub images : map (λ (i : UnitEntryId). i.0) c.images.items ≡ images_of (keep_of kept) u.header.offset.0 front

  -- the number of an entry, where it is kept
  abbrev pub number_if : Bool → ℕ → Option UnitEntryId
  number_if is_kept n = if is_kept then Some (record { 0 = n }) else None

  -- The next of the entries that are left. One that is kept has the next number, and each stands under what stands for its own
  -- parent.
  pub record HandsOutKept (front rest : List Row) (new : KeptRows R E) (entry : DebuggingInformationEntry R E) (id : Option UnitEntryId) (parent : ℕ) : Type 0 where
    pub number : ℕ
    pub above : ℕ
    pub row : HandsOutRow reading u front rest new.rows entry number above
    pub id_is : id ≡ number_if (row_stays (keep_of kept) u.header.offset.0 (entry_count front) row.row) (entry_count (stay front))
    pub parent_is : parent ≡ get_or (images_of (keep_of kept) u.header.offset.0 front) above 0
    pub stands : StandsKept new ((front ++ row.nulls) ++ row.row ∷ []) row.back

  -- the next entry is read, or none is left; rows that were read before can be read again
  abbrev pub WalksKept : List Row → List Row → KeptRows R E → DebuggingInformationEntry R E → Result (Option (Option UnitEntryId × UnitEntryId)) ReadError → Type 0
  WalksKept front rest new entry (Ok (Some x)) = HandsOutKept front rest new entry x.0 x.1.0 × IsTagged u entry
  WalksKept front rest new entry (Ok None) = HandsOutNone reading u front rest new.rows
  WalksKept front rest new entry (Err e) = e ≡ NoMemory
