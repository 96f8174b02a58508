-- What converting the entries of a unit answers.
use Rattle.std.specs.Prelude.{◌≡◌, ◌≢◌, ◌≤◌, ℕ, List, [], ◌++◌, ◌∷◌, All, Option, Ok, Bool, false}
use Rattle.dw_base.specs.Abbreviations.{Declaration}
use Rattle.dw_base.specs.Entries.{Row}
use Rattle.dw_base.specs.declared.address.Address.{Address}
use Rattle.dw_base.specs.declared.address.DebugInfoRef.{DebugInfoRef}
use Rattle.dw_base.specs.declared.ids.FileId.{FileId}
use Rattle.dw_base.specs.declared.ids.UnitEntryId.{UnitEntryId}
use Rattle.dw_read.specs.Reading.{Reading}
use Rattle.dw_read_units.specs.Passes.{rows_reading}
use Rattle.dw_read_units.specs.declared.unit_ref.UnitRef.{UnitRef}
use Rattle.dw_sources.specs.declared.convert_error.ConvertError.{ConvertError}
use Rattle.dw_entries.specs.Entries.{new_root}
use Rattle.dw_entry_ids.specs.Ids.{entry_count}
use Rattle.dw_tree.specs.UnitValue.{UnitValue}
use Rattle.dw_convert.specs.Attributes.{Seen}
use Rattle.dw_convert.specs.AttributeLists.{AreConverted}
use Rattle.dw_convert.specs.Tables.{Tables}
use Rattle.dw_entry_ids.specs.KeptRows.{IsClosed, kept_rows}
use Rattle.dw_entry_ids.specs.Plans.{Plan, plans_of}
use Rattle.dw_dwarf.specs.Placed.{with_converted}
use Rattle.dw_dwarf.specs.ConvertedEntries.{Values, EntriesConvert, EntryRefuses}
use Rattle.dw_dwarf.specs.UnitIds.{IsFree, id_of, unit_entries}

-- the lists of a unit, and the strings of the file that it is written to
abbrev pub tables_in : List (List ℕ) → List (List ℕ) → UnitValue → Tables
tables_in strings line_strings u = record { strings = strings; line_strings = line_strings; ranges = u.ranges; locations = u.locations }

module _ {R E : Type 0} (reading : R → Reading) (answers : ℕ → Option Address → Type 0) (entries : ℕ → Option UnitEntryId) (infos : ℕ → Option DebugInfoRef) (u : UnitRef R E) (files : List FileId) where
  -- One entry of a unit is converted: it is added with the images of its attributes.
  pub record BecomesEntry (attributes : List Seen) (p : Plan) (before : UnitValue) (old : Tables) (after : UnitValue) (new : Tables) : Type 0 where
    pub values : Values
    pub images : AreConverted reading answers entries infos u files attributes old values new
    pub is : after ≡ record before { entries = with_converted before.reserved p values before.entries; ranges = new.ranges; locations = new.locations }

module _ {R E : Type 0} (keep : ℕ → Bool) (reading : R → Reading) (answers : ℕ → Option Address → Type 0) (entries : ℕ → Option UnitEntryId) (infos : ℕ → Option DebugInfoRef) (u : UnitRef R E) (files : List FileId) where
  abbrev pub unit_rows_read : List Row → Type 0
  unit_rows_read rows = rows_reading reading u.unit.now.header u.unit.now.abbreviations ≡ Ok rows

  -- the entries that are kept, each with its number and its parent's among them
  abbrev pub plans_kept : List Row → List Plan
  plans_kept rows = plans_of (kept_rows keep u.unit.now.header.offset.0 rows)

  -- The entries of a unit that are kept are converted: the built unit has exactly these, each under the image of its own parent,
  -- with the images of its attributes, and else stays as it was but for the lists that were named. The ids of those behind the root
  -- may begin at another than their own.
  pub record ConvertsEntries (behind : Option ℕ) (before : UnitValue) (old : Tables) (after : UnitValue) (new : Tables) : Type 0 where
    pub rows : List Row
    pub are : unit_rows_read rows
    pub values : List Values
    pub images : EntriesConvert reading answers entries infos u files (reading u.unit.now.header.body).is_big u.unit.now.header.fields.encoding (plans_kept rows) old values new
    pub is : after ≡ record before { entries = unit_entries behind (plans_kept rows) values; ranges = new.ranges; locations = new.locations }

  -- behind entries that were converted, one becomes nothing
  pub record RefusesEntry (old : Tables) (y : ConvertError) : Type 0 where
    pub rows : List Row
    pub are : unit_rows_read rows
    pub front : List Plan
    pub plan : Plan
    pub back : List Plan
    pub is : plans_kept rows ≡ front ++ plan ∷ back
    pub values : List Values
    pub tables : Tables
    pub before : EntriesConvert reading answers entries infos u files (reading u.unit.now.header.body).is_big u.unit.now.header.fields.encoding front old values tables
    pub refused : EntryRefuses reading answers entries infos u files (reading u.unit.now.header.body).is_big u.unit.now.header.fields.encoding plan tables y

-- A unit whose rows can all be read, with as many ids as it has entries that are kept, each of these with its own parent, no tag of
-- its table being zero; and the unit that it is written to, which has its root alone, and maybe ids that others have.
pub record CanConvert {R E : Type 0} (first : Option ℕ) (keep : ℕ → Bool) (reading : R → Reading) (u : UnitRef R E) (w : UnitValue) : Type 0 where
  pub rows : List Row
  pub are : rows_reading reading u.unit.now.header u.unit.now.abbreviations ≡ Ok rows
  pub behind : u.unit.now.header.offset.0 ≤ (reading u.unit.now.header.body).place
  pub tagged : All (λ (d : Declaration). d.shape.tag ≢ 0) u.unit.now.abbreviations
  pub closed : IsClosed keep u.unit.now.header.offset.0 rows
  pub free : IsFree first
  pub reserved : w.reserved ≡ id_of first (entry_count (kept_rows keep u.unit.now.header.offset.0 rows))
  pub entries : w.entries ≡ new_root ∷ []
  pub kept : w.is_freed ≡ false
