-- A unit while it is converted.
use Rattle.std.specs.Prelude.{◌≡◌, ℕ, ◌+◌, ◌==◌, List, Option, Some, None, Result, Ok, Err, false, if◌then◌else◌}
use Rattle.dw_base.specs.Entries.{Row}
use Rattle.dw_base.specs.declared.address.DebugInfoRef.{DebugInfoRef}
use Rattle.dw_base.specs.declared.endianity.Endianity as Endianity
use Rattle.dw_base.specs.declared.ids.UnitEntryId.{UnitEntryId}
use Rattle.dw_entries.specs.Entries.{with_added}
use Rattle.dw_read.specs.Reading.{Reading}
use Rattle.dw_read.specs.declared.entry.DebuggingInformationEntry.{DebuggingInformationEntry}
use Rattle.dw_read.specs.declared.reader.Reader as Reader
use Rattle.dw_read_units.specs.declared.dwarf.Unit.{Unit as UnitFields}
use Rattle.dw_sources.specs.declared.convert_error.ConvertError.{ConvertError}
use Rattle.dw_sources.specs.declared.convert_error.ConvertError.TheVariants.{NoMemory}
use Rattle.dw_tree.specs.UnitValue.{UnitValue}
use Rattle.dw_convert.specs.Tables.{Tables}
use Rattle.dw_dwarf.specs.ConvertSteps.{tables_in}
use Rattle.dw_dwarf.specs.EntryRefs.{entry_of, info_of}
use Rattle.dw_dwarf.specs.NewUnits.{IsNewUnit}
use Rattle.dw_dwarf.specs.Skeletons.{first_of, lines_of}
use Rattle.dw_dwarf.specs.UnitIds.{id_of, ids_of}
use Rattle.dw_entry_ids.specs.KeptWalk.{StandsKept, HandsOutKept}
use Rattle.dw_entry_ids.specs.UnitCursor.{HandsOutNone}
use Rattle.dw_dwarf.specs.UnitEntries.{IsLess}
use Rattle.dw_dwarf.specs.declared.convert.convert_unit.ConvertUnit.{ConvertUnit}
use Rattle.dw_dwarf.specs.declared.convert.unit_entry.ConvertUnitEntry.{ConvertUnitEntry}

-- the id under which an entry is to stand: that of its parent, or the root's
abbrev pub parent_of : Option UnitEntryId → ℕ
parent_of None = 0
parent_of (Some id) = id.0

-- the parent of an entry that is kept under an id, or isn't; the root has none
abbrev pub above : Option UnitEntryId → ℕ → Option UnitEntryId
above (Some id) parent = if id.0 == 0 then None else Some (record { 0 = parent })
above None parent = Some (record { 0 = parent })

-- a unit with an entry added: under an id that was reserved, or under a new one
abbrev pub added_under : Option UnitEntryId → ℕ → ℕ → UnitValue → UnitValue
added_under (Some id) parent tag u = record u { entries = with_added u.reserved id.0 parent tag u.entries }
added_under None parent tag u = record u { entries = with_added (u.reserved + 1) u.reserved parent tag u.entries; reserved = u.reserved + 1 }

-- the id that is given, or the next
abbrev pub id_or_next : Option UnitEntryId → UnitValue → ℕ
id_or_next (Some id) u = id.0
id_or_next None u = u.reserved

module _ {R E : Type 0} {RG : Reader.Ghosts R E} {EG : Endianity.Ghosts E} where
  -- the unit that is read
  abbrev pub held : ConvertUnit R E RG EG → UnitFields R E
  held c = c.given.read.unit.now

  -- the id at which those of entries behind the root begin, where that isn't their own
  abbrev pub behind : ConvertUnit R E RG EG → Option ℕ
  behind c = first_of c.given.skeleton

  -- the entries that it knows by their places, in the unit and in .debug_info
  abbrev pub entries_in : ConvertUnit R E RG EG → ℕ → Option UnitEntryId
  entries_in c = entry_of c.given.refs

  abbrev pub infos_in : ConvertUnit R E RG EG → ℕ → Option DebugInfoRef
  infos_in c = info_of c.given.refs

  -- the tables that its conversions go into
  abbrev pub tables_of : ConvertUnit R E RG EG → Tables
  tables_of c = tables_in c.strings.now c.line_strings.now c.unit.now

  -- it still has the loans of the unit that is written and of the strings
  pub record KeepsLoans (old new : ConvertUnit R E RG EG) : Type 0 where
    pub unit : new.unit.ghost_name ≡ old.unit.ghost_name
    pub line_strings : new.line_strings.ghost_name ≡ old.line_strings.ghost_name
    pub strings : new.strings.ghost_name ≡ old.strings.ghost_name

  -- It is as it was handed out: the root alone was read, and the unit that is written has its root alone, without attributes, lists
  -- and line program, and is neither written nor skipped.
  pub record IsFresh (c : ConvertUnit R E RG EG) : Type 0 where
    pub unit : IsNewUnit (lines_of c.given.skeleton c.given.read).unit.now.header.fields.encoding (id_of (behind c) c.given.entries) c.unit.now
    pub first : c.rows.rows.count ≡ 1
    pub going : c.rows.rows.is_ended ≡ false

  -- it stands between these rows of its unit
  abbrev pub StandsAt : (R → Reading) → ConvertUnit R E RG EG → List Row → List Row → Type 0
  StandsAt reading c front rest = StandsKept reading (held c) c.given.kept.now c.rows front rest

  -- the next entry of those that are left, as what is handed out, with the id that is reserved for it, if it is kept
  pub record HandsOutEntry (reading : R → Reading) (front rest : List Row) (new : ConvertUnit R E RG EG) (entry : ConvertUnitEntry R E) (id : Option UnitEntryId) : Type 0 where
    pub as_read : DebuggingInformationEntry R E
    pub number : Option UnitEntryId
    pub parent : ℕ
    pub row : HandsOutKept reading (held new) new.given.kept.now front rest new.rows as_read number parent
    pub id_is : id ≡ ids_of (behind new) number
    pub less : IsLess reading as_read entry
    pub under : entry.parent ≡ above number (id_of (behind new) parent)
    pub read_unit : entry.read_unit ≡ new.read_unit

  -- the next entry is read, or none is left
  abbrev pub ReadsEntry : (R → Reading) → List Row → List Row → ConvertUnit R E RG EG → ConvertUnitEntry R E → Result (Option (Option UnitEntryId)) ConvertError → Type 0
  ReadsEntry reading front rest new entry (Ok None) = HandsOutNone reading (held new) front rest new.rows.rows
  ReadsEntry reading front rest new entry (Ok (Some id)) = HandsOutEntry reading front rest new entry id
  ReadsEntry reading front rest new entry (Err e) = e ≡ NoMemory
