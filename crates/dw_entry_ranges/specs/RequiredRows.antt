-- What reading rows and units for required entries comes to.
use Rattle.std.specs.Prelude.{◌≡◌, ◌≤◌, ◌+◌, Bool, List, ◌++◌, Result, Ok, Err}
use Rattle.std.specs.List.{list_any}
use Rattle.dw_base.specs.Entries.{ReadEntry, Mark, Open, Row}
use Rattle.dw_base.specs.declared.offsets.UnitSectionOffset.{UnitSectionOffset}
use Rattle.dw_read.specs.Reading.{Reading}
use Rattle.dw_read.specs.declared.entries.EntriesRaw.{EntriesRaw}
use Rattle.dw_read.specs.declared.entry.DebuggingInformationEntry.{DebuggingInformationEntry}
use Rattle.dw_read.specs.declared.error.ReadError.{ReadError}
use Rattle.dw_read.specs.declared.unit_header.UnitHeader.{UnitHeader}
use Rattle.dw_read_units.specs.Passes.{rows_reading, PassesRow}
use Rattle.dw_read_units.specs.UnitReads.{IsUnit}
use Rattle.dw_read_units.specs.declared.dwarf.Dwarf.{Dwarf}
use Rattle.dw_read_units.specs.declared.unit_ref.UnitRef.{UnitRef}
use Rattle.dw_entry_ranges.specs.Attributes.{values_in}
use Rattle.dw_entry_ranges.specs.Entries.{entry_ranges}
use Rattle.dw_entry_ranges.specs.Live.{meets, IsMadeOf}
use Rattle.dw_entry_ranges.specs.Required.{place_if, ranges_in, mark_required, unit_required, MissesRow}
use Rattle.dw_entry_ranges.specs.declared.live.LiveRange.{LiveRange}
use Rattle.dw_entry_ranges.specs.declared.live.LiveRanges.{LiveRanges}
use Rattle.dw_entry_ranges.specs.declared.range.AddressRange.{AddressRange}

-- rows are read in the unit of a header
pub record AreRowsOf {R E : Type 0} (reading : R → Reading) (h : UnitHeader R E) (rows : EntriesRaw R E) : Type 0 where
  pub fields : rows.fields.now ≡ h.fields
  pub start : rows.start ≡ h.offset.0
  pub order : (reading rows.input).is_big ≡ (reading h.body).is_big
  pub began : h.offset.0 ≤ (reading rows.input).place

-- some places more, which are told
pub record Adds (told : Result (List UnitSectionOffset) ReadError) (before after : List UnitSectionOffset) : Type 0 where
  pub here : List UnitSectionOffset
  pub is : told ≡ Ok here
  pub added : after ≡ before ++ here

module _ {R E : Type 0} (reading : R → Reading) (u : UnitRef R E) (ranges : LiveRanges) where
  -- the place of an entry, where that is required
  pub record AddsEntry (big : Bool) (entry : DebuggingInformationEntry R E) (before after : List UnitSectionOffset) : Type 0 where
    pub own : List AddressRange
    pub are : entry_ranges reading u big (values_in reading entry.attrs.items) ≡ Ok own
    pub added : (live : List LiveRange) → IsMadeOf ranges live → after ≡ before ++ place_if (list_any (meets live) own) (u.unit.now.header.offset.0 + entry.offset.0)

  -- the row at the place is read and passed, and that of its entry added
  pub record AddsRow (old new : EntriesRaw R E) (before after : List UnitSectionOffset) : Type 0 where
    pub mark : Mark ReadEntry
    pub passes : PassesRow reading old new mark
    pub added : (live : List LiveRange) → IsMadeOf ranges live → Adds (mark_required reading u live (reading old.input).place mark) before after

  -- all rows of the unit are read, and the places of its required entries added
  pub record AddsRows (before after : List UnitSectionOffset) : Type 0 where
    pub rows : List Row
    pub are : rows_reading reading u.unit.now.header u.unit.now.abbreviations ≡ Ok rows
    pub added : (live : List LiveRange) → IsMadeOf ranges live → Adds (unit_required reading u live rows) before after

-- the row at the place is that of an entry whose ranges can't be told, for this reason
pub record MissesMark {R E : Type 0} (reading : R → Reading) (u : UnitRef R E) (old new : EntriesRaw R E) (e : ReadError) : Type 0 where
  pub entry : ReadEntry
  pub passes : PassesRow reading old new (Open entry)
  pub misses : ranges_in reading u entry ≡ Err e

module _ {R E : Type 0} (reading : R → Reading) (d : Dwarf R E) (h : UnitHeader R E) where
  -- the unit of a header is read, and the places of its required entries added
  pub record AddsUnit (ranges : LiveRanges) (before after : List UnitSectionOffset) : Type 0 where
    pub at : UnitRef R E
    pub file : at.dwarf.now ≡ d
    pub fields : IsUnit reading d h at.unit.now
    pub rows : AddsRows reading at ranges before after

  -- the unit of a header has an entry whose ranges can't be told, for this reason
  pub record MissesUnitRow (e : ReadError) : Type 0 where
    pub at : UnitRef R E
    pub file : at.dwarf.now ≡ d
    pub fields : IsUnit reading d h at.unit.now
    pub misses : MissesRow reading at e
