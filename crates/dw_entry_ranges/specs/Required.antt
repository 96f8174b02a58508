-- Which entries of a file are required: those that have a live address (DWARF 5, 2.17).
use Rattle.std.specs.Prelude.{◌≡◌, ℕ, ◌+◌, Bool, List, [], ◌∷◌, ◌++◌, drop, map, All, Some, Result, Ok, Err, if◌then◌else◌}
use Rattle.std.specs.List.{list_any}
use Rattle.dw_base.specs.Entries.{ReadEntry, Mark, Open, Null, Row}
use Rattle.dw_base.specs.Info.{ReadUnit}
use Rattle.dw_base.specs.declared.offsets.UnitSectionOffset.{UnitSectionOffset}
use Rattle.dw_read.specs.Reading.{Reading}
use Rattle.dw_read.specs.Reasons.{◌=>>◌}
use Rattle.dw_read.specs.declared.error.ReadError.{ReadError}
use Rattle.dw_read_units.specs.Passes.{rows_reading, unit_reading, units_reading, units_there}
use Rattle.dw_read_units.specs.Roots.{named_of}
use Rattle.dw_read_units.specs.UnitReads.{IsUnit}
use Rattle.dw_read_units.specs.declared.dwarf.Dwarf.{Dwarf}
use Rattle.dw_read_units.specs.declared.unit_ref.UnitRef.{UnitRef}
use Rattle.dw_entry_ranges.specs.Entries.{entry_ranges}
use Rattle.dw_entry_ranges.specs.Live.{meets}
use Rattle.dw_entry_ranges.specs.declared.live.LiveRange.{LiveRange}
use Rattle.dw_entry_ranges.specs.declared.range.AddressRange.{AddressRange}

-- a place, where what stands there is required
abbrev pub place_if : Bool → ℕ → List UnitSectionOffset
place_if b place = if b then record { 0 = place } ∷ [] else []

module _ {R E : Type 0} (reading : R → Reading) (u : UnitRef R E) where
  -- the ranges of an entry of a unit, or the reason why they can't be told
  abbrev pub ranges_in : ReadEntry → Result (List AddressRange) ReadError
  ranges_in e = entry_ranges reading u (reading u.unit.now.header.body).is_big (map (named_of u.unit.now.header.fields.encoding) e.attributes)

  module _ (live : List LiveRange) where
    -- an entry is required where one of its own ranges meets a live one; a null entry never is
    abbrev pub mark_required : ℕ → Mark ReadEntry → Result (List UnitSectionOffset) ReadError
    mark_required place (Open e) = ranges_in e =>> λ ranges. Ok (place_if (list_any (meets live) ranges) place)
    mark_required place Null = Ok []

    -- the places in the section of the required entries of rows, in their order
    unfoldable pub rows_required : List Row → Result (List UnitSectionOffset) ReadError
    rows_required [] = Ok []
    rows_required (r ∷ rows) =
        mark_required (u.unit.now.header.offset.0 + r.from) r.mark =>> λ here. rows_required rows =>> λ more. Ok (here ++ more)

    -- the same of a unit, whose root isn't asked for
    abbrev pub unit_required : List Row → Result (List UnitSectionOffset) ReadError
    unit_required rows = rows_required (drop 1 rows)

  -- An entry behind the unit's root has ranges that can't be told, for this reason. The rows in front of it can be read; nothing is
  -- said of those behind it.
  pub record MissesRow (e : ReadError) : Type 0 where
    pub root : Row
    pub front : List Row
    pub row : Row
    pub back : Result (List Row) ReadError
    pub rows : rows_reading reading u.unit.now.header u.unit.now.abbreviations ≡ (back =>> λ more. Ok ((root ∷ front) ++ row ∷ more))
    pub entry : ReadEntry
    pub mark : row.mark ≡ Open entry
    pub misses : ranges_in entry ≡ Err e

-- a unit as the grammar has it, and as it is read with its file
pub record Held (R E : Type 0) : Type 0 where
  pub unit : ReadUnit
  pub at : UnitRef R E

module _ {R E : Type 0} (reading : R → Reading) (d : Dwarf R E) where
  -- the unit is one of the file, and its rows are read
  pub record IsHeld (h : Held R E) : Type 0 where
    pub file : h.at.dwarf.now ≡ d
    pub fields : IsUnit reading d h.at.unit.now.header h.at.unit.now
    pub unit : unit_reading reading d h.at.unit.now.header ≡ Ok h.unit
    pub rows : rows_reading reading h.at.unit.now.header h.at.unit.now.abbreviations ≡ Ok h.unit.rows

  -- the places of the required entries of units, in their order
  unfoldable pub places_required : List LiveRange → List (Held R E) → Result (List UnitSectionOffset) ReadError
  places_required live [] = Ok []
  places_required live (h ∷ hs) =
      unit_required reading h.at live h.unit.rows =>> λ here. places_required live hs =>> λ more. Ok (here ++ more)

  -- .debug_info is read to its end, and the places are those of its required entries
  pub record FindsRequired (live : List LiveRange) (places : List UnitSectionOffset) : Type 0 where
    pub held : List (Held R E)
    pub are : All IsHeld held
    pub read : units_reading reading d ≡ Ok (map (λ h. h.unit) held)
    pub there : units_there reading d ≡ Some (map (λ h. h.unit) held)
    pub places_are : places_required live held ≡ Ok places

  -- A unit of the file has such an entry. The units in front of it can be read; nothing is said of those behind it.
  pub record MissesEntry (e : ReadError) : Type 0 where
    pub at : UnitRef R E
    pub file : at.dwarf.now ≡ d
    pub fields : IsUnit reading d at.unit.now.header at.unit.now
    pub front : List ReadUnit
    pub back : Result (List ReadUnit) ReadError
    pub units : units_reading reading d ≡ (unit_reading reading d at.unit.now.header =>> λ unit. back =>> λ more. Ok (front ++ unit ∷ more))
    pub misses : MissesRow reading at e
