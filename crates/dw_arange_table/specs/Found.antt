-- What calls that read units for their ranges answer.
use Rattle.std.specs.Prelude.{◌≡◌, ◌⊎◌, ℕ, List, map, Some, Result, Ok, Err}
use Rattle.dw_base.specs.Entries.{ReadEntry, Open}
use Rattle.dw_read.specs.Reading.{Reading, left}
use Rattle.dw_read.specs.declared.unit_header.UnitHeader.{UnitHeader}
use Rattle.dw_read.specs.declared.error.ReadError.{ReadError}
use Rattle.dw_read.specs.declared.error.ReadError.TheVariants.{NoMemory}
use Rattle.dw_read_units.specs.Roots.{named_of}
use Rattle.dw_read_units.specs.UnitReads.{root_at}
use Rattle.dw_read_units.specs.declared.dwarf.Dwarf.{Dwarf}
use Rattle.dw_read_units.specs.declared.unit_ref.UnitRef.{UnitRef}
use Rattle.dw_entry_ranges.specs.declared.range.AddressRange.{AddressRange}
use Rattle.dw_arange_table.specs.Covers.{covered, CoversUnit}
use Rattle.dw_arange_table.specs.declared.units.UnitRanges.{UnitRanges}

-- ranges are what a definition says, or the reason is its own, or there was no memory
abbrev pub Answers : {A : Type 0} → (A → List AddressRange) → Result A ReadError → Result (List AddressRange) ReadError → Type 0
Answers items (Ok v) said = said ≡ Ok (items v)
Answers items (Err e) said = (e ≡ NoMemory) ⊎ (said ≡ Err e)

-- the first row of a unit is an entry
abbrev pub BeginsWith : {R E : Type 0} → (R → Reading) → UnitRef R E → ReadEntry → List ℕ → Type 0
BeginsWith reading u root rest = root_at reading u.unit.now.header u.unit.now.abbreviations (left (reading u.unit.now.header.body)) ≡ Some (Open root, rest)

-- what a unit covers whose first row is an entry
abbrev pub covered_by : {R E : Type 0} → (R → Reading) → UnitRef R E → ReadEntry → Result (List AddressRange) ReadError
covered_by reading u root = covered reading u (map (named_of u.unit.now.header.fields.encoding) root.attributes)

-- what was read of a unit
pub record IsFound {R E : Type 0} (reading : R → Reading) (d : Dwarf R E) (h : UnitHeader R E) (f : UnitRanges) : Type 0 where
  pub covers : CoversUnit reading d h f.ranges.items
  pub encoding : f.encoding ≡ h.fields.encoding
  pub place : f.unit ≡ h.offset
