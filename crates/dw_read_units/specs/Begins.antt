-- Where the rows of a unit are read from.
use Rattle.std.specs.Prelude.{Option, Some, None}
use Rattle.dw_base.specs.declared.offsets.UnitOffset.{UnitOffset}
use Rattle.dw_read.specs.Reading.{Reading}
use Rattle.dw_read.specs.Rows.{BeginsAt, BeginsIn, IsOutside}
use Rattle.dw_read.specs.declared.entries.EntriesRaw.{EntriesRaw}
use Rattle.dw_read.specs.declared.error.ReadError.{ReadError}
use Rattle.dw_read_units.specs.declared.dwarf.Unit.{Unit as ReadUnit}

-- from the first row on, or from an offset in the unit
abbrev pub Begins : {R E : Type 0} → (R → Reading) → ReadUnit R E → Option UnitOffset → EntriesRaw R E → Type 0
Begins reading u None rows = BeginsAt reading u.header u.abbreviations rows
Begins reading u (Some offset) rows = BeginsIn reading u.header u.abbreviations offset.0 rows

-- an offset lies outside the unit
abbrev pub BeginsNowhere : {R E : Type 0} → (R → Reading) → ReadUnit R E → Option UnitOffset → ReadError → Type 0
BeginsNowhere reading u None e = ⊥
BeginsNowhere reading u (Some offset) e = IsOutside reading u.header offset.0 e
