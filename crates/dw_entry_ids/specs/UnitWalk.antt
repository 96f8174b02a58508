-- What reading the next entry of a unit answers.
use Rattle.std.specs.Prelude.{◌≡◌, ◌≢◌, List, All, Option, Some, None, Result, Ok, Err}
use Rattle.dw_base.specs.Abbreviations.{Declaration}
use Rattle.dw_base.specs.Entries.{Row}
use Rattle.dw_base.specs.declared.ids.UnitEntryId.{UnitEntryId}
use Rattle.dw_read.specs.Reading.{Reading}
use Rattle.dw_read.specs.declared.entry.DebuggingInformationEntry.{DebuggingInformationEntry}
use Rattle.dw_read_units.specs.declared.dwarf.Unit.{Unit as UnitFields}
use Rattle.dw_read.specs.declared.error.ReadError.{ReadError}
use Rattle.dw_read.specs.declared.error.ReadError.TheVariants.{NoMemory}
use Rattle.dw_entry_ids.specs.UnitCursor.{HandsOutRow, HandsOutNone}
use Rattle.dw_entry_ids.specs.declared.unit_rows.UnitRows.{UnitRows}

-- an entry has a tag where the table has no tag of zero
abbrev pub IsTagged : {R E : Type 0} → UnitFields R E → DebuggingInformationEntry R E → Type 0
IsTagged u entry = All (λ (d : Declaration). d.shape.tag ≢ 0) u.abbreviations → entry.tag.0 ≢ 0

-- from between these rows, the next entry is read, with its id and its parent's, or none is left; rows that were read before can be
-- read again
abbrev pub WalksOn : {R E : Type 0} → (R → Reading) → UnitFields R E → List Row → List Row → UnitRows R E → DebuggingInformationEntry R E → Result (Option (UnitEntryId × UnitEntryId)) ReadError → Type 0
WalksOn reading u front rest new entry (Ok (Some x)) = HandsOutRow reading u front rest new entry x.0.0 x.1.0 × IsTagged u entry
WalksOn reading u front rest new entry (Ok None) = HandsOutNone reading u front rest new
WalksOn reading u front rest new entry (Err e) = e ≡ NoMemory
