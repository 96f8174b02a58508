-- What values become that lead to no string, no list and no expression.
use Rattle.std.specs.Prelude.{◌≡◌, ℕ, List, Option, Result}
use Rattle.dw_base.specs.declared.address.Address.{Address}
use Rattle.dw_base.specs.declared.address.DebugInfoRef.{DebugInfoRef}
use Rattle.dw_base.specs.declared.ids.FileId.{FileId}
use Rattle.dw_base.specs.declared.ids.UnitEntryId.{UnitEntryId}
use Rattle.dw_entries.specs.declared.value.AttributeValue.{AttributeValue}
use Rattle.dw_entries.specs.declared.value.AttributeValue.TheVariants as built
use Rattle.dw_read.specs.Reading.{Reading}
use Rattle.dw_read.specs.Values.{Value}
use Rattle.dw_read.specs.declared.value.AttributeValue.TheVariants as read
use Rattle.dw_read_units.specs.declared.unit_ref.UnitRef.{UnitRef}
use Rattle.dw_sources.specs.RawListIters.{encoding_in}
use Rattle.dw_sources.specs.declared.convert_error.ConvertError.{ConvertError}
use Rattle.dw_convert.specs.Constants.{same_value}
use Rattle.dw_convert.specs.Files.{file_image}
use Rattle.dw_convert.specs.Lookups.{address_of}
use Rattle.dw_convert.specs.Outcomes.{AddressOutcome, IndexOutcome}
use Rattle.dw_convert.specs.References.{EntryOutcome, InfoOutcome}
use Rattle.dw_convert.specs.Values.{MadeOf, Made, program_image}

-- a place is what the caller or the unit knows of it, and all else stays what it is
abbrev pub PlainOutcome : {R E : Type 0} → (R → Reading) → (ℕ → Option Address → Type 0) → (ℕ → Option UnitEntryId) → (ℕ → Option DebugInfoRef) → UnitRef R E → List FileId → Value → Result AttributeValue ConvertError → Type 0
PlainOutcome reading answers entries infos u files (read.Addr n) r = Made (AddressOutcome answers n) built.Address r
PlainOutcome reading answers entries infos u files (read.DebugAddrIndex i) r = Made (IndexOutcome answers (address_of reading u) i) built.Address r
PlainOutcome reading answers entries infos u files (read.UnitRef p) r = Made (EntryOutcome entries p.0) built.UnitRef r
PlainOutcome reading answers entries infos u files (read.DebugInfoRef p) r = Made (InfoOutcome infos p.0) built.DebugInfoRef r
PlainOutcome reading answers entries infos u files (read.FileIndex n) r = MadeOf (file_image (encoding_in u).version files n) built.FileIndex r
PlainOutcome reading answers entries infos u files (read.DebugLineRef p) r = r ≡ program_image u.unit.now.line_program p.0
PlainOutcome reading answers entries infos u files v r = r ≡ same_value v
