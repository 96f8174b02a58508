-- The table of images: what each kind of value becomes (DWARF 5, 7.5.5).
use Rattle.std.specs.Prelude.{◌≡◌, ℕ, ◌==◌, Bool, false, List, Option, Some, None, Result, Ok, Err, if◌then◌else◌}
use Rattle.dw_base.specs.declared.address.Address.{Address}
use Rattle.dw_base.specs.declared.address.DebugInfoRef.{DebugInfoRef}
use Rattle.dw_base.specs.declared.ids.FileId.{FileId}
use Rattle.dw_base.specs.declared.ids.UnitEntryId.{UnitEntryId}
use Rattle.dw_base.specs.declared.offsets.DebugLineOffset.{DebugLineOffset}
use Rattle.dw_entries.specs.declared.value.AttributeValue.{AttributeValue}
use Rattle.dw_entries.specs.declared.value.AttributeValue.TheVariants as built
use Rattle.dw_lists.specs.declared.location.Location.{Location}
use Rattle.dw_lists.specs.declared.range.Range.{Range}
use Rattle.dw_read.specs.Reading.{Reading}
use Rattle.dw_read.specs.Values.{Value}
use Rattle.dw_read.specs.declared.value.AttributeValue.TheVariants as read
use Rattle.dw_read_units.specs.declared.unit_ref.UnitRef.{UnitRef}
use Rattle.dw_sources.specs.RawListIters.{encoding_in}
use Rattle.dw_sources.specs.declared.convert_error.ConvertError.{ConvertError}
use Rattle.dw_sources.specs.declared.convert_error.ConvertError.TheVariants.{InvalidLineRef}
use Rattle.dw_convert.specs.LocationLists.{IsLocationList, RefusesLocationList}
use Rattle.dw_convert.specs.Lookups.{address_of}
use Rattle.dw_convert.specs.Outcomes.{After, Then, AddressOutcome, IndexOutcome}
use Rattle.dw_convert.specs.RangeLists.{IsRangeList, RefusesRangeList}
use Rattle.dw_convert.specs.References.{EntryOutcome, InfoOutcome}
use Rattle.dw_convert.specs.Constants.{same_value}
use Rattle.dw_convert.specs.Exprlocs.{ExprlocOutcome}
use Rattle.dw_convert.specs.Files.{file_image}
use Rattle.dw_convert.specs.Images.{Image}
use Rattle.dw_convert.specs.Sources.{string_in, line_string_in, string_of, ranges_of, locations_of}
use Rattle.dw_convert.specs.declared.image.Image.TheVariants as image

-- the byte order of bytes, where a value has some; what has none is no expression
abbrev pub order_or_little : Option Bool → Bool
order_or_little None = false
order_or_little (Some big) = big

-- the unit's own line program, and no other
abbrev pub program_image : Option DebugLineOffset → ℕ → Result AttributeValue ConvertError
program_image None p = Err InvalidLineRef
program_image (Some own) p = if own.0 == p then Ok built.LineProgramRef else Err InvalidLineRef

-- what is made of a result
abbrev pub MadeOf : {A B : Type 0} → Result A ConvertError → (A → B) → Result B ConvertError → Type 0
MadeOf x make r = After x (λ y s. s ≡ Ok (make y)) r

-- and of an outcome
abbrev pub Made : {A B : Type 0} → (Result A ConvertError → Type 0) → (A → B) → Result B ConvertError → Type 0
Made outcome make r = Then outcome (λ y s. s ≡ Ok (make y)) r

module _ {R E : Type 0} (reading : R → Reading) (answers : ℕ → Option Address → Type 0) (entries : ℕ → Option UnitEntryId) (infos : ℕ → Option DebugInfoRef) (u : UnitRef R E) where
  -- the range list at a place
  abbrev pub RangesOutcome : ℕ → Result (List Range) ConvertError → Type 0
  RangesOutcome p (Ok xs) = IsRangeList reading answers u p xs
  RangesOutcome p (Err e) = RefusesRangeList reading answers u p e

  -- the location list at a place
  abbrev pub LocationsOutcome : ℕ → Result (List Location) ConvertError → Type 0
  LocationsOutcome p (Ok xs) = IsLocationList reading answers entries infos u p xs
  LocationsOutcome p (Err e) = RefusesLocationList reading answers entries infos u p e

  module _ (files : List FileId) (big : Bool) where
    -- What the value under a name becomes, an expression being in this byte order. An address is what the caller answers, an
    -- entry what is known of its place, a string or a list what stands where the value leads.
    abbrev pub ValueOutcome : ℕ → Value → Result Image ConvertError → Type 0
    ValueOutcome name (read.Addr n) r = Made (AddressOutcome answers n) (λ a. image.Value (built.Address a)) r
    ValueOutcome name (read.DebugAddrIndex i) r = Made (IndexOutcome answers (address_of reading u) i) (λ a. image.Value (built.Address a)) r
    ValueOutcome name (read.Exprloc x) r = Made (ExprlocOutcome reading answers entries infos u big name x.0) (λ ns. image.Value (built.Exprloc ns)) r
    ValueOutcome name (read.UnitRef p) r = Made (EntryOutcome entries p.0) (λ i. image.Value (built.UnitRef i)) r
    ValueOutcome name (read.DebugInfoRef p) r = Made (InfoOutcome infos p.0) (λ i. image.Value (built.DebugInfoRef i)) r
    ValueOutcome name (read.DebugStrRef p) r = MadeOf (string_in reading u p.0) image.String r
    ValueOutcome name (read.DebugStrOffsetsIndex i) r = MadeOf (string_of reading u i) image.String r
    ValueOutcome name (read.DebugLineStrRef p) r = MadeOf (line_string_in reading u p.0) image.LineString r
    ValueOutcome name (read.DebugRngListsIndex i) r = After (ranges_of reading u i) (λ p. Made (RangesOutcome p) image.Ranges) r
    ValueOutcome name (read.RangeListsRef p) r = Made (RangesOutcome p.0) image.Ranges r
    ValueOutcome name (read.DebugLocListsIndex i) r = After (locations_of reading u i) (λ p. Made (LocationsOutcome p) image.Locations) r
    ValueOutcome name (read.LocationListsRef p) r = Made (LocationsOutcome p.0) image.Locations r
    ValueOutcome name (read.FileIndex n) r = MadeOf (file_image (encoding_in u).version files n) (λ f. image.Value (built.FileIndex f)) r
    ValueOutcome name (read.DebugLineRef p) r = MadeOf (program_image u.unit.now.line_program p.0) image.Value r
    ValueOutcome name v r = MadeOf (same_value v) image.Value r
