-- Values that lead to no string, no list and no expression, in the table of all kinds.
use Rattle.std.proofs.Common.{◌≡◌, ◌⊎◌, ℕ, Bool, List, Option, Result, Ok, Err, ⊎_elim, inl, inr, refl}
use Rattle.dw_base.specs.declared.address.Address.{Address}
use Rattle.dw_base.specs.declared.address.DebugInfoRef.{DebugInfoRef}
use Rattle.dw_base.specs.declared.ids.FileId.{FileId}
use Rattle.dw_base.specs.declared.ids.UnitEntryId.{UnitEntryId}
use Rattle.dw_base.specs.declared.offsets.DebugInfoOffset.{DebugInfoOffset}
use Rattle.dw_base.specs.declared.offsets.DebugLineOffset.{DebugLineOffset}
use Rattle.dw_base.specs.declared.offsets.DebugLineStrOffset.{DebugLineStrOffset}
use Rattle.dw_base.specs.declared.offsets.DebugStrOffset.{DebugStrOffset}
use Rattle.dw_base.specs.declared.offsets.LocationListsOffset.{LocationListsOffset}
use Rattle.dw_base.specs.declared.offsets.RangeListsOffset.{RangeListsOffset}
use Rattle.dw_base.specs.declared.offsets.UnitOffset.{UnitOffset}
use Rattle.dw_entries.specs.declared.value.AttributeValue.{AttributeValue as BuiltValue}
use Rattle.dw_entries.specs.declared.value.AttributeValue.TheVariants as built
use Rattle.dw_read.specs.Reading.{Reading}
use Rattle.dw_read.specs.Values.{value_of}
use Rattle.dw_read.specs.declared.value.AttributeValue.{AttributeValue}
use Rattle.dw_read.specs.declared.value.AttributeValue.TheVariants as read
use Rattle.dw_read.specs.declared.value.Expression.{Expression}
use Rattle.dw_read_units.specs.declared.unit_ref.UnitRef.{UnitRef}
use Rattle.dw_sources.specs.RawListIters.{encoding_in}
use Rattle.dw_sources.specs.declared.convert_error.ConvertError.{ConvertError}
use Rattle.dw_sources.specs.declared.convert_error.ConvertError.TheVariants.{NoMemory}
use Rattle.dw_convert.specs.Constants.{same_value}
use Rattle.dw_convert.specs.Files.{file_image}
use Rattle.dw_convert.specs.Lookups.{address_of}
use Rattle.dw_convert.specs.Outcomes.{AddressOutcome, IndexOutcome}
use Rattle.dw_convert.specs.PlainValues.{PlainOutcome}
use Rattle.dw_convert.specs.References.{EntryOutcome, InfoOutcome}
use Rattle.dw_convert.specs.Values.{ValueOutcome, program_image}
use Rattle.dw_convert.proofs.Made.{with_value, same_made, made_value, outcome_made}

-- a value that leads to no string, no list and no expression
pub record IsPlain {R E : Type 0} (v : AttributeValue R E) : Type 0 where
  pub string : (p : DebugStrOffset) → v ≡ read.DebugStrRef p → ⊥
  pub line_string : (p : DebugLineStrOffset) → v ≡ read.DebugLineStrRef p → ⊥
  pub indexed_string : (i : ℕ) → v ≡ read.DebugStrOffsetsIndex i → ⊥
  pub ranges : (p : RangeListsOffset) → v ≡ read.RangeListsRef p → ⊥
  pub indexed_ranges : (i : ℕ) → v ≡ read.DebugRngListsIndex i → ⊥
  pub locations : (p : LocationListsOffset) → v ≡ read.LocationListsRef p → ⊥
  pub indexed_locations : (i : ℕ) → v ≡ read.DebugLocListsIndex i → ⊥
  pub expression : (x : Expression R E) → v ≡ read.Exprloc x → ⊥

-- a value that names no address, no entry, no file and no line program
pub record NamesNothing {R E : Type 0} (v : AttributeValue R E) : Type 0 where
  pub address : (n : ℕ) → v ≡ read.Addr n → ⊥
  pub indexed_address : (i : ℕ) → v ≡ read.DebugAddrIndex i → ⊥
  pub entry : (p : UnitOffset) → v ≡ read.UnitRef p → ⊥
  pub info : (p : DebugInfoOffset) → v ≡ read.DebugInfoRef p → ⊥
  pub file : (n : ℕ) → v ≡ read.FileIndex n → ⊥
  pub program : (p : DebugLineOffset) → v ≡ read.DebugLineRef p → ⊥

-- a conversion that memory doesn't suffice for
abbrev WantsMemory : Result BuiltValue ConvertError → Type 0
WantsMemory r = r ≡ Err NoMemory

module _ (R E : Type 0) (reading : R → Reading) (answers : ℕ → Option Address → Type 0) (entries : ℕ → Option UnitEntryId) (infos : ℕ → Option DebugInfoRef) (u : UnitRef R E) (files : List FileId) where
  abbrev Plain : AttributeValue R E → Result BuiltValue ConvertError → Type 0
  Plain v r = PlainOutcome reading answers entries infos u files (value_of reading v) r

  same : (v : AttributeValue R E) (r : Result BuiltValue ConvertError) → NamesNothing v → r ≡ same_value (value_of reading v) → Plain v r
  same (read.Addr n) r k h = absurd (k.address n refl)
  same (read.DebugAddrIndex i) r k h = absurd (k.indexed_address i refl)
  same (read.UnitRef p) r k h = absurd (k.entry p refl)
  same (read.DebugInfoRef p) r k h = absurd (k.info p refl)
  same (read.FileIndex n) r k h = absurd (k.file n refl)
  same (read.DebugLineRef p) r k h = absurd (k.program p refl)
  same v r k h = h

  -- what names nothing stays what it is
  pub stays : (v : AttributeValue R E) (r : Result BuiltValue ConvertError) → NamesNothing v → WantsMemory r ⊎ (r ≡ same_value (value_of reading v)) → WantsMemory r ⊎ Plain v r
  stays v r k h = ⊎_elim (λ (n : WantsMemory r). inl n) (λ (s : r ≡ same_value (value_of reading v)). inr (same v r k s)) h

  module _ (big : Bool) (name : ℕ) where
    abbrev Outcome : AttributeValue R E → Result BuiltValue ConvertError → Type 0
    Outcome v r = ValueOutcome reading answers entries infos u files big name (value_of reading v) (with_value r)

    plain : (v : AttributeValue R E) (r : Result BuiltValue ConvertError) → IsPlain v → Plain v r → Outcome v r
    plain (read.Addr n) r k h = outcome_made (AddressOutcome answers n) built.Address r h
    plain (read.DebugAddrIndex i) r k h = outcome_made (IndexOutcome answers (address_of reading u) i) built.Address r h
    plain (read.UnitRef p) r k h = outcome_made (EntryOutcome entries p.0) built.UnitRef r h
    plain (read.DebugInfoRef p) r k h = outcome_made (InfoOutcome infos p.0) built.DebugInfoRef r h
    plain (read.FileIndex n) r k h = made_value (file_image (encoding_in u).version files n) built.FileIndex r h
    plain (read.DebugLineRef p) r k h = same_made (program_image u.unit.now.line_program p.0) r h
    plain (read.DebugStrRef p) r k h = absurd (k.string p refl)
    plain (read.DebugLineStrRef p) r k h = absurd (k.line_string p refl)
    plain (read.DebugStrOffsetsIndex i) r k h = absurd (k.indexed_string i refl)
    plain (read.RangeListsRef p) r k h = absurd (k.ranges p refl)
    plain (read.DebugRngListsIndex i) r k h = absurd (k.indexed_ranges i refl)
    plain (read.LocationListsRef p) r k h = absurd (k.locations p refl)
    plain (read.DebugLocListsIndex i) r k h = absurd (k.indexed_locations i refl)
    plain (read.Exprloc x) r k h = absurd (k.expression x refl)
    plain v r k h = same_made (same_value (value_of reading v)) r h

    -- a value that was converted is an image
    pub plain_ok : (v : AttributeValue R E) (x : BuiltValue) → IsPlain v → WantsMemory (Ok x) ⊎ Plain v (Ok x) → Outcome v (Ok x)
    plain_ok v x k h = ⊎_elim (λ (n : WantsMemory (Ok x)). absurd (cc)) (λ (p : Plain v (Ok x)). plain v (Ok x) k p) h

    pub plain_err : (v : AttributeValue R E) (e : ConvertError) → IsPlain v → WantsMemory (Err e) ⊎ Plain v (Err e) → (e ≡ NoMemory) ⊎ Outcome v (Err e)
    plain_err v e k h = ⊎_elim (λ (n : WantsMemory (Err e)). inl (cc)) (λ (p : Plain v (Err e)). inr (plain v (Err e) k p)) h
