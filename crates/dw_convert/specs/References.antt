-- What the places of entries become.
use Rattle.std.specs.Prelude.{◌≡◌, ℕ, Option, Some, None, Result, Ok, Err}
use Rattle.dw_base.specs.declared.address.DebugInfoRef.{DebugInfoRef}
use Rattle.dw_base.specs.declared.ids.UnitEntryId.{UnitEntryId}
use Rattle.dw_sources.specs.declared.convert_error.ConvertError.{ConvertError}
use Rattle.dw_sources.specs.declared.convert_error.ConvertError.TheVariants.{InvalidUnitRef, InvalidDebugInfoRef}
use Rattle.dw_convert.specs.Outcomes.{Then}

-- what is known of a place, or the one error where nothing is
abbrev pub FoundOutcome : {A : Type 0} → ConvertError → Option A → Result A ConvertError → Type 0
FoundOutcome reason known (Ok x) = known ≡ Some x
FoundOutcome reason known (Err e) = (e ≡ reason) × (known ≡ None)

-- the entry at a place in the unit
abbrev pub EntryOutcome : (ℕ → Option UnitEntryId) → ℕ → Result UnitEntryId ConvertError → Type 0
EntryOutcome entries n r = FoundOutcome InvalidUnitRef (entries n) r

-- the entry at a place in .debug_info
abbrev pub InfoOutcome : (ℕ → Option DebugInfoRef) → ℕ → Result DebugInfoRef ConvertError → Type 0
InfoOutcome infos n r = FoundOutcome InvalidDebugInfoRef (infos n) r

-- the base type at a place, or the generic type
abbrev pub BaseOutcome : (ℕ → Option UnitEntryId) → Option ℕ → Result (Option UnitEntryId) ConvertError → Type 0
BaseOutcome entries None r = r ≡ Ok None
BaseOutcome entries (Some n) r = Then (EntryOutcome entries n) (λ i x. x ≡ Ok (Some i)) r
