-- What iteration over the entries of a call frame section answers.
use Rattle.std.specs.Prelude.{◌≡◌, ◌⊎◌, ℕ, ◌-◌, ◌<◌, Bool, length, true, false, Option, Some, None, Result, Ok, Err}
use Rattle.dw_read.specs.Reading.{Reading, Reads, Refuses, left}
use Rattle.dw_read.specs.declared.error.ReadError.{ReadError}
use Rattle.dw_read_frames.specs.Entries.{Entry, Cie, Fde, entry_at, entry_read, end_at_read}
use Rattle.dw_read_frames.specs.HeadViews.{IsBody}
use Rattle.dw_read_frames.specs.declared.cie.CommonInformationEntry.{CommonInformationEntry}
use Rattle.dw_read_frames.specs.declared.entries.CieOrFde.{CieOrFde}
use Rattle.dw_read_frames.specs.declared.entries.CieOrFde.TheVariants as held
use Rattle.dw_read_frames.specs.declared.entries.CfiEntriesIter.{CfiEntriesIter}

abbrev pub entry_of : {R E : Type 0} → (R → Reading) → CieOrFde R E → Entry
entry_of reading (held.Cie c) = Cie c.fields (left (reading c.instructions))
entry_of reading (held.Fde f) = Fde f.format f.cie_offset (left (reading f.body))

-- the place of an entry
abbrev pub offset_of : {R E : Type 0} → CieOrFde R E → ℕ
offset_of (held.Cie c) = c.offset
offset_of (held.Fde f) = f.offset

-- what is left of an entry to read: a CIE's instructions, and what stands behind the place of an FDE's CIE
abbrev pub rest_of : {R E : Type 0} → (R → Reading) → CieOrFde R E → Reading
rest_of reading (held.Cie c) = reading c.instructions
rest_of reading (held.Fde f) = reading f.body

module _ {R E : Type 0} (reading : R → Reading) (old new : CfiEntriesIter R E) where
  -- no byte was left, the section was ended, or an error was answered
  abbrev pub IsOver : Type 0
  IsOver = (old.has_ended ≡ true) ⊎ (length (left (reading old.input)) ≡ 0)

  -- all but the place stays
  abbrev pub IsSameSection : Type 0
  IsSameSection = (new.is_eh ≡ old.is_eh) × (new.address_size ≡ old.address_size)

  -- the entry at the place is what the grammar reads there, and is passed
  pub record PassesEntry (x : CieOrFde R E) : Type 0 where
    pub went_on : (old.has_ended ≡ false) × (new.has_ended ≡ false)
    pub same : IsSameSection
    pub entry : Reads (Option Entry) (entry_at old.is_eh (reading old.input).is_big old.address_size (reading old.input).place) (reading old.input) (reading new.input) (Some (entry_of reading x))
    pub offset : offset_of x ≡ (reading old.input).place
    pub rest : IsBody (reading old.input) (reading new.input) (rest_of reading x)
    pub progress : (reading old.input).place < (reading new.input).place

  -- the zero length that ends the section stands at the place, or the entries were over
  pub record EndsEntries : Type 0 where
    pub again : IsOver → new ≡ old
    pub ended : (IsOver → ⊥) → new.has_ended ≡ true
    pub is : (IsOver → ⊥) → Reads (Option Entry) (entry_at old.is_eh (reading old.input).is_big old.address_size (reading old.input).place) (reading old.input) (reading new.input) None

  -- the grammar reads no entry at the place, for this reason, and iteration ends there
  pub record RefusesEntry (e : ReadError) : Type 0 where
    pub not_over : IsOver → ⊥
    pub kept : new ≡ record old { has_ended = true }
    pub refused : Refuses (Option Entry) (entry_at old.is_eh (reading old.input).is_big old.address_size (reading old.input).place) (entry_read old.is_eh (reading old.input).is_big old.address_size (reading old.input).place) (reading old.input) e

  -- None once the entries are over alone; else the entry at the place, or the reason why there is none
  abbrev pub ReadsEntry : Result (Option (CieOrFde R E)) ReadError → Type 0
  ReadsEntry (Ok None) = EndsEntries
  ReadsEntry (Ok (Some x)) = PassesEntry x
  ReadsEntry (Err e) = RefusesEntry e

-- the entries of a section, from the first on
pub record BeginsEntries {R E : Type 0} (reading : R → Reading) (section : R) (size : ℕ) (eh : Bool) (i : CfiEntriesIter R E) : Type 0 where
  pub input : reading i.input ≡ reading section
  pub is_eh : i.is_eh ≡ eh
  pub address_size : i.address_size ≡ size
  pub not_ended : i.has_ended ≡ false

-- the CIE that an entry is
abbrev pub held_cie : {R E : Type 0} → Option (CieOrFde R E) → Option (CommonInformationEntry R E)
held_cie None = None
held_cie (Some (held.Cie c)) = Some c
held_cie (Some (held.Fde f)) = None

-- the instructions of the CIE at an offset are read where they stand in its section, up to the CIE's end, in the section's byte order
pub record IsRestAt (eh : Bool) (size offset : ℕ) (section rest : Reading) : Type 0 where
  pub ends : end_at_read eh section.is_big size section.place offset section.end (left section) ≡ Ok rest.end
  pub is : rest ≡ record section { place = rest.end - length (left rest); end = rest.end }
