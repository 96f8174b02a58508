-- What is said of the sections of a listing, once they are converted.
use Rattle.std.proofs.Common.{◌≡◌, sym, ap, subst, ℕ, ◌+◌, List, [], ◌∷◌, inl, inr}
use Rattle.std.specs.Prelude.{◌⊎◌, All, Option, Ok, Err}
use Rattle.std.proofs.lemmas.List.Elements.{All-cons, All-nil}
use Rattle.dw_base.specs.Order.{is_big_of}
use Rattle.dw_base.specs.declared.address.Address.{Address}
use Rattle.dw_base.specs.declared.endianity.RunTimeEndian.{RunTimeEndian}
use Rattle.dw_read.specs.Reading.{Reading}
use Rattle.dw_read_units.specs.declared.dwarf.Dwarf.{Dwarf}
use Rattle.dw_sources.specs.declared.convert_error.ConvertError.{ConvertError}
use Rattle.dw_entry_ids.specs.KeptRows.{all_kept}
use Rattle.dw_entry_ids.specs.declared.ids.EntryIds.{EntryIds}
use Rattle.dw_entry_ids.specs.declared.units.NumberedUnit.{NumberedUnit}
use Rattle.dw_convert_lines.specs.EntryNames.{Tables}
use Rattle.dw_tree.specs.UnitValue.{UnitValue}
use Rattle.dw_dwarf.specs.ConvertedDwarf.{IsConverted, CannotConvert}
use Rattle.dw_dwarf.specs.ConvertedUnits.{UnitsBecome}
use Rattle.dw_dwarf.specs.DwarfValue.{DwarfValue}
use Rattle.dw_dwarf.specs.Valid.{IsUnwritten, AreUnwritten}
use Rattle.dw_ends.specs.Sections.{ListingValue, sections_of}
use Rattle.dw_ends.specs.Readers.{ReadsSections, SectionSlice, slice_reading}
use Rattle.dw_program.specs.Answers.{SaysBuilt}
use Rattle.dw_program.specs.Converted.{SaysOfListing, constant_answers, listing_read, with_refusal}
use Rattle.dw_program.specs.Listed.{SaysOfDwarf}
use Rattle.dw_program.specs.Texts.{convert_refused_text, refusal_text}
use Rattle.dw_build.specs.declared.script.Refusal.{Refusal}
use Rattle.dw_program.specs.declared.status.Status.{Status}
use Rattle.dw_program.specs.declared.status.Status.TheVariants.{Listed, Usage, ScriptRefused, WriteRefused, SourceFailed, SinkFailed, NoMemory, TooLong}

module _ {R E : Type 0} (reading : R → Reading) (answers : ℕ → Option Address → Type 0) (d : Dwarf R E) where
  -- what units become was not written before
  become_unwritten : (ids : EntryIds) (first k : ℕ) (xs : List (NumberedUnit R E)) (old : Tables) (us : List UnitValue) (new : Tables) → UnitsBecome all_kept reading answers d ids first k xs old us new → All IsUnwritten us
  become_unwritten ids first k [] old [] new h = All-nil IsUnwritten
  become_unwritten ids first k [] old (u ∷ us) new h = absurd h
  become_unwritten ids first k (x ∷ xs) old [] new h = absurd h
  become_unwritten ids first k (x ∷ xs) old (u ∷ us) new h =
      All-cons IsUnwritten u us (ap (λ w. w.is_written) h.1.becomes.tree.is) (become_unwritten ids first (k + 1) xs h.0 us new h.2)

  pub converted_unwritten : (built : DwarfValue) → IsConverted reading answers d built → AreUnwritten built
  converted_unwritten built h =
      subst (All IsUnwritten) (sym h.units.added) (become_unwritten h.units.found.ids 0 0 h.units.found.units.items _ h.units.built _ h.units.become)

-- Sections in a byte order, their readers, and what a listing says, which is the same.
module _ (endian : RunTimeEndian) (sections : List (List ℕ)) (read : Dwarf SectionSlice RunTimeEndian) (reads : ReadsSections slice_reading (is_big_of endian) sections read)
    (v : ListingValue) (order : endian ≡ v.endian) (same : sections ≡ v.sections) where
  here : ReadsSections slice_reading (is_big_of v.endian) v.sections read
  here = subst (λ o. ReadsSections slice_reading (is_big_of o) v.sections read) order (subst (λ xs. ReadsSections slice_reading (is_big_of endian) xs read) same reads)

  -- what is said of the Dwarf that they become
  pub says_converted : (d : DwarfValue) → IsConverted slice_reading constant_answers read d → (status : Status) (text : List ℕ) → SaysOfDwarf endian d status text → SaysOfListing v status text
  says_converted d converted Listed text h = record {
    dwarf = d;
    becomes = record { read = read; reads = here; converted = converted };
    lists = subst (λ o. SaysOfDwarf o d Listed text) order h;
  }
  says_converted d converted WriteRefused text h = inl (record { dwarf = d; becomes = record { read = read; reads = here; converted = converted }; refused = h })
  says_converted d converted Usage text h = absurd h
  says_converted d converted ScriptRefused text h = absurd h
  says_converted d converted SourceFailed text h = absurd h
  says_converted d converted SinkFailed text h = absurd h
  says_converted d converted NoMemory text h = absurd h
  says_converted d converted TooLong text h = absurd h

  -- and where they become none
  pub says_not_converted : (e : ConvertError) → CannotConvert slice_reading constant_answers read e → (status : Status) (text : List ℕ) → status ≡ WriteRefused → text ≡ convert_refused_text e → SaysOfListing v status text
  says_not_converted e refused status text is says =
      subst (λ s. SaysOfListing v s text) (sym is) (inr (record { error = e; becomes = record { read = read; reads = here; refused = refused }; says = says }))

-- one of two causes, where the other doesn't stand
pub the_other : {A B : Type 0} → A ⊎ B → (A → ⊥) → B
the_other (inl a) none = absurd (none a)
the_other (inr b) none = b

-- what is said where a line of a listing is refused
pub says_listing_refused : (bytes : List ℕ) (r : Refusal) → sections_of bytes ≡ Err (r.line, r.reason) → (status : Status) (text : List ℕ) → status ≡ ScriptRefused → text ≡ refusal_text r → SaysBuilt (listing_read bytes) SaysOfListing status text
says_listing_refused bytes r refused status text is says =
    subst (λ s. SaysBuilt (listing_read bytes) SaysOfListing s text) (sym is) (record { refusal = r; refused = ap with_refusal refused; says = says })

-- what is said of a listing that was read is said of its bytes
pub says_of_listing : (bytes : List ℕ) (v : ListingValue) → sections_of bytes ≡ Ok v → (status : Status) (text : List ℕ) → SaysOfListing v status text → SaysBuilt (listing_read bytes) SaysOfListing status text
says_of_listing bytes v said Listed text h = record { value = v; accepted = ap with_refusal said; says = h }
says_of_listing bytes v said WriteRefused text h = record { value = v; accepted = ap with_refusal said; says = h }
says_of_listing bytes v said Usage text h = absurd h
says_of_listing bytes v said ScriptRefused text h = absurd h
says_of_listing bytes v said SourceFailed text h = absurd h
says_of_listing bytes v said SinkFailed text h = absurd h
says_of_listing bytes v said NoMemory text h = absurd h
says_of_listing bytes v said TooLong text h = absurd h
