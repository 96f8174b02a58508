-- What is said of an input, once it was pruned.
use Rattle.std.proofs.Common.{◌≡◌, sym, subst, ap, ℕ, List, [], ◌∷◌, ◌+◌, All, Bool, inl, inr}
use Rattle.std.specs.Prelude.{Option, Ok, Err}
use Rattle.std.proofs.lemmas.List.Elements.{All-nil, All-cons}
use Rattle.dw_base.specs.Order.{is_big_of}
use Rattle.dw_base.specs.declared.address.Address.{Address}
use Rattle.dw_base.specs.declared.endianity.RunTimeEndian.{RunTimeEndian}
use Rattle.dw_read.specs.Reading.{Reading}
use Rattle.dw_read_units.specs.declared.dwarf.Dwarf.{Dwarf}
use Rattle.dw_sources.specs.declared.convert_error.ConvertError.{ConvertError}
use Rattle.dw_entry_ids.specs.declared.ids.EntryIds.{EntryIds}
use Rattle.dw_entry_ids.specs.declared.units.NumberedUnit.{NumberedUnit}
use Rattle.dw_entry_ranges.specs.declared.live.LiveRange.{LiveRange}
use Rattle.dw_convert_lines.specs.EntryNames.{Tables}
use Rattle.dw_tree.specs.UnitValue.{UnitValue}
use Rattle.dw_dwarf.specs.ConvertedUnits.{UnitsBecome}
use Rattle.dw_dwarf.specs.DwarfValue.{DwarfValue}
use Rattle.dw_dwarf.specs.Valid.{AreUnwritten, IsUnwritten}
use Rattle.dw_ends.specs.Readers.{ReadsSections, SectionSlice, slice_reading}
use Rattle.dw_build.specs.declared.script.Refusal.{Refusal}
use Rattle.dw_program.specs.Converted.{with_refusal}
use Rattle.dw_program.specs.Listed.{SaysOfDwarf}
use Rattle.dw_program.specs.Texts.{convert_refused_text, refusal_text}
use Rattle.dw_program.specs.declared.status.Status.{Status}
use Rattle.dw_program.specs.declared.status.Status.TheVariants.{Listed, Usage, ScriptRefused, WriteRefused, SourceFailed, SinkFailed, NoMemory, TooLong}
use Rattle.dw_live_code.specs.Answers.{SaysOfBytes, SaysOfInput}
use Rattle.dw_live_code.specs.LiveLines.{InputValue, input_of}
use Rattle.dw_live_code.specs.Pruned.{CannotPrune, IsPruned}

module _ {R E : Type 0} (keep : ℕ → Bool) (reading : R → Reading) (answers : ℕ → Option Address → Type 0) (d : Dwarf R E) where
  -- what units become was not written before
  become_unwritten : (ids : EntryIds) (first k : ℕ) (xs : List (NumberedUnit R E)) (old : Tables) (us : List UnitValue) (new : Tables) → UnitsBecome keep reading answers d ids first k xs old us new → All IsUnwritten us
  become_unwritten ids first k [] old [] new h = All-nil IsUnwritten
  become_unwritten ids first k [] old (u ∷ us) new h = absurd h
  become_unwritten ids first k (x ∷ xs) old [] new h = absurd h
  become_unwritten ids first k (x ∷ xs) old (u ∷ us) new h =
      All-cons IsUnwritten u us (ap (λ w. w.is_written) h.1.becomes.tree.is) (become_unwritten ids first (k + 1) xs h.0 us new h.2)

pub pruned_unwritten : {R E : Type 0} (reading : R → Reading) (d : Dwarf R E) (live : List LiveRange) (built : DwarfValue) → IsPruned reading d live built → AreUnwritten built
pruned_unwritten reading d live built h =
    subst (All IsUnwritten) (sym h.become.added) (become_unwritten _ reading _ d h.become.found.ids 0 0 h.become.found.units.items _ h.become.built _ h.become.become)

-- Live ranges, sections in a byte order, their readers, and what an input says, which is the same.
module _ (live : List LiveRange) (endian : RunTimeEndian) (sections : List (List ℕ)) (read : Dwarf SectionSlice RunTimeEndian) (reads : ReadsSections slice_reading (is_big_of endian) sections read)
    (v : InputValue) (ranges : live ≡ v.live) (order : endian ≡ v.listing.endian) (same : sections ≡ v.listing.sections) where
  here : ReadsSections slice_reading (is_big_of v.listing.endian) v.listing.sections read
  here = subst (λ o. ReadsSections slice_reading (is_big_of o) v.listing.sections read) order (subst (λ xs. ReadsSections slice_reading (is_big_of endian) xs read) same reads)

  -- what is said of the Dwarf that they become
  pub says_pruned : (d : DwarfValue) → IsPruned slice_reading read live d → (status : Status) (text : List ℕ) → SaysOfDwarf endian d status text → SaysOfInput v status text
  says_pruned d pruned Listed text h = record {
    dwarf = d;
    becomes = record { read = read; reads = here; pruned = subst (λ (l : List LiveRange). IsPruned slice_reading read l d) ranges pruned };
    lists = subst (λ o. SaysOfDwarf o d Listed text) order h;
  }
  says_pruned d pruned WriteRefused text h =
      inl (record { dwarf = d; becomes = record { read = read; reads = here; pruned = subst (λ (l : List LiveRange). IsPruned slice_reading read l d) ranges pruned }; refused = h })
  says_pruned d pruned Usage text h = absurd h
  says_pruned d pruned ScriptRefused text h = absurd h
  says_pruned d pruned SourceFailed text h = absurd h
  says_pruned d pruned SinkFailed text h = absurd h
  says_pruned d pruned NoMemory text h = absurd h
  says_pruned d pruned TooLong text h = absurd h

  -- and where they become none
  pub says_not_pruned : (e : ConvertError) → CannotPrune slice_reading read live e → (status : Status) (text : List ℕ) → status ≡ WriteRefused → text ≡ convert_refused_text e → SaysOfInput v status text
  says_not_pruned e refused status text is says =
      subst (λ s. SaysOfInput v s text) (sym is)
      (inr (record { error = e; becomes = record { read = read; reads = here; refused = subst (λ (l : List LiveRange). CannotPrune slice_reading read l e) ranges refused }; says = says }))

-- what is said where a line of an input is refused
pub says_line_refused : (bytes : List ℕ) (r : Refusal) → input_of bytes ≡ Err (r.line, r.reason) → (status : Status) (text : List ℕ) → status ≡ ScriptRefused → text ≡ refusal_text r → SaysOfBytes bytes status text
says_line_refused bytes r refused status text is says =
    subst (λ s. SaysOfBytes bytes s text) (sym is) (record { refusal = r; refused = ap with_refusal refused; says = says })

-- what is said of an input that was read is said of its bytes
pub says_of_input : (bytes : List ℕ) (v : InputValue) → input_of bytes ≡ Ok v → (status : Status) (text : List ℕ) → SaysOfInput v status text → SaysOfBytes bytes status text
says_of_input bytes v said Listed text h = record { value = v; accepted = ap with_refusal said; says = h }
says_of_input bytes v said WriteRefused text h = record { value = v; accepted = ap with_refusal said; says = h }
says_of_input bytes v said Usage text h = absurd h
says_of_input bytes v said ScriptRefused text h = absurd h
says_of_input bytes v said SourceFailed text h = absurd h
says_of_input bytes v said SinkFailed text h = absurd h
says_of_input bytes v said NoMemory text h = absurd h
says_of_input bytes v said TooLong text h = absurd h
