-- What is said of a listing, once its table was made, written and searched.
use Rattle.std.proofs.Common.{◌≡◌, sym, subst, ℕ, ◌<◌, ◌≤◌, List, ◌++◌, Bool, true, inl, inr, arith, IsTrue, append_assoc}
use Rattle.std.specs.Prelude.{◌≢◌, Ok, Err, codes, decimal}
use Rattle.dw_base.specs.ErrorName.{error_name}
use Rattle.dw_base.specs.Faults as counts
use Rattle.dw_base.specs.Order.{is_big_of}
use Rattle.dw_base.specs.declared.endianity.RunTimeEndian.{RunTimeEndian}
use Rattle.dw_base.specs.declared.error.Error.{Error}
use Rattle.dw_base.specs.declared.error.Error.TheVariants as errors
use Rattle.dw_writer.specs.Contents.{Meaning}
use Rattle.dw_read_units.specs.declared.dwarf.Dwarf.{Dwarf}
use Rattle.dw_sources.specs.ConvertErrors.{convert_error_name}
use Rattle.dw_sources.specs.declared.convert_error.ConvertError.{ConvertError}
use Rattle.dw_sources.specs.declared.convert_error.ConvertError.TheVariants as reasons
use Rattle.dw_ends.specs.Reasons.{reason_text}
use Rattle.dw_ends.specs.Sections.{sections_of}
use Rattle.dw_ends.specs.declared.reason.Reason.{Reason}
use Rattle.dw_ends.specs.Listed.{IsListed}
use Rattle.dw_ends.specs.Readers.{ReadsSections, SectionSlice, slice_reading}
use Rattle.dw_ends.specs.declared.listing_reader.Listing.{Listing}
use Rattle.dw_arange_table.specs.Sets.{RangeSet}
use Rattle.dw_arange_table.specs.Bytes.{aranges_bytes}
use Rattle.dw_arange_table.specs.Causes.{IsNone, Refused, sets_fail}
use Rattle.dw_arange_table.specs.Covers.{CoversAll, FailsAfter}
use Rattle.dw_arange_table.specs.Printed.{IsSectionLine, line_text, refused_text}
use Rattle.dw_arange_table.specs.Reading.{sets_read}
use Rattle.dw_arange_table.specs.Said.{SaysOfTable, SaysOfMade, SaysOfSections, SaysOfBytes}
use Rattle.dw_arange_table.specs.declared.command.Command.{Command}
use Rattle.dw_arange_table.specs.declared.command.Command.TheVariants.{Table, Find}
use Rattle.dw_arange_table.specs.declared.status.Status.{Status}
use Rattle.dw_arange_table.specs.declared.status.Status.TheVariants.{Done, Usage, ListingRefused, TableRefused, SourceFailed, SinkFailed, NoMemory, TooLong}

-- a text, grouped as it is defined
pub line_text-grouped : (line : ℕ) (reason : Reason) → codes "line " ++ (decimal line ++ (codes ": " ++ (reason_text reason ++ codes "\n"))) ≡ line_text line reason
line_text-grouped line reason = sym (simp append_assoc)

-- sets that were written
pub table_written : (big : Bool) (sets : List RangeSet) (bytes : List ℕ) (status : Status) (text : List ℕ) → IsNone (sets_fail true sets) → bytes ≡ aranges_bytes big sets → sets_read big bytes ≡ Ok sets →
    (status ≡ Done) × IsSectionLine bytes text → SaysOfTable big sets status text
table_written big sets bytes status text fits is again says =
    subst (λ s. SaysOfTable big sets s text) (sym says.0)
    (record { fits = fits; printed = subst (λ b. IsSectionLine b text) is says.1; again = subst (λ b. sets_read big b ≡ Ok sets) is again })

-- a cause that is neither want of memory nor a fault, as a writer that counts none has none
own_cause : (old new : Meaning) (sets : List RangeSet) (e : Error) → new.faults ≡ 0 → old.faults ≡ 0 → e ≢ errors.NoMemory → Refused old new (sets_fail true sets) e → IsTrue (sets_fail true sets e)
own_cause old new sets errors.NoMemory calm none other h = absurd (other (cc))
own_cause old new sets errors.WriteFault calm none other (inl h) = absurd (let more : old.faults < new.faults = h in omega arith)
own_cause old new sets errors.WriteFault calm none other (inr h) = absurd (let more : counts.last_count ≤ new.faults = h in omega arith)
own_cause old new sets e calm none other h = h

-- sets that weren't
pub table_unwritten : (big : Bool) (old new : Meaning) (sets : List RangeSet) (e : Error) (status : Status) (text : List ℕ) → new.faults ≡ 0 → old.faults ≡ 0 → old.is_plain ≡ true → Refused old new (sets_fail old.is_plain sets) e →
    (status ≡ TableRefused) × (text ≡ refused_text (error_name e)) → e ≢ errors.NoMemory → SaysOfTable big sets status text
table_unwritten big old new sets e status text calm none plain refused says other =
    subst (λ s. SaysOfTable big sets s text) (sym says.0)
    (record { error = e; cause = own_cause old new sets e calm none other (subst (λ p. Refused old new (sets_fail p sets) e) plain refused); says = says.1 })

-- what is said of sets that were made is said of the sections
module _ (endian : RunTimeEndian) (sections : List (List ℕ)) (read : Dwarf SectionSlice RunTimeEndian) (reads : ReadsSections slice_reading (is_big_of endian) sections read) where
  pub says_made : (command : Command) (sets : List RangeSet) → CoversAll slice_reading read sets → (status : Status) (text : List ℕ) → SaysOfMade command (is_big_of endian) sets status text → SaysOfSections command endian sections status text
  says_made command sets covers Done text h = record { sets = sets; makes = record { read = read; reads = reads; covers = covers }; says = h }
  says_made command sets covers TableRefused text h = inl (record { sets = sets; makes = record { read = read; reads = reads; covers = covers }; says = h })
  says_made Table sets covers Usage text h = absurd h
  says_made Table sets covers ListingRefused text h = absurd h
  says_made Table sets covers SourceFailed text h = absurd h
  says_made Table sets covers SinkFailed text h = absurd h
  says_made Table sets covers NoMemory text h = absurd h
  says_made Table sets covers TooLong text h = absurd h
  says_made (Find a) sets covers Usage text h = let e : Usage ≡ Done = h.0 in cc
  says_made (Find a) sets covers ListingRefused text h = let e : ListingRefused ≡ Done = h.0 in cc
  says_made (Find a) sets covers SourceFailed text h = let e : SourceFailed ≡ Done = h.0 in cc
  says_made (Find a) sets covers SinkFailed text h = let e : SinkFailed ≡ Done = h.0 in cc
  says_made (Find a) sets covers NoMemory text h = let e : NoMemory ≡ Done = h.0 in cc
  says_made (Find a) sets covers TooLong text h = let e : TooLong ≡ Done = h.0 in cc

  -- and why none were made
  pub says_unmade : (command : Command) (e : ConvertError) → FailsAfter slice_reading read e → e ≢ reasons.NoMemory → (status : Status) (text : List ℕ) →
      (status ≡ TableRefused) × (text ≡ refused_text (convert_error_name e)) → SaysOfSections command endian sections status text
  says_unmade command e fails other status text says =
      subst (λ s. SaysOfSections command endian sections s text) (sym says.0)
      (inr (record { error = e; fails = record { read = read; reads = reads; other = other; fails = fails }; says = says.1 }))

-- what is said of the sections of a listing is said of its bytes
pub says_listed : (command : Command) (bytes : List ℕ) (l : Listing) → IsListed bytes l → (status : Status) (text : List ℕ) → SaysOfSections command l.endian l.sections.items status text → SaysOfBytes command bytes status text
says_listed command bytes l is status text h =
    by_status status (subst (λ o. SaysOfSections command o is.value.sections status text) is.endian (subst (λ xs. SaysOfSections command l.endian xs status text) is.sections h))
  where
    by_status : (status : Status) → SaysOfSections command is.value.endian is.value.sections status text → SaysOfBytes command bytes status text
    by_status Done h = record { value = is.value; accepted = is.says; says = h }
    by_status TableRefused h = record { value = is.value; accepted = is.says; says = h }
    by_status Usage h = absurd h
    by_status ListingRefused h = absurd h
    by_status SourceFailed h = absurd h
    by_status SinkFailed h = absurd h
    by_status NoMemory h = absurd h
    by_status TooLong h = absurd h

-- and which line of it is refused
pub says_refused : (command : Command) (bytes : List ℕ) (line : ℕ) (reason : Reason) → sections_of bytes ≡ Err (line, reason) → (status : Status) (text : List ℕ) → (status ≡ ListingRefused) × (text ≡ line_text line reason) → SaysOfBytes command bytes status text
says_refused command bytes line reason refused status text says =
    subst (λ s. SaysOfBytes command bytes s text) (sym says.0) (record { line = line; reason = reason; refused = refused; says = says.1 })
