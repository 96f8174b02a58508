-- New plain sections take every Dwarf that is valid.
use Rattle.std.specs.Prelude.{◌≡◌, true, false, Bool, List}
use Rattle.std.proofs.Common.{ℕ, sym, subst, refl}
use Rattle.dw_base.specs.declared.endianity.RunTimeEndian.{RunTimeEndian}
use Rattle.dw_base.specs.declared.error.Error.{Error}
use Rattle.dw_base.specs.declared.error.Error.TheVariants.{NoMemory}
use Rattle.dw_writer.specs.Contents.{Meaning}
use Rattle.dw_writer.specs.Sections.{SomeHasRisen, NoFixups}
use Rattle.dw_writer.specs.declared.sections.Sections.{Sections}
use Rattle.dw_tree.specs.Built.{at_begin}
use Rattle.dw_dwarf.specs.DwarfValue.{DwarfValue}
use Rattle.dw_dwarf.specs.Valid.{AreUnwritten, IsValid, DwarfFails, DwarfRefused, empty_ends}
use Rattle.dw_dwarf.specs.Written.{AreNewPlain, AreNew}
use Rattle.dw_dwarf.proofs.Complete.{AreNew-from_plain, dwarf_fails, valid_unfailing}
use Rattle.dw_program.specs.Faults.{HasFault}
use Rattle.dw_program.specs.Listed.{SaysOfDwarf}
use Rattle.dw_program.specs.Texts.{refused_text}
use Rattle.dw_program.specs.declared.status.Status.{Status}
use Rattle.dw_program.specs.declared.status.Status.TheVariants.{WriteRefused}

-- The clause of the writing call is named for the meaning and the sections that it mentions.
pub dwarf_faulty : {W : Type 0} {meaning : W → Meaning} {old : Sections W} {Clause : Type 0} → (AreNew meaning old → Clause) → (new : Sections W) → AreNewPlain meaning old → (d : DwarfValue) (e : Error) → AreUnwritten d → (e ≡ NoMemory → ⊥) →
    (NoFixups old → AreUnwritten d → DwarfRefused meaning old new d e) → (SomeHasRisen meaning old new → ⊥) → HasFault true d e
dwarf_faulty {W} {meaning} {old} clause new empty d e unwritten some refused calm =
    let fails = dwarf_fails meaning old new (AreNew-from_plain meaning old empty) calm d e some (refused empty.fixups unwritten) in
    subst (λ b. DwarfFails b at_begin (empty_ends b) d e) empty.writers.debug_info.plain fails

-- the same over writers that record relocations, where sections are new of any kind
pub set_faulty : {W : Type 0} (meaning : W → Meaning) (old new : Sections W) → AreNew meaning old → (meaning old.debug_info.0).is_plain ≡ false → (d : DwarfValue) (e : Error) → AreUnwritten d → (e ≡ NoMemory → ⊥) →
    (NoFixups old → AreUnwritten d → DwarfRefused meaning old new d e) → (SomeHasRisen meaning old new → ⊥) → HasFault false d e
set_faulty meaning old new empty recorder d e unwritten some refused calm =
    let fails = dwarf_fails meaning old new empty calm d e some (refused empty.fixups unwritten) in
    subst (λ b. DwarfFails b at_begin (empty_ends b) d e) recorder fails

-- what is said of a Dwarf that is refused
pub says_refused : (endian : RunTimeEndian) (d : DwarfValue) (status : Status) (text : List ℕ) (e : Error) → status ≡ WriteRefused → text ≡ refused_text e → HasFault true d e → SaysOfDwarf endian d status text
says_refused endian d status text e is says cause =
    subst (λ x. SaysOfDwarf endian d x text) (sym is) (record { error = e; cause = cause; says = says })

-- a valid Dwarf has no fault
pub valid_faultless : (plain : Bool) (d : DwarfValue) (e : Error) → IsValid plain d → HasFault plain d e → ⊥
valid_faultless plain d e valid r = valid_unfailing plain d valid e r

-- so that only memory lacks
pub only_memory : (d : DwarfValue) → IsValid true d → (e : Error) → ((e ≡ NoMemory → ⊥) → HasFault true d e) → e ≡ NoMemory
only_memory d valid NoMemory fails = refl
only_memory d valid e fails = absurd (valid_faultless true d e valid (fails (λ same. cc)))
