-- Where what an input builds is valid and nothing fails, it is listed; what is generated is written.
use Rattle.std.proofs.Common.{◌≡◌, ◌∙◌, sym, ap, subst, ℕ, List, [], ◌∷◌, refl, arith, inl, inr}
use Rattle.std.specs.Prelude.{◌⊎◌, true, false, All, Option, Some, None, Result, Ok, Err, IsTrue}
use Rattle.std.specs.Option.{is_some}
use Rattle.dw_base.specs.declared.endianity.RunTimeEndian.{RunTimeEndian}
use Rattle.dw_sources.specs.declared.convert_error.ConvertError.{ConvertError}
use Rattle.dw_dwarf.specs.DwarfValue.{DwarfValue}
use Rattle.dw_dwarf.specs.Valid.{AreUnwritten, IsValid}
use Rattle.dw_base.specs.Faults.{HasRisen}
use Rattle.dw_ends.specs.Ends.{Intake}
use Rattle.dw_ends.specs.Sections.{ListingValue, sections_of}
use Rattle.dw_build.specs.Script.{script}
use Rattle.dw_build.specs.ScriptValue.{ScriptValue}
use Rattle.dw_build.specs.Sets.{sets}
use Rattle.dw_build.specs.SetsValue.{SetsValue}
use Rattle.dw_build.specs.declared.script.Refusal.{Refusal}
use Rattle.dw_build.proofs.SetUnits.{sets_open}
use Rattle.dw_program.specs.Answers.{DoRead, IsShort, Says, SaysAsked, SaysBuilt, SaysOf, SaysOfBytes, SaysOfInput, SaysOfSets, SaysRead, Prints, code_of, made_of}
use Rattle.dw_program.specs.Commands.{reading_of}
use Rattle.dw_ends.specs.Readers.{slice_reading}
use Rattle.dw_dwarf_laws.proofs.Conversions.{AreSameDwarfs, converted_alike}
use Rattle.dw_dwarf_laws.proofs.Validity.{valid_alike}
use Rattle.dw_program.specs.Converted.{Becomes, BecomesNone, constant_answers, SaysOfListing, listing_read, with_refusal}
use Rattle.dw_program.specs.Listed.{SaysOfDwarf}
use Rattle.dw_program.specs.Linked.{AreValidSets, AreValidJoined}
use Rattle.dw_program.specs.declared.command.Reading.{Reading}
use Rattle.dw_program.specs.declared.command.Reading.TheVariants.{Build, Convert, Link}
use Rattle.dw_program.specs.declared.status.Status.{Status}
use Rattle.dw_program.specs.declared.status.Status.TheVariants.{Listed, Usage, ScriptRefused, WriteRefused, SourceFailed, SinkFailed, NoMemory, TooLong}
use Rattle.dw_program.proofs.Faulty.{valid_faultless}
use Rattle.dw_program.proofs.SetFaults.{valid_at, joined_linked}
use Rattle.dw_program.proofs.SetsSaid.{sets_unwritten}

same_value : {T E : Type 0} (a b : T) (r : Result T E) → r ≡ Ok a → r ≡ Ok b → a ≡ b
same_value {T} {E} a b r p q = let e : ◌≡◌ {A = Result T E} (Ok a) (Ok b) = sym p ∙ q in cc

not_refused : {T E : Type 0} (a : T) (x : E) (r : Result T E) → r ≡ Ok a → r ≡ Err x → ⊥
not_refused {T} {E} a x r p q = let e : ◌≡◌ {A = Result T E} (Ok a) (Err x) = sym p ∙ q in cc

-- what was asked for was printed, or memory lacked
abbrev pub IsDone : ℕ → Type 0
IsDone n = (n ≡ 0) ⊎ (n ≡ 6)

-- what the status of the printed answer comes to where nothing else is said
printed_done : (status result : Status) (text : List ℕ) (old new : Intake) → status ≡ Listed → Prints status text old new result → (HasRisen old.faults new.faults → ⊥) → IsDone (code_of result)
printed_done status result text old new listed (inl h) calm = inl (ap code_of (h.0 ∙ listed))
printed_done status result text old new listed (inr h) calm = stopped h.1
  where
    stopped : ((result ≡ SinkFailed) × HasRisen old.faults new.faults) ⊎ (result ≡ NoMemory) → IsDone (code_of result)
    stopped (inl k) = absurd (calm k.1)
    stopped (inr k) = inr (ap code_of k)

-- An input of a command that reads, of which only a listing is said where it is accepted.
module _ {T : Type 0} (build : List ℕ → Result T Refusal) (says : T → Status → List ℕ → Type 0) (value : T) (listed : (status : Status) (text : List ℕ) → says value status text → status ≡ Listed) where
  built_only : (bytes : List ℕ) (status : Status) (text : List ℕ) → build bytes ≡ Ok value → SaysBuilt (build bytes) says status text → status ≡ Listed
  built_only bytes Listed text is h = refl
  built_only bytes ScriptRefused text is h = absurd (not_refused value h.refusal (build bytes) is h.refused)
  built_only bytes WriteRefused text is h = listed WriteRefused text (subst (λ v. says v WriteRefused text) (same_value h.value value (build bytes) h.accepted is) h.says)
  built_only bytes Usage text is h = absurd h
  built_only bytes SourceFailed text is h = absurd h
  built_only bytes SinkFailed text is h = absurd h
  built_only bytes NoMemory text is h = absurd h
  built_only bytes TooLong text is h = absurd h

-- the same of all that is said of a command's input
module _ (reading : Reading) (left : Option (List ℕ)) (bytes : List ℕ) (told : left ≡ Some bytes) (short : IsShort bytes) (only : (status : Status) (text : List ℕ) → SaysOfBytes reading bytes status text → status ≡ Listed) where
  read_only : (status : Status) (text : List ℕ) → SaysRead reading left status text → status ≡ Listed
  read_only status text h = only status text (subst (λ xs. SaysOfBytes reading xs status text) (h.told bytes told) h.says)

  input_only : (status : Status) (text : List ℕ) → SaysOfInput reading left status text → status ≡ Listed
  input_only Listed text h = refl
  input_only ScriptRefused text h = read_only ScriptRefused text h
  input_only WriteRefused text h = read_only WriteRefused text h
  input_only TooLong text h = absurd (omega (arith, h.1 bytes told, short))
  input_only Usage text h = absurd h
  input_only SourceFailed text h = absurd h
  input_only SinkFailed text h = absurd h
  input_only NoMemory text h = absurd h

-- what the status of the printed answer of a command comes to
pub printed_complete : (words : List (List ℕ)) (reading : Reading) (left : Option (List ℕ)) (bytes : List ℕ) → reading_of words ≡ Some reading → left ≡ Some bytes → IsShort bytes →
    ((status : Status) (text : List ℕ) → SaysOfBytes reading bytes status text → status ≡ Listed) → (status result : Status) (text : List ℕ) (old new : Intake) → Says words left status text → Prints status text old new result →
    (HasRisen old.faults new.faults → ⊥) → IsDone (code_of result)
printed_complete words reading left bytes asked told short only status result text old new says prints calm =
    let here : SaysOfInput reading left status text = subst (λ r. SaysAsked r (made_of words) left status text) asked says in
    printed_done status result text old new (input_only reading left bytes told short only status text here) prints calm

-- a Dwarf that is valid is listed
dwarf_listed : (endian : RunTimeEndian) (d : DwarfValue) → IsValid true d → (status : Status) (text : List ℕ) → SaysOfDwarf endian d status text → status ≡ Listed
dwarf_listed endian d valid Listed text h = refl
dwarf_listed endian d valid WriteRefused text h = absurd (valid_faultless true d h.error valid h.cause)
dwarf_listed endian d valid Usage text h = absurd h
dwarf_listed endian d valid ScriptRefused text h = absurd h
dwarf_listed endian d valid SourceFailed text h = absurd h
dwarf_listed endian d valid SinkFailed text h = absurd h
dwarf_listed endian d valid NoMemory text h = absurd h
dwarf_listed endian d valid TooLong text h = absurd h

pub build_only : (bytes : List ℕ) (s : ScriptValue) → script bytes ≡ Ok s → IsValid true s.dwarf → (status : Status) (text : List ℕ) → SaysOfBytes Build bytes status text → status ≡ Listed
build_only bytes s accepted valid status text h = built_only script SaysOf s (dwarf_listed s.endian s.dwarf valid) bytes status text accepted h

-- of all that the sections of a listing become, either all is valid or nothing
becomes_alike : (v : ListingValue) (one two : DwarfValue) → Becomes v one → Becomes v two → AreSameDwarfs one two
becomes_alike v one two h k =
    converted_alike slice_reading constant_answers (λ n a b f g. f ∙ sym g) h.read k.read (record {
      debug_abbrev = h.reads.debug_abbrev ∙ sym k.reads.debug_abbrev;
      debug_str = h.reads.debug_str ∙ sym k.reads.debug_str;
      debug_line_str = h.reads.debug_line_str ∙ sym k.reads.debug_line_str;
      debug_line = h.reads.debug_line ∙ sym k.reads.debug_line;
      debug_ranges = h.reads.debug_ranges ∙ sym k.reads.debug_ranges;
      debug_rnglists = h.reads.debug_rnglists ∙ sym k.reads.debug_rnglists;
      debug_loc = h.reads.debug_loc ∙ sym k.reads.debug_loc;
      debug_loclists = h.reads.debug_loclists ∙ sym k.reads.debug_loclists;
      debug_info = h.reads.debug_info ∙ sym k.reads.debug_info;
      debug_addr = h.reads.debug_addr ∙ sym k.reads.debug_addr;
      debug_str_offsets = h.reads.debug_str_offsets ∙ sym k.reads.debug_str_offsets;
    }) one two h.converted k.converted

-- so are sections that are refused for no reason, and become something valid
module _ (v : ListingValue) (able : (e : ConvertError) → BecomesNone v e → ⊥) (d : DwarfValue) (becomes : Becomes v d) (valid : IsValid true d) where
  converted_listed : (status : Status) (text : List ℕ) → SaysOfListing v status text → status ≡ Listed
  converted_listed Listed text h = refl
  converted_listed WriteRefused text (inl h) = absurd (valid_faultless true h.dwarf h.refused.error (valid_alike true d h.dwarf (becomes_alike v d h.dwarf becomes h.becomes) valid) h.refused.cause)
  converted_listed WriteRefused text (inr h) = absurd (able h.error h.becomes)
  converted_listed Usage text h = absurd h
  converted_listed ScriptRefused text h = absurd h
  converted_listed SourceFailed text h = absurd h
  converted_listed SinkFailed text h = absurd h
  converted_listed NoMemory text h = absurd h
  converted_listed TooLong text h = absurd h

  pub convert_only : (bytes : List ℕ) → sections_of bytes ≡ Ok v → (status : Status) (text : List ℕ) → SaysOfBytes Convert bytes status text → status ≡ Listed
  convert_only bytes said status text h = built_only listing_read SaysOfListing v converted_listed bytes status text (ap with_refusal said) h

-- so are sets that are valid, each and where they are joined
sets_listed : (s : SetsValue) → All AreUnwritten s.dwarfs → AreValidSets s.dwarfs → AreValidJoined s → (status : Status) (text : List ℕ) → SaysOfSets s status text → status ≡ Listed
sets_listed s unwritten valid joined Listed text h = refl
sets_listed s unwritten valid joined WriteRefused text (inl h) =
    absurd (valid_faultless false h.first.dwarf h.error (valid_at s.dwarfs h.first.number h.first.dwarf valid h.first.at) h.first.cause)
sets_listed s unwritten valid joined WriteRefused text (inr h) = absurd (joined_linked s h.sets h.error unwritten h.left joined h.first)
sets_listed s unwritten valid joined Usage text h = absurd h
sets_listed s unwritten valid joined ScriptRefused text h = absurd h
sets_listed s unwritten valid joined SourceFailed text h = absurd h
sets_listed s unwritten valid joined SinkFailed text h = absurd h
sets_listed s unwritten valid joined NoMemory text h = absurd h
sets_listed s unwritten valid joined TooLong text h = absurd h

pub link_only : (bytes : List ℕ) (s : SetsValue) → sets bytes ≡ Ok s → AreValidSets s.dwarfs → AreValidJoined s → (status : Status) (text : List ℕ) → SaysOfBytes Link bytes status text → status ≡ Listed
link_only bytes s accepted valid joined status text h =
    built_only sets SaysOfSets s (sets_listed s (sets_unwritten s.dwarfs (sets_open bytes s accepted)) valid joined) bytes status text accepted h

-- the words can't ask for reading and for a number
named_alone : (words : List (List ℕ)) (n : ℕ) → made_of words ≡ Some n → reading_of words ≡ None
named_alone [] n asked = refl
named_alone (word ∷ []) n asked = cc
named_alone (word ∷ more ∷ words) n asked = refl

pub not_both : (words : List (List ℕ)) (n : ℕ) → DoRead words → made_of words ≡ Some n → ⊥
not_both words n reads asked = let clash : IsTrue false = subst (λ (r : Option Reading). IsTrue (is_some r)) (named_alone words n asked) reads in cc

module _ (words : List (List ℕ)) (left : Option (List ℕ)) (n : ℕ) (asked : made_of words ≡ Some n) where
  made_only : (status : Status) (text : List ℕ) → SaysAsked None (Some n) left status text → status ≡ Listed
  made_only Listed text h = refl
  made_only Usage text h = absurd h
  made_only ScriptRefused text h = absurd h
  made_only WriteRefused text h = absurd h
  made_only SourceFailed text h = absurd h
  made_only SinkFailed text h = absurd h
  made_only NoMemory text h = absurd h
  made_only TooLong text h = absurd h

  -- what the status of a printed summary comes to
  pub printed_made : (status result : Status) (text : List ℕ) (old new : Intake) → Says words left status text → Prints status text old new result → (HasRisen old.faults new.faults → ⊥) → IsDone (code_of result)
  printed_made status result text old new says prints calm =
      let here = subst (λ m. SaysAsked None m left status text) asked (subst (λ r. SaysAsked r (made_of words) left status text) (named_alone words n asked) says) in
      printed_done status result text old new (made_only status text here) prints calm
