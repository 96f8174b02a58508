-- What the program answers, by its status.
use Rattle.std.specs.Prelude.{◌≡◌, ◌⊎◌, ℕ, ◌+◌, ◌<◌, ◌≤◌, true, false, List, [], ◌∷◌, length, Option, Some, None, Result, Ok, Err, IsTrue, codes, bytes_eq, if◌then◌else◌}
use Rattle.std.specs.Option.{is_some}
use Rattle.dw_sources.specs.declared.convert_error.ConvertError.{ConvertError}
use Rattle.dw_dwarf.specs.Valid.{IsValid}
use Rattle.dw_dwarf.specs.DwarfValue.{DwarfValue}
use Rattle.dw_dwarf.specs.Written.{SectionTexts, AreTextsOf, one_order}
use Rattle.dw_base.specs.Faults.{HasRisen}
use Rattle.dw_ends.specs.Ends.{Input, Intake, used_up, with_after, TakesPrefix}
use Rattle.dw_ends.specs.Sections.{ListingValue, sections_of}
use Rattle.dw_ends.specs.Numbers.{number_below}
use Rattle.dw_build.specs.Generated.{generated, most_variables}
use Rattle.dw_build.specs.Script.{script}
use Rattle.dw_build.specs.Sets.{sets}
use Rattle.dw_build.specs.SetsValue.{SetsValue}
use Rattle.dw_program.specs.Commands.{reading_of}
use Rattle.dw_program.specs.Converted.{Becomes, BecomesNone, SaysOfListing, listing_read}
use Rattle.dw_program.specs.Listed.{SaysOfDwarf}
use Rattle.dw_program.specs.Linked.{AreValidSets, AreValidJoined, ListsSets, IsSetRefusal, IsLinkRefusal}
use Rattle.dw_program.specs.declared.command.Reading.{Reading}
use Rattle.dw_program.specs.declared.command.Reading.TheVariants.{Build, Convert, Link}
use Rattle.dw_program.specs.Texts.{usage_text, too_long_text, refusal_text, summary_text}
use Rattle.dw_program.specs.declared.answer.Stop.{Stop}
use Rattle.dw_program.specs.declared.answer.Stop.TheVariants as stop
use Rattle.dw_program.specs.declared.status.Status.{Status}
use Rattle.dw_program.specs.declared.status.Status.TheVariants.{Listed, Usage, ScriptRefused, WriteRefused, SourceFailed, SinkFailed, NoMemory, TooLong}
use Rattle.dw_build.specs.ScriptValue.{ScriptValue}
use Rattle.dw_build.specs.declared.script.Refusal.{Refusal}

-- how many variables the words ask for, where they are `make` and a number as scripts spell them
abbrev pub made_of : List (List ℕ) → Option ℕ
made_of [] = None
made_of (word ∷ []) = None
made_of (word ∷ field ∷ []) = if bytes_eq word (codes "make") then number_below (most_variables + 1) field else None
made_of (word ∷ field ∷ more ∷ words) = None

-- words that don't ask for reading leave the source alone
abbrev pub LeavesUnread : {S : Type 0} → List (List ℕ) → S → S → Type 0
LeavesUnread words old new = reading_of words ≡ None → new ≡ old

-- of what a source told
abbrev pub IfTold : Option (List ℕ) → (List ℕ → Type 0) → Type 0
IfTold told P = (xs : List ℕ) → told ≡ Some xs → P xs

-- the most bytes that a script may have
abbrev pub longest_script : ℕ
longest_script = 16777216

-- a script may have so many bytes
abbrev pub IsShort : List ℕ → Type 0
IsShort bytes = length bytes ≤ longest_script

-- what is said of an accepted script
abbrev pub SaysOf : ScriptValue → Status → List ℕ → Type 0
SaysOf s status text = SaysOfDwarf s.endian s.dwarf status text

-- what is said of sets that are accepted
abbrev pub SaysOfSets : SetsValue → Status → List ℕ → Type 0
SaysOfSets s Listed text = ListsSets s text
SaysOfSets s WriteRefused text = IsSetRefusal s text ⊎ IsLinkRefusal s text
SaysOfSets s _ text = ⊥

-- an input is accepted, and this is said of what it builds
pub record IsAccepted {T : Type 0} (built : Result T Refusal) (holds : T → Type 0) : Type 0 where
  pub value : T
  pub accepted : built ≡ Ok value
  pub says : holds value

-- a line of it is refused, and the text says which and why
pub record IsRefused {T : Type 0} (built : Result T Refusal) (text : List ℕ) : Type 0 where
  pub refusal : Refusal
  pub refused : built ≡ Err refusal
  pub says : text ≡ refusal_text refusal

-- what is said of an input, where this is said of what it builds
abbrev pub SaysBuilt : {T : Type 0} → Result T Refusal → (T → Status → List ℕ → Type 0) → Status → List ℕ → Type 0
SaysBuilt built says Listed text = IsAccepted built (λ v. says v Listed text)
SaysBuilt built says WriteRefused text = IsAccepted built (λ v. says v WriteRefused text)
SaysBuilt built says ScriptRefused text = IsRefused built text
SaysBuilt built says _ text = ⊥

-- what is said of an input by each command that reads
abbrev pub SaysOfBytes : Reading → List ℕ → Status → List ℕ → Type 0
SaysOfBytes Build bytes status text = SaysBuilt (script bytes) SaysOf status text
SaysOfBytes Convert bytes status text = SaysBuilt (listing_read bytes) SaysOfListing status text
SaysOfBytes Link bytes status text = SaysBuilt (sets bytes) SaysOfSets status text

-- these bytes were read, which are those that the source told, and this is said of them
pub record SaysRead (reading : Reading) (left : Option (List ℕ)) (status : Status) (text : List ℕ) : Type 0 where
  pub bytes : List ℕ
  pub told : IfTold left (λ xs. bytes ≡ xs)
  pub short : IsShort bytes
  pub says : SaysOfBytes reading bytes status text

-- the text of a status for a command that reads and this input
abbrev pub SaysOfInput : Reading → Option (List ℕ) → Status → List ℕ → Type 0
SaysOfInput reading left Listed text = SaysRead reading left Listed text
SaysOfInput reading left ScriptRefused text = SaysRead reading left ScriptRefused text
SaysOfInput reading left WriteRefused text = SaysRead reading left WriteRefused text
SaysOfInput reading left TooLong text = (text ≡ too_long_text) × IfTold left (λ bytes. longest_script < length bytes)
SaysOfInput reading left _ text = ⊥

-- the summary of sections that are read as exactly what is generated for a number, with nothing in other sections
pub record SaysMade (number : ℕ) (text : List ℕ) : Type 0 where
  pub texts : SectionTexts
  pub are : AreTextsOf (one_order false) (generated number) texts
  pub says : text ≡ summary_text (generated number) texts

-- the text of a status where a command that reads was asked for, or a number of variables, or neither
abbrev pub SaysAsked : Option Reading → Option ℕ → Option (List ℕ) → Status → List ℕ → Type 0
SaysAsked (Some reading) made left status text = SaysOfInput reading left status text
SaysAsked None (Some number) left Listed text = SaysMade number text
SaysAsked None (Some number) left _ text = ⊥
SaysAsked None None left Usage text = text ≡ usage_text
SaysAsked None None left _ text = ⊥

-- the text of a status for these words and this input; the others have none of their own
abbrev pub Says : List (List ℕ) → Option (List ℕ) → Status → List ℕ → Type 0
Says words left status text = SaysAsked (reading_of words) (made_of words) left status text

-- whether a command read the source to its end where this is answered
abbrev pub ReadsInput : Input → Input → Status → Type 0
ReadsInput old new Listed = new.left ≡ used_up old.left
ReadsInput old new ScriptRefused = new.left ≡ used_up old.left
ReadsInput old new WriteRefused = new.left ≡ used_up old.left
ReadsInput old new _ = Unit {0}

-- the same of all words; others than those of a command that reads leave the source alone
abbrev pub ReadsAsked : Option Reading → Input → Input → Status → Type 0
ReadsAsked None old new status = new ≡ old
ReadsAsked (Some reading) old new status = ReadsInput old new status

abbrev pub Reads : List (List ℕ) → Input → Input → Status → Type 0
Reads words old new status = ReadsAsked (reading_of words) old new status

-- the sink has taken a front of a text that some status has here, which may be none of it
pub record TakesFront (words : List (List ℕ)) (left : Option (List ℕ)) (old new : Option (List ℕ)) : Type 0 where
  pub status : Status
  pub text : List ℕ
  pub says : Says words left status text
  pub takes : TakesPrefix old new text

-- the sink has taken the whole text of a status
pub record TakesText (words : List (List ℕ)) (left : Option (List ℕ)) (status : Status) (old new : Option (List ℕ)) : Type 0 where
  pub text : List ℕ
  pub says : Says words left status text
  pub takes : new ≡ with_after old text

-- why a command that reads has no answer: a read failed, or memory lacked
abbrev pub StopsReading : Input → Input → Stop → Type 0
StopsReading old new stop.SourceFailed = HasRisen old.faults new.faults
StopsReading old new stop.NoMemory = Unit {0}

-- the words are a command that reads
abbrev pub DoRead : List (List ℕ) → Type 0
DoRead words = IsTrue (is_some (reading_of words))

-- why there is no answer: a read failed, which comes only where the words are a command that reads
abbrev pub StopsFor : List (List ℕ) → Input → Input → Stop → Type 0
StopsFor words old new stop.SourceFailed = DoRead words × HasRisen old.faults new.faults
StopsFor words old new stop.NoMemory = Unit {0}

-- what the program has done where it answers a status
abbrev pub Answers : List (List ℕ) → Input → Input → Intake → Intake → Status → Type 0
Answers words source_old source_new sink_old sink_new SourceFailed = DoRead words × HasRisen source_old.faults source_new.faults × (sink_new ≡ sink_old)
Answers words source_old source_new sink_old sink_new SinkFailed = HasRisen sink_old.faults sink_new.faults × TakesFront words source_old.left sink_old.taken sink_new.taken
Answers words source_old source_new sink_old sink_new NoMemory = (sink_new ≡ sink_old) ⊎ TakesFront words source_old.left sink_old.taken sink_new.taken
Answers words source_old source_new sink_old sink_new status = TakesText words source_old.left status sink_old.taken sink_new.taken × Reads words source_old source_new status

-- an answer was printed: whole, or a front of it where the sink refused
abbrev pub Prints : Status → List ℕ → Intake → Intake → Status → Type 0
Prints status text old new result = ((result ≡ status) × (new.taken ≡ with_after old.taken text)) ⊎ (TakesPrefix old.taken new.taken text × (((result ≡ SinkFailed) × HasRisen old.faults new.faults) ⊎ (result ≡ NoMemory)))

-- the number of a status
abbrev pub code_of : Status → ℕ
code_of Listed = 0
code_of Usage = 1
code_of ScriptRefused = 2
code_of WriteRefused = 3
code_of SourceFailed = 4
code_of SinkFailed = 5
code_of NoMemory = 6
code_of TooLong = 7

-- the program answers a number, and has done what that says
pub record RunAnswers (words : List (List ℕ)) (source_old source_new : Input) (sink_old sink_new : Intake) (code : ℕ) : Type 0 where
  pub status : Status
  pub coded : code ≡ code_of status
  pub answers : Answers words source_old source_new sink_old sink_new status

-- nothing failed but for want of memory: what was asked for was printed, or memory lacked, unless the source or the sink failed
abbrev pub IsDoneUnless : Input → Input → Intake → Intake → ℕ → Type 0
IsDoneUnless source_old source_new sink_old sink_new code =
    (HasRisen source_old.faults source_new.faults → ⊥) → (HasRisen sink_old.faults sink_new.faults → ⊥) → (code ≡ 0) ⊎ (code ≡ 6)

-- a script whose units are valid was listed, or memory lacked
abbrev pub ListsValid : List (List ℕ) → Input → Input → Intake → Intake → ℕ → Type 0
ListsValid words source_old source_new sink_old sink_new code =
    reading_of words ≡ Some Build → (bytes : List ℕ) → source_old.left ≡ Some bytes → IsShort bytes →
    (s : ScriptValue) → script bytes ≡ Ok s → IsValid true s.dwarf → IsDoneUnless source_old source_new sink_old sink_new code

-- So were sets that are each valid where symbols may be written, and valid with the values of symbols where their parts are joined.
abbrev pub LinksValid : List (List ℕ) → Input → Input → Intake → Intake → ℕ → Type 0
LinksValid words source_old source_new sink_old sink_new code =
    reading_of words ≡ Some Link → (bytes : List ℕ) → source_old.left ≡ Some bytes → IsShort bytes →
    (s : SetsValue) → sets bytes ≡ Ok s → AreValidSets s.dwarfs → AreValidJoined s → IsDoneUnless source_old source_new sink_old sink_new code

-- So was a listing of sections that are refused for no reason, and become something valid.
abbrev pub ConvertsValid : List (List ℕ) → Input → Input → Intake → Intake → ℕ → Type 0
ConvertsValid words source_old source_new sink_old sink_new code =
    reading_of words ≡ Some Convert → (bytes : List ℕ) → source_old.left ≡ Some bytes → IsShort bytes →
    (v : ListingValue) → sections_of bytes ≡ Ok v → ((e : ConvertError) → BecomesNone v e → ⊥) → (d : DwarfValue) → Becomes v d → IsValid true d →
    IsDoneUnless source_old source_new sink_old sink_new code

-- what is generated is valid; it was written, or memory lacked, unless the sink failed
abbrev pub MakesNumbers : List (List ℕ) → Intake → Intake → ℕ → Type 0
MakesNumbers words sink_old sink_new code =
    (n : ℕ) → made_of words ≡ Some n → IsValid true (generated n) × ((HasRisen sink_old.faults sink_new.faults → ⊥) → (code ≡ 0) ⊎ (code ≡ 6))
