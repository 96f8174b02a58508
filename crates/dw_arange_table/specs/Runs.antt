-- What a run of the program has done, by the status that it answers.
use Rattle.std.specs.Prelude.{◌≡◌, ◌⊎◌, ℕ, ◌<◌, ◌≤◌, true, List, length, Option, Some, None, Ok, IsTrue}
use Rattle.std.specs.Option.{is_some}
use Rattle.dw_base.specs.Faults.{HasRisen}
use Rattle.dw_sources.specs.declared.convert_error.ConvertError.{ConvertError}
use Rattle.dw_ends.specs.Ends.{Input, Intake, used_up, with_after, TakesPrefix}
use Rattle.dw_ends.specs.Sections.{ListingValue, sections_of}
use Rattle.dw_arange_table.specs.Sets.{RangeSet}
use Rattle.dw_arange_table.specs.Causes.{IsNone, sets_fail}
use Rattle.dw_arange_table.specs.Commands.{command_of}
use Rattle.dw_arange_table.specs.Printed.{usage_text, too_long_text}
use Rattle.dw_arange_table.specs.Said.{Makes, MakesNone, SaysOfBytes}
use Rattle.dw_arange_table.specs.declared.answer.Stop.{Stop}
use Rattle.dw_arange_table.specs.declared.answer.Stop.TheVariants as stop
use Rattle.dw_arange_table.specs.declared.command.Command.{Command}
use Rattle.dw_arange_table.specs.declared.command.Command.TheVariants.{Table}
use Rattle.dw_arange_table.specs.declared.status.Status.{Status}
use Rattle.dw_arange_table.specs.declared.status.Status.TheVariants.{Done, Usage, ListingRefused, TableRefused, SourceFailed, SinkFailed, NoMemory, TooLong}

-- words that are no command leave the source alone
abbrev pub LeavesUnread : {S : Type 0} → List (List ℕ) → S → S → Type 0
LeavesUnread words old new = command_of words ≡ None → new ≡ old

-- of what a source told
abbrev pub IfTold : Option (List ℕ) → (List ℕ → Type 0) → Type 0
IfTold told P = (xs : List ℕ) → told ≡ Some xs → P xs

-- the most bytes that a listing may have
abbrev pub longest_listing : ℕ
longest_listing = 16777216

-- these bytes were read, which are those that the source told, and this is said of them
pub record SaysRead (command : Command) (left : Option (List ℕ)) (status : Status) (text : List ℕ) : Type 0 where
  pub bytes : List ℕ
  pub told : IfTold left (λ xs. bytes ≡ xs)
  pub short : length bytes ≤ longest_listing
  pub says : SaysOfBytes command bytes status text

-- the text of a status for a command and this input
abbrev pub SaysOfInput : Command → Option (List ℕ) → Status → List ℕ → Type 0
SaysOfInput command left Done text = SaysRead command left Done text
SaysOfInput command left ListingRefused text = SaysRead command left ListingRefused text
SaysOfInput command left TableRefused text = SaysRead command left TableRefused text
SaysOfInput command left TooLong text = (text ≡ too_long_text) × IfTold left (λ bytes. longest_listing < length bytes)
SaysOfInput command left _ text = ⊥

-- the text of a status where a command was asked for, or none
abbrev pub SaysAsked : Option Command → Option (List ℕ) → Status → List ℕ → Type 0
SaysAsked (Some command) left status text = SaysOfInput command left status text
SaysAsked None left Usage text = text ≡ usage_text
SaysAsked None left _ text = ⊥

-- the text of a status for these words and this input; the others have none of their own
abbrev pub Says : List (List ℕ) → Option (List ℕ) → Status → List ℕ → Type 0
Says words left status text = SaysAsked (command_of words) left status text

-- whether a command read the source to its end where this is answered
abbrev pub ReadsInput : Input → Input → Status → Type 0
ReadsInput old new Done = new.left ≡ used_up old.left
ReadsInput old new ListingRefused = new.left ≡ used_up old.left
ReadsInput old new TableRefused = new.left ≡ used_up old.left
ReadsInput old new _ = Unit {0}

-- the same of all words; those that are no command leave the source alone
abbrev pub ReadsAsked : Option Command → Input → Input → Status → Type 0
ReadsAsked None old new status = new ≡ old
ReadsAsked (Some command) old new status = ReadsInput old new status

abbrev pub Reads : List (List ℕ) → Input → Input → Status → Type 0
Reads words old new status = ReadsAsked (command_of words) old new status

-- the sink has taken a front of a text that some status has here, which may be none of it
pub record TakesFront (words : List (List ℕ)) (left : Option (List ℕ)) (old new : Option (List ℕ)) : Type 0 where
  pub status : Status
  pub text : List ℕ
  pub says : Says words left status text
  pub takes : TakesPrefix old new text

-- the sink has taken the whole text of a status
pub record TakesText (words : List (List ℕ)) (left : Option (List ℕ)) (status : Status) (old new : Option (List ℕ)) : Type 0 where
  pub text : List ℕ
  pub says : Says words left status text
  pub takes : new ≡ with_after old text

-- why a command has no answer: a read failed, or memory lacked
abbrev pub StopsReading : Input → Input → Stop → Type 0
StopsReading old new stop.SourceFailed = HasRisen old.faults new.faults
StopsReading old new stop.NoMemory = Unit {0}

-- the words are a command
abbrev pub DoAsk : List (List ℕ) → Type 0
DoAsk words = IsTrue (is_some (command_of words))

-- why there is no answer: a read failed, which comes only where the words are a command, or memory lacked
abbrev pub StopsFor : List (List ℕ) → Input → Input → Stop → Type 0
StopsFor words old new stop.SourceFailed = DoAsk words × HasRisen old.faults new.faults
StopsFor words old new stop.NoMemory = Unit {0}

-- what the program has done where it answers a status
abbrev pub Answers : List (List ℕ) → Input → Input → Intake → Intake → Status → Type 0
Answers words source_old source_new sink_old sink_new SourceFailed = DoAsk words × HasRisen source_old.faults source_new.faults × (sink_new ≡ sink_old)
Answers words source_old source_new sink_old sink_new SinkFailed = HasRisen sink_old.faults sink_new.faults × TakesFront words source_old.left sink_old.taken sink_new.taken
Answers words source_old source_new sink_old sink_new NoMemory = (sink_new ≡ sink_old) ⊎ TakesFront words source_old.left sink_old.taken sink_new.taken
Answers words source_old source_new sink_old sink_new status = TakesText words source_old.left status sink_old.taken sink_new.taken × Reads words source_old source_new status

-- an answer was printed: whole, or a front of it where the sink refused
abbrev pub Prints : Status → List ℕ → Intake → Intake → Status → Type 0
Prints status text old new result = ((result ≡ status) × (new.taken ≡ with_after old.taken text)) ⊎ (TakesPrefix old.taken new.taken text × (((result ≡ SinkFailed) × HasRisen old.faults new.faults) ⊎ (result ≡ NoMemory)))

-- the number of a status
abbrev pub code_of : Status → ℕ
code_of Done = 0
code_of Usage = 1
code_of ListingRefused = 2
code_of TableRefused = 3
code_of SourceFailed = 4
code_of SinkFailed = 5
code_of NoMemory = 6
code_of TooLong = 7

-- the program answers a number, and has done what that says
pub record RunAnswers (words : List (List ℕ)) (source_old source_new : Input) (sink_old sink_new : Intake) (code : ℕ) : Type 0 where
  pub status : Status
  pub coded : code ≡ code_of status
  pub answers : Answers words source_old source_new sink_old sink_new status

-- nothing but want of memory is a reason why sets aren't made of a listing's sections, and for `table` why they aren't written
pub record HasNoCause (command : Command) (v : ListingValue) : Type 0 where
  pub makes : (e : ConvertError) → MakesNone v.endian v.sections e → ⊥
  pub writes : command ≡ Table → (sets : List RangeSet) → Makes v.endian v.sections sets → IsNone (sets_fail true sets)

-- What was asked for of a listing was printed where no cause stands, or memory lacked, unless the source or the sink failed.
abbrev pub AnswersWhole : List (List ℕ) → Input → Input → Intake → Intake → ℕ → Type 0
AnswersWhole words source_old source_new sink_old sink_new code =
    (command : Command) → command_of words ≡ Some command → (bytes : List ℕ) → source_old.left ≡ Some bytes → length bytes ≤ longest_listing →
    (v : ListingValue) → sections_of bytes ≡ Ok v → HasNoCause command v →
    (HasRisen source_old.faults source_new.faults → ⊥) → (HasRisen sink_old.faults sink_new.faults → ⊥) → (code ≡ 0) ⊎ (code ≡ 6)
