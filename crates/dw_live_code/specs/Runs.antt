-- What a run of the program has done, by the status that it answers.
use Rattle.std.specs.Prelude.{◌≡◌, ◌⊎◌, ℕ, ◌<◌, true, List, [], ◌∷◌, length, Option, Some, Ok, codes}
use Rattle.dw_base.specs.Faults.{HasRisen}
use Rattle.dw_sources.specs.declared.convert_error.ConvertError.{ConvertError}
use Rattle.dw_dwarf.specs.DwarfValue.{DwarfValue}
use Rattle.dw_dwarf.specs.Valid.{IsValid}
use Rattle.dw_ends.specs.Ends.{Input, Intake, TakesPrefix, with_after}
use Rattle.dw_program.specs.Answers.{IfTold, IsDoneUnless, IsShort, ReadsInput, code_of, longest_script}
use Rattle.dw_program.specs.Texts.{too_long_text}
use Rattle.dw_program.specs.declared.answer.Stop.{Stop}
use Rattle.dw_program.specs.declared.answer.Stop.TheVariants as stop
use Rattle.dw_program.specs.declared.status.Status.{Status}
use Rattle.dw_program.specs.declared.status.Status.TheVariants.{Listed, Usage, ScriptRefused, WriteRefused, SourceFailed, SinkFailed, NoMemory, TooLong}
use Rattle.dw_live_code.specs.Answers.{Becomes, BecomesNone, SaysOfBytes}
use Rattle.dw_live_code.specs.LiveLines.{InputValue, input_of}

-- the program takes no words
abbrev pub usage_text : List ℕ
usage_text = codes "usage: no words\n"

-- words leave the source alone
abbrev pub LeavesUnread : {S : Type 0} → List (List ℕ) → S → S → Type 0
LeavesUnread [] old new = Unit {0}
LeavesUnread (word ∷ words) old new = new ≡ old

-- these bytes were read, which are those that the source told, and this is said of them
pub record SaysRead (left : Option (List ℕ)) (status : Status) (text : List ℕ) : Type 0 where
  pub bytes : List ℕ
  pub told : IfTold left (λ xs. bytes ≡ xs)
  pub short : IsShort bytes
  pub says : SaysOfBytes bytes status text

-- the text of a status for this input
abbrev pub SaysOfTold : Option (List ℕ) → Status → List ℕ → Type 0
SaysOfTold left Listed text = SaysRead left Listed text
SaysOfTold left ScriptRefused text = SaysRead left ScriptRefused text
SaysOfTold left WriteRefused text = SaysRead left WriteRefused text
SaysOfTold left TooLong text = (text ≡ too_long_text) × IfTold left (λ bytes. longest_script < length bytes)
SaysOfTold left _ text = ⊥

-- where there are words, only that there are to be none
abbrev pub SaysUsage : Status → List ℕ → Type 0
SaysUsage Usage text = text ≡ usage_text
SaysUsage _ text = ⊥

-- the text of a status for these words and this input; the others have none of their own
abbrev pub Says : List (List ℕ) → Option (List ℕ) → Status → List ℕ → Type 0
Says [] left status text = SaysOfTold left status text
Says (word ∷ words) left status text = SaysUsage status text

-- whether the source was read to its end where this is answered; where there are words it is left alone
abbrev pub Reads : List (List ℕ) → Input → Input → Status → Type 0
Reads [] old new status = ReadsInput old new status
Reads (word ∷ words) old new status = new ≡ old

-- the sink has taken a front of a text that some status has here, which may be none of it
pub record TakesFront (words : List (List ℕ)) (left : Option (List ℕ)) (old new : Option (List ℕ)) : Type 0 where
  pub status : Status
  pub text : List ℕ
  pub says : Says words left status text
  pub takes : TakesPrefix old new text

-- the sink has taken the whole text of a status
pub record TakesText (words : List (List ℕ)) (left : Option (List ℕ)) (status : Status) (old new : Option (List ℕ)) : Type 0 where
  pub text : List ℕ
  pub says : Says words left status text
  pub takes : new ≡ with_after old text

-- why there is no answer: a read failed, which comes only where there are no words, or memory lacked
abbrev pub StopsFor : List (List ℕ) → Input → Input → Stop → Type 0
StopsFor words old new stop.SourceFailed = (words ≡ []) × HasRisen old.faults new.faults
StopsFor words old new stop.NoMemory = Unit {0}

-- what the program has done where it answers a status
abbrev pub Answers : List (List ℕ) → Input → Input → Intake → Intake → Status → Type 0
Answers words source_old source_new sink_old sink_new SourceFailed = (words ≡ []) × HasRisen source_old.faults source_new.faults × (sink_new ≡ sink_old)
Answers words source_old source_new sink_old sink_new SinkFailed = HasRisen sink_old.faults sink_new.faults × TakesFront words source_old.left sink_old.taken sink_new.taken
Answers words source_old source_new sink_old sink_new NoMemory = (sink_new ≡ sink_old) ⊎ TakesFront words source_old.left sink_old.taken sink_new.taken
Answers words source_old source_new sink_old sink_new status = TakesText words source_old.left status sink_old.taken sink_new.taken × Reads words source_old source_new status

-- the program answers a number, and has done what that says
pub record RunAnswers (words : List (List ℕ)) (source_old source_new : Input) (sink_old sink_new : Intake) (code : ℕ) : Type 0 where
  pub status : Status
  pub coded : code ≡ code_of status
  pub answers : Answers words source_old source_new sink_old sink_new status

-- An input whose sections are refused for no reason, and each Dwarf to which they may be pruned is valid, was listed, or memory lacked,
-- unless the source or the sink failed.
abbrev pub PrunesValid : List (List ℕ) → Input → Input → Intake → Intake → ℕ → Type 0
PrunesValid words source_old source_new sink_old sink_new code =
    words ≡ [] → (bytes : List ℕ) → source_old.left ≡ Some bytes → IsShort bytes →
    (v : InputValue) → input_of bytes ≡ Ok v → ((e : ConvertError) → BecomesNone v e → ⊥) → ((d : DwarfValue) → Becomes v d → IsValid true d) →
    IsDoneUnless source_old source_new sink_old sink_new code
