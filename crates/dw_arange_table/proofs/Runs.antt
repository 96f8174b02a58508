-- What a run has done, from the answer that it printed or the reason why there was none.
use Rattle.std.proofs.Common.{◌≡◌, ◌∙◌, sym, ap, subst, ℕ, ◌≤◌, List, length, inl, inr, arith}
use Rattle.std.specs.Prelude.{◌⊎◌, true, Option, Some, None, Result, Ok, Err}
use Rattle.dw_base.specs.Faults.{HasRisen}
use Rattle.dw_ends.specs.Ends.{Input, Intake, with_after}
use Rattle.dw_ends.specs.Sections.{ListingValue, sections_of}
use Rattle.dw_arange_table.specs.Commands.{command_of}
use Rattle.dw_arange_table.specs.Said.{SaysOfSections, SaysOfBytes, SaysMade}
use Rattle.dw_arange_table.specs.Runs.{HasNoCause, Says, SaysAsked, SaysOfInput, SaysRead, Reads, Prints, Answers, StopsFor, RunAnswers, code_of, longest_listing}
use Rattle.dw_arange_table.specs.declared.answer.Stop.TheVariants as stop
use Rattle.dw_arange_table.specs.declared.command.Command.{Command}
use Rattle.dw_arange_table.specs.declared.command.Command.TheVariants.{Table, Find}
use Rattle.dw_arange_table.specs.declared.status.Status.{Status}
use Rattle.dw_arange_table.specs.declared.status.Status.TheVariants.{Done, Usage, ListingRefused, TableRefused, SourceFailed, SinkFailed, NoMemory, TooLong}

-- statuses that have no text of their own
never_said : (c : Option Command) (left : Option (List ℕ)) (text : List ℕ) → SaysAsked c left SourceFailed text ⊎ (SaysAsked c left SinkFailed text ⊎ SaysAsked c left NoMemory text) → ⊥
never_said (Some command) left text (inl h) = h
never_said (Some command) left text (inr (inl h)) = h
never_said (Some command) left text (inr (inr h)) = h
never_said None left text (inl h) = h
never_said None left text (inr (inl h)) = h
never_said None left text (inr (inr h)) = h

module _ (words : List (List ℕ)) (source_old source_new : Input) (sink_old : Intake) where
  -- the whole text was taken
  whole_answers : (sink_new : Intake) (status : Status) (text : List ℕ) → Says words source_old.left status text → Reads words source_old source_new status →
      sink_new.taken ≡ with_after sink_old.taken text → Answers words source_old source_new sink_old sink_new status
  whole_answers k Done text says reads takes = (record { text = text; says = says; takes = takes }, reads)
  whole_answers k Usage text says reads takes = (record { text = text; says = says; takes = takes }, reads)
  whole_answers k ListingRefused text says reads takes = (record { text = text; says = says; takes = takes }, reads)
  whole_answers k TableRefused text says reads takes = (record { text = text; says = says; takes = takes }, reads)
  whole_answers k TooLong text says reads takes = (record { text = text; says = says; takes = takes }, reads)
  whole_answers k SourceFailed text says reads takes = absurd (never_said (command_of words) source_old.left text (inl says))
  whole_answers k SinkFailed text says reads takes = absurd (never_said (command_of words) source_old.left text (inr (inl says)))
  whole_answers k NoMemory text says reads takes = absurd (never_said (command_of words) source_old.left text (inr (inr says)))

  -- an answer was printed, whole or in part
  print_answers : (sink_new : Intake) (status result : Status) (text : List ℕ) → Says words source_old.left status text → Reads words source_old source_new status →
      Prints status text sink_old sink_new result → Answers words source_old source_new sink_old sink_new result
  print_answers k status result text says reads (inl h) =
      subst (Answers words source_old source_new sink_old k) (sym h.0) (whole_answers k status text says reads h.1)
  print_answers k status result text says reads (inr h) = stopped h.1
    where
      stopped : ((result ≡ SinkFailed) × HasRisen sink_old.faults k.faults) ⊎ (result ≡ NoMemory) → Answers words source_old source_new sink_old k result
      stopped (inl s) =
          subst (Answers words source_old source_new sink_old k) (sym s.0) (s.1, record { status = status; text = text; says = says; takes = h.0 })
      stopped (inr s) =
          subst (Answers words source_old source_new sink_old k) (sym s) (inr (record { status = status; text = text; says = says; takes = h.0 }))

  pub printed_answers : (sink_new told : Intake) (status result : Status) (text : List ℕ) (code : ℕ) → Says words source_old.left status text → Reads words source_old source_new status →
      Prints status text sink_old sink_new result → told ≡ sink_new → code ≡ code_of result → RunAnswers words source_old source_new sink_old told code
  printed_answers k told status result text code says reads prints same coded =
      record {
        status = result;
        coded = coded;
        answers = subst (λ t. Answers words source_old source_new sink_old t result) (sym same) (print_answers k status result text says reads prints);
      }

  -- the source failed, and nothing was printed
  pub source_failed_answers : (told : Intake) (code : ℕ) → StopsFor words source_old source_new stop.SourceFailed → told ≡ sink_old → code ≡ code_of SourceFailed →
      RunAnswers words source_old source_new sink_old told code
  source_failed_answers told code stops same coded = record { status = SourceFailed; coded = coded; answers = (stops.0, stops.1, same) }

  -- memory ran out, and nothing was printed
  pub no_memory_answers : (told : Intake) (code : ℕ) → told ≡ sink_old → code ≡ code_of NoMemory → RunAnswers words source_old source_new sink_old told code
  no_memory_answers told code same coded = record { status = NoMemory; coded = coded; answers = inl same }

-- Where no cause stands and nothing fails, what was asked for is printed.

same_value : {T E : Type 0} (a b : T) (r : Result T E) → r ≡ Ok a → r ≡ Ok b → a ≡ b
same_value {T} {E} a b r p q = let e : ◌≡◌ {A = Result T E} (Ok a) (Ok b) = sym p ∙ q in cc

not_refused : {T E : Type 0} (a : T) (x : E) (r : Result T E) → r ≡ Ok a → r ≡ Err x → ⊥
not_refused {T} {E} a x r p q = let e : ◌≡◌ {A = Result T E} (Ok a) (Err x) = sym p ∙ q in cc

-- what was asked for was printed, or memory lacked
abbrev pub IsDone : ℕ → Type 0
IsDone n = (n ≡ 0) ⊎ (n ≡ 6)

module _ (v : ListingValue) where
  -- sets that can all be written
  made_done : (command : Command) (text : List ℕ) → HasNoCause command v → SaysMade v.endian v.sections command TableRefused text → ⊥
  made_done Table text none h = let e : true ≡ _ = sym h.says.cause ∙ none.writes (cc) h.sets h.makes h.says.error in cc
  made_done (Find a) text none h = let e : TableRefused ≡ Done = h.says.0 in cc

  sections_done : (command : Command) → HasNoCause command v → (status : Status) (text : List ℕ) → SaysOfSections command v.endian v.sections status text → status ≡ Done
  sections_done command none Done text h = cc
  sections_done command none TableRefused text (inl h) = absurd (made_done command text none h)
  sections_done command none TableRefused text (inr h) = absurd (none.makes h.error h.fails)
  sections_done command none Usage text h = absurd h
  sections_done command none ListingRefused text h = absurd h
  sections_done command none SourceFailed text h = absurd h
  sections_done command none SinkFailed text h = absurd h
  sections_done command none NoMemory text h = absurd h
  sections_done command none TooLong text h = absurd h

module _ (command : Command) (bytes : List ℕ) (v : ListingValue) (listed : sections_of bytes ≡ Ok v) (none : HasNoCause command v) where
  bytes_done : (status : Status) (text : List ℕ) → SaysOfBytes command bytes status text → status ≡ Done
  bytes_done Done text h = cc
  bytes_done TableRefused text h =
      sections_done v command none TableRefused text (subst (λ (w : ListingValue). SaysOfSections command w.endian w.sections TableRefused text) (same_value h.value v (sections_of bytes) h.accepted listed) h.says)
  bytes_done ListingRefused text h = absurd (not_refused v (h.line, h.reason) (sections_of bytes) listed h.refused)
  bytes_done Usage text h = absurd h
  bytes_done SourceFailed text h = absurd h
  bytes_done SinkFailed text h = absurd h
  bytes_done NoMemory text h = absurd h
  bytes_done TooLong text h = absurd h

  module _ (left : Option (List ℕ)) (told : left ≡ Some bytes) (short : length bytes ≤ longest_listing) where
    read_done : (status : Status) (text : List ℕ) → SaysRead command left status text → status ≡ Done
    read_done status text h = bytes_done status text (subst (λ xs. SaysOfBytes command xs status text) (h.told bytes told) h.says)

    input_done : (status : Status) (text : List ℕ) → SaysOfInput command left status text → status ≡ Done
    input_done Done text h = cc
    input_done ListingRefused text h = read_done ListingRefused text h
    input_done TableRefused text h = read_done TableRefused text h
    input_done TooLong text h = absurd (omega (arith, h.1 bytes told, short))
    input_done Usage text h = absurd h
    input_done SourceFailed text h = absurd h
    input_done SinkFailed text h = absurd h
    input_done NoMemory text h = absurd h

    -- what the status of a printed answer comes to
    pub printed_done : (words : List (List ℕ)) → command_of words ≡ Some command → (status result : Status) (text : List ℕ) (old new : Intake) → Says words left status text → Prints status text old new result → (HasRisen old.faults new.faults → ⊥) → IsDone (code_of result)
    printed_done words asked status result text old new says (inl h) calm =
        inl (ap code_of (h.0 ∙ input_done status text (subst (λ c. SaysAsked c left status text) asked says)))
    printed_done words asked status result text old new says (inr h) calm = stopped h.1
      where
        stopped : ((result ≡ SinkFailed) × HasRisen old.faults new.faults) ⊎ (result ≡ NoMemory) → IsDone (code_of result)
        stopped (inl k) = absurd (calm k.1)
        stopped (inr k) = inr (ap code_of k)
