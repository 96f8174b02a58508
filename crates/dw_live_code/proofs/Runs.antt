-- What a run has done, from the answer that it printed or the reason why there was none.
use Rattle.std.proofs.Common.{◌≡◌, ◌∙◌, sym, ap, subst, refl, ℕ, List, [], ◌∷◌, inl, inr, arith}
use Rattle.std.specs.Prelude.{◌⊎◌, true, Option, Some, Result, Ok, Err}
use Rattle.dw_base.specs.Faults.{HasRisen}
use Rattle.dw_sources.specs.declared.convert_error.ConvertError.{ConvertError}
use Rattle.dw_dwarf.specs.DwarfValue.{DwarfValue}
use Rattle.dw_dwarf.specs.Valid.{IsValid}
use Rattle.dw_ends.specs.Ends.{Input, Intake, with_after}
use Rattle.dw_program.proofs.Faulty.{valid_faultless}
use Rattle.dw_program.specs.Answers.{IsShort, Prints, code_of}
use Rattle.dw_program.specs.Converted.{with_refusal}
use Rattle.dw_program.specs.declared.answer.Stop.TheVariants as stop
use Rattle.dw_program.specs.declared.status.Status.{Status}
use Rattle.dw_program.specs.declared.status.Status.TheVariants.{Listed, Usage, ScriptRefused, WriteRefused, SourceFailed, SinkFailed, NoMemory, TooLong}
use Rattle.dw_live_code.specs.Answers.{Becomes, BecomesNone, SaysOfBytes, SaysOfInput}
use Rattle.dw_live_code.specs.LiveLines.{InputValue, input_of}
use Rattle.dw_live_code.specs.Runs.{Answers, Reads, RunAnswers, Says, SaysOfTold, SaysRead, StopsFor}

-- statuses that have no text of their own
never_said : (words : List (List ℕ)) (left : Option (List ℕ)) (text : List ℕ) → Says words left SourceFailed text ⊎ (Says words left SinkFailed text ⊎ Says words left NoMemory text) → ⊥
never_said [] left text (inl h) = h
never_said [] left text (inr (inl h)) = h
never_said [] left text (inr (inr h)) = h
never_said (word ∷ words) left text (inl h) = h
never_said (word ∷ words) left text (inr (inl h)) = h
never_said (word ∷ words) left text (inr (inr h)) = h

module _ (words : List (List ℕ)) (source_old source_new : Input) (sink_old : Intake) where
  -- the whole text was taken
  whole_answers : (sink_new : Intake) (status : Status) (text : List ℕ) → Says words source_old.left status text → Reads words source_old source_new status →
      sink_new.taken ≡ with_after sink_old.taken text → Answers words source_old source_new sink_old sink_new status
  whole_answers k Listed text says reads takes = (record { text = text; says = says; takes = takes }, reads)
  whole_answers k Usage text says reads takes = (record { text = text; says = says; takes = takes }, reads)
  whole_answers k ScriptRefused text says reads takes = (record { text = text; says = says; takes = takes }, reads)
  whole_answers k WriteRefused text says reads takes = (record { text = text; says = says; takes = takes }, reads)
  whole_answers k TooLong text says reads takes = (record { text = text; says = says; takes = takes }, reads)
  whole_answers k SourceFailed text says reads takes = absurd (never_said words source_old.left text (inl says))
  whole_answers k SinkFailed text says reads takes = absurd (never_said words source_old.left text (inr (inl says)))
  whole_answers k NoMemory text says reads takes = absurd (never_said words source_old.left text (inr (inr says)))

  -- an answer was printed, whole or in part
  print_answers : (sink_new : Intake) (status result : Status) (text : List ℕ) → Says words source_old.left status text → Reads words source_old source_new status →
      Prints status text sink_old sink_new result → Answers words source_old source_new sink_old sink_new result
  print_answers k status result text says reads (inl h) =
      subst (Answers words source_old source_new sink_old k) (sym h.0) (whole_answers k status text says reads h.1)
  print_answers k status result text says reads (inr h) = stopped h.1
    where
      stopped : ((result ≡ SinkFailed) × HasRisen sink_old.faults k.faults) ⊎ (result ≡ NoMemory) → Answers words source_old source_new sink_old k result
      stopped (inl s) =
          subst (Answers words source_old source_new sink_old k) (sym s.0) (s.1, record { status = status; text = text; says = says; takes = h.0 })
      stopped (inr s) =
          subst (Answers words source_old source_new sink_old k) (sym s) (inr (record { status = status; text = text; says = says; takes = h.0 }))

  pub printed_answers : (sink_new told : Intake) (status result : Status) (text : List ℕ) (code : ℕ) → Says words source_old.left status text → Reads words source_old source_new status →
      Prints status text sink_old sink_new result → told ≡ sink_new → code ≡ code_of result → RunAnswers words source_old source_new sink_old told code
  printed_answers k told status result text code says reads prints same coded =
      record {
        status = result;
        coded = coded;
        answers = subst (λ t. Answers words source_old source_new sink_old t result) (sym same) (print_answers k status result text says reads prints);
      }

  -- the source failed, and nothing was printed
  pub source_failed_answers : (told : Intake) (code : ℕ) → StopsFor words source_old source_new stop.SourceFailed → told ≡ sink_old → code ≡ code_of SourceFailed →
      RunAnswers words source_old source_new sink_old told code
  source_failed_answers told code stops same coded = record { status = SourceFailed; coded = coded; answers = (stops.0, stops.1, same) }

  -- memory ran out, and nothing was printed
  pub no_memory_answers : (told : Intake) (code : ℕ) → told ≡ sink_old → code ≡ code_of NoMemory → RunAnswers words source_old source_new sink_old told code
  no_memory_answers told code same coded = record { status = NoMemory; coded = coded; answers = inl same }

-- Where no cause stands and nothing fails, what the sections become is listed.

same_value : {T E : Type 0} (a b : T) (r : Result T E) → r ≡ Ok a → r ≡ Ok b → a ≡ b
same_value {T} {E} a b r p q = let e : ◌≡◌ {A = Result T E} (Ok a) (Ok b) = sym p ∙ q in cc

not_refused : {T E : Type 0} (a : T) (x : E) (r : Result T E) → r ≡ Ok a → r ≡ Err x → ⊥
not_refused {T} {E} a x r p q = let e : ◌≡◌ {A = Result T E} (Ok a) (Err x) = sym p ∙ q in cc

-- it was listed, or memory lacked
abbrev pub IsDone : ℕ → Type 0
IsDone n = (n ≡ 0) ⊎ (n ≡ 6)

module _ (v : InputValue) (able : (e : ConvertError) → BecomesNone v e → ⊥) (valid : (d : DwarfValue) → Becomes v d → IsValid true d) where
  input_listed : (status : Status) (text : List ℕ) → SaysOfInput v status text → status ≡ Listed
  input_listed Listed text h = refl
  input_listed WriteRefused text (inl h) = absurd (valid_faultless true h.dwarf h.refused.error (valid h.dwarf h.becomes) h.refused.cause)
  input_listed WriteRefused text (inr h) = absurd (able h.error h.becomes)
  input_listed Usage text h = absurd h
  input_listed ScriptRefused text h = absurd h
  input_listed SourceFailed text h = absurd h
  input_listed SinkFailed text h = absurd h
  input_listed NoMemory text h = absurd h
  input_listed TooLong text h = absurd h

  module _ (bytes : List ℕ) (said : input_of bytes ≡ Ok v) where
    accepted : with_refusal (input_of bytes) ≡ Ok v
    accepted = ap with_refusal said

    bytes_listed : (status : Status) (text : List ℕ) → SaysOfBytes bytes status text → status ≡ Listed
    bytes_listed Listed text h = refl
    bytes_listed WriteRefused text h =
        input_listed WriteRefused text (subst (λ (w : InputValue). SaysOfInput w WriteRefused text) (same_value h.value v (with_refusal (input_of bytes)) h.accepted accepted) h.says)
    bytes_listed ScriptRefused text h = absurd (not_refused v h.refusal (with_refusal (input_of bytes)) accepted h.refused)
    bytes_listed Usage text h = absurd h
    bytes_listed SourceFailed text h = absurd h
    bytes_listed SinkFailed text h = absurd h
    bytes_listed NoMemory text h = absurd h
    bytes_listed TooLong text h = absurd h

    module _ (left : Option (List ℕ)) (told : left ≡ Some bytes) (short : IsShort bytes) where
      read_listed : (status : Status) (text : List ℕ) → SaysRead left status text → status ≡ Listed
      read_listed status text h = bytes_listed status text (subst (λ xs. SaysOfBytes xs status text) (h.told bytes told) h.says)

      told_listed : (status : Status) (text : List ℕ) → SaysOfTold left status text → status ≡ Listed
      told_listed Listed text h = refl
      told_listed ScriptRefused text h = read_listed ScriptRefused text h
      told_listed WriteRefused text h = read_listed WriteRefused text h
      told_listed TooLong text h = absurd (omega (arith, h.1 bytes told, short))
      told_listed Usage text h = absurd h
      told_listed SourceFailed text h = absurd h
      told_listed SinkFailed text h = absurd h
      told_listed NoMemory text h = absurd h

      -- what the status of a printed answer comes to
      pub printed_done : (words : List (List ℕ)) → words ≡ [] → (status result : Status) (text : List ℕ) (old new : Intake) → Says words left status text → Prints status text old new result → (HasRisen old.faults new.faults → ⊥) → IsDone (code_of result)
      printed_done words none status result text old new says (inl h) calm =
          inl (ap code_of (h.0 ∙ told_listed status text (subst (λ ws. Says ws left status text) none says)))
      printed_done words none status result text old new says (inr h) calm = stopped h.1
        where
          stopped : ((result ≡ SinkFailed) × HasRisen old.faults new.faults) ⊎ (result ≡ NoMemory) → IsDone (code_of result)
          stopped (inl k) = absurd (calm k.1)
          stopped (inr k) = inr (ap code_of k)
