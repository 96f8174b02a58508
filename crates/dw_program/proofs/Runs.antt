-- What a run has done, from the answer that it printed or the reason why there was none.
use Rattle.std.proofs.Common.{◌≡◌, sym, subst, ℕ, List, inl, inr}
use Rattle.std.specs.Prelude.{◌⊎◌, Option, Some, None}
use Rattle.dw_base.specs.Faults.{HasRisen}
use Rattle.dw_ends.specs.Ends.{Input, Intake, with_after}
use Rattle.dw_program.specs.Answers.{Says, SaysAsked, Reads, Prints, Answers, StopsFor, RunAnswers, code_of, made_of}
use Rattle.dw_program.specs.Commands.{reading_of}
use Rattle.dw_program.specs.declared.command.Reading.{Reading}
use Rattle.dw_program.specs.declared.answer.Stop.TheVariants as stop
use Rattle.dw_program.specs.declared.status.Status.{Status}
use Rattle.dw_program.specs.declared.status.Status.TheVariants.{Listed, Usage, ScriptRefused, WriteRefused, SourceFailed, SinkFailed, NoMemory, TooLong}

-- statuses that have no text of their own
never_said : (r : Option Reading) (made : Option ℕ) (left : Option (List ℕ)) (text : List ℕ) → SaysAsked r made left SourceFailed text ⊎ (SaysAsked r made left SinkFailed text ⊎ SaysAsked r made left NoMemory text) → ⊥
never_said (Some reading) made left text (inl h) = h
never_said (Some reading) made left text (inr (inl h)) = h
never_said (Some reading) made left text (inr (inr h)) = h
never_said None (Some n) left text (inl h) = h
never_said None (Some n) left text (inr (inl h)) = h
never_said None (Some n) left text (inr (inr h)) = h
never_said None None left text (inl h) = h
never_said None None left text (inr (inl h)) = h
never_said None None left text (inr (inr h)) = h

module _ (words : List (List ℕ)) (source_old source_new : Input) (sink_old : Intake) where
  -- the whole text was taken
  whole_answers : (sink_new : Intake) (status : Status) (text : List ℕ) → Says words source_old.left status text → Reads words source_old source_new status →
      sink_new.taken ≡ with_after sink_old.taken text → Answers words source_old source_new sink_old sink_new status
  whole_answers k Listed text says reads takes = (record { text = text; says = says; takes = takes }, reads)
  whole_answers k Usage text says reads takes = (record { text = text; says = says; takes = takes }, reads)
  whole_answers k ScriptRefused text says reads takes = (record { text = text; says = says; takes = takes }, reads)
  whole_answers k WriteRefused text says reads takes = (record { text = text; says = says; takes = takes }, reads)
  whole_answers k TooLong text says reads takes = (record { text = text; says = says; takes = takes }, reads)
  whole_answers k SourceFailed text says reads takes = absurd (never_said (reading_of words) (made_of words) source_old.left text (inl says))
  whole_answers k SinkFailed text says reads takes = absurd (never_said (reading_of words) (made_of words) source_old.left text (inr (inl says)))
  whole_answers k NoMemory text says reads takes = absurd (never_said (reading_of words) (made_of words) source_old.left text (inr (inr says)))

  -- an answer was printed, whole or in part
  print_answers : (sink_new : Intake) (status result : Status) (text : List ℕ) → Says words source_old.left status text → Reads words source_old source_new status →
      Prints status text sink_old sink_new result → Answers words source_old source_new sink_old sink_new result
  print_answers k status result text says reads (inl h) =
      subst (Answers words source_old source_new sink_old k) (sym h.0) (whole_answers k status text says reads h.1)
  print_answers k status result text says reads (inr h) = stopped h.1
    where
      stopped : ((result ≡ SinkFailed) × HasRisen sink_old.faults k.faults) ⊎ (result ≡ NoMemory) → Answers words source_old source_new sink_old k result
      stopped (inl s) =
          subst (Answers words source_old source_new sink_old k) (sym s.0) (s.1, record { status = status; text = text; says = says; takes = h.0 })
      stopped (inr s) =
          subst (Answers words source_old source_new sink_old k) (sym s) (inr (record { status = status; text = text; says = says; takes = h.0 }))

  pub printed_answers : (sink_new told : Intake) (status result : Status) (text : List ℕ) (code : ℕ) → Says words source_old.left status text → Reads words source_old source_new status →
      Prints status text sink_old sink_new result → told ≡ sink_new → code ≡ code_of result → RunAnswers words source_old source_new sink_old told code
  printed_answers k told status result text code says reads prints same coded =
      record {
        status = result;
        coded = coded;
        answers = subst (λ t. Answers words source_old source_new sink_old t result) (sym same) (print_answers k status result text says reads prints);
      }

  -- the source failed, and nothing was printed
  pub source_failed_answers : (told : Intake) (code : ℕ) → StopsFor words source_old source_new stop.SourceFailed → told ≡ sink_old → code ≡ code_of SourceFailed →
      RunAnswers words source_old source_new sink_old told code
  source_failed_answers told code stops same coded = record { status = SourceFailed; coded = coded; answers = (stops.0, stops.1, same) }

  -- memory ran out, and nothing was printed
  pub no_memory_answers : (told : Intake) (code : ℕ) → told ≡ sink_old → code ≡ code_of NoMemory → RunAnswers words source_old source_new sink_old told code
  no_memory_answers told code same coded = record { status = NoMemory; coded = coded; answers = inl same }
