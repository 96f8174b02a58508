use Rattle.std.proofs.Common.{◌∙◌, sym, ap, subst, inr, map}
use Rattle.std.specs.Prelude.{string_bytes}
use Rattle.dw_base.specs.Faults.{HasRisen}
use Rattle.dw_program.specs.Answers.{code_of}
use Rattle.dw_live_code.specs.Runs.{StopsFor}
use Rattle.dw_live_code.proofs.Runs.{IsDone, printed_done, printed_answers, source_failed_answers, no_memory_answers}
use Rattle.dw_live_code.proofs.program.run.Goals.{in-Ok, in-Err-SourceFailed, in-Err-NoMemory}
use Rattle.dw_live_code.proofs.program.run.Goals as goal

pub returns-clause-complete : goal.returns-clause-complete
returns-clause-complete g c = λ none bytes told short v said able valid source_calm sink_calm.
    elim c.match-answer_to.branch [
      | in-Ok w ↦
          let calm : HasRisen (g.K.Sink.intake c.args.sink.now).faults (g.K.Sink.intake w.print-status.new.sink).faults → ⊥ = λ h. sink_calm (subst (λ k. HasRisen (g.K.Sink.intake c.args.sink.now).faults (g.K.Sink.intake k).faults) (sym w.sink-is) h) in
          subst IsDone (sym (c.code.ensures ∙ ap code_of w.status-is))
          (printed_done v able valid bytes said (g.S.Source.input c.args.source.now).left told short (map string_bytes c.args.words.now.items) none _ _ _ _ _ w.in-Ok.ensures.ok w.print-status.ensures.prints calm)
      | in-Err-SourceFailed w ↦ absurd (source_calm (subst (StopsFor (map string_bytes c.args.words.now.items) (g.S.Source.input c.args.source.now) (g.S.Source.input c.answer_to.new.source)) w.in-Err-SourceFailed.field-0-is w.in-Err-SourceFailed.ensures.err).1)
      | in-Err-NoMemory w ↦ inr (c.code.ensures ∙ ap code_of w.status-is)
    ]

pub returns-clause-answers : goal.returns-clause-answers
returns-clause-answers g c =
    let words = map string_bytes c.args.words.now.items in
    let old = g.S.Source.input c.args.source.now in
    let new = g.S.Source.input c.answer_to.new.source in
    elim c.match-answer_to.branch [
      | in-Ok w ↦ printed_answers words old new _ _ _ _ _ _ _ w.in-Ok.ensures.ok w.in-Ok.ensures.reads w.print-status.ensures.prints (ap g.K.Sink.intake w.sink-is) (c.code.ensures ∙ ap code_of w.status-is)
      | in-Err-SourceFailed w ↦ source_failed_answers words old new _ _ _ (subst (StopsFor words old new) w.in-Err-SourceFailed.field-0-is w.in-Err-SourceFailed.ensures.err) (ap g.K.Sink.intake w.sink-is) (c.code.ensures ∙ ap code_of w.status-is)
      | in-Err-NoMemory w ↦ no_memory_answers words old new _ _ _ (ap g.K.Sink.intake w.sink-is) (c.code.ensures ∙ ap code_of w.status-is)
    ]
