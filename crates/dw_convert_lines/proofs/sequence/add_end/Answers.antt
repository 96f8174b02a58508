use Rattle.std.proofs.Common.{◌∙◌, sym, ap, ⊎_elim, inl, inr, refl}
use Rattle.dw_line.specs.LinePrograms.{LineProgramValue}
use Rattle.dw_convert_lines.proofs.SequenceLaws.{refused_more, end_added, end_refused}
use Rattle.dw_convert_lines.proofs.Reasons.{is_err}
use Rattle.dw_convert_lines.proofs.sequence.add_end.Goals as goal

pub returns-in-Ok-clause-ok : goal.returns-in-Ok-clause-ok
returns-in-Ok-clause-ok g c =
    end_added _ _ _ _ c.in_ok-begin_sequence.ensures.ok _ _ _ (ap (λ x. x.minimum_instruction_length) c.line_encoding-minimum_length.ensures) c.last_offset-before.ensures c.unwrap_or.ensures _ c.args.address c.in_ok-offset.offset
    (sym c.convert_offset.ensures.is ∙ c.in_ok-offset.was) (ap (λ (x : LineProgramValue). x.program) c.in-Ok.ensures.ok)

pub returns-in_err-begin_sequence-clause-err : goal.returns-in_err-begin_sequence-clause-err
returns-in_err-begin_sequence-clause-err g c =
    let e = is_err _ c.in_err-begin_sequence.field-0.0 c.from_residual.ensures in
    rw e (⊎_elim (λ n. inl n) (λ h. inr (refused_more _ _ _ (λ p q. inl q) h)) c.in_err-begin_sequence.ensures.err)

pub returns-in_err-offset-clause-err : goal.returns-in_err-offset-clause-err
returns-in_err-offset-clause-err g c =
    let e = is_err _ c.in_err-offset.field-0.0 c.from_residual-in_err-offset.ensures in
    rw e (inr (end_refused _ _ _ _ c.in_ok-begin_sequence.ensures.ok _ _ _ (ap (λ x. x.minimum_instruction_length) c.line_encoding-minimum_length.ensures) c.last_offset-before.ensures c.unwrap_or.ensures c.args.address _ (sym c.convert_offset.ensures.is ∙ c.in_err-offset.was)))

pub returns-in_err-begin_sequence-clause-ok : goal.returns-in_err-begin_sequence-clause-ok
returns-in_err-begin_sequence-clause-ok g c = rw (is_err _ _ c.from_residual.ensures) tt

pub returns-in_err-offset-clause-ok : goal.returns-in_err-offset-clause-ok
returns-in_err-offset-clause-ok g c = rw (is_err _ _ c.from_residual-in_err-offset.ensures) tt

pub returns-in-Err-clause-ok : goal.returns-in-Err-clause-ok
returns-in-Err-clause-ok g c = tt

pub returns-in-Err-clause-err : goal.returns-in-Err-clause-err
returns-in-Err-clause-err g c = inl refl

pub returns-in-Ok-clause-err : goal.returns-in-Ok-clause-err
returns-in-Ok-clause-err g c = tt
