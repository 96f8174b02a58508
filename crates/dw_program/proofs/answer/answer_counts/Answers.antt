use Rattle.std.proofs.Common.{◌∙◌, refl}
use Rattle.std.proofs.lemmas.Result.{err_from_is_err_and}
use Rattle.dw_program.proofs.answer.answer_counts.Goals as goal

pub returns-clause-ok : goal.returns-clause-ok
returns-clause-ok c =
    let answer = c.in_ok-answer_with in
    (answer.ensures.0, answer.ensures.1 ∙ c.as_bytes.ensures.value ∙ c.in_ok-text.ensures)

pub returns-in_err-text-clause-err : goal.returns-in_err-text-clause-err
returns-in_err-text-clause-err c =
    let p = err_from_is_err_and c.from_residual.result c.from_residual.ensures.1 in
    rw (p.1, p.2) refl

pub returns-in_err-answer_with-clause-err : goal.returns-in_err-answer_with-clause-err
returns-in_err-answer_with-clause-err c =
    let p = err_from_is_err_and c.from_residual-in_err-answer_with.result c.from_residual-in_err-answer_with.ensures.1 in
    rw (p.1, p.2) refl
