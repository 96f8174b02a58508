use Rattle.std.proofs.lemmas.Result.{err_from_is_err_and}
use Rattle.dw_lists.proofs.range.Range.check_form.Goals as goal

pub returns-in_err-all_ones-clause-sound : goal.returns-in_err-all_ones-clause-sound
returns-in_err-all_ones-clause-sound c = rw (err_from_is_err_and c.from_residual.result c.from_residual.ensures.1).1 tt

pub returns-in-BaseAddress-clause-err : goal.returns-in-BaseAddress-clause-err
returns-in-BaseAddress-clause-err c = tt
