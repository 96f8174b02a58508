use Rattle.std.proofs.lemmas.Result.{err_from_is_err_and}
use Rattle.dw_entries.proofs.settle.settle.Goals as goal

pub returns-in_err-ordered-clause-ok : goal.returns-in_err-ordered-clause-ok
returns-in_err-ordered-clause-ok c = rw (err_from_is_err_and c.from_residual.result c.from_residual.ensures.1).1 tt

pub returns-in_err-settle-clause-ok : goal.returns-in_err-settle-clause-ok
returns-in_err-settle-clause-ok c = rw (err_from_is_err_and c.from_residual-in_err-settle.result c.from_residual-in_err-settle.ensures.1).1 tt

pub returns-then-is_empty-clause-err : goal.returns-then-is_empty-clause-err
returns-then-is_empty-clause-err c = tt

pub returns-then-is_empty-clause-kept : goal.returns-then-is_empty-clause-kept
returns-then-is_empty-clause-kept c = tt
