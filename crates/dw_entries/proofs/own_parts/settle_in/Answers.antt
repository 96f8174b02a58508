use Rattle.std.proofs.lemmas.Result.{err_from_is_err_and}
use Rattle.dw_entries.proofs.own_parts.settle_in.Goals as goal

pub returns-in_err-reserve_exact-clause-ok : goal.returns-in_err-reserve_exact-clause-ok
returns-in_err-reserve_exact-clause-ok c = rw (err_from_is_err_and c.from_residual.result c.from_residual.ensures.1).1 tt

pub returns-clause-err : goal.returns-clause-err
returns-clause-err c = tt

pub returns-clause-kept : goal.returns-clause-kept
returns-clause-kept c = tt
