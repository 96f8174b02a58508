use Rattle.std.proofs.lemmas.Result.{err_from_is_err_and}
use Rattle.dw_entries.proofs.settle.base_types_first.Goals as goal

pub returns-in_err-reserve : goal.returns-in_err-reserve
returns-in_err-reserve c = rw (err_from_is_err_and c.from_residual.result c.from_residual.ensures.1).1 tt

pub returns-in_err-push_base_types : goal.returns-in_err-push_base_types
returns-in_err-push_base_types c = rw (err_from_is_err_and c.from_residual-in_err-push_base_types.result c.from_residual-in_err-push_base_types.ensures.1).1 tt

pub returns-in_err-push_others : goal.returns-in_err-push_others
returns-in_err-push_others c = rw (err_from_is_err_and c.from_residual-in_err-push_others.result c.from_residual-in_err-push_others.ensures.1).1 tt
