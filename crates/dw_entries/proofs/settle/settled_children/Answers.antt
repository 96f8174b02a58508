use Rattle.std.proofs.lemmas.Result.{err_from_is_err_and}
use Rattle.dw_entries.proofs.settle.settled_children.Goals as goal

pub returns-in_err-base_types_first : goal.returns-in_err-base_types_first
returns-in_err-base_types_first c = rw (err_from_is_err_and c.from_residual.result c.from_residual.ensures.1).1 tt
