use Rattle.std.proofs.lemmas.Result.{err_from_is_err_and}
use Rattle.dw_lists.proofs.part.part_size.Goals as goal

pub returns-in_err-rest-clause-ok : goal.returns-in_err-rest-clause-ok
returns-in_err-rest-clause-ok g c = rw (err_from_is_err_and c.from_residual.result c.from_residual.ensures.1).1 tt

pub returns-in_err-rest-clause-sound : goal.returns-in_err-rest-clause-sound
returns-in_err-rest-clause-sound g c = rw (err_from_is_err_and c.from_residual.result c.from_residual.ensures.1).1 tt
