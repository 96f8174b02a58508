use Rattle.std.proofs.lemmas.Result.{err_from_is_err_and}
use Rattle.dw_read.proofs.reader.Reader.read_word.Goals as goal

pub returns-in_err-value-clause-passes : goal.returns-in_err-value-clause-passes
returns-in_err-value-clause-passes g c = rw (err_from_is_err_and c.from_residual.result c.from_residual.ensures.1).1 tt

pub returns-in_err-value-clause-ok : goal.returns-in_err-value-clause-ok
returns-in_err-value-clause-ok g c = rw (err_from_is_err_and c.from_residual.result c.from_residual.ensures.1).1 tt

pub returns-in_err-value-clause-kept : goal.returns-in_err-value-clause-kept
returns-in_err-value-clause-kept g c = rw (err_from_is_err_and c.from_residual.result c.from_residual.ensures.1).1 c.in_err-value.ensures.kept

pub returns-clause-err : goal.returns-clause-err
returns-clause-err g c = tt

pub returns-clause-kept : goal.returns-clause-kept
returns-clause-kept g c = tt
