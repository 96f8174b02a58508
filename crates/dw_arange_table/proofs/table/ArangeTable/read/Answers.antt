use Rattle.std.proofs.lemmas.Result.{err_from_is_err_and}
use Rattle.dw_arange_table.proofs.Reasons.{is_reason}
use Rattle.dw_arange_table.proofs.table.ArangeTable.read.Goals as goal

pub returns-in_err-sets-clause-reasons : goal.returns-in_err-sets-clause-reasons
returns-in_err-sets-clause-reasons g c =
    let p = err_from_is_err_and c.from_residual.result c.from_residual.ensures.1 in
    rw (p.1, p.2) (is_reason (g.R.Reader.reading c.args.section) _ c.in_err-sets.ensures.err)
