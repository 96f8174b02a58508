use Rattle.std.proofs.Common.{subst, List}
use Rattle.std.proofs.lemmas.Result.{err_from_is_err_and}
use Rattle.dw_base.specs.Abbreviations.{Declaration}
use Rattle.dw_read.specs.Reading.{Reading}
use Rattle.dw_read.specs.Took.{Took}
use Rattle.dw_read.specs.Declarations.{table_read}
use Rattle.dw_base.specs.Abbreviations.{table_at}
use Rattle.dw_read.proofs.Chain.{reads_of}
use Rattle.dw_read.proofs.TableLaws.{table_law, refuses_table}
use Rattle.dw_read.proofs.abbreviations.Abbreviations.parse.Goals as goal

pub returns-in_err-table-clause-err : goal.returns-in_err-table-clause-err
returns-in_err-table-clause-err g c =
    let p = err_from_is_err_and c.from_residual.result c.from_residual.ensures.1 in
    rw (p.1, p.2) (refuses_table _ _ _ c.duplicate-after.ensures c.in_err-table.ensures.err)

pub returns-clause-ok : goal.returns-clause-ok
returns-clause-ok g c =
    reads_of (List Declaration) table_at table_read _ _ _ table_law (subst (λ (r : Reading). Took (List Declaration) table_read r (g.R.Reader.reading c.read_table.new.input) c.in_ok-table.table) c.duplicate-after.ensures c.in_ok-table.ensures.ok)

pub returns-in_err-table-clause-ok : goal.returns-in_err-table-clause-ok
returns-in_err-table-clause-ok g c = rw (err_from_is_err_and c.from_residual.result c.from_residual.ensures.1).1 tt

pub returns-clause-err : goal.returns-clause-err
returns-clause-err g c = tt

pub returns-clause-kept : goal.returns-clause-kept
returns-clause-kept g c = tt
