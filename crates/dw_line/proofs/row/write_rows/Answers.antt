use Rattle.std.proofs.Common.{◌<◌, ◌≤◌, length, arith}
use Rattle.std.proofs.lemmas.Result.{err_from_is_err_and}
use Rattle.dw_line.proofs.LineRowsSteps.{rows_none, rows_more, rows_refused, ranged_all}
use Rattle.dw_line.proofs.FrontSteps.{Adds-front, Front-then}
use Rattle.dw_line.proofs.row.write_rows.Goals as goal

pub loop-row-init : goal.loop-row-init
loop-row-init g c = rows_none _ _ _ _ _ c.requires.file c.requires.order

pub loop-row-preserved : goal.loop-row-preserved
loop-row-preserved g c =
    let below : c.loop-row.row-index < length c.args.rows.now = omega arith in
    rows_more c.loop-row.invariant _ below c.in_ok-write_row.ensures.ok c.in_ok-write_row.ensures.line c.in_ok-write_row.ensures.ranged

pub returns-in_err-write_row-clause-err : goal.returns-in_err-write_row-clause-err
returns-in_err-write_row-clause-err g c =
    let below : c.loop-row.row-index < length c.args.rows.now = omega arith in
    let p = err_from_is_err_and c.from_residual.result c.from_residual.ensures.1 in
    rw (p.1, p.2) (rows_refused c.loop-row.invariant _ below (g.W.Writer.meaning c.write_row.new.w) _ c.in_err-write_row.ensures.err)

pub returns-clause-ranged : goal.returns-clause-ranged
returns-clause-ranged g c =
    let past : length c.args.rows.now ≤ c.loop-row.row-index = omega arith in
    ranged_all c.loop-row.invariant past

pub returns-in_err-write_row-clause-front : goal.returns-in_err-write_row-clause-front
returns-in_err-write_row-clause-front g c = Front-then (Adds-front c.loop-row.invariant.raw.added) c.in_err-write_row.ensures.front

pub returns-clause-front : goal.returns-clause-front
returns-clause-front g c = Adds-front c.loop-row.invariant.raw.added

pub returns-in_err-write_row-clause-ok : goal.returns-in_err-write_row-clause-ok
returns-in_err-write_row-clause-ok g c = rw (err_from_is_err_and c.from_residual.result c.from_residual.ensures.1).1 tt

pub returns-in_err-write_row-clause-last : goal.returns-in_err-write_row-clause-last
returns-in_err-write_row-clause-last g c = rw (err_from_is_err_and c.from_residual.result c.from_residual.ensures.1).1 tt

pub returns-in_err-write_row-clause-offset : goal.returns-in_err-write_row-clause-offset
returns-in_err-write_row-clause-offset g c = rw (err_from_is_err_and c.from_residual.result c.from_residual.ensures.1).1 tt

pub returns-in_err-write_row-clause-lines : goal.returns-in_err-write_row-clause-lines
returns-in_err-write_row-clause-lines g c = rw (err_from_is_err_and c.from_residual.result c.from_residual.ensures.1).1 tt

pub returns-in_err-write_row-clause-ranged : goal.returns-in_err-write_row-clause-ranged
returns-in_err-write_row-clause-ranged g c = rw (err_from_is_err_and c.from_residual.result c.from_residual.ensures.1).1 tt

pub returns-clause-err : goal.returns-clause-err
returns-clause-err g c = tt
