use Rattle.std.proofs.Common.{⊎_elim, inl, inr}
use Rattle.std.proofs.lemmas.Result.{err_from_is_err_and}
use Rattle.dw_read_units.proofs.UnitParts.{misses_rows, misses_unit}
use Rattle.example_read.proofs.UnitParts.{sees_unit}
use Rattle.example_read.proofs.walk.read_unit.Goals as goal

pub returns-in_err-unit-clause-err : goal.returns-in_err-unit-clause-err
returns-in_err-unit-clause-err g c =
    let p = err_from_is_err_and c.from_residual.result c.from_residual.ensures.1 in
    rw (p.1, p.2) (misses_unit g.R.Reader.reading c.args.dwarf.now c.args.header _ c.in_err-unit.ensures.err)

pub returns-in_err-rows-clause-err : goal.returns-in_err-rows-clause-err
returns-in_err-rows-clause-err g c =
    let p = err_from_is_err_and c.from_residual-in_err-rows.result c.from_residual-in_err-rows.ensures.1 in
    rw (p.1, p.2) (⊎_elim inl (λ r. inr (misses_rows g.R.Reader.reading c.args.dwarf.now c.args.header c.in_ok-unit.unit _ c.in_ok-unit.ensures.ok r)) c.in_err-rows.ensures.err)

pub returns-clause-ok : goal.returns-clause-ok
returns-clause-ok g c = sees_unit g.R.Reader.reading c.args.dwarf.now c.args.header (record { unit = c.in_ok-unit.unit; rows = c.in_ok-rows.rows }) c.in_ok-unit.ensures.ok c.in_ok-rows.ensures.ok
