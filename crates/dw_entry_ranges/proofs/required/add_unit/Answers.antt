use Rattle.std.proofs.Common.{refl, inl, inr, ⊎_elim}
use Rattle.std.proofs.lemmas.Result.{err_from_is_err_and}
use Rattle.dw_read_units.proofs.UnitParts.{misses_unit}
use Rattle.dw_entry_ranges.proofs.RequiredSteps.{adds_unit, behind_header, has_root, misses_unit_row}
use Rattle.dw_entry_ranges.proofs.required.add_unit.Goals as goal

pub returns-in_err-unit-clause-err : goal.returns-in_err-unit-clause-err
returns-in_err-unit-clause-err g c =
    let p = err_from_is_err_and c.from_residual.result c.from_residual.ensures.1 in
    rw (p.1, p.2) (⊎_elim inl (λ r. inr (inl r)) (misses_unit g.R.Reader.reading c.args.dwarf.now c.args.header _ c.in_err-unit.ensures.err))

pub add_rows-requires-clause-behind : goal.add_rows-requires-clause-behind
add_rows-requires-clause-behind g c = behind_header g.R.Reader.reading c.args.dwarf.now c.args.header c.in_ok-unit.unit c.in_ok-unit.ensures.ok c.requires

pub add_rows-requires-clause-root : goal.add_rows-requires-clause-root
add_rows-requires-clause-root g c = has_root g.R.Reader.reading c.args.dwarf.now c.args.header c.in_ok-unit.unit c.in_ok-unit.ensures.ok

pub returns-clause-ok : goal.returns-clause-ok
returns-clause-ok g c = adds_unit g.R.Reader.reading c.args.dwarf.now c.args.header _ refl c.in_ok-unit.ensures.ok c.add_rows.result c.args.live.now c.args.required.now.items c.add_rows.new.required.items c.add_rows.ensures.ok

pub returns-clause-err : goal.returns-clause-err
returns-clause-err g c = misses_unit_row g.R.Reader.reading c.args.dwarf.now c.args.header _ refl c.in_ok-unit.ensures.ok c.add_rows.result c.add_rows.ensures.err
