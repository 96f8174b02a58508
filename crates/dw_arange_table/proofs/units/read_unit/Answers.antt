use Rattle.std.proofs.Common.{◌∙◌, refl, inl, inr, ⊎_elim, ap}
use Rattle.std.proofs.lemmas.Result.{err_from_is_err_and}
use Rattle.dw_arange_table.proofs.UnitSteps.{begins, covers_unit, misses_ranges}
use Rattle.dw_arange_table.proofs.units.read_unit.Goals as goal

pub returns-in_err-ranges-clause-err : goal.returns-in_err-ranges-clause-err
returns-in_err-ranges-clause-err g c =
    let reading = g.R.Reader.reading in
    let unit = c.in_ok-unit.ensures.ok in
    let p = err_from_is_err_and c.from_residual-in_err-ranges.result c.from_residual-in_err-ranges.ensures.1 in
    rw (p.1, p.2)
    (⊎_elim (λ full. inl full) (λ why. inr (inr (misses_ranges reading c.args.dwarf.now c.args.header c.in_ok-unit.unit unit _ _ why refl refl)))
    (c.in_err-ranges.ensures unit.root unit.rest (begins reading c.args.dwarf.now c.args.header c.in_ok-unit.unit unit)))

pub returns-clause-ok : goal.returns-clause-ok
returns-clause-ok g c =
    let reading = g.R.Reader.reading in
    let unit = c.in_ok-unit.ensures.ok in
    record {
      covers = covers_unit reading c.args.dwarf.now c.args.header c.in_ok-unit.unit unit _ _ (c.in_ok-ranges.ensures unit.root unit.rest (begins reading c.args.dwarf.now c.args.header c.in_ok-unit.unit unit)) refl refl;
      encoding = c.encoding.ensures ∙ ap (λ h. h.fields.encoding) unit.header;
      place = c.offset.ensures ∙ ap (λ h. h.offset) unit.header;
    }
