use Rattle.std.proofs.Common.{sym, ap, subst, List, refl, inl, inr, ⊎_elim}
use Rattle.dw_read_units.specs.declared.dwarf.Unit.{Unit as UnitFields}
use Rattle.dw_entry_ids.specs.KeptRows.{keep_of}
use Rattle.dw_writer.proofs.Outcomes.{OnOk-map, IfErr-map}
use Rattle.dw_dwarf.specs.ConvertedUnits.{AreClosed}
use Rattle.dw_dwarf.proofs.UnitSteps.{all_read_kept}
use Rattle.dw_dwarf.proofs.Setting.{is_err}
use Rattle.dw_sources.specs.ConvertErrors.{from_read}
use Rattle.dw_dwarf.proofs.convert.units.convert_kept.Goals as goal

pub convert_found-requires-clause-read : goal.convert_found-requires-clause-read
convert_found-requires-clause-read g c =
    let reading = g.R.Reader.reading in
    let found = c.in_ok-found.ensures.ok in
    let closed = subst (λ (us : List (UnitFields _ _)). AreClosed (keep_of c.args.kept.now) reading us) (sym found.held) c.requires.closed in
    all_read_kept reading c.args.dwarf.now (keep_of c.args.kept.now) c.in_ok-found.found.units.items found.units found.numbered closed

pub returns-in_err-found-clause-ok : goal.returns-in_err-found-clause-ok
returns-in_err-found-clause-ok g c = rw (is_err _ _ c.from_residual.ensures) tt

pub returns-in_err-found-clause-err : goal.returns-in_err-found-clause-err
returns-in_err-found-clause-err g c =
    rw (is_err _ _ c.from_residual.ensures)
    (⊎_elim (λ n. inl (ap from_read n)) (λ h. inr (inl (record { reason = c.in_err-found.field-0.0; read = h; is = refl }))) c.in_err-found.ensures.err)

pub returns-clause-ok : goal.returns-clause-ok
returns-clause-ok g c =
    OnOk-map c.convert_found.result c.convert_found.ensures.ok (λ b. record { found = c.in_ok-found.found; read = c.in_ok-found.ensures.ok; built = b.built; become = b.become; added = b.added })

pub returns-clause-err : goal.returns-clause-err
returns-clause-err g c =
    IfErr-map c.convert_found.result c.convert_found.ensures.err (λ e. ⊎_elim inl (λ r. inr (inr (record { found = c.in_ok-found.found; read = c.in_ok-found.ensures.ok; refused = r }))))
