use Rattle.std.proofs.Common.{sym, ap, subst, All, Option, List, refl, inl, inr, ⊎_elim}
use Rattle.dw_base.specs.declared.offsets.UnitSectionOffset.{UnitSectionOffset}
use Rattle.dw_entry_ids.specs.KeptRows.{keep_of}
use Rattle.dw_writer.proofs.Outcomes.{OnOk-map, IfErr-map}
use Rattle.dw_dwarf.specs.ConvertedUnits.{IsRead}
use Rattle.dw_dwarf.proofs.UnitSteps.{all_read}
use Rattle.dw_dwarf.proofs.Setting.{is_err}
use Rattle.dw_sources.specs.ConvertErrors.{from_read}
use Rattle.dw_dwarf.proofs.convert.units.convert_units.Goals as goal

pub convert_found-requires-clause-read : goal.convert_found-requires-clause-read
convert_found-requires-clause-read g c =
    let found = c.in_ok-found.ensures.ok in
    subst (λ (kept : Option (List UnitSectionOffset)). All (IsRead (keep_of kept) g.R.Reader.reading c.args.dwarf.now) c.in_ok-found.found.units.items) (sym c.all-all.ensures)
    (all_read g.R.Reader.reading c.args.dwarf.now c.in_ok-found.found.units.items found.units found.numbered)

pub returns-in_err-found-clause-ok : goal.returns-in_err-found-clause-ok
returns-in_err-found-clause-ok g c = rw (is_err _ _ c.from_residual.ensures) tt

pub returns-in_err-found-clause-err : goal.returns-in_err-found-clause-err
returns-in_err-found-clause-err g c =
    rw (is_err _ _ c.from_residual.ensures)
    (⊎_elim (λ n. inl (ap from_read n)) (λ h. inr (inl (record { reason = c.in_err-found.field-0.0; read = h; is = refl }))) c.in_err-found.ensures.err)

pub returns-clause-ok : goal.returns-clause-ok
returns-clause-ok g c =
    let become = rw c.all-all.ensures at c.convert_found.ensures.ok in
    OnOk-map c.convert_found.result become (λ b. record { found = c.in_ok-found.found; read = c.in_ok-found.ensures.ok; built = b.built; become = b.become; added = b.added })

pub returns-clause-err : goal.returns-clause-err
returns-clause-err g c =
    let refused = rw c.all-all.ensures at c.convert_found.ensures.err in
    IfErr-map c.convert_found.result refused (λ e. ⊎_elim inl (λ r. inr (inr (record { found = c.in_ok-found.found; read = c.in_ok-found.ensures.ok; refused = r }))))
