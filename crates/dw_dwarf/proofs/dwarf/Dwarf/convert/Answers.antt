use Rattle.std.specs.Prelude.{◌≡◌, Err}
use Rattle.std.proofs.Common.{inl, ap, refl}
use Rattle.dw_dwarf.proofs.Setting.{is_err, and_ok, and_err}
use Rattle.dw_dwarf.specs.DwarfValue.{DwarfValue, dwarf_in}
use Rattle.dw_dwarf.proofs.dwarf.Dwarf.convert.Goals as goal

pub returns-in_err-found-clause-err : goal.returns-in_err-found-clause-err
returns-in_err-found-clause-err g c =
    let e : c.from_residual.result ≡ Err c.in_err-found.field-0.0 = is_err _ _ c.from_residual.ensures in
    rw e c.in_err-found.ensures.err

pub returns-in_err-found-clause-ok : goal.returns-in_err-found-clause-ok
returns-in_err-found-clause-ok g c = rw (is_err _ _ c.from_residual.ensures) tt

pub returns-in_err-found-clause-same : goal.returns-in_err-found-clause-same
returns-in_err-found-clause-same g c = rw (is_err _ _ c.from_residual.ensures) tt

pub returns-clause-ok : goal.returns-clause-ok
returns-clause-ok g c =
    rw c.and.ensures
    (and_ok _ _ c.add_new.result c.add_new.ensures.ok
    (λ added. record {
      read = c.in_ok-found.ensures.file;
      found = c.in_ok-found.ensures.ok;
      kept = c.in_ok-found.ensures.kept;
      dwarf = ap (λ us. let d : DwarfValue = record (dwarf_in c.args.self.now) { units = us } in d) added;
      first = c.count-first.ensures;
      next = refl;
    }))

pub returns-clause-same : goal.returns-clause-same
returns-clause-same g c = rw c.and.ensures (and_ok _ _ c.add_new.result c.add_new.ensures.ok (λ added. refl))

pub returns-clause-err : goal.returns-clause-err
returns-clause-err g c = rw c.and.ensures (and_err _ c.add_new.result c.add_new.ensures.err (λ e none. inl none))
