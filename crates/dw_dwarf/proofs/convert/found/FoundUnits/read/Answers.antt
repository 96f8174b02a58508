use Rattle.dw_entry_ids.specs.KeptRows.{keep_of}
use Rattle.std.proofs.Common.{None}
use Rattle.dw_dwarf.proofs.Filtering.{all_found}
use Rattle.dw_dwarf.proofs.Readability.{all_readable}
use Rattle.dw_dwarf.proofs.Setting.{is_err}
use Rattle.dw_dwarf.proofs.UnitSteps.{all_read}
use Rattle.dw_dwarf.proofs.convert.found.FoundUnits.read.Goals as goal

pub invariant_of-result : goal.invariant_of-result
invariant_of-result g c =
    let reading = g.R.Reader.reading in
    let d = c.args.dwarf.now in
    let found = c.in_ok-found.ensures.ok in
    let items = c.in_ok-found.found.units.items in
    record {
      numbered = ∣ rw c.all.ensures (all_found reading d c.in_ok-found.found found) ∣₁;
      readable = rw c.all.ensures (all_readable (keep_of None) reading d items (all_read reading d items found.units found.numbered));
    }

pub returns-in_err-found-clause-ok : goal.returns-in_err-found-clause-ok
returns-in_err-found-clause-ok g c = rw (is_err _ _ c.from_residual.ensures) tt

pub returns-in_err-found-clause-file : goal.returns-in_err-found-clause-file
returns-in_err-found-clause-file g c = rw (is_err _ _ c.from_residual.ensures) tt

pub returns-in_err-found-clause-kept : goal.returns-in_err-found-clause-kept
returns-in_err-found-clause-kept g c = rw (is_err _ _ c.from_residual.ensures) tt

pub returns-clause-err : goal.returns-clause-err
returns-clause-err g c = tt
