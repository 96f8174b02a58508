use Rattle.std.proofs.Common.{sym, subst, inl, inr, ⊎_elim, List, Option, Some, refl}
use Rattle.dw_base.specs.declared.offsets.UnitSectionOffset.{UnitSectionOffset}
use Rattle.dw_entry_ids.proofs.FirstLaws.{behind_each}
use Rattle.dw_entry_ids.specs.KeptRows.{keep_of}
use Rattle.dw_dwarf.specs.ConvertedUnits.{AreClosed}
use Rattle.dw_live_code.proofs.WholeFile.{all_closed}
use Rattle.dw_dwarf.specs.DwarfValue.{DwarfValue, dwarf_in}
use Rattle.dw_live_code.proofs.Pruning.{kept_live, kept_pruned, kept_refused}
use Rattle.dw_live_code.proofs.Refusals.{and_err, and_ok, is_err}
use Rattle.dw_live_code.specs.Pruned.{IsPruned}
use Rattle.dw_live_code.proofs.pruned.prune.Goals as goal

pub kept_entries-requires : goal.kept_entries-requires
kept_entries-requires g c = rw c.deref-2.ensures.value (behind_each g.R.Reader.reading c.args.dwarf.now 0 c.in_ok-units.units.items c.in_ok-units.ensures.in_order)

pub returns-in_err-places-clause-err : goal.returns-in_err-places-clause-err
returns-in_err-places-clause-err g c =
    let us = c.in_ok-units.units.items in
    let counts = c.in_ok-counts.counts.items in
    let all = rw c.deref.ensures.value at c.in_ok-counts.ensures.ok in
    let why = rw (c.deref-2.ensures.value, c.deref-3.ensures.value) at c.in_err-places.ensures.err in
    rw (is_err _ _ c.from_residual-in_err-places.ensures)
    (⊎_elim inl (λ w. inr (inr (inr (inr (inl (record { units = us; are = c.in_ok-units.ensures.all; counts = counts; all = all; why = w })))))) why)

pub convert_kept-requires-clause-closed : goal.convert_kept-requires-clause-closed
convert_kept-requires-clause-closed g c =
    let reading = g.R.Reader.reading in
    let us = c.in_ok-units.units.items in
    let closed = rw c.deref-2.ensures.value at c.in_ok-places.ensures.closed in
    subst (λ (k : Option (List UnitSectionOffset)). AreClosed (keep_of k) reading us) (sym c.at-kept.ensures)
    (all_closed reading (keep_of (Some c.in_ok-places.places.items)) us (closed c.in_ok-units.ensures.in_order))

pub returns-clause-ok : goal.returns-clause-ok
returns-clause-ok g c =
    let reading = g.R.Reader.reading in
    let d = c.args.dwarf.now in
    let us = c.in_ok-units.units.items in
    let kept = c.in_ok-places.places.items in
    let all = rw c.deref.ensures.value at c.in_ok-counts.ensures.ok in
    let least = rw (c.deref-2.ensures.value, c.deref-3.ensures.value, c.deref-4.ensures.value) at c.in_ok-places.ensures.least in
    let live = kept_live reading g.met.R.Reader.is_reading d c.args.live.now us c.in_ok-counts.counts.items c.in_ok-required.required.items kept all c.in_ok-required.ensures.ok least c.in_ok-places.ensures.sorted in
    let built : DwarfValue = record { units = c.convert_kept.new.units; line_programs = c.new-pruned.result.line_programs.items; line_strings = c.convert_kept.new.line_strings; strings = c.convert_kept.new.strings } in
    rw c.and.ensures
    (and_ok _ (λ x. IsPruned reading d c.args.live.now (dwarf_in x)) c.convert_kept.result c.convert_kept.ensures.ok
    (λ h. kept_pruned reading g.met.R.Reader.is_reading d c.args.live.now us c.in_ok-units.ensures.all kept live c.at-kept.result c.at-kept.ensures (dwarf_in c.new-pruned.result) c.new-pruned.ensures built h refl))

pub returns-clause-err : goal.returns-clause-err
returns-clause-err g c =
    let reading = g.R.Reader.reading in
    let d = c.args.dwarf.now in
    let us = c.in_ok-units.units.items in
    let kept = c.in_ok-places.places.items in
    let all = rw c.deref.ensures.value at c.in_ok-counts.ensures.ok in
    let least = rw (c.deref-2.ensures.value, c.deref-3.ensures.value, c.deref-4.ensures.value) at c.in_ok-places.ensures.least in
    let live = kept_live reading g.met.R.Reader.is_reading d c.args.live.now us c.in_ok-counts.counts.items c.in_ok-required.required.items kept all c.in_ok-required.ensures.ok least c.in_ok-places.ensures.sorted in
    rw c.and.ensures
    (and_err _ c.convert_kept.result c.convert_kept.ensures.err
    (λ e h. ⊎_elim inl (λ w. inr (inr (inr (inr (inr (kept_refused reading g.met.R.Reader.is_reading d c.args.live.now us c.in_ok-units.ensures.all kept live c.at-kept.result c.at-kept.ensures (dwarf_in c.new-pruned.result) c.new-pruned.ensures e w)))))) h))
