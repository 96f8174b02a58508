use Rattle.std.proofs.Common.{sym, subst, refl, Some, inl, inr, ⊎_elim}
use Rattle.dw_entry_ids.proofs.FirstLaws.{behind_each}
use Rattle.dw_entry_ids.specs.KeptRows.{keep_of}
use Rattle.dw_entry_ids.specs.KeptUnits.{AreUnitsBehind}
use Rattle.dw_dwarf.proofs.Filtering.{closed_held, entries_missed, keeps_are}
use Rattle.dw_dwarf.proofs.Setting.{is_err}
use Rattle.dw_dwarf.specs.ConvertedUnits.{AreClosed}
use Rattle.dw_dwarf.proofs.convert.found_units.kept_of.Goals as goal

pub kept_entries-requires : goal.kept_entries-requires
kept_entries-requires g c =
    let in_order = subst (λ b. AreUnitsBehind g.R.Reader.reading b.now 0 c.args.units.now) (sym c.dwarf-read.ensures) c.requires.in_order in
    behind_each g.R.Reader.reading c.dwarf-read.result.now 0 c.args.units.now in_order

pub returns-in_err-places-clause-err : goal.returns-in_err-places-clause-err
returns-in_err-places-clause-err g c =
    rw (is_err _ _ c.from_residual.ensures)
    (⊎_elim inl (λ why. inr (entries_missed g.R.Reader.reading c.args.filter.now c.dwarf-read.result c.counts-counts.result.now c.args.units.now c.dwarf-read.ensures c.counts-counts.ensures c.args.units.now _ refl c.requires.are why)) c.in_err-places.ensures.err)

pub returns-clause-ok : goal.returns-clause-ok
returns-clause-ok g c =
    let us = c.args.units.now in
    record {
      places = c.in_ok-places.places.items;
      is = c.at.ensures;
      keeps = keeps_are g.R.Reader.reading c.args.filter.now c.dwarf-read.result c.counts-counts.result.now us c.dwarf-read.ensures c.counts-counts.ensures us c.required.result.now c.in_ok-places.places.items refl c.required.ensures c.in_ok-places.ensures.sorted c.in_ok-places.ensures.kept;
    }

pub returns-clause-closed : goal.returns-clause-closed
returns-clause-closed g c =
    let reading = g.R.Reader.reading in
    let us = c.args.units.now in
    let in_order = subst (λ b. AreUnitsBehind reading b.now 0 us) (sym c.dwarf-read.ensures) c.requires.in_order in
    subst (λ k. AreClosed (keep_of k) reading us) (sym c.at.ensures) (closed_held reading (keep_of (Some c.in_ok-places.places.items)) us (c.in_ok-places.ensures.closed in_order))
