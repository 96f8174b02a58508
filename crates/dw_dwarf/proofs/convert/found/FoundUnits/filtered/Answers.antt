use Rattle.std.proofs.Common.{◌≡◌, ◌∙◌, sym, ap, subst, refl, List, Option, Some, None, inl, inr, ⊎_elim}
use Rattle.dw_base.specs.declared.offsets.UnitSectionOffset.{UnitSectionOffset}
use Rattle.dw_read_units.specs.declared.dwarf.Dwarf.{Dwarf}
use Rattle.dw_read_units.specs.declared.dwarf.Unit.{Unit as UnitFields}
use Rattle.dw_entry_ids.specs.KeptRows.{keep_of}
use Rattle.dw_entry_ids.specs.KeptUnits.{AreUnitsBehind, NumbersKept}
use Rattle.dw_sources.specs.ConvertErrors.{from_read}
use Rattle.dw_dwarf.proofs.Filtering.{entries_missed, rows_missed, units_are}
use Rattle.dw_dwarf.proofs.Readability.{all_readable}
use Rattle.dw_dwarf.proofs.Setting.{is_err}
use Rattle.dw_dwarf.proofs.UnitSteps.{all_read_kept}
use Rattle.dw_dwarf.specs.ConvertedUnits.{AreClosed}
use Rattle.dw_dwarf.proofs.convert.found.FoundUnits.filtered.Goals as goal

not_all : (places : List UnitSectionOffset) (k : Option (List UnitSectionOffset)) → k ≡ Some places → k ≡ None → ⊥
not_all places k s n = let clash : ◌≡◌ {A = Option (List UnitSectionOffset)} (Some places) None = sym s ∙ n in cc

pub kept_of-requires-clause-are : goal.kept_of-requires-clause-are
kept_of-requires-clause-are g c =
    let f = c.args.filter in
    rw c.deref.ensures.value (units_are g.R.Reader.reading f c.dwarf-read.result c.counts.result.now c.in_ok-units.units.items c.dwarf-read.ensures c.counts.ensures c.in_ok-units.ensures.first)

pub kept_of-requires-clause-in_order : goal.kept_of-requires-clause-in_order
kept_of-requires-clause-in_order g c = rw c.deref.ensures.value (subst (λ b. AreUnitsBehind g.R.Reader.reading b.now 0 c.in_ok-units.units.items) c.dwarf-read.ensures c.in_ok-units.ensures.in_order)

pub returns-in_err-kept-clause-err : goal.returns-in_err-kept-clause-err
returns-in_err-kept-clause-err g c = rw (is_err _ _ c.from_residual-in_err-kept.ensures) (⊎_elim inl (λ why. inr (inr why)) c.in_err-kept.ensures.err)

pub returns-in_err-found-clause-err : goal.returns-in_err-found-clause-err
returns-in_err-found-clause-err g c =
    let reading = g.R.Reader.reading in
    let us = c.in_ok-units.units.items in
    let f = c.args.filter in
    let are = units_are reading f c.dwarf-read.result c.counts.result.now us c.dwarf-read.ensures c.counts.ensures c.in_ok-units.ensures.first in
    rw (is_err _ _ c.from_residual-in_err-found.ensures)
    (⊎_elim (λ n. inl (ap from_read n)) (λ h. inr (inr (entries_missed reading f c.dwarf-read.result c.counts.result.now us c.dwarf-read.ensures c.counts.ensures us _ refl are (inl (rows_missed reading us c.in_err-found.field-0.0 h))))) c.in_err-found.ensures.err)

pub invariant_of-result : goal.invariant_of-result
invariant_of-result g c =
    let reading = g.R.Reader.reading in
    let d = c.dwarf-read.result.now in
    let us = c.in_ok-units.units.items in
    let kept = c.in_ok-kept.kept in
    let ok = rw c.deref.ensures.value at c.in_ok-kept.ensures.ok in
    let closed = rw c.deref.ensures.value at c.in_ok-kept.ensures.closed in
    let n = c.in_ok-found.ensures.ok in
    record {
      numbered = ∣ record { given = us; numbered = n; whole = λ e. absurd (not_all ok.places kept ok.is e) } ∣₁;
      readable = all_readable (keep_of kept) reading d c.in_ok-found.found.units.items
          (all_read_kept reading d (keep_of kept) c.in_ok-found.found.units.items n.units n.numbered (subst (λ (xs : List (UnitFields _ _)). AreClosed (keep_of kept) reading xs) (sym n.held) closed));
    }

pub returns-clause-ok : goal.returns-clause-ok
returns-clause-ok g c =
    let reading = g.R.Reader.reading in
    let us = c.in_ok-units.units.items in
    let f = c.args.filter in
    let ok = rw c.deref.ensures.value at c.in_ok-kept.ensures.ok in
    let closed = rw c.deref.ensures.value at c.in_ok-kept.ensures.closed in
    record {
      units = us;
      are = units_are reading f c.dwarf-read.result c.counts.result.now us c.dwarf-read.ensures c.counts.ensures c.in_ok-units.ensures.first;
      places = ok.places;
      keeps = ok.keeps;
      is = ok.is;
      numbered = subst (λ (d : Dwarf _ _). NumbersKept reading d (keep_of (Some ok.places)) us c.in_ok-found.found) (ap (λ b. b.now) c.dwarf-read.ensures)
          (subst (λ k. NumbersKept reading c.dwarf-read.result.now (keep_of k) us c.in_ok-found.found) ok.is c.in_ok-found.ensures.ok);
      closed = subst (λ k. AreClosed (keep_of k) reading us) ok.is closed;
    }
