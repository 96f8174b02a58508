use Rattle.std.proofs.Common.{◌≡◌, ◌∙◌, ◌<◌, ◌^◌, sym, ap, subst, not, Err, length, refl, inl, inr, ⊎_elim, arith}
use Rattle.std.proofs.lemmas.Bool.{eqb-true, eqb-false}
use Rattle.std.proofs.lemmas.Option.{slice_get_read}
use Rattle.dw_dwarf.specs.UnitIds.{id_behind}
use Rattle.dw_entry_ids.specs.KeptRows.{keep_of}
use Rattle.dw_entry_ids.specs.KeptUnits.{AreUnitsBehind, NumbersKept, all_rows}
use Rattle.dw_sources.specs.ConvertErrors.{from_read}
use Rattle.dw_dwarf.proofs.Setting.{is_err}
use Rattle.dw_dwarf.proofs.SplitSteps.{first_closed, first_in_order, id_within, none_given, readable_still, sum_fits}
use Rattle.dw_dwarf.proofs.Readability.{all_readable}
use Rattle.dw_dwarf.proofs.UnitSteps.{all_read_kept}
use Rattle.dw_dwarf.specs.ConvertedUnits.{AreClosed}
use Rattle.dw_dwarf.specs.Readable.{IsReadable, IsReadableUnit}
use Rattle.dw_dwarf.proofs.convert.split_unit.SplitUnit.of.Goals as goal

pub number_kept-requires : goal.number_kept-requires
number_kept-requires g c = subst (AreUnitsBehind g.R.Reader.reading c.args.read.now 0) (sym c.truncate.ensures.items) (first_in_order g.R.Reader.reading c.args.read.now c.args.units.items c.requires.in_order)

pub returns-in_err-units-clause-err : goal.returns-in_err-units-clause-err
returns-in_err-units-clause-err g c =
    rw (is_err _ _ c.from_residual.ensures)
    (⊎_elim (λ n. inl (ap from_read n)) (λ h. inr (inl (record {
      reason = c.in_err-units.field-0.0;
      read = subst (λ us. all_rows g.R.Reader.reading us ≡ Err c.in_err-units.field-0.0) c.truncate.ensures.items h;
      is = refl;
    }))) c.in_err-units.ensures.err)

pub returns-then-is_empty-clause-err : goal.returns-then-is_empty-clause-err
returns-then-is_empty-clause-err g c =
    let units = c.in_ok-units.field-0.units in
    let none : length units.items ≡ 0 = sym units.ok.0 ∙ eqb-true _ 0 (sym c.is_empty.ensures ∙ c.if-is_empty.true) in
    inr (inr (sym c.truncate.ensures.items ∙ none_given _ units.items c.truncate.new.self.items none c.in_ok-units.ensures.ok.held, c.into.ensures))

pub invariant_of-result : goal.invariant_of-result
invariant_of-result g c =
    let reading = g.R.Reader.reading in
    let keep = keep_of c.args.kept in
    let d = c.args.read.now in
    let units = c.in_ok-units.field-0.units in
    let n = c.in_ok-units.ensures.ok in
    let some : 0 < length units.items = omega (arith, units.ok.0, eqb-false _ 0 (sym c.is_empty.ensures ∙ c.if-is_empty.false)) in
    let closed = subst (AreClosed keep reading) (sym (n.held ∙ c.truncate.ensures.items)) (first_closed reading keep c.args.units.items c.requires.closed) in
    let all = all_readable keep reading d units.items (all_read_kept reading d keep units.items n.units n.numbered closed) in
    let one = subst (IsReadableUnit reading keep) (sym c.swap_remove-numbered.ensures.value) (all 0 c.swap_remove-numbered.result some) in
    record {
      readable = subst (λ u. IsReadable reading keep u c.swap_remove-numbered.result.entries) (sym c.copy_relocated_attributes.ensures) (readable_still reading keep c.args.skeleton c.swap_remove-numbered.result one);
      free = c.requires.free;
      room = subst (λ m. id_behind c.args.skeleton.first m < 2 ^ 64) c.entries_of.ensures
          (id_within c.args.skeleton.first c.entries_of.result (sum_fits c.checked_add.result _ _ c.checked_add.ensures (c.is_none.ensures ∙ ap not c.if-is_none.false)));
    }

pub returns-clause-ok : goal.returns-clause-ok
returns-clause-ok g c =
    let units = c.in_ok-units.field-0.units in
    let some : 0 < length units.items = omega (arith, units.ok.0, eqb-false _ 0 (sym c.is_empty.ensures ∙ c.if-is_empty.false)) in
    record {
      read = refl;
      kept_is = refl;
      skeleton_is = refl;
      found = c.in_ok-units.field-0;
      are = subst (λ us. NumbersKept g.R.Reader.reading c.args.read.now (keep_of c.args.kept) us c.in_ok-units.field-0) c.truncate.ensures.items c.in_ok-units.ensures.ok;
      held = c.swap_remove-numbered.result;
      first = slice_get_read units.items (length units.items) 0 c.swap_remove-numbered.result refl some c.swap_remove-numbered.ensures.value;
      numbered = ap (λ u. record c.swap_remove-numbered.result { unit = u }) c.copy_relocated_attributes.ensures;
      ids = refl;
    }
