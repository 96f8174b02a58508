use Rattle.std.proofs.Common.{◌≡◌, ◌∙◌, ap, refl, inl, inr, ⊎_elim}
use Rattle.dw_entry_ids.specs.KeptRows.{keep_of}
use Rattle.dw_dwarf.specs.NewUnits.{unit_with, unit_for}
use Rattle.dw_dwarf.proofs.Ready.{can_convert}
use Rattle.dw_dwarf.proofs.Rooted.{rooted}
use Rattle.dw_dwarf.proofs.Setting.{and_ok, and_err}
use Rattle.dw_dwarf.proofs.convert.units.convert_numbered.Goals as goal

pub new_unit-requires : goal.new_unit-requires
new_unit-requires g c = rooted (keep_of c.args.kept.now) g.R.Reader.reading c.args.dwarf.now c.args.numbered.now c.requires.numbered.unit c.requires.numbered.numbered

pub convert_unit-requires-clause-ready : goal.convert_unit-requires-clause-ready
convert_unit-requires-clause-ready g c =
    let new : c.in_ok-unit.unit ≡ unit_for c.args.numbered.now = c.in_ok-unit.ensures.ok ∙ ap (λ e. unit_with e c.args.numbered.now.entries) c.encoding.ensures in
    can_convert (keep_of c.args.kept.now) g.R.Reader.reading c.args.dwarf.now c.args.numbered.now c.requires.numbered.unit _ c.in_ok-unit.unit c.requires.numbered.numbered c.requires.numbered.closed refl (ap (λ u. u.reserved) new) (ap (λ u. u.entries) new) (ap (λ u. u.is_freed) new)

pub returns-clause-err : goal.returns-clause-err
returns-clause-err g c =
    let new : c.in_ok-unit.unit ≡ unit_for c.args.numbered.now = c.in_ok-unit.ensures.ok ∙ ap (λ e. unit_with e c.args.numbered.now.entries) c.encoding.ensures in
    rw c.and.ensures
    (and_err c.convert_unit.new.unit c.convert_unit.result c.convert_unit.ensures.err
    (λ e. ⊎_elim inl (λ r. inr (record { read = _; of = record { file = refl; unit = refl }; refuses = rw new at r }))))

pub returns-clause-ok : goal.returns-clause-ok
returns-clause-ok g c =
    let new : c.in_ok-unit.unit ≡ unit_for c.args.numbered.now = c.in_ok-unit.ensures.ok ∙ ap (λ e. unit_with e c.args.numbered.now.entries) c.encoding.ensures in
    rw c.and.ensures
    (and_ok c.convert_unit.new.unit _ c.convert_unit.result c.convert_unit.ensures.ok
    (λ becomes. record { read = _; of = record { file = refl; unit = refl }; becomes = rw new at becomes.unit }))
