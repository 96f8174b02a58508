use Rattle.std.proofs.Common.{◌≡◌, ◌∙◌, ap, sym, subst, ℕ, [], List}
use Rattle.std.specs.Prelude.{true}
use Rattle.dw_dwarf.specs.DwarfValue.{DwarfValue, dwarf_in}
use Rattle.dw_dwarf.specs.Valid.{AreUnwritten, IsValid}
use Rattle.dw_tree.specs.UnitValue.{UnitValue}
use Rattle.dw_build.specs.Generated.{generated}
use Rattle.dw_build.proofs.MadeValid.{generated_valid}
use Rattle.dw_build.proofs.Refusals.{is_err}
use Rattle.dw_build.proofs.Unwritten.{generated_unwritten}
use Rattle.dw_build.proofs.make.generate.Goals as goal

abbrev of_units : List UnitValue → DwarfValue
of_units units = record { units = units; line_programs = []; line_strings = []; strings = [] }

-- the units that were added to none are all that there is
is_generated : (n : ℕ) (units : List UnitValue) (d : DwarfValue) → units ≡ (generated n).units → d ≡ of_units [] → record d { units = units } ≡ generated n
is_generated n units d added none = ap (λ (v : DwarfValue). record v { units = units }) none ∙ ap of_units added

pub add_units-requires : goal.add_units-requires
add_units-requires c = ap (λ (v : DwarfValue). v.units) c.new-dwarf.ensures

pub returns-in_err-add_units-clause-ok : goal.returns-in_err-add_units-clause-ok
returns-in_err-add_units-clause-ok c = rw (is_err _ _ c.from_residual.ensures) tt

pub returns-in_err-add_units-clause-unwritten : goal.returns-in_err-add_units-clause-unwritten
returns-in_err-add_units-clause-unwritten c = rw (is_err _ _ c.from_residual.ensures) tt

pub returns-in_err-add_units-clause-valid : goal.returns-in_err-add_units-clause-valid
returns-in_err-add_units-clause-valid c = λ few. rw (is_err _ _ c.from_residual.ensures) tt

pub returns-in_err-add_units-clause-err : goal.returns-in_err-add_units-clause-err
returns-in_err-add_units-clause-err c = rw (is_err _ _ c.from_residual.ensures) c.in_err-add_units.ensures.err

pub returns-clause-ok : goal.returns-clause-ok
returns-clause-ok c =
    is_generated c.args.count c.add_units.new.units (dwarf_in c.new-dwarf.result) c.in_ok-add_units.ensures.ok c.new-dwarf.ensures

pub returns-clause-unwritten : goal.returns-clause-unwritten
returns-clause-unwritten c =
    let same = is_generated c.args.count c.add_units.new.units (dwarf_in c.new-dwarf.result) c.in_ok-add_units.ensures.ok c.new-dwarf.ensures in
    subst AreUnwritten (sym same) (generated_unwritten c.args.count)

pub returns-clause-valid : goal.returns-clause-valid
returns-clause-valid c = λ few.
    let same = is_generated c.args.count c.add_units.new.units (dwarf_in c.new-dwarf.result) c.in_ok-add_units.ensures.ok c.new-dwarf.ensures in
    subst (IsValid true) (sym same) (generated_valid c.args.count few)

pub returns-clause-err : goal.returns-clause-err
returns-clause-err c = tt
