use Rattle.std.proofs.Common.{◌∙◌, ap, [], ◌∷◌, ◌++◌}
use Rattle.std.proofs.lemmas.Result.{on_ok_weaker}
use Rattle.dw_tree.specs.UnitValue.{UnitValue, new_unit}
use Rattle.dw_build.specs.Generated.{generated_encoding}
use Rattle.dw_build.proofs.Lists.{got_last, set_last}
use Rattle.dw_build.proofs.Refusals.{is_err}
use Rattle.dw_build.proofs.make.add_unit.Goals as goal

pub returns-in_err-unit-clause-ok : goal.returns-in_err-unit-clause-ok
returns-in_err-unit-clause-ok c = rw (is_err _ _ c.from_residual.ensures) tt

pub returns-in_err-unit-clause-err : goal.returns-in_err-unit-clause-err
returns-in_err-unit-clause-err c = rw (is_err _ _ c.from_residual.ensures) c.in_err-unit.ensures.err

pub returns-in_err-id-clause-ok : goal.returns-in_err-id-clause-ok
returns-in_err-id-clause-ok c = rw (is_err _ _ c.from_residual-in_err-id.ensures) tt

pub returns-in_err-id-clause-err : goal.returns-in_err-id-clause-err
returns-in_err-id-clause-err c = rw (is_err _ _ c.from_residual-in_err-id.ensures) c.in_err-id.ensures.err

pub returns-clause-ok : goal.returns-clause-ok
returns-clause-ok c =
    let units = c.args.units.now in
    let same = set_last units c.add.new.self c.in_ok-unit.unit c.add_entries.new.unit c.in_ok-id.id.0 c.in_ok-id.ensures.ok c.in_ok-id.ensures.id in
    on_ok_weaker c.add_entries.result (λ e. same ∙ ap (λ (u : UnitValue). units ++ u ∷ []) e) c.add_entries.ensures.ok

pub returns-clause-err : goal.returns-clause-err
returns-clause-err c = c.add_entries.ensures.err

pub add_entries-requires-clause-bare : goal.add_entries-requires-clause-bare
add_entries-requires-clause-bare c =
    got_last c.args.units.now c.add.new.self c.in_ok-unit.unit c.get_mut.result.now c.in_ok-id.id.0 c.in_ok-id.ensures.ok c.in_ok-id.ensures.id c.get_mut.ensures.value
    ∙ c.in_ok-unit.ensures.ok ∙ ap (new_unit generated_encoding) c.none.ensures
