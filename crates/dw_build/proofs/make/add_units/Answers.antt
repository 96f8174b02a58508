use Rattle.std.proofs.Common.{◌≡◌, ◌∙◌, ap, arith, suc, ◌+◌, ◌*◌, ◌∷◌, [], ◌++◌, List}
use Rattle.dw_tree.specs.UnitValue.{UnitValue}
use Rattle.dw_build.specs.Generated.{generated_unit, generated_units, unit_variables}
use Rattle.dw_build.proofs.Refusals.{is_err}
use Rattle.dw_build.proofs.make.add_units.Goals as goal

pub loop-index-init : goal.loop-index-init
loop-index-init c = c.requires

-- one unit more, which is the one that comes next
pub loop-index-preserved : goal.loop-index-preserved
loop-index-preserved c =
    let i = c.loop-index.index in
    let next : suc i ≡ i + 1 = omega arith in
    c.in_ok-add_unit.ensures.ok
    ∙ ap (λ (units : List UnitValue). units ++ generated_unit (i * unit_variables) c.min.result ∷ []) c.loop-index.invariant
    ∙ ap (λ n. generated_units c.args.count i ++ generated_unit (i * unit_variables) n ∷ []) c.min.ensures
    ∙ ap (generated_units c.args.count) next

pub returns-in_err-add_unit-clause-ok : goal.returns-in_err-add_unit-clause-ok
returns-in_err-add_unit-clause-ok c = rw (is_err _ _ c.from_residual.ensures) tt

pub returns-in_err-add_unit-clause-err : goal.returns-in_err-add_unit-clause-err
returns-in_err-add_unit-clause-err c = rw (is_err _ _ c.from_residual.ensures) c.in_err-add_unit.ensures.err
