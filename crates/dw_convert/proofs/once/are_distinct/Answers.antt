use Rattle.std.proofs.Common.{◌≡◌, ◌∙◌, sym, ap, refl, List, take, subst}
use Rattle.std.proofs.lemmas.List.{take_all}
use Rattle.std.specs.Prelude.{position}
use Rattle.dw_convert.specs.AttributeLists.{once, has_name}
use Rattle.dw_convert.proofs.Onces.{Named, once_so_far, is_none}
use Rattle.dw_convert.proofs.once.are_distinct.Goals as goal

pub loop-i-init : goal.loop-i-init
loop-i-init c = refl

pub loop-i-preserved : goal.loop-i-preserved
loop-i-preserved c =
    let none = is_none c.position_of.result (sym c.is_some.ensures ∙ c.if-is_some.false) in
    once_so_far c.args.values.now c.loop-i.i c.index-values-i.result c.loop-i-test.true c.index-values-i.is (sym none ∙ c.position_of.ensures ∙ ap (λ (y : Named). position (has_name y.0.0) (take c.loop-i.i c.args.values.now)) (sym c.index-values-i.is)) c.loop-i.invariant

pub returns : goal.returns
returns c e =
    let all = take_all c.loop-i.i c.args.values.now c.loop-i-test.false in
    subst (λ (xs : List Named). once xs ≡ xs) all c.loop-i.invariant
