use Rattle.dw_convert.proofs.Addresses.{is_err}
use Rattle.std.proofs.Common.{◌∙◌, sym, ap, List, ◌++◌, refl}
use Rattle.dw_convert.proofs.Onces.{Named, first_taken, none_left}
use Rattle.dw_convert.proofs.once.listed.Goals as goal

pub named-init : goal.named-init
named-init c =
    ap (λ (xs : List Named). xs ++ c.into_iter-value-iterator.result) c.new-values.ensures.items ∙ c.into_iter-value-iterator.ensures.into_iter_gives.0

pub named-preserved : goal.named-preserved
named-preserved c =
    first_taken c.named.value-iterator c.next.new.self c.named.values.items c.push.new.self.items c.in-Some.value c.next.result (sym c.in-Some.is) c.next.ensures.steps c.in_ok-push.ensures.items ∙ c.named.invariant

pub returns-clause-ok : goal.returns-clause-ok
returns-clause-ok c =
    none_left c.named.value-iterator c.next.new.self c.named.values.items c.next.result (sym c.in-None.is) c.next.ensures.steps ∙ c.named.invariant

pub returns-in_err-push-clause-ok : goal.returns-in_err-push-clause-ok
returns-in_err-push-clause-ok c = rw (is_err _ _ c.from_residual.ensures) tt

pub returns-in_err-push-clause-err : goal.returns-in_err-push-clause-err
returns-in_err-push-clause-err c = rw (is_err _ _ c.from_residual.ensures) refl

pub returns-clause-err : goal.returns-clause-err
returns-clause-err c = tt
