use Rattle.dw_convert.proofs.Addresses.{is_err}
use Rattle.std.proofs.Common.{◌∙◌, sym, ap}
use Rattle.std.proofs.lemmas.Iterator.Adapters.{YieldsList-from_vec}
use Rattle.std.proofs.lemmas.Iterator.Consumers.{YieldsList-end}
use Rattle.std.proofs.lemmas.List.{map-id}
use Rattle.dw_convert.specs.AttributeLists.{once, put}
use Rattle.dw_convert.proofs.Onces.{once_more}
use Rattle.dw_convert.proofs.once.by_name.Goals as goal

pub values-init : goal.values-init
values-init c = c.new-named.ensures.empty

pub values-preserved : goal.values-preserved
values-preserved c =
    c.in_ok-put.ensures.ok
    ∙ ap (put c.in-Some.name c.in-Some.value) c.values.invariant
    ∙ sym (once_more c.values.yielded c.in-Some.name c.in-Some.value)

pub returns-clause-ok : goal.returns-clause-ok
returns-clause-ok c =
    let i = c.into_iter-name-iterator.ensures.into_iter_gives in
    let road = YieldsList-from_vec c.args.values.items i.0 (i.1 ∙ c.args.values.ok.0) in
    let end = YieldsList-end road c.values.yielded c.values.name-iterator c.values.yielded_by c.next.result c.next.new.self c.in-None.is c.next.ensures.steps in
    c.values.invariant ∙ ap once (sym (map-id c.values.yielded) ∙ end.0)

pub returns-in_err-put-clause-ok : goal.returns-in_err-put-clause-ok
returns-in_err-put-clause-ok c = rw (is_err _ _ c.from_residual.ensures) tt

pub returns-in_err-put-clause-err : goal.returns-in_err-put-clause-err
returns-in_err-put-clause-err c = rw (is_err _ _ c.from_residual.ensures) c.in_err-put.ensures.err

pub returns-clause-err : goal.returns-clause-err
returns-clause-err c = tt
