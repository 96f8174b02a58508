use Rattle.std.proofs.Common.{◌∙◌, sym, ap}
use Rattle.std.specs.Prelude.{position}
use Rattle.dw_writer.proofs.Outcomes.{OnErr-always}
use Rattle.dw_entries.specs.Attributes.{is_named}
use Rattle.dw_entries.proofs.Named.{none_named, set_named-found, set_named-missing}
use Rattle.std.proofs.lemmas.Result.{err_from_is_err_and}
use Rattle.dw_entries.proofs.attributes.set_in.Goals as goal

pub returns-in-Some-clause-ok : goal.returns-in-Some-clause-ok
returns-in-Some-clause-ok c =
    set_named-found c.args.name.0 c.in-Some.i c.args.value c.args.attributes.now.items (c.in-Some.ensures ∙ ap (position (is_named c.args.name.0)) c.deref.ensures.value)

pub returns-in_ok-push-in-None-clause-ok : goal.returns-in_ok-push-in-None-clause-ok
returns-in_ok-push-in-None-clause-ok c =
    c.in_ok-push-in-None.ensures.items ∙ set_named-missing c.args.name.0 c.args.value c.args.attributes.now.items (c.in-None.ensures ∙ ap (position (is_named c.args.name.0)) c.deref.ensures.value)

pub returns-in_err-push-in-None-clause-in_place : goal.returns-in_err-push-in-None-clause-in_place
returns-in_err-push-in-None-clause-in_place c =
    OnErr-always c.from_residual.result (sym (none_named c.args.name.0 c.args.attributes.now.items (c.in-None.ensures ∙ ap (position (is_named c.args.name.0)) c.deref.ensures.value)))

pub returns-in_err-push-in-None-clause-ok : goal.returns-in_err-push-in-None-clause-ok
returns-in_err-push-in-None-clause-ok c = rw (err_from_is_err_and c.from_residual.result c.from_residual.ensures.1).1 tt

pub returns-in-Some-clause-err : goal.returns-in-Some-clause-err
returns-in-Some-clause-err c = tt

pub returns-in-Some-clause-kept : goal.returns-in-Some-clause-kept
returns-in-Some-clause-kept c = tt

pub returns-in-Some-clause-in_place : goal.returns-in-Some-clause-in_place
returns-in-Some-clause-in_place c = tt

pub returns-in_ok-push-in-None-clause-err : goal.returns-in_ok-push-in-None-clause-err
returns-in_ok-push-in-None-clause-err c = tt

pub returns-in_ok-push-in-None-clause-kept : goal.returns-in_ok-push-in-None-clause-kept
returns-in_ok-push-in-None-clause-kept c = tt

pub returns-in_ok-push-in-None-clause-in_place : goal.returns-in_ok-push-in-None-clause-in_place
returns-in_ok-push-in-None-clause-in_place c = tt
