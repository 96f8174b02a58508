use Rattle.std.proofs.Common.{◌∙◌, sym, ap, subst}
use Rattle.dw_entries.specs.Attributes.{get_named, set_named, HaveDistinctNames}
use Rattle.dw_entries.proofs.Named.{set_named-absent, HaveDistinctNames-set_named}
use Rattle.std.proofs.lemmas.Result.{err_from_is_err_and}
use Rattle.dw_entries.proofs.attributes.Attributes.push.Goals as goal

pub invariant_of-self-2 : goal.invariant_of-self-2
invariant_of-self-2 c =
    let n = c.args.name.0 in
    let v = c.args.value in
    let xs = c.self.inside.items.items in
    let absent = ap (get_named n) c.self.view_is ∙ c.requires.absent in
    subst HaveDistinctNames (set_named-absent n v xs absent ∙ sym c.in_ok-push.ensures.items) (HaveDistinctNames-set_named n v xs c.requires.own c.self.invariant)

pub returns-clause-ok : goal.returns-clause-ok
returns-clause-ok c =
    let n = c.args.name.0 in
    let v = c.args.value in
    let absent = ap (get_named n) c.self.view_is ∙ c.requires.absent in
    c.in_ok-push.ensures.items ∙ sym (set_named-absent n v c.self.inside.items.items absent) ∙ ap (set_named n v) c.self.view_is

pub returns-in_err-push-clause-ok : goal.returns-in_err-push-clause-ok
returns-in_err-push-clause-ok c = rw (err_from_is_err_and c.from_residual.result c.from_residual.ensures.1).1 tt

pub returns-clause-err : goal.returns-clause-err
returns-clause-err c = tt

pub returns-clause-kept : goal.returns-clause-kept
returns-clause-kept c = tt
