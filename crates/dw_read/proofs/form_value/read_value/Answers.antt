use Rattle.std.proofs.lemmas.Result.{err_from_is_err_and}
use Rattle.std.proofs.Common.{subst, sym, Bool, Option}
use Rattle.dw_read.specs.Orders.{IsInOrder}
use Rattle.dw_read.proofs.FormValueLaws.{value_err, value_took}
use Rattle.dw_read.proofs.form_value.read_value.Goals as goal

pub returns-in_err-form-clause-err : goal.returns-in_err-form-clause-err
returns-in_err-form-clause-err g c =
    let p = err_from_is_err_and c.from_residual.result c.from_residual.ensures.1 in
    rw (p.1, p.2) (value_err _ _ _ _ _ c.in_err-form.ensures.err)

pub returns-clause-ok : goal.returns-clause-ok
returns-clause-ok g c = value_took _ _ _ _ _ _ _ c.raw_value.ensures.is c.in_ok-form.ensures.ok

pub returns-clause-order : goal.returns-clause-order
returns-clause-order g c = subst (λ (o : Option Bool). IsInOrder (g.R.Reader.reading c.args.input.now).is_big o) (sym c.raw_value.ensures.order) c.in_ok-form.ensures.order

pub returns-in_err-form-clause-ok : goal.returns-in_err-form-clause-ok
returns-in_err-form-clause-ok g c = rw (err_from_is_err_and c.from_residual.result c.from_residual.ensures.1).1 tt

pub returns-in_err-form-clause-order : goal.returns-in_err-form-clause-order
returns-in_err-form-clause-order g c = rw (err_from_is_err_and c.from_residual.result c.from_residual.ensures.1).1 tt

pub returns-clause-err : goal.returns-clause-err
returns-clause-err g c = tt
