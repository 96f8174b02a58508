use Rattle.dw_convert.proofs.Addresses.{is_err}
use Rattle.std.proofs.Common.{◌∙◌, refl}
use Rattle.dw_convert.proofs.Onces.{insert_put}
use Rattle.dw_convert.proofs.once.put.Goals as goal

pub returns-clause-ok : goal.returns-clause-ok
returns-clause-ok c = c.in_ok-insert.ensures.entries ∙ insert_put c.args.name c.args.value c.args.named.now.entries

pub returns-in_err-insert-clause-ok : goal.returns-in_err-insert-clause-ok
returns-in_err-insert-clause-ok c = rw (is_err _ _ c.from_residual.ensures) tt

pub returns-in_err-insert-clause-err : goal.returns-in_err-insert-clause-err
returns-in_err-insert-clause-err c = rw (is_err _ _ c.from_residual.ensures) refl

pub returns-clause-err : goal.returns-clause-err
returns-clause-err c = tt
