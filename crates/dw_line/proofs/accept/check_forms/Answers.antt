use Rattle.dw_line.proofs.accept.check_forms.Goals as goal

pub returns-clause-err : goal.returns-clause-err
returns-clause-err c = tt
