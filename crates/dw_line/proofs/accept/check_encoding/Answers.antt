use Rattle.dw_line.proofs.accept.check_encoding.Goals as goal

pub returns-clause-err : goal.returns-clause-err
returns-clause-err c = tt
