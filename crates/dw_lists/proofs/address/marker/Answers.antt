use Rattle.dw_lists.proofs.address.marker.Goals as goal

pub returns-in-1-clause-err : goal.returns-in-1-clause-err
returns-in-1-clause-err c = tt

pub returns-in-2-clause-err : goal.returns-in-2-clause-err
returns-in-2-clause-err c = tt

pub returns-in-4-clause-err : goal.returns-in-4-clause-err
returns-in-4-clause-err c = tt

pub returns-in-8-clause-err : goal.returns-in-8-clause-err
returns-in-8-clause-err c = tt

pub returns-in_default-clause-ok : goal.returns-in_default-clause-ok
returns-in_default-clause-ok c = tt

pub returns-in_default-clause-width : goal.returns-in_default-clause-width
returns-in_default-clause-width c = tt
