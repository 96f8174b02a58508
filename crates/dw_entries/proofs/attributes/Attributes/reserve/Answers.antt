use Rattle.dw_entries.proofs.attributes.Attributes.reserve.Goals as goal

pub returns-clause-err : goal.returns-clause-err
returns-clause-err c = tt
