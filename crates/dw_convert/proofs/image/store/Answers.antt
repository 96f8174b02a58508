use Rattle.dw_convert.proofs.image.store.Goals as goal

pub returns-in-Value-clause-err : goal.returns-in-Value-clause-err
returns-in-Value-clause-err g c = tt

pub returns-in-Value-clause-kept : goal.returns-in-Value-clause-kept
returns-in-Value-clause-kept g c = tt

pub returns-in-Ok-clause-err : goal.returns-in-Ok-clause-err
returns-in-Ok-clause-err g c = tt

pub returns-in-Ok-clause-kept : goal.returns-in-Ok-clause-kept
returns-in-Ok-clause-kept g c = tt

pub returns-in-Ok-add-clause-err : goal.returns-in-Ok-add-clause-err
returns-in-Ok-add-clause-err g c = tt

pub returns-in-Ok-add-clause-kept : goal.returns-in-Ok-add-clause-kept
returns-in-Ok-add-clause-kept g c = tt

pub returns-in-Ok-add-2-clause-err : goal.returns-in-Ok-add-2-clause-err
returns-in-Ok-add-2-clause-err g c = tt

pub returns-in-Ok-add-2-clause-kept : goal.returns-in-Ok-add-2-clause-kept
returns-in-Ok-add-2-clause-kept g c = tt

pub returns-in-Ok-add-3-clause-err : goal.returns-in-Ok-add-3-clause-err
returns-in-Ok-add-3-clause-err g c = tt

pub returns-in-Ok-add-3-clause-kept : goal.returns-in-Ok-add-3-clause-kept
returns-in-Ok-add-3-clause-kept g c = tt

pub returns-in-String-clause-ok : goal.returns-in-String-clause-ok
returns-in-String-clause-ok g c = tt

pub returns-in-String-clause-named : goal.returns-in-String-clause-named
returns-in-String-clause-named g c = tt

pub returns-in-LineString-clause-ok : goal.returns-in-LineString-clause-ok
returns-in-LineString-clause-ok g c = tt

pub returns-in-LineString-clause-named : goal.returns-in-LineString-clause-named
returns-in-LineString-clause-named g c = tt

pub returns-in-Ranges-clause-ok : goal.returns-in-Ranges-clause-ok
returns-in-Ranges-clause-ok g c = tt

pub returns-in-Ranges-clause-named : goal.returns-in-Ranges-clause-named
returns-in-Ranges-clause-named g c = tt

pub returns-clause-ok : goal.returns-clause-ok
returns-clause-ok g c = tt

pub returns-clause-named : goal.returns-clause-named
returns-clause-named g c = tt
