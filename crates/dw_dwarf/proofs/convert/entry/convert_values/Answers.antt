use Rattle.dw_dwarf.proofs.convert.entry.convert_values.Goals as goal

pub returns-clause-ok : goal.returns-clause-ok
returns-clause-ok g c = rw (← c.unit.view_is, ← c.deref.ensures.value) c.convert_attributes.ensures.ok

pub returns-clause-err : goal.returns-clause-err
returns-clause-err g c = rw (← c.unit.view_is, ← c.deref.ensures.value) c.convert_attributes.ensures.err
