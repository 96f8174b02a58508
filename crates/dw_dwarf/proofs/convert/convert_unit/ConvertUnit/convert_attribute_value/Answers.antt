use Rattle.dw_dwarf.proofs.convert.convert_unit.ConvertUnit.convert_attribute_value.Goals as goal

pub returns-clause-ok : goal.returns-clause-ok
returns-clause-ok g c = rw (← c.unit.view_is, ← c.as_slice.ensures.value) c.convert_attribute_value.ensures.ok

pub returns-clause-err : goal.returns-clause-err
returns-clause-err g c = rw (← c.as_slice.ensures.value) c.convert_attribute_value.ensures.err
