use Rattle.dw_dwarf.proofs.convert.convert_unit.ConvertUnit.convert_expression.Goals as goal

pub returns-clause-ok : goal.returns-clause-ok
returns-clause-ok g c = rw c.encoding-encoding.ensures at c.expression.ensures.ok

pub returns-clause-err : goal.returns-clause-err
returns-clause-err g c = rw c.encoding-encoding.ensures at c.expression.ensures.err
