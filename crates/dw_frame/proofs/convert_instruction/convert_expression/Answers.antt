use Rattle.dw_frame.proofs.convert_instruction.convert_expression.Goals as goal

pub returns-clause-ok : goal.returns-clause-ok
returns-clause-ok g c = rw c.no_unit-unit.ensures at c.expression.ensures.ok

pub returns-clause-err : goal.returns-clause-err
returns-clause-err g c = rw c.no_unit-unit.ensures at c.expression.ensures.err
