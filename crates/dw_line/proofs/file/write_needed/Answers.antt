use Rattle.dw_base.specs.Leb128.{uleb}
use Rattle.dw_writer.proofs.Outcomes.{OnOk-map}
use Rattle.dw_line.proofs.Steps.{needed, left_out}
use Rattle.dw_line.proofs.FrontSteps.{Front-either, Front-none}
use Rattle.dw_line.proofs.file.write_needed.Goals as goal

pub returns-then-is_needed-clause-ok : goal.returns-then-is_needed-clause-ok
returns-then-is_needed-clause-ok g c = OnOk-map c.write_uleb128.result c.write_uleb128.ensures.ok (λ a. needed c.args.is_needed (uleb c.args.number) c.if-is_needed.true a)

pub returns-clause-ok : goal.returns-clause-ok
returns-clause-ok g c = left_out c.args.is_needed (uleb c.args.number) c.if-is_needed.false

pub returns-then-is_needed-clause-front : goal.returns-then-is_needed-clause-front
returns-then-is_needed-clause-front g c = Front-either _ _ c.write_uleb128.result c.write_uleb128.ensures.ok c.write_uleb128.ensures.partly

pub returns-clause-front : goal.returns-clause-front
returns-clause-front g c = Front-none _

pub returns-clause-err : goal.returns-clause-err
returns-clause-err g c = tt

pub returns-then-is_needed-clause-err : goal.returns-then-is_needed-clause-err
returns-then-is_needed-clause-err g c = c.write_uleb128.ensures.err

pub returns-then-is_needed-clause-same : goal.returns-then-is_needed-clause-same
returns-then-is_needed-clause-same g c = c.write_uleb128.ensures.same
