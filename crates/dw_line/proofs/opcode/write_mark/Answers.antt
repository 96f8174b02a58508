use Rattle.std.proofs.Common.{[], ◌∷◌, arith}
use Rattle.dw_writer.proofs.Outcomes.{OnOk-map}
use Rattle.dw_line.proofs.Steps.{Adds-byte, needed, left_out}
use Rattle.dw_line.proofs.FrontSteps.{Front-either, Front-none}
use Rattle.dw_line.proofs.opcode.write_mark.Goals as goal

pub returns-then-is_needed-clause-ok : goal.returns-then-is_needed-clause-ok
returns-then-is_needed-clause-ok g c =
    OnOk-map c.write_u8.result c.write_u8.ensures.ok (λ a. needed c.args.is_needed (c.args.opcode ∷ []) c.if-is_needed.true (Adds-byte c.args.opcode (omega (arith, c.ranges.opcode.fits)) a))

pub returns-clause-ok : goal.returns-clause-ok
returns-clause-ok g c = left_out c.args.is_needed (c.args.opcode ∷ []) c.if-is_needed.false

pub returns-then-is_needed-clause-front : goal.returns-then-is_needed-clause-front
returns-then-is_needed-clause-front g c = Front-either _ _ c.write_u8.result c.write_u8.ensures.ok c.write_u8.ensures.partly

pub returns-clause-front : goal.returns-clause-front
returns-clause-front g c = Front-none _

pub returns-clause-err : goal.returns-clause-err
returns-clause-err g c = tt

pub returns-then-is_needed-clause-err : goal.returns-then-is_needed-clause-err
returns-then-is_needed-clause-err g c = c.write_u8.ensures.err

pub returns-then-is_needed-clause-same : goal.returns-then-is_needed-clause-same
returns-then-is_needed-clause-same g c = c.write_u8.ensures.same
