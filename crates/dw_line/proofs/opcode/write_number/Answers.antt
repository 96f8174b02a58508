use Rattle.std.proofs.Common.{◌∷◌, arith}
use Rattle.dw_base.specs.Leb128.{uleb}
use Rattle.dw_writer.proofs.Outcomes.{OnOk-map, IfErr-map}
use Rattle.dw_writer.proofs.Steps.{Adds-then, IsSameWriter-trans}
use Rattle.dw_line.proofs.Steps.{Adds-byte, needed, left_out}
use Rattle.dw_line.proofs.FrontSteps.{Adds-front, AddsSome-front, Front-either, Front-none, Front-then}
use Rattle.std.proofs.lemmas.Result.{err_from_is_err_and}
use Rattle.dw_line.proofs.RefusalSteps.{BytesRefused-after}
use Rattle.dw_line.proofs.opcode.write_number.Goals as goal

pub returns-then-is_needed-clause-ok : goal.returns-then-is_needed-clause-ok
returns-then-is_needed-clause-ok g c =
    let opcode = Adds-byte c.args.opcode (omega (arith, c.ranges.opcode.fits)) c.in_ok-write_u8.ensures.ok in
    OnOk-map c.write_uleb128.result c.write_uleb128.ensures.ok (λ a. needed c.args.is_needed (c.args.opcode ∷ uleb c.args.number) c.if-is_needed.true (Adds-then opcode a))

pub returns-clause-ok : goal.returns-clause-ok
returns-clause-ok g c = left_out c.args.is_needed (c.args.opcode ∷ uleb c.args.number) c.if-is_needed.false

pub returns-in_err-write_u8-clause-front : goal.returns-in_err-write_u8-clause-front
returns-in_err-write_u8-clause-front g c = AddsSome-front c.in_err-write_u8.ensures.partly

pub returns-then-is_needed-clause-front : goal.returns-then-is_needed-clause-front
returns-then-is_needed-clause-front g c = Front-then (Adds-front c.in_ok-write_u8.ensures.ok)
    (Front-either _ _ c.write_uleb128.result c.write_uleb128.ensures.ok c.write_uleb128.ensures.partly)

pub returns-clause-front : goal.returns-clause-front
returns-clause-front g c = Front-none _

pub returns-in_err-write_u8-clause-ok : goal.returns-in_err-write_u8-clause-ok
returns-in_err-write_u8-clause-ok g c = rw (err_from_is_err_and c.from_residual.result c.from_residual.ensures.1).1 tt

pub returns-clause-err : goal.returns-clause-err
returns-clause-err g c = tt

pub returns-in_err-write_u8-clause-err : goal.returns-in_err-write_u8-clause-err
returns-in_err-write_u8-clause-err g c =
    let p = err_from_is_err_and c.from_residual.result c.from_residual.ensures.1 in
    rw (p.1, p.2) c.in_err-write_u8.ensures.err

pub returns-in_err-write_u8-clause-same : goal.returns-in_err-write_u8-clause-same
returns-in_err-write_u8-clause-same g c = c.in_err-write_u8.ensures.same

pub returns-then-is_needed-clause-err : goal.returns-then-is_needed-clause-err
returns-then-is_needed-clause-err g c = IfErr-map c.write_uleb128.result c.write_uleb128.ensures.err (BytesRefused-after (g.W.Writer.meaning c.write_uleb128.new.self) c.in_ok-write_u8.ensures.same)

pub returns-then-is_needed-clause-same : goal.returns-then-is_needed-clause-same
returns-then-is_needed-clause-same g c = IsSameWriter-trans c.in_ok-write_u8.ensures.same c.write_uleb128.ensures.same
