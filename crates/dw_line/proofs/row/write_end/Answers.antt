use Rattle.std.proofs.Common.{arith}
use Rattle.dw_writer.proofs.Outcomes.{OnOk-map, IfErr-map}
use Rattle.dw_writer.proofs.Steps.{IsSameWriter-trans, Adds-then}
use Rattle.dw_line.proofs.Steps.{Adds-byte}
use Rattle.dw_line.proofs.FrontSteps.{Adds-front, AddsSome-front, Front-either, Front-then}
use Rattle.std.proofs.lemmas.Result.{err_from_is_err_and}
use Rattle.dw_line.proofs.RefusalSteps.{BytesRefused-after}
use Rattle.dw_line.proofs.row.write_end.Goals as goal

pub returns-clause-ok : goal.returns-clause-ok
returns-clause-ok g c =
    let zero = Adds-byte 0 (omega arith) c.in_ok-write_u8.ensures.ok in
    OnOk-map c.write_u8-2.result c.write_u8-2.ensures.ok
    (λ a. Adds-then c.in_ok-write_number.ensures.ok (Adds-then zero (Adds-then c.in_ok-write_uleb128.ensures.ok (Adds-byte 1 (omega arith) a))))

pub returns-in_err-write_number-clause-front : goal.returns-in_err-write_number-clause-front
returns-in_err-write_number-clause-front g c = c.in_err-write_number.ensures.front

pub returns-in_err-write_u8-clause-front : goal.returns-in_err-write_u8-clause-front
returns-in_err-write_u8-clause-front g c = Front-then c.in_ok-write_number.ensures.front (AddsSome-front c.in_err-write_u8.ensures.partly)

pub returns-in_err-write_uleb128-clause-front : goal.returns-in_err-write_uleb128-clause-front
returns-in_err-write_uleb128-clause-front g c = Front-then c.in_ok-write_number.ensures.front
    (Front-then (Adds-front c.in_ok-write_u8.ensures.ok) (AddsSome-front c.in_err-write_uleb128.ensures.partly))

pub returns-clause-front : goal.returns-clause-front
returns-clause-front g c = Front-then c.in_ok-write_number.ensures.front
    (Front-then (Adds-front c.in_ok-write_u8.ensures.ok)
    (Front-then (Adds-front c.in_ok-write_uleb128.ensures.ok)
    (Front-either _ _ c.write_u8-2.result c.write_u8-2.ensures.ok c.write_u8-2.ensures.partly)))

pub returns-in_err-write_number-clause-same : goal.returns-in_err-write_number-clause-same
returns-in_err-write_number-clause-same g c = c.in_err-write_number.ensures.same

pub returns-in_err-write_u8-clause-same : goal.returns-in_err-write_u8-clause-same
returns-in_err-write_u8-clause-same g c = IsSameWriter-trans c.in_ok-write_number.ensures.same c.in_err-write_u8.ensures.same

pub returns-in_err-write_uleb128-clause-same : goal.returns-in_err-write_uleb128-clause-same
returns-in_err-write_uleb128-clause-same g c = IsSameWriter-trans c.in_ok-write_number.ensures.same (IsSameWriter-trans c.in_ok-write_u8.ensures.same c.in_err-write_uleb128.ensures.same)

pub returns-clause-same : goal.returns-clause-same
returns-clause-same g c = IsSameWriter-trans c.in_ok-write_number.ensures.same (IsSameWriter-trans c.in_ok-write_u8.ensures.same (IsSameWriter-trans c.in_ok-write_uleb128.ensures.same c.write_u8-2.ensures.same))

pub returns-in_err-write_number-clause-ok : goal.returns-in_err-write_number-clause-ok
returns-in_err-write_number-clause-ok g c = rw (err_from_is_err_and c.from_residual.result c.from_residual.ensures.1).1 tt

pub returns-in_err-write_u8-clause-ok : goal.returns-in_err-write_u8-clause-ok
returns-in_err-write_u8-clause-ok g c = rw (err_from_is_err_and c.from_residual-in_err-write_u8.result c.from_residual-in_err-write_u8.ensures.1).1 tt

pub returns-in_err-write_uleb128-clause-ok : goal.returns-in_err-write_uleb128-clause-ok
returns-in_err-write_uleb128-clause-ok g c = rw (err_from_is_err_and c.from_residual-in_err-write_uleb128.result c.from_residual-in_err-write_uleb128.ensures.1).1 tt

pub returns-in_err-write_number-clause-err : goal.returns-in_err-write_number-clause-err
returns-in_err-write_number-clause-err g c =
    let p = err_from_is_err_and c.from_residual.result c.from_residual.ensures.1 in
    rw (p.1, p.2) c.in_err-write_number.ensures.err

pub returns-in_err-write_u8-clause-err : goal.returns-in_err-write_u8-clause-err
returns-in_err-write_u8-clause-err g c =
    let p = err_from_is_err_and c.from_residual-in_err-write_u8.result c.from_residual-in_err-write_u8.ensures.1 in
    rw (p.1, p.2) (BytesRefused-after (g.W.Writer.meaning c.write_u8.new.self) c.in_ok-write_number.ensures.same c.in_err-write_u8.field-0.0 c.in_err-write_u8.ensures.err)

pub returns-in_err-write_uleb128-clause-err : goal.returns-in_err-write_uleb128-clause-err
returns-in_err-write_uleb128-clause-err g c =
    let p = err_from_is_err_and c.from_residual-in_err-write_uleb128.result c.from_residual-in_err-write_uleb128.ensures.1 in
    rw (p.1, p.2) (BytesRefused-after (g.W.Writer.meaning c.write_uleb128.new.self) (IsSameWriter-trans c.in_ok-write_number.ensures.same c.in_ok-write_u8.ensures.same) c.in_err-write_uleb128.field-0.0 c.in_err-write_uleb128.ensures.err)

pub returns-clause-err : goal.returns-clause-err
returns-clause-err g c = IfErr-map c.write_u8-2.result c.write_u8-2.ensures.err (BytesRefused-after (g.W.Writer.meaning c.write_u8-2.new.self) (IsSameWriter-trans c.in_ok-write_number.ensures.same (IsSameWriter-trans c.in_ok-write_u8.ensures.same c.in_ok-write_uleb128.ensures.same)))
