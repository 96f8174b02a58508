use Rattle.std.proofs.Common.{◌≡◌, ◌+◌, suc, arith}
use Rattle.dw_writer.proofs.Outcomes.{OnOk-map}
use Rattle.dw_writer.proofs.Steps.{IsSameWriter-trans, Adds-then}
use Rattle.dw_line.proofs.Steps.{Adds-byte}
use Rattle.dw_line.proofs.SequenceSteps.{set_none, set_some}
use Rattle.dw_line.proofs.FrontSteps.{Adds-front, AddsSome-front, AddsSomeWith-front, Front-none, Front-then}
use Rattle.std.proofs.lemmas.Result.{err_from_is_err_and}
use Rattle.dw_line.proofs.sequence.write_set_address.Goals as goal

pub returns-in_ok-write_u8-in-Some-2-clause-ok : goal.returns-in_ok-write_u8-in-Some-2-clause-ok
returns-in_ok-write_u8-in-Some-2-clause-ok g c =
    let one : 1 + c.args.size ≡ suc c.args.size = omega arith in
    let zero = Adds-byte 0 (omega arith) c.in_ok-write_u8-in-Some.ensures.ok in
    let size = rw one at c.in_ok-write_uleb128-in-Some.ensures.ok in
    let code = Adds-byte 2 (omega arith) c.in_ok-write_u8-in-Some-2.ensures.ok in
    rw c.in-Some.is (OnOk-map c.write_address.result c.write_address.ensures.ok (λ q. set_some c.args.size c.in-Some.address (Adds-then zero (Adds-then size code)) q))

pub returns-in-None-clause-ok : goal.returns-in-None-clause-ok
returns-in-None-clause-ok g c = rw c.in-None.is (set_none _ c.args.size)

pub returns-in_err-write_u8-in-Some-clause-front : goal.returns-in_err-write_u8-in-Some-clause-front
returns-in_err-write_u8-in-Some-clause-front g c = AddsSome-front c.in_err-write_u8-in-Some.ensures.partly

pub returns-in_err-write_uleb128-in-Some-clause-front : goal.returns-in_err-write_uleb128-in-Some-clause-front
returns-in_err-write_uleb128-in-Some-clause-front g c = Front-then (Adds-front c.in_ok-write_u8-in-Some.ensures.ok) (AddsSome-front c.in_err-write_uleb128-in-Some.ensures.partly)

pub returns-in_err-write_u8-in-Some-2-clause-front : goal.returns-in_err-write_u8-in-Some-2-clause-front
returns-in_err-write_u8-in-Some-2-clause-front g c = Front-then (Adds-front c.in_ok-write_u8-in-Some.ensures.ok)
    (Front-then (Adds-front c.in_ok-write_uleb128-in-Some.ensures.ok)
    (AddsSome-front c.in_err-write_u8-in-Some-2.ensures.partly))

pub returns-in_ok-write_u8-in-Some-2-clause-front : goal.returns-in_ok-write_u8-in-Some-2-clause-front
returns-in_ok-write_u8-in-Some-2-clause-front g c = Front-then (Adds-front c.in_ok-write_u8-in-Some.ensures.ok)
    (Front-then (Adds-front c.in_ok-write_uleb128-in-Some.ensures.ok)
    (Front-then (Adds-front c.in_ok-write_u8-in-Some-2.ensures.ok) (AddsSomeWith-front c.write_address.ensures.partly)))

pub returns-in-None-clause-front : goal.returns-in-None-clause-front
returns-in-None-clause-front g c = Front-none _

pub returns-in_err-write_u8-in-Some-clause-same : goal.returns-in_err-write_u8-in-Some-clause-same
returns-in_err-write_u8-in-Some-clause-same g c = c.in_err-write_u8-in-Some.ensures.same

pub returns-in_err-write_uleb128-in-Some-clause-same : goal.returns-in_err-write_uleb128-in-Some-clause-same
returns-in_err-write_uleb128-in-Some-clause-same g c = IsSameWriter-trans c.in_ok-write_u8-in-Some.ensures.same c.in_err-write_uleb128-in-Some.ensures.same

pub returns-in_err-write_u8-in-Some-2-clause-same : goal.returns-in_err-write_u8-in-Some-2-clause-same
returns-in_err-write_u8-in-Some-2-clause-same g c = IsSameWriter-trans c.in_ok-write_u8-in-Some.ensures.same (IsSameWriter-trans c.in_ok-write_uleb128-in-Some.ensures.same c.in_err-write_u8-in-Some-2.ensures.same)

pub returns-in_ok-write_u8-in-Some-2-clause-same : goal.returns-in_ok-write_u8-in-Some-2-clause-same
returns-in_ok-write_u8-in-Some-2-clause-same g c = IsSameWriter-trans c.in_ok-write_u8-in-Some.ensures.same (IsSameWriter-trans c.in_ok-write_uleb128-in-Some.ensures.same (IsSameWriter-trans c.in_ok-write_u8-in-Some-2.ensures.same c.write_address.ensures.same))

pub returns-in_err-write_u8-in-Some-clause-ok : goal.returns-in_err-write_u8-in-Some-clause-ok
returns-in_err-write_u8-in-Some-clause-ok g c = rw (err_from_is_err_and c.from_residual.result c.from_residual.ensures.1).1 tt

pub returns-in_err-write_u8-in-Some-clause-sound : goal.returns-in_err-write_u8-in-Some-clause-sound
returns-in_err-write_u8-in-Some-clause-sound g c = rw (err_from_is_err_and c.from_residual.result c.from_residual.ensures.1).1 tt

pub returns-in_err-write_uleb128-in-Some-clause-ok : goal.returns-in_err-write_uleb128-in-Some-clause-ok
returns-in_err-write_uleb128-in-Some-clause-ok g c = rw (err_from_is_err_and c.from_residual-in_err-write_uleb128-in-Some.result c.from_residual-in_err-write_uleb128-in-Some.ensures.1).1 tt

pub returns-in_err-write_uleb128-in-Some-clause-sound : goal.returns-in_err-write_uleb128-in-Some-clause-sound
returns-in_err-write_uleb128-in-Some-clause-sound g c = rw (err_from_is_err_and c.from_residual-in_err-write_uleb128-in-Some.result c.from_residual-in_err-write_uleb128-in-Some.ensures.1).1 tt

pub returns-in_err-write_u8-in-Some-2-clause-ok : goal.returns-in_err-write_u8-in-Some-2-clause-ok
returns-in_err-write_u8-in-Some-2-clause-ok g c = rw (err_from_is_err_and c.from_residual-in_err-write_u8-in-Some-2.result c.from_residual-in_err-write_u8-in-Some-2.ensures.1).1 tt

pub returns-in_err-write_u8-in-Some-2-clause-sound : goal.returns-in_err-write_u8-in-Some-2-clause-sound
returns-in_err-write_u8-in-Some-2-clause-sound g c = rw (err_from_is_err_and c.from_residual-in_err-write_u8-in-Some-2.result c.from_residual-in_err-write_u8-in-Some-2.ensures.1).1 tt

pub returns-in-None-clause-err : goal.returns-in-None-clause-err
returns-in-None-clause-err g c = tt
