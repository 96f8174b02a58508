use Rattle.std.proofs.Common.{◌≡◌, suc, ◌+◌, ◌∷◌, length, not, ◌==◌, arith}
use Rattle.dw_base.specs.Leb128.{uleb}
use Rattle.dw_base.proofs.Leb128Laws.{uleb_short}
use Rattle.dw_writer.proofs.Outcomes.{OnOk-map, IfErr-map}
use Rattle.dw_writer.proofs.Steps.{IsSameWriter-trans, Adds-then}
use Rattle.dw_base.specs.Instructions.{extended_bytes}
use Rattle.dw_line.proofs.Steps.{Adds-byte, needed, left_out, other, equal}
use Rattle.dw_line.proofs.FrontSteps.{Adds-front, AddsSome-front, Front-either, Front-none, Front-then}
use Rattle.std.proofs.lemmas.Result.{err_from_is_err_and}
use Rattle.dw_line.proofs.RefusalSteps.{BytesRefused-after}
use Rattle.dw_line.proofs.opcode.write_discriminator.Goals as goal

pub overflow_add-uleb128_size : goal.overflow_add-uleb128_size
overflow_add-uleb128_size g c = omega (arith, c.uleb128_size.ensures.size, uleb_short c.args.discriminator)

pub returns-then-discriminator-ne0-clause-ok : goal.returns-then-discriminator-ne0-clause-ok
returns-then-discriminator-ne0-clause-ok g c =
    let zero = Adds-byte 0 (omega arith) c.in_ok-write_u8.ensures.ok in
    let one : 1 + length (uleb c.args.discriminator) ≡ suc (length (uleb c.args.discriminator)) = omega arith in
    let size = rw (c.uleb128_size.ensures.size, one) at c.in_ok-write_uleb128.ensures.ok in
    let code = Adds-byte 4 (omega arith) c.in_ok-write_u8-2.ensures.ok in
    OnOk-map c.write_uleb128-then-discriminator-ne0.result c.write_uleb128-then-discriminator-ne0.ensures.ok
    (λ a. needed _ (0 ∷ extended_bytes 4 (uleb c.args.discriminator)) (other c.args.discriminator 0 c.if-discriminator-ne0.true) (Adds-then zero (Adds-then size (Adds-then code a))))

pub returns-clause-ok : goal.returns-clause-ok
returns-clause-ok g c = left_out (not (c.args.discriminator == 0)) (0 ∷ extended_bytes 4 (uleb c.args.discriminator)) (equal c.args.discriminator 0 c.if-discriminator-ne0.false)

pub returns-in_err-write_u8-clause-front : goal.returns-in_err-write_u8-clause-front
returns-in_err-write_u8-clause-front g c = AddsSome-front c.in_err-write_u8.ensures.partly

pub returns-in_err-write_uleb128-clause-front : goal.returns-in_err-write_uleb128-clause-front
returns-in_err-write_uleb128-clause-front g c = Front-then (Adds-front c.in_ok-write_u8.ensures.ok) (AddsSome-front c.in_err-write_uleb128.ensures.partly)

pub returns-in_err-write_u8-2-clause-front : goal.returns-in_err-write_u8-2-clause-front
returns-in_err-write_u8-2-clause-front g c = Front-then (Adds-front c.in_ok-write_u8.ensures.ok)
    (Front-then (Adds-front c.in_ok-write_uleb128.ensures.ok) (AddsSome-front c.in_err-write_u8-2.ensures.partly))

pub returns-then-discriminator-ne0-clause-front : goal.returns-then-discriminator-ne0-clause-front
returns-then-discriminator-ne0-clause-front g c = Front-then (Adds-front c.in_ok-write_u8.ensures.ok)
    (Front-then (Adds-front c.in_ok-write_uleb128.ensures.ok)
    (Front-then (Adds-front c.in_ok-write_u8-2.ensures.ok)
    (Front-either _ _ c.write_uleb128-then-discriminator-ne0.result c.write_uleb128-then-discriminator-ne0.ensures.ok c.write_uleb128-then-discriminator-ne0.ensures.partly)))

pub returns-clause-front : goal.returns-clause-front
returns-clause-front g c = Front-none _

pub returns-in_err-write_u8-clause-same : goal.returns-in_err-write_u8-clause-same
returns-in_err-write_u8-clause-same g c = c.in_err-write_u8.ensures.same

pub returns-in_err-write_uleb128-clause-same : goal.returns-in_err-write_uleb128-clause-same
returns-in_err-write_uleb128-clause-same g c = IsSameWriter-trans c.in_ok-write_u8.ensures.same c.in_err-write_uleb128.ensures.same

pub returns-in_err-write_u8-2-clause-same : goal.returns-in_err-write_u8-2-clause-same
returns-in_err-write_u8-2-clause-same g c = IsSameWriter-trans c.in_ok-write_u8.ensures.same (IsSameWriter-trans c.in_ok-write_uleb128.ensures.same c.in_err-write_u8-2.ensures.same)

pub returns-then-discriminator-ne0-clause-same : goal.returns-then-discriminator-ne0-clause-same
returns-then-discriminator-ne0-clause-same g c = IsSameWriter-trans c.in_ok-write_u8.ensures.same (IsSameWriter-trans c.in_ok-write_uleb128.ensures.same (IsSameWriter-trans c.in_ok-write_u8-2.ensures.same c.write_uleb128-then-discriminator-ne0.ensures.same))

pub returns-in_err-write_u8-clause-ok : goal.returns-in_err-write_u8-clause-ok
returns-in_err-write_u8-clause-ok g c = rw (err_from_is_err_and c.from_residual.result c.from_residual.ensures.1).1 tt

pub returns-in_err-write_uleb128-clause-ok : goal.returns-in_err-write_uleb128-clause-ok
returns-in_err-write_uleb128-clause-ok g c = rw (err_from_is_err_and c.from_residual-in_err-write_uleb128.result c.from_residual-in_err-write_uleb128.ensures.1).1 tt

pub returns-in_err-write_u8-2-clause-ok : goal.returns-in_err-write_u8-2-clause-ok
returns-in_err-write_u8-2-clause-ok g c = rw (err_from_is_err_and c.from_residual-in_err-write_u8-2.result c.from_residual-in_err-write_u8-2.ensures.1).1 tt

pub returns-clause-err : goal.returns-clause-err
returns-clause-err g c = tt

pub returns-in_err-write_u8-clause-err : goal.returns-in_err-write_u8-clause-err
returns-in_err-write_u8-clause-err g c =
    let p = err_from_is_err_and c.from_residual.result c.from_residual.ensures.1 in
    rw (p.1, p.2) c.in_err-write_u8.ensures.err

pub returns-in_err-write_uleb128-clause-err : goal.returns-in_err-write_uleb128-clause-err
returns-in_err-write_uleb128-clause-err g c =
    let p = err_from_is_err_and c.from_residual-in_err-write_uleb128.result c.from_residual-in_err-write_uleb128.ensures.1 in
    rw (p.1, p.2) (BytesRefused-after (g.W.Writer.meaning c.write_uleb128.new.self) c.in_ok-write_u8.ensures.same c.in_err-write_uleb128.field-0.0 c.in_err-write_uleb128.ensures.err)

pub returns-in_err-write_u8-2-clause-err : goal.returns-in_err-write_u8-2-clause-err
returns-in_err-write_u8-2-clause-err g c =
    let p = err_from_is_err_and c.from_residual-in_err-write_u8-2.result c.from_residual-in_err-write_u8-2.ensures.1 in
    rw (p.1, p.2) (BytesRefused-after (g.W.Writer.meaning c.write_u8-then-discriminator-ne0.new.self) (IsSameWriter-trans c.in_ok-write_u8.ensures.same c.in_ok-write_uleb128.ensures.same) c.in_err-write_u8-2.field-0.0 c.in_err-write_u8-2.ensures.err)

pub returns-then-discriminator-ne0-clause-err : goal.returns-then-discriminator-ne0-clause-err
returns-then-discriminator-ne0-clause-err g c = IfErr-map c.write_uleb128-then-discriminator-ne0.result c.write_uleb128-then-discriminator-ne0.ensures.err (BytesRefused-after (g.W.Writer.meaning c.write_uleb128-then-discriminator-ne0.new.self) (IsSameWriter-trans c.in_ok-write_u8.ensures.same (IsSameWriter-trans c.in_ok-write_uleb128.ensures.same c.in_ok-write_u8-2.ensures.same)))
