use Rattle.std.proofs.Common.{◌≡◌, ◌∷◌, not, ◌==◌, arith, rules, to_z, of_z, w64}
use Rattle.dw_base.specs.Leb128.{sleb}
use Rattle.dw_writer.proofs.Outcomes.{OnOk-map}
use Rattle.dw_writer.proofs.Steps.{Adds-then}
use Rattle.dw_line.specs.RawRows.{line_change}
use Rattle.dw_line.proofs.Steps.{Adds-byte, needed, left_out, other, equal}
use Rattle.dw_line.proofs.FrontSteps.{Adds-front, AddsSome-front, Front-either, Front-none, Front-then}
use Rattle.std.proofs.lemmas.Result.{err_from_is_err_and}
use Rattle.dw_line.proofs.opcode.write_line.Goals as goal

pub returns-then-new-old-clause-ok : goal.returns-then-new-old-clause-ok
returns-then-new-old-clause-ok g c =
    let value : to_z w64 (of_z w64 c.in_ok-change.change) ≡ c.in_ok-change.change = search rules in
    let opcode = Adds-byte 3 (omega arith) c.in_ok-write_u8.ensures.ok in
    OnOk-map c.write_sleb128.result c.write_sleb128.ensures.ok
    (λ a. needed _ (3 ∷ sleb (line_change c.args.old c.args.new)) (other c.args.new c.args.old c.if-new-old.true)
    (Adds-then opcode (rw (← c.in_ok-change.ensures.ok, ← value) a)))

pub returns-clause-ok : goal.returns-clause-ok
returns-clause-ok g c = left_out (not (c.args.new == c.args.old)) _ (equal c.args.new c.args.old c.if-new-old.false)

pub returns-in_err-change-clause-front : goal.returns-in_err-change-clause-front
returns-in_err-change-clause-front g c = Front-none _

pub returns-in_err-write_u8-clause-front : goal.returns-in_err-write_u8-clause-front
returns-in_err-write_u8-clause-front g c = AddsSome-front c.in_err-write_u8.ensures.partly

pub returns-then-new-old-clause-front : goal.returns-then-new-old-clause-front
returns-then-new-old-clause-front g c = Front-then (Adds-front c.in_ok-write_u8.ensures.ok)
    (Front-either _ _ c.write_sleb128.result c.write_sleb128.ensures.ok c.write_sleb128.ensures.partly)

pub returns-clause-front : goal.returns-clause-front
returns-clause-front g c = Front-none _

pub returns-in_err-change-clause-ok : goal.returns-in_err-change-clause-ok
returns-in_err-change-clause-ok g c = rw (err_from_is_err_and c.from_residual.result c.from_residual.ensures.1).1 tt

pub returns-in_err-change-clause-line : goal.returns-in_err-change-clause-line
returns-in_err-change-clause-line g c = rw (err_from_is_err_and c.from_residual.result c.from_residual.ensures.1).1 tt

pub returns-in_err-write_u8-clause-ok : goal.returns-in_err-write_u8-clause-ok
returns-in_err-write_u8-clause-ok g c = rw (err_from_is_err_and c.from_residual-in_err-write_u8.result c.from_residual-in_err-write_u8.ensures.1).1 tt

pub returns-in_err-write_u8-clause-line : goal.returns-in_err-write_u8-clause-line
returns-in_err-write_u8-clause-line g c = rw (err_from_is_err_and c.from_residual-in_err-write_u8.result c.from_residual-in_err-write_u8.ensures.1).1 tt

pub returns-clause-err : goal.returns-clause-err
returns-clause-err g c = tt
