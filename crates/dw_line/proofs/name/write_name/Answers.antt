use Rattle.std.proofs.Common.{arith}
use Rattle.dw_writer.proofs.Outcomes.{OnOk-map, IfErr-map}
use Rattle.dw_writer.proofs.Steps.{IsSameWriter-trans, Adds-appends, Adds-then}
use Rattle.dw_line.proofs.Steps.{Adds-byte}
use Rattle.dw_line.proofs.FrontSteps.{Adds-front, AddsSome-front, Front-either, Front-then}
use Rattle.std.proofs.lemmas.Result.{err_from_is_err_and}
use Rattle.dw_base.specs.Numbers.{word_of}
use Rattle.dw_line.specs.Names.{name_fails}
use Rattle.dw_line.proofs.PartSteps.{bytes_refused}
use Rattle.dw_line.proofs.RefusalSteps.{bytes_alone}
use Rattle.dw_line.proofs.name.write_name.Goals as goal

pub returns-in_ok-write-in-String-clause-ok : goal.returns-in_ok-write-in-String-clause-ok
returns-in_ok-write-in-String-clause-ok g c =
    let text = rw c.slice.ensures at c.in_ok-write-in-String.ensures.ok in
    rw c.in-String.is (OnOk-map c.write_u8.result c.write_u8.ensures.ok (λ zero. Adds-appends (Adds-then text (Adds-byte 0 (omega arith) zero))))

pub returns-in_err-write-in-String-clause-front : goal.returns-in_err-write-in-String-clause-front
returns-in_err-write-in-String-clause-front g c = AddsSome-front c.in_err-write-in-String.ensures.partly

pub returns-in_ok-write-in-String-clause-front : goal.returns-in_ok-write-in-String-clause-front
returns-in_ok-write-in-String-clause-front g c = Front-then (Adds-front c.in_ok-write-in-String.ensures.ok)
    (Front-either _ _ c.write_u8.result c.write_u8.ensures.ok c.write_u8.ensures.partly)

pub returns-in_err-write-in-String-clause-same : goal.returns-in_err-write-in-String-clause-same
returns-in_err-write-in-String-clause-same g c = c.in_err-write-in-String.ensures.same

pub returns-in_ok-write-in-String-clause-same : goal.returns-in_ok-write-in-String-clause-same
returns-in_ok-write-in-String-clause-same g c = IsSameWriter-trans c.in_ok-write-in-String.ensures.same c.write_u8.ensures.same

pub returns-in_err-write-in-String-clause-ok : goal.returns-in_err-write-in-String-clause-ok
returns-in_err-write-in-String-clause-ok g c = rw (err_from_is_err_and c.from_residual.result c.from_residual.ensures.1).1 tt

pub returns-in_err-write-in-String-clause-sound : goal.returns-in_err-write-in-String-clause-sound
returns-in_err-write-in-String-clause-sound g c = rw (err_from_is_err_and c.from_residual.result c.from_residual.ensures.1).1 tt

pub returns-in_err-write-in-String-clause-err : goal.returns-in_err-write-in-String-clause-err
returns-in_err-write-in-String-clause-err g c =
    let p = err_from_is_err_and c.from_residual.result c.from_residual.ensures.1 in
    rw (p.1, p.2)
    (bytes_alone (g.W.Writer.meaning c.args.w.now) (g.W.Writer.meaning c.write.new.self) (name_fails (word_of c.args.format) c.args.strings.now c.args.line_strings.now (g.W.Writer.meaning c.args.w.now).is_plain c.args.name.now) c.in_err-write-in-String.field-0.0 c.in_err-write-in-String.ensures.err)

pub returns-in_ok-write-in-String-clause-err : goal.returns-in_ok-write-in-String-clause-err
returns-in_ok-write-in-String-clause-err g c =
    IfErr-map c.write_u8.result c.write_u8.ensures.err (bytes_refused (g.W.Writer.meaning c.write_u8.new.self) (name_fails (word_of c.args.format) c.args.strings.now c.args.line_strings.now (g.W.Writer.meaning c.args.w.now).is_plain c.args.name.now) c.in_ok-write-in-String.ensures.same)

pub returns-in-StringRef-clause-ok : goal.returns-in-StringRef-clause-ok
returns-in-StringRef-clause-ok g c = rw c.in-StringRef.is c.write_string_ref.ensures.ok

pub returns-in-StringRef-clause-sound : goal.returns-in-StringRef-clause-sound
returns-in-StringRef-clause-sound g c = rw c.in-StringRef.is c.write_string_ref.ensures.sound

pub returns-in-StringRef-clause-err : goal.returns-in-StringRef-clause-err
returns-in-StringRef-clause-err g c = rw c.in-StringRef.is c.write_string_ref.ensures.err

pub returns-in-StringRef-clause-same : goal.returns-in-StringRef-clause-same
returns-in-StringRef-clause-same g c = c.write_string_ref.ensures.same

pub returns-in-StringRef-clause-front : goal.returns-in-StringRef-clause-front
returns-in-StringRef-clause-front g c = c.write_string_ref.ensures.front

pub returns-in-LineStringRef-clause-ok : goal.returns-in-LineStringRef-clause-ok
returns-in-LineStringRef-clause-ok g c = rw c.in-LineStringRef.is c.write_line_string_ref.ensures.ok

pub returns-in-LineStringRef-clause-sound : goal.returns-in-LineStringRef-clause-sound
returns-in-LineStringRef-clause-sound g c = rw c.in-LineStringRef.is c.write_line_string_ref.ensures.sound

pub returns-in-LineStringRef-clause-err : goal.returns-in-LineStringRef-clause-err
returns-in-LineStringRef-clause-err g c = rw c.in-LineStringRef.is c.write_line_string_ref.ensures.err

pub returns-in-LineStringRef-clause-same : goal.returns-in-LineStringRef-clause-same
returns-in-LineStringRef-clause-same g c = c.write_line_string_ref.ensures.same

pub returns-in-LineStringRef-clause-front : goal.returns-in-LineStringRef-clause-front
returns-in-LineStringRef-clause-front g c = c.write_line_string_ref.ensures.front
