use Rattle.dw_writer.proofs.Outcomes.{OnOk-map, IfErr-map}
use Rattle.dw_writer.proofs.Steps.{IsSameWriter-trans, Adds-then}
use Rattle.dw_line.proofs.FrontSteps.{Adds-front, AddsSome-front, Front-then}
use Rattle.std.proofs.lemmas.Result.{err_from_is_err_and}
use Rattle.dw_line.proofs.RefusalSteps.{BytesRefused-after}
use Rattle.dw_line.proofs.file.write_file_numbers.Goals as goal

pub returns-clause-ok : goal.returns-clause-ok
returns-clause-ok g c =
    OnOk-map c.write_checksum.result c.write_checksum.ensures.ok
    (λ a. Adds-then c.in_ok-write_uleb128.ensures.ok (Adds-then c.in_ok-write_needed.ensures.ok (Adds-then c.in_ok-write_needed-2.ensures.ok a)))

pub returns-in_err-write_uleb128-clause-front : goal.returns-in_err-write_uleb128-clause-front
returns-in_err-write_uleb128-clause-front g c = AddsSome-front c.in_err-write_uleb128.ensures.partly

pub returns-in_err-write_needed-clause-front : goal.returns-in_err-write_needed-clause-front
returns-in_err-write_needed-clause-front g c = Front-then (Adds-front c.in_ok-write_uleb128.ensures.ok) c.in_err-write_needed.ensures.front

pub returns-in_err-write_needed-2-clause-front : goal.returns-in_err-write_needed-2-clause-front
returns-in_err-write_needed-2-clause-front g c = Front-then (Adds-front c.in_ok-write_uleb128.ensures.ok)
    (Front-then c.in_ok-write_needed.ensures.front c.in_err-write_needed-2.ensures.front)

pub returns-clause-front : goal.returns-clause-front
returns-clause-front g c = Front-then (Adds-front c.in_ok-write_uleb128.ensures.ok)
    (Front-then c.in_ok-write_needed.ensures.front
    (Front-then c.in_ok-write_needed-2.ensures.front c.write_checksum.ensures.front))

pub returns-in_err-write_uleb128-clause-same : goal.returns-in_err-write_uleb128-clause-same
returns-in_err-write_uleb128-clause-same g c = c.in_err-write_uleb128.ensures.same

pub returns-in_err-write_needed-clause-same : goal.returns-in_err-write_needed-clause-same
returns-in_err-write_needed-clause-same g c = IsSameWriter-trans c.in_ok-write_uleb128.ensures.same c.in_err-write_needed.ensures.same

pub returns-in_err-write_needed-2-clause-same : goal.returns-in_err-write_needed-2-clause-same
returns-in_err-write_needed-2-clause-same g c = IsSameWriter-trans c.in_ok-write_uleb128.ensures.same (IsSameWriter-trans c.in_ok-write_needed.ensures.same c.in_err-write_needed-2.ensures.same)

pub returns-clause-same : goal.returns-clause-same
returns-clause-same g c = IsSameWriter-trans c.in_ok-write_uleb128.ensures.same (IsSameWriter-trans c.in_ok-write_needed.ensures.same (IsSameWriter-trans c.in_ok-write_needed-2.ensures.same c.write_checksum.ensures.same))

pub returns-in_err-write_uleb128-clause-ok : goal.returns-in_err-write_uleb128-clause-ok
returns-in_err-write_uleb128-clause-ok g c = rw (err_from_is_err_and c.from_residual.result c.from_residual.ensures.1).1 tt

pub returns-in_err-write_needed-clause-ok : goal.returns-in_err-write_needed-clause-ok
returns-in_err-write_needed-clause-ok g c = rw (err_from_is_err_and c.from_residual-in_err-write_needed.result c.from_residual-in_err-write_needed.ensures.1).1 tt

pub returns-in_err-write_needed-2-clause-ok : goal.returns-in_err-write_needed-2-clause-ok
returns-in_err-write_needed-2-clause-ok g c = rw (err_from_is_err_and c.from_residual-in_err-write_needed-2.result c.from_residual-in_err-write_needed-2.ensures.1).1 tt

pub returns-in_err-write_uleb128-clause-err : goal.returns-in_err-write_uleb128-clause-err
returns-in_err-write_uleb128-clause-err g c =
    let p = err_from_is_err_and c.from_residual.result c.from_residual.ensures.1 in
    rw (p.1, p.2) c.in_err-write_uleb128.ensures.err

pub returns-in_err-write_needed-clause-err : goal.returns-in_err-write_needed-clause-err
returns-in_err-write_needed-clause-err g c =
    let p = err_from_is_err_and c.from_residual-in_err-write_needed.result c.from_residual-in_err-write_needed.ensures.1 in
    rw (p.1, p.2) (BytesRefused-after (g.W.Writer.meaning c.write_needed.new.w) c.in_ok-write_uleb128.ensures.same c.in_err-write_needed.field-0.0 c.in_err-write_needed.ensures.err)

pub returns-in_err-write_needed-2-clause-err : goal.returns-in_err-write_needed-2-clause-err
returns-in_err-write_needed-2-clause-err g c =
    let p = err_from_is_err_and c.from_residual-in_err-write_needed-2.result c.from_residual-in_err-write_needed-2.ensures.1 in
    rw (p.1, p.2) (BytesRefused-after (g.W.Writer.meaning c.write_needed-2.new.w) (IsSameWriter-trans c.in_ok-write_uleb128.ensures.same c.in_ok-write_needed.ensures.same) c.in_err-write_needed-2.field-0.0 c.in_err-write_needed-2.ensures.err)

pub returns-clause-err : goal.returns-clause-err
returns-clause-err g c = IfErr-map c.write_checksum.result c.write_checksum.ensures.err (BytesRefused-after (g.W.Writer.meaning c.write_checksum.new.w) (IsSameWriter-trans c.in_ok-write_uleb128.ensures.same (IsSameWriter-trans c.in_ok-write_needed.ensures.same c.in_ok-write_needed-2.ensures.same)))
