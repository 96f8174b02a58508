use Rattle.dw_writer.proofs.Outcomes.{OnOk-map, IfErr-map}
use Rattle.dw_writer.proofs.Steps.{Adds-then, IsSameWriter-trans}
use Rattle.dw_line.proofs.FrontSteps.{Adds-front, AddsSome-front, Front-either, Front-then}
use Rattle.std.proofs.lemmas.Result.{err_from_is_err_and}
use Rattle.dw_line.proofs.RefusalSteps.{BytesRefused-after}
use Rattle.dw_line.proofs.header.write_directory_formats.Goals as goal

pub returns-clause-ok : goal.returns-clause-ok
returns-clause-ok g c = OnOk-map c.write_uleb128.result c.write_uleb128.ensures.ok (λ a. Adds-then c.in_ok-write.ensures.ok (Adds-then c.in_ok-write_content.ensures.ok a))

pub returns-in_err-write-clause-front : goal.returns-in_err-write-clause-front
returns-in_err-write-clause-front g c = AddsSome-front c.in_err-write.ensures.partly

pub returns-in_err-write_content-clause-front : goal.returns-in_err-write_content-clause-front
returns-in_err-write_content-clause-front g c = Front-then (Adds-front c.in_ok-write.ensures.ok) c.in_err-write_content.ensures.front

pub returns-clause-front : goal.returns-clause-front
returns-clause-front g c = Front-then (Adds-front c.in_ok-write.ensures.ok)
    (Front-then c.in_ok-write_content.ensures.front
    (Front-either _ _ c.write_uleb128.result c.write_uleb128.ensures.ok c.write_uleb128.ensures.partly))

pub returns-in_err-write-clause-ok : goal.returns-in_err-write-clause-ok
returns-in_err-write-clause-ok g c = rw (err_from_is_err_and c.from_residual.result c.from_residual.ensures.1).1 tt

pub returns-in_err-write_content-clause-ok : goal.returns-in_err-write_content-clause-ok
returns-in_err-write_content-clause-ok g c = rw (err_from_is_err_and c.from_residual-in_err-write_content.result c.from_residual-in_err-write_content.ensures.1).1 tt

pub returns-in_err-write-clause-err : goal.returns-in_err-write-clause-err
returns-in_err-write-clause-err g c =
    let p = err_from_is_err_and c.from_residual.result c.from_residual.ensures.1 in
    rw (p.1, p.2) c.in_err-write.ensures.err

pub returns-in_err-write-clause-same : goal.returns-in_err-write-clause-same
returns-in_err-write-clause-same g c = c.in_err-write.ensures.same

pub returns-in_err-write_content-clause-err : goal.returns-in_err-write_content-clause-err
returns-in_err-write_content-clause-err g c =
    let p = err_from_is_err_and c.from_residual-in_err-write_content.result c.from_residual-in_err-write_content.ensures.1 in
    rw (p.1, p.2) (BytesRefused-after (g.W.Writer.meaning c.write_content.new.w) c.in_ok-write.ensures.same c.in_err-write_content.field-0.0 c.in_err-write_content.ensures.err)

pub returns-in_err-write_content-clause-same : goal.returns-in_err-write_content-clause-same
returns-in_err-write_content-clause-same g c = IsSameWriter-trans c.in_ok-write.ensures.same c.in_err-write_content.ensures.same

pub returns-clause-err : goal.returns-clause-err
returns-clause-err g c = IfErr-map c.write_uleb128.result c.write_uleb128.ensures.err (BytesRefused-after (g.W.Writer.meaning c.write_uleb128.new.self) (IsSameWriter-trans c.in_ok-write.ensures.same c.in_ok-write_content.ensures.same))

pub returns-clause-same : goal.returns-clause-same
returns-clause-same g c = IsSameWriter-trans c.in_ok-write.ensures.same (IsSameWriter-trans c.in_ok-write_content.ensures.same c.write_uleb128.ensures.same)
