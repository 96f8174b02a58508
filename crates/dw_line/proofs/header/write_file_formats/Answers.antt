use Rattle.dw_writer.proofs.Outcomes.{OnOk-map, IfErr-map}
use Rattle.dw_writer.proofs.Steps.{IsSameWriter-trans, Adds-then}
use Rattle.dw_line.proofs.FrontSteps.{Adds-front, AddsSome-front, Front-either, Front-then}
use Rattle.std.proofs.lemmas.Result.{err_from_is_err_and}
use Rattle.dw_line.proofs.RefusalSteps.{BytesRefused-after}
use Rattle.dw_line.proofs.header.write_file_formats.Goals as goal

pub returns-clause-ok : goal.returns-clause-ok
returns-clause-ok g c =
    let parts = rw c.part_count_of-parts.ensures at c.in_ok-write.ensures.ok in
    OnOk-map c.write_uleb128.result c.write_uleb128.ensures.ok
    (λ count. Adds-then parts
    (Adds-then c.in_ok-write_content.ensures.ok
    (Adds-then c.in_ok-write_content-2.ensures.ok
    (Adds-then c.in_ok-write_content-3.ensures.ok
    (Adds-then c.in_ok-write_content-4.ensures.ok
    (Adds-then c.in_ok-write_content-5.ensures.ok
    (Adds-then c.in_ok-write_source_content.ensures.ok count)))))))

pub returns-in_err-write-clause-front : goal.returns-in_err-write-clause-front
returns-in_err-write-clause-front g c = AddsSome-front c.in_err-write.ensures.partly

pub returns-in_err-write_content-clause-front : goal.returns-in_err-write_content-clause-front
returns-in_err-write_content-clause-front g c = Front-then (Adds-front c.in_ok-write.ensures.ok) c.in_err-write_content.ensures.front

pub returns-in_err-write_content-2-clause-front : goal.returns-in_err-write_content-2-clause-front
returns-in_err-write_content-2-clause-front g c = Front-then (Adds-front c.in_ok-write.ensures.ok)
    (Front-then c.in_ok-write_content.ensures.front c.in_err-write_content-2.ensures.front)

pub returns-in_err-write_content-3-clause-front : goal.returns-in_err-write_content-3-clause-front
returns-in_err-write_content-3-clause-front g c = Front-then (Adds-front c.in_ok-write.ensures.ok)
    (Front-then c.in_ok-write_content.ensures.front
    (Front-then c.in_ok-write_content-2.ensures.front c.in_err-write_content-3.ensures.front))

pub returns-in_err-write_content-4-clause-front : goal.returns-in_err-write_content-4-clause-front
returns-in_err-write_content-4-clause-front g c = Front-then (Adds-front c.in_ok-write.ensures.ok)
    (Front-then c.in_ok-write_content.ensures.front
    (Front-then c.in_ok-write_content-2.ensures.front
    (Front-then c.in_ok-write_content-3.ensures.front c.in_err-write_content-4.ensures.front)))

pub returns-in_err-write_content-5-clause-front : goal.returns-in_err-write_content-5-clause-front
returns-in_err-write_content-5-clause-front g c = Front-then (Adds-front c.in_ok-write.ensures.ok)
    (Front-then c.in_ok-write_content.ensures.front
    (Front-then c.in_ok-write_content-2.ensures.front
    (Front-then c.in_ok-write_content-3.ensures.front
    (Front-then c.in_ok-write_content-4.ensures.front c.in_err-write_content-5.ensures.front))))

pub returns-in_err-write_source_content-clause-front : goal.returns-in_err-write_source_content-clause-front
returns-in_err-write_source_content-clause-front g c = Front-then (Adds-front c.in_ok-write.ensures.ok)
    (Front-then c.in_ok-write_content.ensures.front
    (Front-then c.in_ok-write_content-2.ensures.front
    (Front-then c.in_ok-write_content-3.ensures.front
    (Front-then c.in_ok-write_content-4.ensures.front
    (Front-then c.in_ok-write_content-5.ensures.front c.in_err-write_source_content.ensures.front)))))

pub returns-clause-front : goal.returns-clause-front
returns-clause-front g c = Front-then (Adds-front c.in_ok-write.ensures.ok)
    (Front-then c.in_ok-write_content.ensures.front
    (Front-then c.in_ok-write_content-2.ensures.front
    (Front-then c.in_ok-write_content-3.ensures.front
    (Front-then c.in_ok-write_content-4.ensures.front
    (Front-then c.in_ok-write_content-5.ensures.front
    (Front-then c.in_ok-write_source_content.ensures.front
    (Front-either _ _ c.write_uleb128.result c.write_uleb128.ensures.ok c.write_uleb128.ensures.partly)))))))

pub returns-in_err-write-clause-same : goal.returns-in_err-write-clause-same
returns-in_err-write-clause-same g c = c.in_err-write.ensures.same

pub returns-in_err-write_content-clause-same : goal.returns-in_err-write_content-clause-same
returns-in_err-write_content-clause-same g c = IsSameWriter-trans c.in_ok-write.ensures.same c.in_err-write_content.ensures.same

pub returns-in_err-write_content-2-clause-same : goal.returns-in_err-write_content-2-clause-same
returns-in_err-write_content-2-clause-same g c = IsSameWriter-trans c.in_ok-write.ensures.same (IsSameWriter-trans c.in_ok-write_content.ensures.same c.in_err-write_content-2.ensures.same)

pub returns-in_err-write_content-3-clause-same : goal.returns-in_err-write_content-3-clause-same
returns-in_err-write_content-3-clause-same g c = IsSameWriter-trans c.in_ok-write.ensures.same (IsSameWriter-trans c.in_ok-write_content.ensures.same (IsSameWriter-trans c.in_ok-write_content-2.ensures.same c.in_err-write_content-3.ensures.same))

pub returns-in_err-write_content-4-clause-same : goal.returns-in_err-write_content-4-clause-same
returns-in_err-write_content-4-clause-same g c = IsSameWriter-trans c.in_ok-write.ensures.same (IsSameWriter-trans c.in_ok-write_content.ensures.same (IsSameWriter-trans c.in_ok-write_content-2.ensures.same (IsSameWriter-trans c.in_ok-write_content-3.ensures.same c.in_err-write_content-4.ensures.same)))

pub returns-in_err-write_content-5-clause-same : goal.returns-in_err-write_content-5-clause-same
returns-in_err-write_content-5-clause-same g c = IsSameWriter-trans c.in_ok-write.ensures.same (IsSameWriter-trans c.in_ok-write_content.ensures.same (IsSameWriter-trans c.in_ok-write_content-2.ensures.same (IsSameWriter-trans c.in_ok-write_content-3.ensures.same (IsSameWriter-trans c.in_ok-write_content-4.ensures.same c.in_err-write_content-5.ensures.same))))

pub returns-in_err-write_source_content-clause-same : goal.returns-in_err-write_source_content-clause-same
returns-in_err-write_source_content-clause-same g c = IsSameWriter-trans c.in_ok-write.ensures.same (IsSameWriter-trans c.in_ok-write_content.ensures.same (IsSameWriter-trans c.in_ok-write_content-2.ensures.same (IsSameWriter-trans c.in_ok-write_content-3.ensures.same (IsSameWriter-trans c.in_ok-write_content-4.ensures.same (IsSameWriter-trans c.in_ok-write_content-5.ensures.same c.in_err-write_source_content.ensures.same)))))

pub returns-clause-same : goal.returns-clause-same
returns-clause-same g c = IsSameWriter-trans c.in_ok-write.ensures.same (IsSameWriter-trans c.in_ok-write_content.ensures.same (IsSameWriter-trans c.in_ok-write_content-2.ensures.same (IsSameWriter-trans c.in_ok-write_content-3.ensures.same (IsSameWriter-trans c.in_ok-write_content-4.ensures.same (IsSameWriter-trans c.in_ok-write_content-5.ensures.same (IsSameWriter-trans c.in_ok-write_source_content.ensures.same c.write_uleb128.ensures.same))))))

pub returns-in_err-write_content-clause-err : goal.returns-in_err-write_content-clause-err
returns-in_err-write_content-clause-err g c =
    let p = err_from_is_err_and c.from_residual-in_err-write_content.result c.from_residual-in_err-write_content.ensures.1 in
    rw (p.1, p.2) (BytesRefused-after (g.W.Writer.meaning c.write_content.new.w) c.in_ok-write.ensures.same c.in_err-write_content.field-0.0 c.in_err-write_content.ensures.err)

pub returns-in_err-write_content-2-clause-err : goal.returns-in_err-write_content-2-clause-err
returns-in_err-write_content-2-clause-err g c =
    let p = err_from_is_err_and c.from_residual-in_err-write_content-2.result c.from_residual-in_err-write_content-2.ensures.1 in
    rw (p.1, p.2) (BytesRefused-after (g.W.Writer.meaning c.write_content-2.new.w) (IsSameWriter-trans c.in_ok-write.ensures.same c.in_ok-write_content.ensures.same) c.in_err-write_content-2.field-0.0 c.in_err-write_content-2.ensures.err)

pub returns-in_err-write_content-3-clause-err : goal.returns-in_err-write_content-3-clause-err
returns-in_err-write_content-3-clause-err g c =
    let p = err_from_is_err_and c.from_residual-in_err-write_content-3.result c.from_residual-in_err-write_content-3.ensures.1 in
    rw (p.1, p.2) (BytesRefused-after (g.W.Writer.meaning c.write_content-3.new.w) (IsSameWriter-trans c.in_ok-write.ensures.same (IsSameWriter-trans c.in_ok-write_content.ensures.same c.in_ok-write_content-2.ensures.same)) c.in_err-write_content-3.field-0.0 c.in_err-write_content-3.ensures.err)

pub returns-in_err-write_content-4-clause-err : goal.returns-in_err-write_content-4-clause-err
returns-in_err-write_content-4-clause-err g c =
    let p = err_from_is_err_and c.from_residual-in_err-write_content-4.result c.from_residual-in_err-write_content-4.ensures.1 in
    rw (p.1, p.2) (BytesRefused-after (g.W.Writer.meaning c.write_content-4.new.w) (IsSameWriter-trans c.in_ok-write.ensures.same (IsSameWriter-trans c.in_ok-write_content.ensures.same (IsSameWriter-trans c.in_ok-write_content-2.ensures.same c.in_ok-write_content-3.ensures.same))) c.in_err-write_content-4.field-0.0 c.in_err-write_content-4.ensures.err)

pub returns-in_err-write_content-5-clause-err : goal.returns-in_err-write_content-5-clause-err
returns-in_err-write_content-5-clause-err g c =
    let p = err_from_is_err_and c.from_residual-in_err-write_content-5.result c.from_residual-in_err-write_content-5.ensures.1 in
    rw (p.1, p.2) (BytesRefused-after (g.W.Writer.meaning c.write_content-5.new.w) (IsSameWriter-trans c.in_ok-write.ensures.same (IsSameWriter-trans c.in_ok-write_content.ensures.same (IsSameWriter-trans c.in_ok-write_content-2.ensures.same (IsSameWriter-trans c.in_ok-write_content-3.ensures.same c.in_ok-write_content-4.ensures.same)))) c.in_err-write_content-5.field-0.0 c.in_err-write_content-5.ensures.err)

pub returns-in_err-write_source_content-clause-err : goal.returns-in_err-write_source_content-clause-err
returns-in_err-write_source_content-clause-err g c =
    let p = err_from_is_err_and c.from_residual-in_err-write_source_content.result c.from_residual-in_err-write_source_content.ensures.1 in
    rw (p.1, p.2) (BytesRefused-after (g.W.Writer.meaning c.write_source_content.new.w) (IsSameWriter-trans c.in_ok-write.ensures.same (IsSameWriter-trans c.in_ok-write_content.ensures.same (IsSameWriter-trans c.in_ok-write_content-2.ensures.same (IsSameWriter-trans c.in_ok-write_content-3.ensures.same (IsSameWriter-trans c.in_ok-write_content-4.ensures.same c.in_ok-write_content-5.ensures.same))))) c.in_err-write_source_content.field-0.0 c.in_err-write_source_content.ensures.err)

pub returns-clause-err : goal.returns-clause-err
returns-clause-err g c = IfErr-map c.write_uleb128.result c.write_uleb128.ensures.err (BytesRefused-after (g.W.Writer.meaning c.write_uleb128.new.self) (IsSameWriter-trans c.in_ok-write.ensures.same (IsSameWriter-trans c.in_ok-write_content.ensures.same (IsSameWriter-trans c.in_ok-write_content-2.ensures.same (IsSameWriter-trans c.in_ok-write_content-3.ensures.same (IsSameWriter-trans c.in_ok-write_content-4.ensures.same (IsSameWriter-trans c.in_ok-write_content-5.ensures.same c.in_ok-write_source_content.ensures.same)))))))

pub returns-in_err-write-clause-ok : goal.returns-in_err-write-clause-ok
returns-in_err-write-clause-ok g c = rw (err_from_is_err_and c.from_residual.result c.from_residual.ensures.1).1 tt

pub returns-in_err-write_content-clause-ok : goal.returns-in_err-write_content-clause-ok
returns-in_err-write_content-clause-ok g c = rw (err_from_is_err_and c.from_residual-in_err-write_content.result c.from_residual-in_err-write_content.ensures.1).1 tt

pub returns-in_err-write_content-2-clause-ok : goal.returns-in_err-write_content-2-clause-ok
returns-in_err-write_content-2-clause-ok g c = rw (err_from_is_err_and c.from_residual-in_err-write_content-2.result c.from_residual-in_err-write_content-2.ensures.1).1 tt

pub returns-in_err-write_content-3-clause-ok : goal.returns-in_err-write_content-3-clause-ok
returns-in_err-write_content-3-clause-ok g c = rw (err_from_is_err_and c.from_residual-in_err-write_content-3.result c.from_residual-in_err-write_content-3.ensures.1).1 tt

pub returns-in_err-write_content-4-clause-ok : goal.returns-in_err-write_content-4-clause-ok
returns-in_err-write_content-4-clause-ok g c = rw (err_from_is_err_and c.from_residual-in_err-write_content-4.result c.from_residual-in_err-write_content-4.ensures.1).1 tt

pub returns-in_err-write_content-5-clause-ok : goal.returns-in_err-write_content-5-clause-ok
returns-in_err-write_content-5-clause-ok g c = rw (err_from_is_err_and c.from_residual-in_err-write_content-5.result c.from_residual-in_err-write_content-5.ensures.1).1 tt

pub returns-in_err-write_source_content-clause-ok : goal.returns-in_err-write_source_content-clause-ok
returns-in_err-write_source_content-clause-ok g c = rw (err_from_is_err_and c.from_residual-in_err-write_source_content.result c.from_residual-in_err-write_source_content.ensures.1).1 tt
