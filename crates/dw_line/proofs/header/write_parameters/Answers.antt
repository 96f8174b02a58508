use Rattle.std.proofs.Common.{◌≡◌, rules, to_z, of_z, w8}
use Rattle.dw_writer.proofs.Outcomes.{OnOk-map, IfErr-map}
use Rattle.dw_writer.proofs.Steps.{Adds-then, IsSameWriter-trans}
use Rattle.dw_line.proofs.FrontSteps.{Adds-front, AddsSome-front, Front-either, Front-then}
use Rattle.std.proofs.lemmas.Result.{err_from_is_err_and}
use Rattle.dw_line.proofs.RefusalSteps.{BytesRefused-after}
use Rattle.dw_line.proofs.header.write_parameters.Goals as goal

pub returns-clause-ok : goal.returns-clause-ok
returns-clause-ok g c =
    let base : to_z w8 (of_z w8 c.args.line.line_base) ≡ c.args.line.line_base = search rules in
    let last = rw (c.flag-statement.ensures, c.line_base_byte-base.ensures, base) at c.write-2.ensures.ok in
    OnOk-map c.write-2.result last (λ a. Adds-then c.in_ok-write.ensures.ok (Adds-then c.in_ok-write_bytes.ensures.ok a))

pub returns-in_err-write-clause-front : goal.returns-in_err-write-clause-front
returns-in_err-write-clause-front g c = AddsSome-front c.in_err-write.ensures.partly

pub returns-in_err-write_bytes-clause-front : goal.returns-in_err-write_bytes-clause-front
returns-in_err-write_bytes-clause-front g c = Front-then (Adds-front c.in_ok-write.ensures.ok) c.in_err-write_bytes.ensures.front

pub returns-clause-front : goal.returns-clause-front
returns-clause-front g c = Front-then (Adds-front c.in_ok-write.ensures.ok)
    (Front-then c.in_ok-write_bytes.ensures.front (Front-either _ _ c.write-2.result c.write-2.ensures.ok c.write-2.ensures.partly))

pub returns-in_err-write-clause-ok : goal.returns-in_err-write-clause-ok
returns-in_err-write-clause-ok g c = rw (err_from_is_err_and c.from_residual.result c.from_residual.ensures.1).1 tt

pub returns-in_err-write_bytes-clause-ok : goal.returns-in_err-write_bytes-clause-ok
returns-in_err-write_bytes-clause-ok g c = rw (err_from_is_err_and c.from_residual-in_err-write_bytes.result c.from_residual-in_err-write_bytes.ensures.1).1 tt

pub returns-in_err-write-clause-err : goal.returns-in_err-write-clause-err
returns-in_err-write-clause-err g c =
    let p = err_from_is_err_and c.from_residual.result c.from_residual.ensures.1 in
    rw (p.1, p.2) c.in_err-write.ensures.err

pub returns-in_err-write-clause-same : goal.returns-in_err-write-clause-same
returns-in_err-write-clause-same g c = c.in_err-write.ensures.same

pub returns-in_err-write_bytes-clause-err : goal.returns-in_err-write_bytes-clause-err
returns-in_err-write_bytes-clause-err g c =
    let p = err_from_is_err_and c.from_residual-in_err-write_bytes.result c.from_residual-in_err-write_bytes.ensures.1 in
    rw (p.1, p.2) (BytesRefused-after (g.W.Writer.meaning c.write_bytes.new.w) c.in_ok-write.ensures.same c.in_err-write_bytes.field-0.0 c.in_err-write_bytes.ensures.err)

pub returns-in_err-write_bytes-clause-same : goal.returns-in_err-write_bytes-clause-same
returns-in_err-write_bytes-clause-same g c = IsSameWriter-trans c.in_ok-write.ensures.same c.in_err-write_bytes.ensures.same

pub returns-clause-err : goal.returns-clause-err
returns-clause-err g c = IfErr-map c.write-2.result c.write-2.ensures.err (BytesRefused-after (g.W.Writer.meaning c.write-2.new.self) (IsSameWriter-trans c.in_ok-write.ensures.same c.in_ok-write_bytes.ensures.same))

pub returns-clause-same : goal.returns-clause-same
returns-clause-same g c = IsSameWriter-trans c.in_ok-write.ensures.same (IsSameWriter-trans c.in_ok-write_bytes.ensures.same c.write-2.ensures.same)
