use Rattle.dw_writer.proofs.Outcomes.{OnOk-map, IfErr-map}
use Rattle.dw_writer.proofs.Steps.{Adds-then, IsSameWriter-trans}
use Rattle.dw_line.proofs.FrontSteps.{Adds-front, AddsSome-front, Front-then}
use Rattle.std.proofs.lemmas.Result.{err_from_is_err_and}
use Rattle.dw_line.proofs.RefusalSteps.{BytesRefused-after}
use Rattle.dw_line.proofs.header.write_version.Goals as goal

pub returns-clause-ok : goal.returns-clause-ok
returns-clause-ok g c = OnOk-map c.write_bytes.result c.write_bytes.ensures.ok (λ a. Adds-then c.in_ok-write_u16.ensures.ok a)

pub returns-in_err-write_u16-clause-front : goal.returns-in_err-write_u16-clause-front
returns-in_err-write_u16-clause-front g c = AddsSome-front c.in_err-write_u16.ensures.partly

pub returns-clause-front : goal.returns-clause-front
returns-clause-front g c = Front-then (Adds-front c.in_ok-write_u16.ensures.ok) c.write_bytes.ensures.front

pub returns-in_err-write_u16-clause-ok : goal.returns-in_err-write_u16-clause-ok
returns-in_err-write_u16-clause-ok g c = rw (err_from_is_err_and c.from_residual.result c.from_residual.ensures.1).1 tt

pub returns-in_err-write_u16-clause-err : goal.returns-in_err-write_u16-clause-err
returns-in_err-write_u16-clause-err g c =
    let p = err_from_is_err_and c.from_residual.result c.from_residual.ensures.1 in
    rw (p.1, p.2) c.in_err-write_u16.ensures.err

pub returns-in_err-write_u16-clause-same : goal.returns-in_err-write_u16-clause-same
returns-in_err-write_u16-clause-same g c = c.in_err-write_u16.ensures.same

pub returns-clause-err : goal.returns-clause-err
returns-clause-err g c = IfErr-map c.write_bytes.result c.write_bytes.ensures.err (BytesRefused-after (g.W.Writer.meaning c.write_bytes.new.w) c.in_ok-write_u16.ensures.same)

pub returns-clause-same : goal.returns-clause-same
returns-clause-same g c = IsSameWriter-trans c.in_ok-write_u16.ensures.same c.write_bytes.ensures.same
