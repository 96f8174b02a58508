use Rattle.dw_line.specs.Headers.{content_bytes}
use Rattle.dw_writer.proofs.Outcomes.{OnOk-map, IfErr-map}
use Rattle.dw_writer.proofs.Steps.{Adds-then, IsSameWriter-trans}
use Rattle.dw_line.proofs.Steps.{needed, left_out}
use Rattle.dw_line.proofs.FrontSteps.{Adds-front, AddsSome-front, Front-either, Front-none, Front-then}
use Rattle.std.proofs.lemmas.Result.{err_from_is_err_and}
use Rattle.dw_line.proofs.RefusalSteps.{BytesRefused-after}
use Rattle.dw_line.proofs.header.write_content.Goals as goal

pub returns-then-is_needed-clause-ok : goal.returns-then-is_needed-clause-ok
returns-then-is_needed-clause-ok g c =
    OnOk-map c.write_uleb128-then-is_needed.result c.write_uleb128-then-is_needed.ensures.ok
    (λ a. needed c.args.is_needed (content_bytes c.args.content c.args.form) c.if-is_needed.true (Adds-then c.in_ok-write_uleb128.ensures.ok a))

pub returns-clause-ok : goal.returns-clause-ok
returns-clause-ok g c = left_out c.args.is_needed (content_bytes c.args.content c.args.form) c.if-is_needed.false

pub returns-in_err-write_uleb128-clause-front : goal.returns-in_err-write_uleb128-clause-front
returns-in_err-write_uleb128-clause-front g c = AddsSome-front c.in_err-write_uleb128.ensures.partly

pub returns-then-is_needed-clause-front : goal.returns-then-is_needed-clause-front
returns-then-is_needed-clause-front g c = Front-then (Adds-front c.in_ok-write_uleb128.ensures.ok)
    (Front-either _ _ c.write_uleb128-then-is_needed.result c.write_uleb128-then-is_needed.ensures.ok c.write_uleb128-then-is_needed.ensures.partly)

pub returns-clause-front : goal.returns-clause-front
returns-clause-front g c = Front-none _

pub returns-in_err-write_uleb128-clause-ok : goal.returns-in_err-write_uleb128-clause-ok
returns-in_err-write_uleb128-clause-ok g c = rw (err_from_is_err_and c.from_residual.result c.from_residual.ensures.1).1 tt

pub returns-clause-err : goal.returns-clause-err
returns-clause-err g c = tt

pub returns-in_err-write_uleb128-clause-err : goal.returns-in_err-write_uleb128-clause-err
returns-in_err-write_uleb128-clause-err g c =
    let p = err_from_is_err_and c.from_residual.result c.from_residual.ensures.1 in
    rw (p.1, p.2) c.in_err-write_uleb128.ensures.err

pub returns-in_err-write_uleb128-clause-same : goal.returns-in_err-write_uleb128-clause-same
returns-in_err-write_uleb128-clause-same g c = c.in_err-write_uleb128.ensures.same

pub returns-then-is_needed-clause-err : goal.returns-then-is_needed-clause-err
returns-then-is_needed-clause-err g c = IfErr-map c.write_uleb128-then-is_needed.result c.write_uleb128-then-is_needed.ensures.err (BytesRefused-after (g.W.Writer.meaning c.write_uleb128-then-is_needed.new.self) c.in_ok-write_uleb128.ensures.same)

pub returns-then-is_needed-clause-same : goal.returns-then-is_needed-clause-same
returns-then-is_needed-clause-same g c = IsSameWriter-trans c.in_ok-write_uleb128.ensures.same c.write_uleb128-then-is_needed.ensures.same
