use Rattle.std.proofs.Common.{arith}
use Rattle.dw_writer.proofs.Outcomes.{OnOk-map, IfErr-map}
use Rattle.dw_writer.proofs.Plain.{num-byte}
use Rattle.dw_writer.proofs.Steps.{Adds-then, IsSameWriter-trans}
use Rattle.std.proofs.lemmas.Result.{err_from_is_err_and}
use Rattle.dw_entries.specs.Content.{text_fails}
use Rattle.dw_tree.specs.Causes.{Is}
use Rattle.dw_tree.proofs.Faults.{bytes_because, refused_bytes}
use Rattle.dw_tree.proofs.value.write_text.Goals as goal

pub returns-clause-ok : goal.returns-clause-ok
returns-clause-ok g c =
    let last = rw (num-byte _ 0 (omega arith)) at c.write_u8.ensures.ok in
    OnOk-map c.write_u8.result last (λ zero. Adds-then c.in_ok-write.ensures.ok zero)

pub returns-clause-same : goal.returns-clause-same
returns-clause-same g c = IsSameWriter-trans c.in_ok-write.ensures.same c.write_u8.ensures.same

pub returns-clause-err : goal.returns-clause-err
returns-clause-err g c =
    IfErr-map c.write_u8.result c.write_u8.ensures.err
    (refused_bytes (g.W.Writer.meaning c.args.w.now) (g.W.Writer.meaning c.write.new.self) (g.W.Writer.meaning c.write_u8.new.self) (Is (text_fails c.args.text.now)) c.in_ok-write.ensures.same)

pub returns-in_err-write-clause-err : goal.returns-in_err-write-clause-err
returns-in_err-write-clause-err g c =
    let p = err_from_is_err_and c.from_residual.result c.from_residual.ensures.1 in
    rw (p.1, p.2) (bytes_because (Is (text_fails c.args.text.now)) (g.W.Writer.meaning c.args.w.now) (g.W.Writer.meaning c.write.new.self) (λ rise. rise) c.in_err-write.field-0.0 c.in_err-write.ensures.err)
