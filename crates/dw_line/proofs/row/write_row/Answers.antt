use Rattle.std.proofs.Common.{arith}
use Rattle.dw_writer.proofs.Outcomes.{OnOk-map}
use Rattle.dw_writer.proofs.Steps.{Adds-then, IsSameWriter-trans}
use Rattle.dw_line.proofs.LineRowsSteps.{raw_file_small}
use Rattle.dw_line.proofs.FrontSteps.{Front-then}
use Rattle.std.proofs.lemmas.Result.{err_from_is_err_and}
use Rattle.dw_line.proofs.RefusalSteps.{LineRefused-first, LineRefused-bytes, LineRefused-after}
use Rattle.dw_line.proofs.row.write_row.Goals as goal

pub returns-clause-ok : goal.returns-clause-ok
returns-clause-ok g c =
    OnOk-map c.write_mark-5.result c.write_mark-5.ensures.ok
    (λ copy. Adds-then c.in_ok-write_discriminator.ensures.ok
    (Adds-then c.in_ok-write_mark.ensures.ok
    (Adds-then c.in_ok-write_mark-2.ensures.ok
    (Adds-then c.in_ok-write_mark-3.ensures.ok
    (Adds-then c.in_ok-write_mark-4.ensures.ok
    (Adds-then c.in_ok-write_file.ensures.ok
    (Adds-then c.in_ok-write_number.ensures.ok
    (Adds-then c.in_ok-write_number-2.ensures.ok
    (Adds-then c.in_ok-write_line.ensures.ok
    (Adds-then c.in_ok-write_number-3.ensures.ok copy))))))))))

pub returns-clause-ranged : goal.returns-clause-ranged
returns-clause-ranged g c =
    OnOk-map c.write_mark-5.result c.write_mark-5.ensures.ok
    (λ copy. record {
      address_offset = omega arith;
      file = raw_file_small c.args.version c.args.new.file.0 c.requires.new_file;
      column = omega arith;
      discriminator = omega arith;
      isa = omega arith;
    })

pub returns-in_err-write_discriminator-clause-front : goal.returns-in_err-write_discriminator-clause-front
returns-in_err-write_discriminator-clause-front g c = c.in_err-write_discriminator.ensures.front

pub returns-in_err-write_mark-clause-front : goal.returns-in_err-write_mark-clause-front
returns-in_err-write_mark-clause-front g c = Front-then c.in_ok-write_discriminator.ensures.front c.in_err-write_mark.ensures.front

pub returns-in_err-write_mark-2-clause-front : goal.returns-in_err-write_mark-2-clause-front
returns-in_err-write_mark-2-clause-front g c = Front-then c.in_ok-write_discriminator.ensures.front
    (Front-then c.in_ok-write_mark.ensures.front c.in_err-write_mark-2.ensures.front)

pub returns-in_err-write_mark-3-clause-front : goal.returns-in_err-write_mark-3-clause-front
returns-in_err-write_mark-3-clause-front g c = Front-then c.in_ok-write_discriminator.ensures.front
    (Front-then c.in_ok-write_mark.ensures.front
    (Front-then c.in_ok-write_mark-2.ensures.front c.in_err-write_mark-3.ensures.front))

pub returns-in_err-write_mark-4-clause-front : goal.returns-in_err-write_mark-4-clause-front
returns-in_err-write_mark-4-clause-front g c = Front-then c.in_ok-write_discriminator.ensures.front
    (Front-then c.in_ok-write_mark.ensures.front
    (Front-then c.in_ok-write_mark-2.ensures.front
    (Front-then c.in_ok-write_mark-3.ensures.front c.in_err-write_mark-4.ensures.front)))

pub returns-in_err-write_file-clause-front : goal.returns-in_err-write_file-clause-front
returns-in_err-write_file-clause-front g c = Front-then c.in_ok-write_discriminator.ensures.front
    (Front-then c.in_ok-write_mark.ensures.front
    (Front-then c.in_ok-write_mark-2.ensures.front
    (Front-then c.in_ok-write_mark-3.ensures.front
    (Front-then c.in_ok-write_mark-4.ensures.front c.in_err-write_file.ensures.front))))

pub returns-in_err-write_number-clause-front : goal.returns-in_err-write_number-clause-front
returns-in_err-write_number-clause-front g c = Front-then c.in_ok-write_discriminator.ensures.front
    (Front-then c.in_ok-write_mark.ensures.front
    (Front-then c.in_ok-write_mark-2.ensures.front
    (Front-then c.in_ok-write_mark-3.ensures.front
    (Front-then c.in_ok-write_mark-4.ensures.front
    (Front-then c.in_ok-write_file.ensures.front c.in_err-write_number.ensures.front)))))

pub returns-in_err-write_number-2-clause-front : goal.returns-in_err-write_number-2-clause-front
returns-in_err-write_number-2-clause-front g c = Front-then c.in_ok-write_discriminator.ensures.front
    (Front-then c.in_ok-write_mark.ensures.front
    (Front-then c.in_ok-write_mark-2.ensures.front
    (Front-then c.in_ok-write_mark-3.ensures.front
    (Front-then c.in_ok-write_mark-4.ensures.front
    (Front-then c.in_ok-write_file.ensures.front
    (Front-then c.in_ok-write_number.ensures.front c.in_err-write_number-2.ensures.front))))))

pub returns-in_err-write_line-clause-front : goal.returns-in_err-write_line-clause-front
returns-in_err-write_line-clause-front g c = Front-then c.in_ok-write_discriminator.ensures.front
    (Front-then c.in_ok-write_mark.ensures.front
    (Front-then c.in_ok-write_mark-2.ensures.front
    (Front-then c.in_ok-write_mark-3.ensures.front
    (Front-then c.in_ok-write_mark-4.ensures.front
    (Front-then c.in_ok-write_file.ensures.front
    (Front-then c.in_ok-write_number.ensures.front
    (Front-then c.in_ok-write_number-2.ensures.front c.in_err-write_line.ensures.front)))))))

pub returns-in_err-write_number-3-clause-front : goal.returns-in_err-write_number-3-clause-front
returns-in_err-write_number-3-clause-front g c = Front-then c.in_ok-write_discriminator.ensures.front
    (Front-then c.in_ok-write_mark.ensures.front
    (Front-then c.in_ok-write_mark-2.ensures.front
    (Front-then c.in_ok-write_mark-3.ensures.front
    (Front-then c.in_ok-write_mark-4.ensures.front
    (Front-then c.in_ok-write_file.ensures.front
    (Front-then c.in_ok-write_number.ensures.front
    (Front-then c.in_ok-write_number-2.ensures.front
    (Front-then c.in_ok-write_line.ensures.front c.in_err-write_number-3.ensures.front))))))))

pub returns-clause-front : goal.returns-clause-front
returns-clause-front g c = Front-then c.in_ok-write_discriminator.ensures.front
    (Front-then c.in_ok-write_mark.ensures.front
    (Front-then c.in_ok-write_mark-2.ensures.front
    (Front-then c.in_ok-write_mark-3.ensures.front
    (Front-then c.in_ok-write_mark-4.ensures.front
    (Front-then c.in_ok-write_file.ensures.front
    (Front-then c.in_ok-write_number.ensures.front
    (Front-then c.in_ok-write_number-2.ensures.front
    (Front-then c.in_ok-write_line.ensures.front (Front-then c.in_ok-write_number-3.ensures.front c.write_mark-5.ensures.front)))))))))

pub returns-in_err-write_discriminator-clause-same : goal.returns-in_err-write_discriminator-clause-same
returns-in_err-write_discriminator-clause-same g c = c.in_err-write_discriminator.ensures.same

pub returns-in_err-write_discriminator-clause-err : goal.returns-in_err-write_discriminator-clause-err
returns-in_err-write_discriminator-clause-err g c =
    let p = err_from_is_err_and c.from_residual.result c.from_residual.ensures.1 in
    rw (p.1, p.2) (LineRefused-first (g.W.Writer.meaning c.args.w.now) (g.W.Writer.meaning c.write_discriminator.new.w) c.args.old.line c.args.new.line c.in_err-write_discriminator.field-0.0 c.in_err-write_discriminator.ensures.err)

pub returns-in_err-write_mark-clause-same : goal.returns-in_err-write_mark-clause-same
returns-in_err-write_mark-clause-same g c = IsSameWriter-trans c.in_ok-write_discriminator.ensures.same c.in_err-write_mark.ensures.same

pub returns-in_err-write_mark-clause-err : goal.returns-in_err-write_mark-clause-err
returns-in_err-write_mark-clause-err g c =
    let p = err_from_is_err_and c.from_residual-in_err-write_mark.result c.from_residual-in_err-write_mark.ensures.1 in
    rw (p.1, p.2) (LineRefused-bytes (g.W.Writer.meaning c.write_mark.new.w) c.args.old.line c.args.new.line (c.in_ok-write_discriminator.ensures.same) c.in_err-write_mark.field-0.0 c.in_err-write_mark.ensures.err)

pub returns-in_err-write_mark-2-clause-same : goal.returns-in_err-write_mark-2-clause-same
returns-in_err-write_mark-2-clause-same g c = IsSameWriter-trans c.in_ok-write_discriminator.ensures.same (IsSameWriter-trans c.in_ok-write_mark.ensures.same c.in_err-write_mark-2.ensures.same)

pub returns-in_err-write_mark-2-clause-err : goal.returns-in_err-write_mark-2-clause-err
returns-in_err-write_mark-2-clause-err g c =
    let p = err_from_is_err_and c.from_residual-in_err-write_mark-2.result c.from_residual-in_err-write_mark-2.ensures.1 in
    rw (p.1, p.2) (LineRefused-bytes (g.W.Writer.meaning c.write_mark-2.new.w) c.args.old.line c.args.new.line (IsSameWriter-trans c.in_ok-write_discriminator.ensures.same c.in_ok-write_mark.ensures.same) c.in_err-write_mark-2.field-0.0 c.in_err-write_mark-2.ensures.err)

pub returns-in_err-write_mark-3-clause-same : goal.returns-in_err-write_mark-3-clause-same
returns-in_err-write_mark-3-clause-same g c = IsSameWriter-trans c.in_ok-write_discriminator.ensures.same (IsSameWriter-trans c.in_ok-write_mark.ensures.same (IsSameWriter-trans c.in_ok-write_mark-2.ensures.same c.in_err-write_mark-3.ensures.same))

pub returns-in_err-write_mark-3-clause-err : goal.returns-in_err-write_mark-3-clause-err
returns-in_err-write_mark-3-clause-err g c =
    let p = err_from_is_err_and c.from_residual-in_err-write_mark-3.result c.from_residual-in_err-write_mark-3.ensures.1 in
    rw (p.1, p.2) (LineRefused-bytes (g.W.Writer.meaning c.write_mark-3.new.w) c.args.old.line c.args.new.line (IsSameWriter-trans c.in_ok-write_discriminator.ensures.same (IsSameWriter-trans c.in_ok-write_mark.ensures.same c.in_ok-write_mark-2.ensures.same)) c.in_err-write_mark-3.field-0.0 c.in_err-write_mark-3.ensures.err)

pub returns-in_err-write_mark-4-clause-same : goal.returns-in_err-write_mark-4-clause-same
returns-in_err-write_mark-4-clause-same g c = IsSameWriter-trans c.in_ok-write_discriminator.ensures.same (IsSameWriter-trans c.in_ok-write_mark.ensures.same (IsSameWriter-trans c.in_ok-write_mark-2.ensures.same (IsSameWriter-trans c.in_ok-write_mark-3.ensures.same c.in_err-write_mark-4.ensures.same)))

pub returns-in_err-write_mark-4-clause-err : goal.returns-in_err-write_mark-4-clause-err
returns-in_err-write_mark-4-clause-err g c =
    let p = err_from_is_err_and c.from_residual-in_err-write_mark-4.result c.from_residual-in_err-write_mark-4.ensures.1 in
    rw (p.1, p.2) (LineRefused-bytes (g.W.Writer.meaning c.write_mark-4.new.w) c.args.old.line c.args.new.line (IsSameWriter-trans c.in_ok-write_discriminator.ensures.same (IsSameWriter-trans c.in_ok-write_mark.ensures.same (IsSameWriter-trans c.in_ok-write_mark-2.ensures.same c.in_ok-write_mark-3.ensures.same))) c.in_err-write_mark-4.field-0.0 c.in_err-write_mark-4.ensures.err)

pub returns-in_err-write_file-clause-same : goal.returns-in_err-write_file-clause-same
returns-in_err-write_file-clause-same g c = IsSameWriter-trans c.in_ok-write_discriminator.ensures.same (IsSameWriter-trans c.in_ok-write_mark.ensures.same (IsSameWriter-trans c.in_ok-write_mark-2.ensures.same (IsSameWriter-trans c.in_ok-write_mark-3.ensures.same (IsSameWriter-trans c.in_ok-write_mark-4.ensures.same c.in_err-write_file.ensures.same))))

pub returns-in_err-write_file-clause-err : goal.returns-in_err-write_file-clause-err
returns-in_err-write_file-clause-err g c =
    let p = err_from_is_err_and c.from_residual-in_err-write_file.result c.from_residual-in_err-write_file.ensures.1 in
    rw (p.1, p.2) (LineRefused-bytes (g.W.Writer.meaning c.write_file.new.w) c.args.old.line c.args.new.line (IsSameWriter-trans c.in_ok-write_discriminator.ensures.same (IsSameWriter-trans c.in_ok-write_mark.ensures.same (IsSameWriter-trans c.in_ok-write_mark-2.ensures.same (IsSameWriter-trans c.in_ok-write_mark-3.ensures.same c.in_ok-write_mark-4.ensures.same)))) c.in_err-write_file.field-0.0 c.in_err-write_file.ensures.err)

pub returns-in_err-write_number-clause-same : goal.returns-in_err-write_number-clause-same
returns-in_err-write_number-clause-same g c = IsSameWriter-trans c.in_ok-write_discriminator.ensures.same (IsSameWriter-trans c.in_ok-write_mark.ensures.same (IsSameWriter-trans c.in_ok-write_mark-2.ensures.same (IsSameWriter-trans c.in_ok-write_mark-3.ensures.same (IsSameWriter-trans c.in_ok-write_mark-4.ensures.same (IsSameWriter-trans c.in_ok-write_file.ensures.same c.in_err-write_number.ensures.same)))))

pub returns-in_err-write_number-clause-err : goal.returns-in_err-write_number-clause-err
returns-in_err-write_number-clause-err g c =
    let p = err_from_is_err_and c.from_residual-in_err-write_number.result c.from_residual-in_err-write_number.ensures.1 in
    rw (p.1, p.2) (LineRefused-bytes (g.W.Writer.meaning c.write_number.new.w) c.args.old.line c.args.new.line (IsSameWriter-trans c.in_ok-write_discriminator.ensures.same (IsSameWriter-trans c.in_ok-write_mark.ensures.same (IsSameWriter-trans c.in_ok-write_mark-2.ensures.same (IsSameWriter-trans c.in_ok-write_mark-3.ensures.same (IsSameWriter-trans c.in_ok-write_mark-4.ensures.same c.in_ok-write_file.ensures.same))))) c.in_err-write_number.field-0.0 c.in_err-write_number.ensures.err)

pub returns-in_err-write_number-2-clause-same : goal.returns-in_err-write_number-2-clause-same
returns-in_err-write_number-2-clause-same g c = IsSameWriter-trans c.in_ok-write_discriminator.ensures.same (IsSameWriter-trans c.in_ok-write_mark.ensures.same (IsSameWriter-trans c.in_ok-write_mark-2.ensures.same (IsSameWriter-trans c.in_ok-write_mark-3.ensures.same (IsSameWriter-trans c.in_ok-write_mark-4.ensures.same (IsSameWriter-trans c.in_ok-write_file.ensures.same (IsSameWriter-trans c.in_ok-write_number.ensures.same c.in_err-write_number-2.ensures.same))))))

pub returns-in_err-write_number-2-clause-err : goal.returns-in_err-write_number-2-clause-err
returns-in_err-write_number-2-clause-err g c =
    let p = err_from_is_err_and c.from_residual-in_err-write_number-2.result c.from_residual-in_err-write_number-2.ensures.1 in
    rw (p.1, p.2) (LineRefused-bytes (g.W.Writer.meaning c.write_number-2.new.w) c.args.old.line c.args.new.line (IsSameWriter-trans c.in_ok-write_discriminator.ensures.same (IsSameWriter-trans c.in_ok-write_mark.ensures.same (IsSameWriter-trans c.in_ok-write_mark-2.ensures.same (IsSameWriter-trans c.in_ok-write_mark-3.ensures.same (IsSameWriter-trans c.in_ok-write_mark-4.ensures.same (IsSameWriter-trans c.in_ok-write_file.ensures.same c.in_ok-write_number.ensures.same)))))) c.in_err-write_number-2.field-0.0 c.in_err-write_number-2.ensures.err)

pub returns-in_err-write_line-clause-same : goal.returns-in_err-write_line-clause-same
returns-in_err-write_line-clause-same g c = IsSameWriter-trans c.in_ok-write_discriminator.ensures.same (IsSameWriter-trans c.in_ok-write_mark.ensures.same (IsSameWriter-trans c.in_ok-write_mark-2.ensures.same (IsSameWriter-trans c.in_ok-write_mark-3.ensures.same (IsSameWriter-trans c.in_ok-write_mark-4.ensures.same (IsSameWriter-trans c.in_ok-write_file.ensures.same (IsSameWriter-trans c.in_ok-write_number.ensures.same (IsSameWriter-trans c.in_ok-write_number-2.ensures.same c.in_err-write_line.ensures.same)))))))

pub returns-in_err-write_line-clause-err : goal.returns-in_err-write_line-clause-err
returns-in_err-write_line-clause-err g c =
    let p = err_from_is_err_and c.from_residual-in_err-write_line.result c.from_residual-in_err-write_line.ensures.1 in
    rw (p.1, p.2) (LineRefused-after (g.W.Writer.meaning c.write_line.new.w) c.args.old.line c.args.new.line (IsSameWriter-trans c.in_ok-write_discriminator.ensures.same (IsSameWriter-trans c.in_ok-write_mark.ensures.same (IsSameWriter-trans c.in_ok-write_mark-2.ensures.same (IsSameWriter-trans c.in_ok-write_mark-3.ensures.same (IsSameWriter-trans c.in_ok-write_mark-4.ensures.same (IsSameWriter-trans c.in_ok-write_file.ensures.same (IsSameWriter-trans c.in_ok-write_number.ensures.same c.in_ok-write_number-2.ensures.same))))))) c.in_err-write_line.field-0.0 c.in_err-write_line.ensures.err)

pub returns-in_err-write_number-3-clause-same : goal.returns-in_err-write_number-3-clause-same
returns-in_err-write_number-3-clause-same g c = IsSameWriter-trans c.in_ok-write_discriminator.ensures.same (IsSameWriter-trans c.in_ok-write_mark.ensures.same (IsSameWriter-trans c.in_ok-write_mark-2.ensures.same (IsSameWriter-trans c.in_ok-write_mark-3.ensures.same (IsSameWriter-trans c.in_ok-write_mark-4.ensures.same (IsSameWriter-trans c.in_ok-write_file.ensures.same (IsSameWriter-trans c.in_ok-write_number.ensures.same (IsSameWriter-trans c.in_ok-write_number-2.ensures.same (IsSameWriter-trans c.in_ok-write_line.ensures.same c.in_err-write_number-3.ensures.same))))))))

pub returns-in_err-write_number-3-clause-err : goal.returns-in_err-write_number-3-clause-err
returns-in_err-write_number-3-clause-err g c =
    let p = err_from_is_err_and c.from_residual-in_err-write_number-3.result c.from_residual-in_err-write_number-3.ensures.1 in
    rw (p.1, p.2) (LineRefused-bytes (g.W.Writer.meaning c.write_number-3.new.w) c.args.old.line c.args.new.line (IsSameWriter-trans c.in_ok-write_discriminator.ensures.same (IsSameWriter-trans c.in_ok-write_mark.ensures.same (IsSameWriter-trans c.in_ok-write_mark-2.ensures.same (IsSameWriter-trans c.in_ok-write_mark-3.ensures.same (IsSameWriter-trans c.in_ok-write_mark-4.ensures.same (IsSameWriter-trans c.in_ok-write_file.ensures.same (IsSameWriter-trans c.in_ok-write_number.ensures.same (IsSameWriter-trans c.in_ok-write_number-2.ensures.same c.in_ok-write_line.ensures.same)))))))) c.in_err-write_number-3.field-0.0 c.in_err-write_number-3.ensures.err)

pub returns-clause-same : goal.returns-clause-same
returns-clause-same g c = IsSameWriter-trans c.in_ok-write_discriminator.ensures.same (IsSameWriter-trans c.in_ok-write_mark.ensures.same (IsSameWriter-trans c.in_ok-write_mark-2.ensures.same (IsSameWriter-trans c.in_ok-write_mark-3.ensures.same (IsSameWriter-trans c.in_ok-write_mark-4.ensures.same (IsSameWriter-trans c.in_ok-write_file.ensures.same (IsSameWriter-trans c.in_ok-write_number.ensures.same (IsSameWriter-trans c.in_ok-write_number-2.ensures.same (IsSameWriter-trans c.in_ok-write_line.ensures.same (IsSameWriter-trans c.in_ok-write_number-3.ensures.same c.write_mark-5.ensures.same)))))))))

pub returns-in_err-write_discriminator-clause-ok : goal.returns-in_err-write_discriminator-clause-ok
returns-in_err-write_discriminator-clause-ok g c = rw (err_from_is_err_and c.from_residual.result c.from_residual.ensures.1).1 tt

pub returns-in_err-write_discriminator-clause-line : goal.returns-in_err-write_discriminator-clause-line
returns-in_err-write_discriminator-clause-line g c = rw (err_from_is_err_and c.from_residual.result c.from_residual.ensures.1).1 tt

pub returns-in_err-write_discriminator-clause-ranged : goal.returns-in_err-write_discriminator-clause-ranged
returns-in_err-write_discriminator-clause-ranged g c = rw (err_from_is_err_and c.from_residual.result c.from_residual.ensures.1).1 tt

pub returns-in_err-write_mark-clause-ok : goal.returns-in_err-write_mark-clause-ok
returns-in_err-write_mark-clause-ok g c = rw (err_from_is_err_and c.from_residual-in_err-write_mark.result c.from_residual-in_err-write_mark.ensures.1).1 tt

pub returns-in_err-write_mark-clause-line : goal.returns-in_err-write_mark-clause-line
returns-in_err-write_mark-clause-line g c = rw (err_from_is_err_and c.from_residual-in_err-write_mark.result c.from_residual-in_err-write_mark.ensures.1).1 tt

pub returns-in_err-write_mark-clause-ranged : goal.returns-in_err-write_mark-clause-ranged
returns-in_err-write_mark-clause-ranged g c = rw (err_from_is_err_and c.from_residual-in_err-write_mark.result c.from_residual-in_err-write_mark.ensures.1).1 tt

pub returns-in_err-write_mark-2-clause-ok : goal.returns-in_err-write_mark-2-clause-ok
returns-in_err-write_mark-2-clause-ok g c = rw (err_from_is_err_and c.from_residual-in_err-write_mark-2.result c.from_residual-in_err-write_mark-2.ensures.1).1 tt

pub returns-in_err-write_mark-2-clause-line : goal.returns-in_err-write_mark-2-clause-line
returns-in_err-write_mark-2-clause-line g c = rw (err_from_is_err_and c.from_residual-in_err-write_mark-2.result c.from_residual-in_err-write_mark-2.ensures.1).1 tt

pub returns-in_err-write_mark-2-clause-ranged : goal.returns-in_err-write_mark-2-clause-ranged
returns-in_err-write_mark-2-clause-ranged g c = rw (err_from_is_err_and c.from_residual-in_err-write_mark-2.result c.from_residual-in_err-write_mark-2.ensures.1).1 tt

pub returns-in_err-write_mark-3-clause-ok : goal.returns-in_err-write_mark-3-clause-ok
returns-in_err-write_mark-3-clause-ok g c = rw (err_from_is_err_and c.from_residual-in_err-write_mark-3.result c.from_residual-in_err-write_mark-3.ensures.1).1 tt

pub returns-in_err-write_mark-3-clause-line : goal.returns-in_err-write_mark-3-clause-line
returns-in_err-write_mark-3-clause-line g c = rw (err_from_is_err_and c.from_residual-in_err-write_mark-3.result c.from_residual-in_err-write_mark-3.ensures.1).1 tt

pub returns-in_err-write_mark-3-clause-ranged : goal.returns-in_err-write_mark-3-clause-ranged
returns-in_err-write_mark-3-clause-ranged g c = rw (err_from_is_err_and c.from_residual-in_err-write_mark-3.result c.from_residual-in_err-write_mark-3.ensures.1).1 tt

pub returns-in_err-write_mark-4-clause-ok : goal.returns-in_err-write_mark-4-clause-ok
returns-in_err-write_mark-4-clause-ok g c = rw (err_from_is_err_and c.from_residual-in_err-write_mark-4.result c.from_residual-in_err-write_mark-4.ensures.1).1 tt

pub returns-in_err-write_mark-4-clause-line : goal.returns-in_err-write_mark-4-clause-line
returns-in_err-write_mark-4-clause-line g c = rw (err_from_is_err_and c.from_residual-in_err-write_mark-4.result c.from_residual-in_err-write_mark-4.ensures.1).1 tt

pub returns-in_err-write_mark-4-clause-ranged : goal.returns-in_err-write_mark-4-clause-ranged
returns-in_err-write_mark-4-clause-ranged g c = rw (err_from_is_err_and c.from_residual-in_err-write_mark-4.result c.from_residual-in_err-write_mark-4.ensures.1).1 tt

pub returns-in_err-write_file-clause-ok : goal.returns-in_err-write_file-clause-ok
returns-in_err-write_file-clause-ok g c = rw (err_from_is_err_and c.from_residual-in_err-write_file.result c.from_residual-in_err-write_file.ensures.1).1 tt

pub returns-in_err-write_file-clause-line : goal.returns-in_err-write_file-clause-line
returns-in_err-write_file-clause-line g c = rw (err_from_is_err_and c.from_residual-in_err-write_file.result c.from_residual-in_err-write_file.ensures.1).1 tt

pub returns-in_err-write_file-clause-ranged : goal.returns-in_err-write_file-clause-ranged
returns-in_err-write_file-clause-ranged g c = rw (err_from_is_err_and c.from_residual-in_err-write_file.result c.from_residual-in_err-write_file.ensures.1).1 tt

pub returns-in_err-write_number-clause-ok : goal.returns-in_err-write_number-clause-ok
returns-in_err-write_number-clause-ok g c = rw (err_from_is_err_and c.from_residual-in_err-write_number.result c.from_residual-in_err-write_number.ensures.1).1 tt

pub returns-in_err-write_number-clause-line : goal.returns-in_err-write_number-clause-line
returns-in_err-write_number-clause-line g c = rw (err_from_is_err_and c.from_residual-in_err-write_number.result c.from_residual-in_err-write_number.ensures.1).1 tt

pub returns-in_err-write_number-clause-ranged : goal.returns-in_err-write_number-clause-ranged
returns-in_err-write_number-clause-ranged g c = rw (err_from_is_err_and c.from_residual-in_err-write_number.result c.from_residual-in_err-write_number.ensures.1).1 tt

pub returns-in_err-write_number-2-clause-ok : goal.returns-in_err-write_number-2-clause-ok
returns-in_err-write_number-2-clause-ok g c = rw (err_from_is_err_and c.from_residual-in_err-write_number-2.result c.from_residual-in_err-write_number-2.ensures.1).1 tt

pub returns-in_err-write_number-2-clause-line : goal.returns-in_err-write_number-2-clause-line
returns-in_err-write_number-2-clause-line g c = rw (err_from_is_err_and c.from_residual-in_err-write_number-2.result c.from_residual-in_err-write_number-2.ensures.1).1 tt

pub returns-in_err-write_number-2-clause-ranged : goal.returns-in_err-write_number-2-clause-ranged
returns-in_err-write_number-2-clause-ranged g c = rw (err_from_is_err_and c.from_residual-in_err-write_number-2.result c.from_residual-in_err-write_number-2.ensures.1).1 tt

pub returns-in_err-write_line-clause-ok : goal.returns-in_err-write_line-clause-ok
returns-in_err-write_line-clause-ok g c = rw (err_from_is_err_and c.from_residual-in_err-write_line.result c.from_residual-in_err-write_line.ensures.1).1 tt

pub returns-in_err-write_line-clause-line : goal.returns-in_err-write_line-clause-line
returns-in_err-write_line-clause-line g c = rw (err_from_is_err_and c.from_residual-in_err-write_line.result c.from_residual-in_err-write_line.ensures.1).1 tt

pub returns-in_err-write_line-clause-ranged : goal.returns-in_err-write_line-clause-ranged
returns-in_err-write_line-clause-ranged g c = rw (err_from_is_err_and c.from_residual-in_err-write_line.result c.from_residual-in_err-write_line.ensures.1).1 tt

pub returns-in_err-write_number-3-clause-ok : goal.returns-in_err-write_number-3-clause-ok
returns-in_err-write_number-3-clause-ok g c = rw (err_from_is_err_and c.from_residual-in_err-write_number-3.result c.from_residual-in_err-write_number-3.ensures.1).1 tt

pub returns-in_err-write_number-3-clause-line : goal.returns-in_err-write_number-3-clause-line
returns-in_err-write_number-3-clause-line g c = rw (err_from_is_err_and c.from_residual-in_err-write_number-3.result c.from_residual-in_err-write_number-3.ensures.1).1 tt

pub returns-in_err-write_number-3-clause-ranged : goal.returns-in_err-write_number-3-clause-ranged
returns-in_err-write_number-3-clause-ranged g c = rw (err_from_is_err_and c.from_residual-in_err-write_number-3.result c.from_residual-in_err-write_number-3.ensures.1).1 tt
