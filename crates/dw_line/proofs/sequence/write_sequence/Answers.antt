use Rattle.std.proofs.Common.{◌≡◌, ◌<◌, ◌^◌, ◌%◌, subst, Some, None, IsTrue, refl, arith}
use Rattle.dw_writer.proofs.Outcomes.{OnOk-map, IfErr-map}
use Rattle.dw_line.specs.LineRows.{is_end_in_order, last_offset, are_in_order, written_header, built_sequence}
use Rattle.dw_line.proofs.Steps.{Adds-none}
use Rattle.dw_line.proofs.SequenceSteps.{sequence_added, rows_after}
use Rattle.dw_line.proofs.FrontSteps.{Front-then}
use Rattle.dw_writer.proofs.Steps.{IsSameWriter-trans}
use Rattle.std.proofs.lemmas.Result.{err_from_is_err_and}
use Rattle.dw_line.specs.RawRows.{row_before}
use Rattle.dw_line.specs.SequenceTexts.{sequence_fails}
use Rattle.dw_line.proofs.PartSteps.{bytes_refused}
use Rattle.dw_line.proofs.RefusalSteps.{sequence_address_refused, sequence_rows_refused, sequence_sound}
use Rattle.dw_line.proofs.sequence.write_sequence.Goals as goal

pub returns-in-Some-clause-ok : goal.returns-in-Some-clause-ok
returns-in-Some-clause-ok g c =
    rw c.in-Some.is
    (OnOk-map c.write_end.result c.write_end.ensures.ok
    (λ end. sequence_added c.args.encoding.version c.args.encoding.address_size c.args.line_encoding.minimum_instruction_length c.args.line_encoding.default_is_stmt
    c.before-first.result c.in_ok-last.last c.args.address c.args.rows.now (Some c.in-Some.end)
    c.in_ok-write_set_address.ensures.ok c.in_ok-last.ensures.ok c.before-first.ensures.row c.in_ok-last.ensures.last end))

pub returns-in-None-clause-ok : goal.returns-in-None-clause-ok
returns-in-None-clause-ok g c =
    rw c.in-None.is
    (sequence_added c.args.encoding.version c.args.encoding.address_size c.args.line_encoding.minimum_instruction_length c.args.line_encoding.default_is_stmt
    c.before-first.result c.in_ok-last.last c.args.address c.args.rows.now None
    c.in_ok-write_set_address.ensures.ok c.in_ok-last.ensures.ok c.before-first.ensures.row c.in_ok-last.ensures.last (Adds-none _))

pub returns-in-Some-clause-after : goal.returns-in-Some-clause-after
returns-in-Some-clause-after g c =
    let m = c.args.line_encoding.minimum_instruction_length in
    let h = written_header (g.W.Writer.meaning c.args.w.now).is_big c.args.line_encoding in
    let ended : IsTrue (is_end_in_order m (last_offset c.before-first.result.address_offset c.args.rows.now) (Some c.in-Some.end)) =
    rw c.before-first.ensures.offset (subst (λ e. IsTrue (is_end_in_order m (last_offset 0 c.args.rows.now) e)) c.in-Some.is c.requires.end) in
    let small : c.in-Some.end < 2 ^ 64 = omega arith in
    let start : c.before-first.result.address_offset % m ≡ 0 = rw c.before-first.ensures.offset (omega arith) in
    let order : IsTrue (are_in_order m c.before-first.result.address_offset c.args.rows.now) = rw c.before-first.ensures.offset c.requires.order in
    let after = rows_after h c.args.encoding.version c.requires.positive c.before-first.result c.args.rows.now (Some c.in-Some.end) start order ended small c.in_ok-last.ensures.lines c.in_ok-last.ensures.ranged in
    rw (c.in-Some.is, ← c.before-first.ensures.row) (OnOk-map c.write_end.result c.write_end.ensures.ok (λ _. after))

pub returns-in-None-clause-after : goal.returns-in-None-clause-after
returns-in-None-clause-after g c =
    let m = c.args.line_encoding.minimum_instruction_length in
    let h = written_header (g.W.Writer.meaning c.args.w.now).is_big c.args.line_encoding in
    let start : c.before-first.result.address_offset % m ≡ 0 = rw c.before-first.ensures.offset (omega arith) in
    let order : IsTrue (are_in_order m c.before-first.result.address_offset c.args.rows.now) = rw c.before-first.ensures.offset c.requires.order in
    let after = rows_after h c.args.encoding.version c.requires.positive c.before-first.result c.args.rows.now None start order refl tt c.in_ok-last.ensures.lines c.in_ok-last.ensures.ranged in
    rw (c.in-None.is, ← c.before-first.ensures.row) after

pub returns-in_err-write_set_address-clause-front : goal.returns-in_err-write_set_address-clause-front
returns-in_err-write_set_address-clause-front g c = c.in_err-write_set_address.ensures.front

pub returns-in_err-last-clause-front : goal.returns-in_err-last-clause-front
returns-in_err-last-clause-front g c = Front-then c.in_ok-write_set_address.ensures.front c.in_err-last.ensures.front

pub returns-in-Some-clause-front : goal.returns-in-Some-clause-front
returns-in-Some-clause-front g c = Front-then c.in_ok-write_set_address.ensures.front (Front-then c.in_ok-last.ensures.front c.write_end.ensures.front)

pub returns-in-None-clause-front : goal.returns-in-None-clause-front
returns-in-None-clause-front g c = Front-then c.in_ok-write_set_address.ensures.front c.in_ok-last.ensures.front

pub returns-in_err-write_set_address-clause-same : goal.returns-in_err-write_set_address-clause-same
returns-in_err-write_set_address-clause-same g c = c.in_err-write_set_address.ensures.same

pub returns-in_err-last-clause-same : goal.returns-in_err-last-clause-same
returns-in_err-last-clause-same g c = IsSameWriter-trans c.in_ok-write_set_address.ensures.same c.in_err-last.ensures.same

pub returns-in-Some-clause-same : goal.returns-in-Some-clause-same
returns-in-Some-clause-same g c = IsSameWriter-trans c.in_ok-write_set_address.ensures.same (IsSameWriter-trans c.in_ok-last.ensures.same c.write_end.ensures.same)

pub returns-in-None-clause-same : goal.returns-in-None-clause-same
returns-in-None-clause-same g c = IsSameWriter-trans c.in_ok-write_set_address.ensures.same c.in_ok-last.ensures.same

pub returns-in_err-write_set_address-clause-err : goal.returns-in_err-write_set_address-clause-err
returns-in_err-write_set_address-clause-err g c =
    let p = err_from_is_err_and c.from_residual.result c.from_residual.ensures.1 in
    rw (p.1, p.2)
    (sequence_address_refused c.args.encoding.address_size (row_before c.args.line_encoding.default_is_stmt) (built_sequence c.args.encoding.version c.args.address c.args.rows.now c.args.end)
    (g.W.Writer.meaning c.args.w.now) (g.W.Writer.meaning c.write_set_address.new.w) c.in_err-write_set_address.field-0.0 c.in_err-write_set_address.ensures.err)

pub returns-in_err-last-clause-err : goal.returns-in_err-last-clause-err
returns-in_err-last-clause-err g c =
    let p = err_from_is_err_and c.from_residual-in_err-last.result c.from_residual-in_err-last.ensures.1 in
    let refused = rw c.before-first.ensures.row at c.in_err-last.ensures.err in
    rw (p.1, p.2)
    (sequence_rows_refused c.args.encoding.address_size (row_before c.args.line_encoding.default_is_stmt) (built_sequence c.args.encoding.version c.args.address c.args.rows.now c.args.end)
    (g.W.Writer.meaning c.write_rows.new.w) c.in_ok-write_set_address.ensures.same c.in_err-last.field-0.0 refused)

pub returns-in-Some-clause-err : goal.returns-in-Some-clause-err
returns-in-Some-clause-err g c =
    let same = IsSameWriter-trans c.in_ok-write_set_address.ensures.same c.in_ok-last.ensures.same in
    IfErr-map c.write_end.result c.write_end.ensures.err
    (bytes_refused (g.W.Writer.meaning c.write_end.new.w) (sequence_fails (g.W.Writer.meaning c.args.w.now).is_plain c.args.encoding.address_size (row_before c.args.line_encoding.default_is_stmt) (built_sequence c.args.encoding.version c.args.address c.args.rows.now c.args.end)) same)

pub returns-in-Some-clause-sound : goal.returns-in-Some-clause-sound
returns-in-Some-clause-sound g c =
    let lines = rw c.before-first.ensures.row at c.in_ok-last.ensures.lines in
    OnOk-map c.write_end.result c.write_end.ensures.ok
    (λ _. sequence_sound c.args.encoding.address_size (row_before c.args.line_encoding.default_is_stmt) (built_sequence c.args.encoding.version c.args.address c.args.rows.now c.args.end)
    (g.W.Writer.meaning c.args.w.now).is_plain c.in_ok-write_set_address.ensures.sound lines)

pub returns-in-None-clause-sound : goal.returns-in-None-clause-sound
returns-in-None-clause-sound g c =
    let lines = rw c.before-first.ensures.row at c.in_ok-last.ensures.lines in
    sequence_sound c.args.encoding.address_size (row_before c.args.line_encoding.default_is_stmt) (built_sequence c.args.encoding.version c.args.address c.args.rows.now c.args.end)
    (g.W.Writer.meaning c.args.w.now).is_plain c.in_ok-write_set_address.ensures.sound lines

pub returns-in_err-write_set_address-clause-ok : goal.returns-in_err-write_set_address-clause-ok
returns-in_err-write_set_address-clause-ok g c = rw (err_from_is_err_and c.from_residual.result c.from_residual.ensures.1).1 tt

pub returns-in_err-write_set_address-clause-sound : goal.returns-in_err-write_set_address-clause-sound
returns-in_err-write_set_address-clause-sound g c = rw (err_from_is_err_and c.from_residual.result c.from_residual.ensures.1).1 tt

pub returns-in_err-write_set_address-clause-after : goal.returns-in_err-write_set_address-clause-after
returns-in_err-write_set_address-clause-after g c = rw (err_from_is_err_and c.from_residual.result c.from_residual.ensures.1).1 tt

pub returns-in_err-last-clause-ok : goal.returns-in_err-last-clause-ok
returns-in_err-last-clause-ok g c = rw (err_from_is_err_and c.from_residual-in_err-last.result c.from_residual-in_err-last.ensures.1).1 tt

pub returns-in_err-last-clause-sound : goal.returns-in_err-last-clause-sound
returns-in_err-last-clause-sound g c = rw (err_from_is_err_and c.from_residual-in_err-last.result c.from_residual-in_err-last.ensures.1).1 tt

pub returns-in_err-last-clause-after : goal.returns-in_err-last-clause-after
returns-in_err-last-clause-after g c = rw (err_from_is_err_and c.from_residual-in_err-last.result c.from_residual-in_err-last.ensures.1).1 tt

pub returns-in-None-clause-err : goal.returns-in-None-clause-err
returns-in-None-clause-err g c = tt
