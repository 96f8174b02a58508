use Rattle.std.proofs.Common.{inl, inr}
use Rattle.std.proofs.lemmas.Result.{err_from_is_err_and}
use Rattle.dw_writer.proofs.Outcomes.{IfErr-map, OnOk-always}
use Rattle.dw_tree.specs.Causes.{Is}
use Rattle.dw_tree.proofs.Faults.{bytes_because}
use Rattle.dw_dwarf.specs.Valid.{programs_fail}
use Rattle.dw_dwarf.proofs.RestSections.{programs_because}
use Rattle.dw_dwarf.proofs.rest.write_rest.Goals as goal

pub returns-in_err-write_line_programs-clause-err : goal.returns-in_err-write_line_programs-clause-err
returns-in_err-write_line_programs-clause-err g c =
    let meaning = g.W.Writer.meaning in
    let old = c.args.sections.now in
    let new = record old { debug_line = c.write_line_programs.new.w } in
    let p = err_from_is_err_and c.from_residual.result c.from_residual.ensures.1 in
    rw (p.1, p.2)
    (programs_because meaning old new (programs_fail c.args.line_strings.now c.args.strings.now (meaning old.debug_line.0).is_plain c.args.programs.now) c.in_err-write_line_programs.field-0.0 c.in_err-write_line_programs.ensures.err)

pub returns-in_err-write-clause-err : goal.returns-in_err-write-clause-err
returns-in_err-write-clause-err g c =
    let meaning = g.W.Writer.meaning in
    let old = c.args.sections.now in
    let p = err_from_is_err_and c.from_residual-in_err-write.result c.from_residual-in_err-write.ensures.1 in
    rw (p.1, p.2)
    (bytes_because (Is (programs_fail c.args.line_strings.now c.args.strings.now (meaning old.debug_line.0).is_plain c.args.programs.now)) (meaning old.debug_line_str.0) (meaning c.write.new.w.0) (λ r. inr (inl r)) c.in_err-write.field-0.0 c.in_err-write.ensures.err)

pub returns-clause-err : goal.returns-clause-err
returns-clause-err g c =
    let meaning = g.W.Writer.meaning in
    let old = c.args.sections.now in
    IfErr-map c.write-2.result c.write-2.ensures.err
    (bytes_because (Is (programs_fail c.args.line_strings.now c.args.strings.now (meaning old.debug_line.0).is_plain c.args.programs.now)) (meaning old.debug_str.0) (meaning c.write-2.new.w.0) (λ r. inr (inr r)))

pub returns-in_err-write_line_programs-clause-lines : goal.returns-in_err-write_line_programs-clause-lines
returns-in_err-write_line_programs-clause-lines g c = rw (err_from_is_err_and c.from_residual.result c.from_residual.ensures.1).1 tt

pub returns-in_err-write_line_programs-clause-strings : goal.returns-in_err-write_line_programs-clause-strings
returns-in_err-write_line_programs-clause-strings g c = rw (err_from_is_err_and c.from_residual.result c.from_residual.ensures.1).1 tt

pub returns-in_err-write_line_programs-clause-sound : goal.returns-in_err-write_line_programs-clause-sound
returns-in_err-write_line_programs-clause-sound g c = rw (err_from_is_err_and c.from_residual.result c.from_residual.ensures.1).1 tt

pub returns-in_err-write-clause-lines : goal.returns-in_err-write-clause-lines
returns-in_err-write-clause-lines g c = rw (err_from_is_err_and c.from_residual-in_err-write.result c.from_residual-in_err-write.ensures.1).1 tt

pub returns-in_err-write-clause-strings : goal.returns-in_err-write-clause-strings
returns-in_err-write-clause-strings g c = rw (err_from_is_err_and c.from_residual-in_err-write.result c.from_residual-in_err-write.ensures.1).1 tt

pub returns-in_err-write-clause-sound : goal.returns-in_err-write-clause-sound
returns-in_err-write-clause-sound g c = rw (err_from_is_err_and c.from_residual-in_err-write.result c.from_residual-in_err-write.ensures.1).1 tt

pub returns-clause-lines : goal.returns-clause-lines
returns-clause-lines g c = OnOk-always c.write-2.result c.in_ok-write_line_programs.ensures.ok

pub returns-clause-sound : goal.returns-clause-sound
returns-clause-sound g c = OnOk-always c.write-2.result c.in_ok-write_line_programs.ensures.sound
