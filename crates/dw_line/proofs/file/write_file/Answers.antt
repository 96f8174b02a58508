use Rattle.dw_writer.proofs.Outcomes.{OnOk-map, IfErr-map}
use Rattle.dw_writer.proofs.Steps.{IsSameWriter-trans, Adds-appends, Appends-then}
use Rattle.dw_line.proofs.FrontSteps.{Front-then}
use Rattle.std.proofs.lemmas.Result.{err_from_is_err_and}
use Rattle.dw_base.specs.Numbers.{word_of}
use Rattle.dw_line.specs.Files.{file_fails}
use Rattle.dw_line.proofs.PartSteps.{bytes_refused}
use Rattle.dw_line.proofs.RefusalSteps.{file_name_refused, file_source_refused, file_sound}
use Rattle.dw_line.proofs.file.write_file.Goals as goal

pub returns-clause-ok : goal.returns-clause-ok
returns-clause-ok g c =
    let source = rw c.is_some.ensures at c.write_source.ensures.ok in
    OnOk-map c.write_source.result source
    (λ a. Appends-then c.in_ok-write_name.ensures.ok (Appends-then (Adds-appends c.in_ok-write_file_numbers.ensures.ok) a))

pub returns-in_err-write_name-clause-front : goal.returns-in_err-write_name-clause-front
returns-in_err-write_name-clause-front g c = c.in_err-write_name.ensures.front

pub returns-in_err-write_file_numbers-clause-front : goal.returns-in_err-write_file_numbers-clause-front
returns-in_err-write_file_numbers-clause-front g c = Front-then c.in_ok-write_name.ensures.front c.in_err-write_file_numbers.ensures.front

pub returns-clause-front : goal.returns-clause-front
returns-clause-front g c = Front-then c.in_ok-write_name.ensures.front
    (Front-then c.in_ok-write_file_numbers.ensures.front c.write_source.ensures.front)

pub returns-in_err-write_name-clause-same : goal.returns-in_err-write_name-clause-same
returns-in_err-write_name-clause-same g c = c.in_err-write_name.ensures.same

pub returns-in_err-write_file_numbers-clause-same : goal.returns-in_err-write_file_numbers-clause-same
returns-in_err-write_file_numbers-clause-same g c = IsSameWriter-trans c.in_ok-write_name.ensures.same c.in_err-write_file_numbers.ensures.same

pub returns-clause-same : goal.returns-clause-same
returns-clause-same g c = IsSameWriter-trans c.in_ok-write_name.ensures.same (IsSameWriter-trans c.in_ok-write_file_numbers.ensures.same c.write_source.ensures.same)

pub returns-in_err-write_name-clause-err : goal.returns-in_err-write_name-clause-err
returns-in_err-write_name-clause-err g c =
    let p = err_from_is_err_and c.from_residual.result c.from_residual.ensures.1 in
    rw (p.1, p.2)
    (file_name_refused (word_of c.args.format) c.args.strings.now c.args.line_strings.now c.args.columns c.args.file.now (g.W.Writer.meaning c.args.w.now) (g.W.Writer.meaning c.write_name.new.w)
    c.in_err-write_name.field-0.0 c.in_err-write_name.ensures.err)

pub returns-in_err-write_file_numbers-clause-err : goal.returns-in_err-write_file_numbers-clause-err
returns-in_err-write_file_numbers-clause-err g c =
    let p = err_from_is_err_and c.from_residual-in_err-write_file_numbers.result c.from_residual-in_err-write_file_numbers.ensures.1 in
    rw (p.1, p.2)
    (bytes_refused (g.W.Writer.meaning c.write_file_numbers.new.w) (file_fails (word_of c.args.format) c.args.strings.now c.args.line_strings.now (g.W.Writer.meaning c.args.w.now).is_plain c.args.columns c.args.file.now)
    c.in_ok-write_name.ensures.same c.in_err-write_file_numbers.field-0.0 c.in_err-write_file_numbers.ensures.err)

pub returns-clause-err : goal.returns-clause-err
returns-clause-err g c =
    let same = IsSameWriter-trans c.in_ok-write_name.ensures.same c.in_ok-write_file_numbers.ensures.same in
    let refused = rw c.is_some.ensures at c.write_source.ensures.err in
    IfErr-map c.write_source.result refused
    (file_source_refused (word_of c.args.format) c.args.strings.now c.args.line_strings.now c.args.columns c.args.file.now (g.W.Writer.meaning c.write_source.new.w) same)

pub returns-clause-sound : goal.returns-clause-sound
returns-clause-sound g c =
    let same = IsSameWriter-trans c.in_ok-write_name.ensures.same c.in_ok-write_file_numbers.ensures.same in
    let sound = rw c.is_some.ensures at c.write_source.ensures.sound in
    OnOk-map c.write_source.result sound
    (file_sound (word_of c.args.format) c.args.strings.now c.args.line_strings.now c.args.columns c.args.file.now same c.in_ok-write_name.ensures.sound)

pub returns-in_err-write_name-clause-ok : goal.returns-in_err-write_name-clause-ok
returns-in_err-write_name-clause-ok g c = rw (err_from_is_err_and c.from_residual.result c.from_residual.ensures.1).1 tt

pub returns-in_err-write_name-clause-sound : goal.returns-in_err-write_name-clause-sound
returns-in_err-write_name-clause-sound g c = rw (err_from_is_err_and c.from_residual.result c.from_residual.ensures.1).1 tt

pub returns-in_err-write_file_numbers-clause-ok : goal.returns-in_err-write_file_numbers-clause-ok
returns-in_err-write_file_numbers-clause-ok g c = rw (err_from_is_err_and c.from_residual-in_err-write_file_numbers.result c.from_residual-in_err-write_file_numbers.ensures.1).1 tt

pub returns-in_err-write_file_numbers-clause-sound : goal.returns-in_err-write_file_numbers-clause-sound
returns-in_err-write_file_numbers-clause-sound g c = rw (err_from_is_err_and c.from_residual-in_err-write_file_numbers.result c.from_residual-in_err-write_file_numbers.ensures.1).1 tt
