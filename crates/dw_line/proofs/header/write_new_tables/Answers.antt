use Rattle.std.proofs.lemmas.Result.{err_from_is_err_and}
use Rattle.dw_base.specs.Numbers.{word_of}
use Rattle.dw_writer.proofs.Outcomes.{OnOk-map, IfErr-map}
use Rattle.dw_writer.proofs.Steps.{IsSameWriter-trans, Adds-appends, Appends-then}
use Rattle.dw_line.specs.Files.{columns_of}
use Rattle.dw_line.proofs.TableSteps.{names_refused, files_refused, entries_sound}
use Rattle.dw_line.proofs.FrontSteps.{Front-then}
use Rattle.dw_line.proofs.header.write_new_tables.Goals as goal

pub returns-in_err-write_names-clause-err : goal.returns-in_err-write_names-clause-err
returns-in_err-write_names-clause-err g c =
    let p = err_from_is_err_and c.from_residual-in_err-write_names.result c.from_residual-in_err-write_names.ensures.1 in
    let same = c.in_ok-write_directory_formats.ensures.same in
    rw (p.1, p.2)
    (names_refused (word_of c.args.format) c.args.strings.now c.args.line_strings.now (g.W.Writer.meaning c.args.w.now).is_plain c.args.directories.now (columns_of c.args.files.now) c.args.files.now
    (g.W.Writer.meaning c.write_names.new.w) _ same.kind same c.in_err-write_names.field-0.0 c.in_err-write_names.ensures.err)

pub returns-clause-ok : goal.returns-clause-ok
returns-clause-ok g c =
    let directories = rw c.directory_form_of-directory_form.ensures at c.in_ok-write_directory_formats.ensures.ok in
    let formats = rw (c.of-columns.ensures, c.file_form_of-file_form.ensures) at c.in_ok-write_file_formats.ensures.ok in
    let files = rw c.of-columns.ensures at c.write_files.ensures.ok in
    OnOk-map c.write_files.result files
    (λ a. Appends-then (Adds-appends directories) (Appends-then c.in_ok-write_names.ensures.ok (Appends-then (Adds-appends formats) a)))

pub returns-clause-sound : goal.returns-clause-sound
returns-clause-sound g c =
    let one = c.in_ok-write_directory_formats.ensures.same in
    let two = IsSameWriter-trans one (IsSameWriter-trans c.in_ok-write_names.ensures.same c.in_ok-write_file_formats.ensures.same) in
    let files = rw c.of-columns.ensures at c.write_files.ensures.sound in
    OnOk-map c.write_files.result files
    (λ sound. entries_sound (word_of c.args.format) c.args.strings.now c.args.line_strings.now (g.W.Writer.meaning c.args.w.now).is_plain c.args.directories.now (columns_of c.args.files.now) c.args.files.now
    _ _ one.kind two.kind c.in_ok-write_names.ensures.sound sound)

pub returns-clause-err : goal.returns-clause-err
returns-clause-err g c =
    let same = IsSameWriter-trans c.in_ok-write_directory_formats.ensures.same (IsSameWriter-trans c.in_ok-write_names.ensures.same c.in_ok-write_file_formats.ensures.same) in
    let files = rw c.of-columns.ensures at c.write_files.ensures.err in
    IfErr-map c.write_files.result files
    (λ e h. files_refused (word_of c.args.format) c.args.strings.now c.args.line_strings.now (g.W.Writer.meaning c.args.w.now).is_plain c.args.directories.now (columns_of c.args.files.now) c.args.files.now
    (g.W.Writer.meaning c.write_files.new.w) _ same.kind same e h)

pub returns-in_err-write_directory_formats-clause-front : goal.returns-in_err-write_directory_formats-clause-front
returns-in_err-write_directory_formats-clause-front g c = c.in_err-write_directory_formats.ensures.front

pub returns-in_err-write_names-clause-front : goal.returns-in_err-write_names-clause-front
returns-in_err-write_names-clause-front g c = Front-then c.in_ok-write_directory_formats.ensures.front c.in_err-write_names.ensures.front

pub returns-in_err-write_file_formats-clause-front : goal.returns-in_err-write_file_formats-clause-front
returns-in_err-write_file_formats-clause-front g c = Front-then c.in_ok-write_directory_formats.ensures.front
    (Front-then c.in_ok-write_names.ensures.front c.in_err-write_file_formats.ensures.front)

pub returns-clause-front : goal.returns-clause-front
returns-clause-front g c = Front-then c.in_ok-write_directory_formats.ensures.front
    (Front-then c.in_ok-write_names.ensures.front
    (Front-then c.in_ok-write_file_formats.ensures.front c.write_files.ensures.front))

pub returns-in_err-write_directory_formats-clause-same : goal.returns-in_err-write_directory_formats-clause-same
returns-in_err-write_directory_formats-clause-same g c = c.in_err-write_directory_formats.ensures.same

pub returns-in_err-write_names-clause-same : goal.returns-in_err-write_names-clause-same
returns-in_err-write_names-clause-same g c = IsSameWriter-trans c.in_ok-write_directory_formats.ensures.same c.in_err-write_names.ensures.same

pub returns-in_err-write_file_formats-clause-same : goal.returns-in_err-write_file_formats-clause-same
returns-in_err-write_file_formats-clause-same g c = IsSameWriter-trans c.in_ok-write_directory_formats.ensures.same (IsSameWriter-trans c.in_ok-write_names.ensures.same c.in_err-write_file_formats.ensures.same)

pub returns-clause-same : goal.returns-clause-same
returns-clause-same g c = IsSameWriter-trans c.in_ok-write_directory_formats.ensures.same (IsSameWriter-trans c.in_ok-write_names.ensures.same (IsSameWriter-trans c.in_ok-write_file_formats.ensures.same c.write_files.ensures.same))

pub returns-in_err-write_directory_formats-clause-ok : goal.returns-in_err-write_directory_formats-clause-ok
returns-in_err-write_directory_formats-clause-ok g c = rw (err_from_is_err_and c.from_residual.result c.from_residual.ensures.1).1 tt

pub returns-in_err-write_directory_formats-clause-sound : goal.returns-in_err-write_directory_formats-clause-sound
returns-in_err-write_directory_formats-clause-sound g c = rw (err_from_is_err_and c.from_residual.result c.from_residual.ensures.1).1 tt

pub returns-in_err-write_names-clause-ok : goal.returns-in_err-write_names-clause-ok
returns-in_err-write_names-clause-ok g c = rw (err_from_is_err_and c.from_residual-in_err-write_names.result c.from_residual-in_err-write_names.ensures.1).1 tt

pub returns-in_err-write_names-clause-sound : goal.returns-in_err-write_names-clause-sound
returns-in_err-write_names-clause-sound g c = rw (err_from_is_err_and c.from_residual-in_err-write_names.result c.from_residual-in_err-write_names.ensures.1).1 tt

pub returns-in_err-write_file_formats-clause-ok : goal.returns-in_err-write_file_formats-clause-ok
returns-in_err-write_file_formats-clause-ok g c = rw (err_from_is_err_and c.from_residual-in_err-write_file_formats.result c.from_residual-in_err-write_file_formats.ensures.1).1 tt

pub returns-in_err-write_file_formats-clause-sound : goal.returns-in_err-write_file_formats-clause-sound
returns-in_err-write_file_formats-clause-sound g c = rw (err_from_is_err_and c.from_residual-in_err-write_file_formats.result c.from_residual-in_err-write_file_formats.ensures.1).1 tt
