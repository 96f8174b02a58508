use Rattle.std.proofs.Common.{refl, drop, arith}
use Rattle.std.proofs.lemmas.Result.{err_from_is_err_and}
use Rattle.dw_base.specs.Numbers.{word_of}
use Rattle.dw_writer.specs.Meaning.{IsSameWriter}
use Rattle.dw_writer.proofs.Outcomes.{OnOk-map}
use Rattle.dw_writer.proofs.Steps.{IsSameWriter-trans, Adds-appends, Appends-then}
use Rattle.dw_line.specs.Files.{old_columns}
use Rattle.dw_line.proofs.Steps.{Adds-byte}
use Rattle.dw_line.proofs.TableSteps.{names_refused, files_refused, entries_sound}
use Rattle.dw_line.proofs.FrontSteps.{Adds-front, AddsSome-front, Front-either, Front-then}
use Rattle.dw_line.proofs.header.write_old_tables.Goals as goal

pub returns-in_err-write_names-clause-err : goal.returns-in_err-write_names-clause-err
returns-in_err-write_names-clause-err g c =
    let p = err_from_is_err_and c.from_residual.result c.from_residual.ensures.1 in
    let refused = rw c.listed_directories-listed.ensures at c.in_err-write_names.ensures.err in
    let same : IsSameWriter (g.W.Writer.meaning c.args.w.now) (g.W.Writer.meaning c.args.w.now) = record { order = refl; kind = refl; faults = omega arith } in
    rw (p.1, p.2)
    (names_refused (word_of c.args.format) c.args.strings.now c.args.line_strings.now (g.W.Writer.meaning c.args.w.now).is_plain (drop 1 c.args.directories.now) old_columns c.args.files.now
    (g.W.Writer.meaning c.write_names.new.w) _ refl same c.in_err-write_names.field-0.0 refused)

pub returns-in_err-write_files-clause-err : goal.returns-in_err-write_files-clause-err
returns-in_err-write_files-clause-err g c =
    let p = err_from_is_err_and c.from_residual-in_err-write_files.result c.from_residual-in_err-write_files.ensures.1 in
    let refused = rw c.old-columns.ensures at c.in_err-write_files.ensures.err in
    let same = IsSameWriter-trans c.in_ok-write_names.ensures.same c.in_ok-write_u8.ensures.same in
    rw (p.1, p.2)
    (files_refused (word_of c.args.format) c.args.strings.now c.args.line_strings.now (g.W.Writer.meaning c.args.w.now).is_plain (drop 1 c.args.directories.now) old_columns c.args.files.now
    (g.W.Writer.meaning c.write_files.new.w) _ same.kind same c.in_err-write_files.field-0.0 refused)

pub returns-clause-ok : goal.returns-clause-ok
returns-clause-ok g c =
    let names = rw c.listed_directories-listed.ensures at c.in_ok-write_names.ensures.ok in
    let files = rw c.old-columns.ensures at c.in_ok-write_files.ensures.ok in
    OnOk-map c.write_u8-2.result c.write_u8-2.ensures.ok
    (λ zero. Appends-then names (Appends-then (Adds-appends (Adds-byte 0 (omega arith) c.in_ok-write_u8.ensures.ok)) (Appends-then files (Adds-appends (Adds-byte 0 (omega arith) zero)))))

pub returns-clause-sound : goal.returns-clause-sound
returns-clause-sound g c =
    let names = rw c.listed_directories-listed.ensures at c.in_ok-write_names.ensures.sound in
    let files = rw c.old-columns.ensures at c.in_ok-write_files.ensures.sound in
    let same = IsSameWriter-trans c.in_ok-write_names.ensures.same c.in_ok-write_u8.ensures.same in
    OnOk-map c.write_u8-2.result c.write_u8-2.ensures.ok
    (λ _. entries_sound (word_of c.args.format) c.args.strings.now c.args.line_strings.now (g.W.Writer.meaning c.args.w.now).is_plain (drop 1 c.args.directories.now) old_columns c.args.files.now
    _ _ refl same.kind names files)

pub returns-in_err-write_names-clause-front : goal.returns-in_err-write_names-clause-front
returns-in_err-write_names-clause-front g c = c.in_err-write_names.ensures.front

pub returns-in_err-write_u8-clause-front : goal.returns-in_err-write_u8-clause-front
returns-in_err-write_u8-clause-front g c = Front-then c.in_ok-write_names.ensures.front (AddsSome-front c.in_err-write_u8.ensures.partly)

pub returns-in_err-write_files-clause-front : goal.returns-in_err-write_files-clause-front
returns-in_err-write_files-clause-front g c = Front-then c.in_ok-write_names.ensures.front
    (Front-then (Adds-front c.in_ok-write_u8.ensures.ok) c.in_err-write_files.ensures.front)

pub returns-clause-front : goal.returns-clause-front
returns-clause-front g c = Front-then c.in_ok-write_names.ensures.front
    (Front-then (Adds-front c.in_ok-write_u8.ensures.ok)
    (Front-then c.in_ok-write_files.ensures.front
    (Front-either _ _ c.write_u8-2.result c.write_u8-2.ensures.ok c.write_u8-2.ensures.partly)))

pub returns-in_err-write_names-clause-same : goal.returns-in_err-write_names-clause-same
returns-in_err-write_names-clause-same g c = c.in_err-write_names.ensures.same

pub returns-in_err-write_u8-clause-same : goal.returns-in_err-write_u8-clause-same
returns-in_err-write_u8-clause-same g c = IsSameWriter-trans c.in_ok-write_names.ensures.same c.in_err-write_u8.ensures.same

pub returns-in_err-write_files-clause-same : goal.returns-in_err-write_files-clause-same
returns-in_err-write_files-clause-same g c = IsSameWriter-trans c.in_ok-write_names.ensures.same (IsSameWriter-trans c.in_ok-write_u8.ensures.same c.in_err-write_files.ensures.same)

pub returns-clause-same : goal.returns-clause-same
returns-clause-same g c = IsSameWriter-trans c.in_ok-write_names.ensures.same (IsSameWriter-trans c.in_ok-write_u8.ensures.same (IsSameWriter-trans c.in_ok-write_files.ensures.same c.write_u8-2.ensures.same))

pub returns-in_err-write_names-clause-ok : goal.returns-in_err-write_names-clause-ok
returns-in_err-write_names-clause-ok g c = rw (err_from_is_err_and c.from_residual.result c.from_residual.ensures.1).1 tt

pub returns-in_err-write_names-clause-sound : goal.returns-in_err-write_names-clause-sound
returns-in_err-write_names-clause-sound g c = rw (err_from_is_err_and c.from_residual.result c.from_residual.ensures.1).1 tt

pub returns-in_err-write_u8-clause-ok : goal.returns-in_err-write_u8-clause-ok
returns-in_err-write_u8-clause-ok g c = rw (err_from_is_err_and c.from_residual-in_err-write_u8.result c.from_residual-in_err-write_u8.ensures.1).1 tt

pub returns-in_err-write_u8-clause-sound : goal.returns-in_err-write_u8-clause-sound
returns-in_err-write_u8-clause-sound g c = rw (err_from_is_err_and c.from_residual-in_err-write_u8.result c.from_residual-in_err-write_u8.ensures.1).1 tt

pub returns-in_err-write_files-clause-ok : goal.returns-in_err-write_files-clause-ok
returns-in_err-write_files-clause-ok g c = rw (err_from_is_err_and c.from_residual-in_err-write_files.result c.from_residual-in_err-write_files.ensures.1).1 tt

pub returns-in_err-write_files-clause-sound : goal.returns-in_err-write_files-clause-sound
returns-in_err-write_files-clause-sound g c = rw (err_from_is_err_and c.from_residual-in_err-write_files.result c.from_residual-in_err-write_files.ensures.1).1 tt
