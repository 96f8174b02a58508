use Rattle.std.proofs.Common.{◌<◌, ◌≤◌, subst, Bool, length, refl, arith, IsFalse, IsTrue}
use Rattle.std.proofs.lemmas.Result.{err_from_is_err_and}
use Rattle.std.specs.List.{list_any}
use Rattle.dw_base.specs.Numbers.{word_of}
use Rattle.dw_base.specs.declared.error.Error.{Error}
use Rattle.dw_line.specs.Files.{file_size, file_text, file_fails}
use Rattle.dw_line.specs.declared.file.FileEntry.{FileEntry}
use Rattle.dw_line.proofs.PartSteps.{texts_none, texts_step, texts_whole, none_more, none_all, some_at, refused_after}
use Rattle.dw_line.proofs.FrontSteps.{Front-none, Front-then}
use Rattle.dw_line.proofs.file.write_files.Goals as goal

pub loop-file-init : goal.loop-file-init
loop-file-init g c = record { added = texts_none (file_size (word_of c.args.format) c.args.columns) (file_text (word_of c.args.format) c.args.strings.now c.args.line_strings.now c.args.columns) _; sound = λ e. refl; front = Front-none _ }

pub loop-file-preserved : goal.loop-file-preserved
loop-file-preserved g c =
    let f = word_of c.args.format in
    let fails = λ (p : Bool) (n : FileEntry) (e : Error). file_fails f c.args.strings.now c.args.line_strings.now p c.args.columns n e in
    let plain = (g.W.Writer.meaning c.args.w.now).is_plain in
    let below : c.loop-file.file-index < length c.args.files.now = omega arith in
    let here : (e : Error) → IsFalse (fails plain c.file-item.result e) =
    subst (λ k. (e : Error) → IsFalse (fails k c.file-item.result e)) c.loop-file.invariant.added.same.kind c.in_ok-write_file.ensures.sound in
    record {
      added = texts_step (file_size f c.args.columns) (file_text f c.args.strings.now c.args.line_strings.now c.args.columns) c.args.files.now c.loop-file.file-index c.file-item.result below c.file-item.is c.loop-file.invariant.added c.in_ok-write_file.ensures.ok;
      sound = none_more (fails plain) c.args.files.now c.loop-file.file-index c.file-item.result below c.file-item.is c.loop-file.invariant.sound here;
      front = Front-then c.loop-file.invariant.front c.in_ok-write_file.ensures.front;
    }

pub returns-in_err-write_file-clause-err : goal.returns-in_err-write_file-clause-err
returns-in_err-write_file-clause-err g c =
    let fails = λ (p : Bool) (n : FileEntry) (e : Error). file_fails (word_of c.args.format) c.args.strings.now c.args.line_strings.now p c.args.columns n e in
    let plain = (g.W.Writer.meaning c.args.w.now).is_plain in
    let below : c.loop-file.file-index < length c.args.files.now = omega arith in
    let p = err_from_is_err_and c.from_residual.result c.from_residual.ensures.1 in
    let kind = c.loop-file.invariant.added.same.kind in
    rw (p.1, p.2)
    (refused_after (g.W.Writer.meaning c.write_file.new.w) (fails (g.W.Writer.meaning c.loop-file.w).is_plain c.file-item.result) (λ e. list_any (λ n. fails plain n e) c.args.files.now)
    c.loop-file.invariant.added.same (λ e h. some_at (fails plain) c.args.files.now c.loop-file.file-index c.file-item.result below c.file-item.is e (subst (λ k. IsTrue (fails k c.file-item.result e)) kind h))
    c.in_err-write_file.field-0.0 c.in_err-write_file.ensures.err)

pub returns-clause-ok : goal.returns-clause-ok
returns-clause-ok g c =
    let past : length c.args.files.now ≤ c.loop-file.file-index = omega arith in
    texts_whole (file_size (word_of c.args.format) c.args.columns) (file_text (word_of c.args.format) c.args.strings.now c.args.line_strings.now c.args.columns) c.args.files.now c.loop-file.file-index past c.loop-file.invariant.added

pub returns-clause-sound : goal.returns-clause-sound
returns-clause-sound g c =
    let past : length c.args.files.now ≤ c.loop-file.file-index = omega arith in
    none_all (file_fails (word_of c.args.format) c.args.strings.now c.args.line_strings.now (g.W.Writer.meaning c.args.w.now).is_plain c.args.columns) c.args.files.now c.loop-file.file-index past c.loop-file.invariant.sound

pub returns-in_err-write_file-clause-front : goal.returns-in_err-write_file-clause-front
returns-in_err-write_file-clause-front g c = Front-then c.loop-file.invariant.front c.in_err-write_file.ensures.front

pub returns-in_err-write_file-clause-ok : goal.returns-in_err-write_file-clause-ok
returns-in_err-write_file-clause-ok g c = rw (err_from_is_err_and c.from_residual.result c.from_residual.ensures.1).1 tt

pub returns-in_err-write_file-clause-sound : goal.returns-in_err-write_file-clause-sound
returns-in_err-write_file-clause-sound g c = rw (err_from_is_err_and c.from_residual.result c.from_residual.ensures.1).1 tt

pub returns-clause-err : goal.returns-clause-err
returns-clause-err g c = tt
