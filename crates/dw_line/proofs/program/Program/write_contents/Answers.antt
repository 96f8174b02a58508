use Rattle.std.proofs.Common.{subst, IsFalse}
use Rattle.dw_writer.specs.Meaning.{Appends}
use Rattle.dw_writer.proofs.Outcomes.{OnOk-map, IfErr-map}
use Rattle.dw_writer.proofs.Steps.{Appends-then, IsSameWriter-trans}
use Rattle.dw_line.specs.Headers.{header_size, header_text, header_fails}
use Rattle.dw_line.specs.LineRows.{written_header}
use Rattle.dw_line.specs.ProgramTexts.{program_sequences, HeaderIsWide}
use Rattle.dw_line.specs.SequenceTexts.{AreBuilt}
use Rattle.dw_line.proofs.FrontSteps.{Front-then}
use Rattle.std.proofs.lemmas.Result.{err_from_is_err_and}
use Rattle.dw_base.specs.declared.error.Error.{Error}
use Rattle.dw_line.specs.Parts.{Refused}
use Rattle.dw_line.proofs.RefusalSteps.{header_refused, sequences_refused_after, contents_sound}
use Rattle.dw_line.proofs.program.Program.write_contents.Goals as goal

pub returns-clause-ok : goal.returns-clause-ok
returns-clause-ok g c =
    let listed = rw (c.as_slice-directories.ensures.keys, c.as_slice-files.ensures.keys) at c.in_ok-write_header.ensures.ok in
    let header = subst (λ q. Appends (g.W.Writer.meaning c.args.w.now) (g.W.Writer.meaning c.write_header.new.w) (header_size q.encoding q.line_encoding q.directories q.files)
    (header_text c.args.strings.now c.args.line_strings.now q.encoding q.line_encoding q.directories q.files)) c.self.view_is listed in
    OnOk-map c.write_sequences.result c.write_sequences.ensures.ok (λ a. Appends-then header a)

pub returns-clause-built : goal.returns-clause-built
returns-clause-built g c =
    OnOk-map c.write_sequences.result c.write_sequences.ensures.built
    (λ b. subst (λ k. AreBuilt (written_header k c.args.self.now.line_encoding) (program_sequences c.args.self.now)) c.in_ok-write_header.ensures.same.order b)

pub returns-clause-wide : goal.returns-clause-wide
returns-clause-wide g c =
    let big = (g.W.Writer.meaning c.args.w.now).is_big in
    let listed = rw (c.as_slice-directories.ensures.keys, c.as_slice-files.ensures.keys) at c.in_ok-write_header.ensures.ok in
    OnOk-map c.write_sequences.result c.write_sequences.ensures.ok
    (λ _. subst (HeaderIsWide c.args.strings.now c.args.line_strings.now big) c.self.view_is (λ l xs e. listed.wide big l xs e))

pub returns-clause-front : goal.returns-clause-front
returns-clause-front g c = λ tidy. Front-then (c.in_ok-write_header.ensures.front tidy) c.write_sequences.ensures.front

pub returns-in_err-write_header-clause-err : goal.returns-in_err-write_header-clause-err
returns-in_err-write_header-clause-err g c =
    let p = err_from_is_err_and c.from_residual.result c.from_residual.ensures.1 in
    let a = g.W.Writer.meaning c.args.w.now in
    let b = g.W.Writer.meaning c.write_header.new.w in
    let listed = rw (c.as_slice-directories.ensures.keys, c.as_slice-files.ensures.keys) at c.in_err-write_header.ensures.err in
    let refused = subst (λ q. Refused a b (header_fails c.args.strings.now c.args.line_strings.now a.is_plain q.encoding q.line_encoding q.directories q.files) c.in_err-write_header.field-0.0) c.self.view_is listed in
    rw (p.1, p.2) (header_refused c.args.strings.now c.args.line_strings.now c.args.self.now a b c.in_err-write_header.field-0.0 refused)

pub returns-in_err-write_header-clause-same : goal.returns-in_err-write_header-clause-same
returns-in_err-write_header-clause-same g c = c.in_err-write_header.ensures.same

pub returns-in_err-write_header-clause-front : goal.returns-in_err-write_header-clause-front
returns-in_err-write_header-clause-front g c = c.in_err-write_header.ensures.front

pub returns-clause-err : goal.returns-clause-err
returns-clause-err g c =
    IfErr-map c.write_sequences.result c.write_sequences.ensures.err
    (sequences_refused_after c.args.strings.now c.args.line_strings.now c.args.self.now (g.W.Writer.meaning c.write_sequences.new.w) c.in_ok-write_header.ensures.same)

pub returns-clause-sound : goal.returns-clause-sound
returns-clause-sound g c =
    let plain = (g.W.Writer.meaning c.args.w.now).is_plain in
    let listed = rw (c.as_slice-directories.ensures.keys, c.as_slice-files.ensures.keys) at c.in_ok-write_header.ensures.sound in
    let header = subst (λ q. (e : Error) → IsFalse (header_fails c.args.strings.now c.args.line_strings.now plain q.encoding q.line_encoding q.directories q.files e)) c.self.view_is listed in
    OnOk-map c.write_sequences.result c.write_sequences.ensures.sound
    (contents_sound c.args.strings.now c.args.line_strings.now c.args.self.now c.in_ok-write_header.ensures.same header)

pub returns-clause-same : goal.returns-clause-same
returns-clause-same g c = IsSameWriter-trans c.in_ok-write_header.ensures.same c.write_sequences.ensures.same

pub returns-in_err-write_header-clause-ok : goal.returns-in_err-write_header-clause-ok
returns-in_err-write_header-clause-ok g c = rw (err_from_is_err_and c.from_residual.result c.from_residual.ensures.1).1 tt

pub returns-in_err-write_header-clause-sound : goal.returns-in_err-write_header-clause-sound
returns-in_err-write_header-clause-sound g c = rw (err_from_is_err_and c.from_residual.result c.from_residual.ensures.1).1 tt

pub returns-in_err-write_header-clause-built : goal.returns-in_err-write_header-clause-built
returns-in_err-write_header-clause-built g c = rw (err_from_is_err_and c.from_residual.result c.from_residual.ensures.1).1 tt

pub returns-in_err-write_header-clause-wide : goal.returns-in_err-write_header-clause-wide
returns-in_err-write_header-clause-wide g c = rw (err_from_is_err_and c.from_residual.result c.from_residual.ensures.1).1 tt
