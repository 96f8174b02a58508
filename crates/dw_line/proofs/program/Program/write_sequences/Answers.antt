use Rattle.std.proofs.Common.{subst, true, false, refl, IsFalse, OnOk}
use Rattle.std.proofs.lemmas.Result.{err_from_is_err_and}
use Rattle.dw_base.specs.declared.error.Error.{Error}
use Rattle.dw_writer.specs.Meaning.{Appends}
use Rattle.dw_writer.proofs.Outcomes.{OnOk-map}
use Rattle.dw_line.specs.LineRows.{written_header}
use Rattle.dw_line.specs.Parts.{Refused}
use Rattle.dw_line.specs.ProgramTexts.{ProgramValue, program_sequences, sequences_size, sequences_text, sequences_fail, open_sequence}
use Rattle.dw_line.specs.Programs.{built_fails, IsBuiltAfter}
use Rattle.dw_line.specs.SequenceTexts.{AreBuilt}
use Rattle.dw_line.proofs.ProgramSteps.{with_open, without_open, sequences_sound, sequences_refused, program_built}
use Rattle.dw_line.proofs.FrontSteps.{Front-then}
use Rattle.dw_writer.proofs.Steps.{IsSameWriter-trans}
use Rattle.dw_line.proofs.program.Program.write_sequences.Goals as goal

pub returns-in_err-write_sequences-clause-err : goal.returns-in_err-write_sequences-clause-err
returns-in_err-write_sequences-clause-err g c =
    let p : ProgramValue = record { encoding = c.self.inside.encoding; line_encoding = c.self.inside.line_encoding; directories = c.self.inside.directories.keys; files = c.self.inside.files.keys; sequences = c.self.inside.sequences.items; in_sequence = c.self.inside.in_sequence; address = c.self.inside.address; rows = c.self.inside.rows.items } in
    let plain = (g.W.Writer.meaning c.args.w.now).is_plain in
    let failed = err_from_is_err_and c.from_residual.result c.from_residual.ensures.1 in
    let refused = rw c.as_slice-sequences.ensures.value at c.in_err-write_sequences.ensures.err in
    rw (failed.1, failed.2)
    (subst (λ q. Refused (g.W.Writer.meaning c.args.w.now) (g.W.Writer.meaning c.write_sequences.new.w) (sequences_fail plain q) c.in_err-write_sequences.field-0.0) c.self.view_is
    (sequences_refused (g.W.Writer.meaning c.args.w.now) (g.W.Writer.meaning c.write_sequences.new.w) plain p c.in_err-write_sequences.field-0.0 refused))

pub returns-then-self-clause-ok : goal.returns-then-self-clause-ok
returns-then-self-clause-ok g c =
    let p : ProgramValue = record { encoding = c.self.inside.encoding; line_encoding = c.self.inside.line_encoding; directories = c.self.inside.directories.keys; files = c.self.inside.files.keys; sequences = c.self.inside.sequences.items; in_sequence = c.self.inside.in_sequence; address = c.self.inside.address; rows = c.self.inside.rows.items } in
    let ended = rw c.as_slice-sequences.ensures.value at c.in_ok-write_sequences.ensures.ok in
    let last = rw c.as_slice-rows.ensures.value at c.write_sequence.ensures.ok in
    subst (λ q. OnOk c.write_sequence.result (Appends (g.W.Writer.meaning c.args.w.now) (g.W.Writer.meaning c.write_sequence.new.w) (sequences_size q) (sequences_text q))) c.self.view_is
    (OnOk-map c.write_sequence.result last (λ a. with_open p c.if-self.true ended a))

pub returns-clause-ok : goal.returns-clause-ok
returns-clause-ok g c =
    let p : ProgramValue = record { encoding = c.self.inside.encoding; line_encoding = c.self.inside.line_encoding; directories = c.self.inside.directories.keys; files = c.self.inside.files.keys; sequences = c.self.inside.sequences.items; in_sequence = c.self.inside.in_sequence; address = c.self.inside.address; rows = c.self.inside.rows.items } in
    let ended = rw c.as_slice-sequences.ensures.value at c.in_ok-write_sequences.ensures.ok in
    subst (λ q. Appends (g.W.Writer.meaning c.args.w.now) (g.W.Writer.meaning c.write_sequences.new.w) (sequences_size q) (sequences_text q)) c.self.view_is
    (without_open p c.if-self.false ended)

pub returns-then-self-clause-sound : goal.returns-then-self-clause-sound
returns-then-self-clause-sound g c =
    let p : ProgramValue = record { encoding = c.self.inside.encoding; line_encoding = c.self.inside.line_encoding; directories = c.self.inside.directories.keys; files = c.self.inside.files.keys; sequences = c.self.inside.sequences.items; in_sequence = c.self.inside.in_sequence; address = c.self.inside.address; rows = c.self.inside.rows.items } in
    let plain = (g.W.Writer.meaning c.args.w.now).is_plain in
    let ended = rw c.as_slice-sequences.ensures.value at c.in_ok-write_sequences.ensures.sound in
    let last = rw c.as_slice-rows.ensures.value at c.write_sequence.ensures.sound in
    subst (λ q. OnOk c.write_sequence.result ((e : Error) → IsFalse (sequences_fail plain q e))) c.self.view_is
    (OnOk-map c.write_sequence.result last
    (λ s. sequences_sound plain p true c.if-self.true ended (λ e. subst (λ k. IsFalse (built_fails p.encoding p.line_encoding k (open_sequence p) e)) c.in_ok-write_sequences.ensures.same.kind (s e))))

pub returns-clause-sound : goal.returns-clause-sound
returns-clause-sound g c =
    let p : ProgramValue = record { encoding = c.self.inside.encoding; line_encoding = c.self.inside.line_encoding; directories = c.self.inside.directories.keys; files = c.self.inside.files.keys; sequences = c.self.inside.sequences.items; in_sequence = c.self.inside.in_sequence; address = c.self.inside.address; rows = c.self.inside.rows.items } in
    let plain = (g.W.Writer.meaning c.args.w.now).is_plain in
    let ended = rw c.as_slice-sequences.ensures.value at c.in_ok-write_sequences.ensures.sound in
    subst (λ q. (e : Error) → IsFalse (sequences_fail plain q e)) c.self.view_is (sequences_sound plain p false c.if-self.false ended (λ e. refl))

pub returns-then-self-clause-built : goal.returns-then-self-clause-built
returns-then-self-clause-built g c =
    let p : ProgramValue = record { encoding = c.self.inside.encoding; line_encoding = c.self.inside.line_encoding; directories = c.self.inside.directories.keys; files = c.self.inside.files.keys; sequences = c.self.inside.sequences.items; in_sequence = c.self.inside.in_sequence; address = c.self.inside.address; rows = c.self.inside.rows.items } in
    let big = (g.W.Writer.meaning c.args.w.now).is_big in
    let ended = rw c.as_slice-sequences.ensures.value at c.in_ok-write_sequences.ensures.after in
    let last = rw c.as_slice-rows.ensures.value at c.write_sequence.ensures.after in
    subst (λ q. OnOk c.write_sequence.result (AreBuilt (written_header big q.line_encoding) (program_sequences q))) c.self.view_is
    (OnOk-map c.write_sequence.result last
    (λ s. program_built big p true c.if-self.true ended (λ _. subst (λ k. IsBuiltAfter k p.line_encoding (open_sequence p)) c.in_ok-write_sequences.ensures.same.order s)))

pub returns-clause-built : goal.returns-clause-built
returns-clause-built g c =
    let p : ProgramValue = record { encoding = c.self.inside.encoding; line_encoding = c.self.inside.line_encoding; directories = c.self.inside.directories.keys; files = c.self.inside.files.keys; sequences = c.self.inside.sequences.items; in_sequence = c.self.inside.in_sequence; address = c.self.inside.address; rows = c.self.inside.rows.items } in
    let big = (g.W.Writer.meaning c.args.w.now).is_big in
    let ended = rw c.as_slice-sequences.ensures.value at c.in_ok-write_sequences.ensures.after in
    subst (λ q. AreBuilt (written_header big q.line_encoding) (program_sequences q)) c.self.view_is (program_built big p false c.if-self.false ended (λ e. cc))

pub returns-then-self-clause-front : goal.returns-then-self-clause-front
returns-then-self-clause-front g c = Front-then c.in_ok-write_sequences.ensures.front c.write_sequence.ensures.front

pub returns-then-self-clause-same : goal.returns-then-self-clause-same
returns-then-self-clause-same g c = IsSameWriter-trans c.in_ok-write_sequences.ensures.same c.write_sequence.ensures.same

pub returns-in_err-write_sequences-clause-ok : goal.returns-in_err-write_sequences-clause-ok
returns-in_err-write_sequences-clause-ok g c = rw (err_from_is_err_and c.from_residual.result c.from_residual.ensures.1).1 tt

pub returns-in_err-write_sequences-clause-sound : goal.returns-in_err-write_sequences-clause-sound
returns-in_err-write_sequences-clause-sound g c = rw (err_from_is_err_and c.from_residual.result c.from_residual.ensures.1).1 tt

pub returns-in_err-write_sequences-clause-built : goal.returns-in_err-write_sequences-clause-built
returns-in_err-write_sequences-clause-built g c = rw (err_from_is_err_and c.from_residual.result c.from_residual.ensures.1).1 tt

pub returns-clause-err : goal.returns-clause-err
returns-clause-err g c = tt
