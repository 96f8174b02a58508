use Rattle.std.proofs.lemmas.Result.{IfErr-weaker}
use Rattle.std.proofs.Common.{◌≡◌, sym, subst, refl, inl, inr, ℕ, Ok}
use Rattle.std.specs.Prelude.{nat_le}
use Rattle.dw_read.specs.Reading.{left}
use Rattle.dw_read.specs.declared.error.ReadError.{ReadError}
use Rattle.dw_read_lines.specs.FileEntryIters.{layout_of, HasParts}
use Rattle.dw_read_lines.specs.LineEntries.{next_read}
use Rattle.dw_read_lines.specs.LineEntryViews.{entry_of}
use Rattle.dw_read_lines.specs.declared.file_entries.Layout.{Layout as HeldLayout}
use Rattle.dw_sources.specs.ConvertErrors.{from_read}
use Rattle.dw_convert_lines.specs.HeaderImages.{working_image}
use Rattle.dw_convert_lines.specs.Views.{texts_of, tables}
use Rattle.dw_convert_lines.proofs.EntrySteps.{passes, closes, read_here, closed_here, refused_here, order_passed}
use Rattle.dw_convert_lines.proofs.Outcomes.{ok_then, err_then}
use Rattle.dw_convert_lines.proofs.Reasons.{is_err}
use Rattle.dw_convert_lines.proofs.WorkingLaws.{working_old, working_first, working_refused, working_none, working_missed}
use Rattle.dw_convert_lines.proofs.header.working_directory.Goals as goal

pub returns-clause-ok : goal.returns-clause-ok
returns-clause-ok g c = ok_then c.inline.result _ _ (λ s h. λ parts has. working_old _ _ _ _ _ _ _ _ c.if-is_new.false h) c.inline.ensures.ok

pub returns-then-is_new-clause-ok : goal.returns-then-is_new-clause-ok
returns-then-is_new-clause-ok g c =
    let reading = g.R.Reader.reading in
    let old = c.args.entries.now in
    let p = passes _ _ reading _ _ _ _ c.in_ok-entry.ensures c.in-Some.is in
    ok_then c.convert_name-name.result _ _ (λ s h.
    λ parts has. subst (λ (k : ℕ). working_image c.args.is_new (nat_le 5 c.args.version) (texts_of reading c.args.dwarf.now) (next_read (reading old.input).is_big (layout_of reading old.layout parts)) old.remaining (left (reading old.input)) (tables c.args.strings.now c.args.line_strings.now)
    ≡ Ok (record { name = s; tables = tables c.convert_name-name.new.strings c.convert_name-name.new.line_strings; count = k; bytes = left (reading c.next.new.self.input) }))
    (sym p.remaining)
    (working_first _ _ _ _ _ _ (entry_of reading c.in-Some.entry) _ _ _ _ c.if-is_new.true (read_here _ _ reading _ _ _ _ parts refl refl has _ p) h)) c.convert_name-name.ensures.ok

pub returns-then-is_new-clause-same : goal.returns-then-is_new-clause-same
returns-then-is_new-clause-same g c =
    let reading = g.R.Reader.reading in
    let p = passes _ _ reading _ _ _ _ c.in_ok-entry.ensures c.in-Some.is in
    ok_then c.convert_name-name.result _ _ (λ s h. record { layout = p.layout; order = order_passed _ _ reading _ _ _ _ c.requires.parts refl refl c.requires.described _ p }) c.convert_name-name.ensures.ok

pub returns-then-is_new-clause-open : goal.returns-then-is_new-clause-open
returns-then-is_new-clause-open g c =
    let reading = g.R.Reader.reading in
    let p = passes _ _ reading _ _ _ _ c.in_ok-entry.ensures c.in-Some.is in
    ok_then c.convert_name-name.result _ _ (λ s h. record { parts = c.requires.parts; described = subst (λ (l : HeldLayout _ _). HasParts reading l c.requires.parts) (sym p.layout) c.requires.described; open_yet = p.went_on.1 }) c.convert_name-name.ensures.ok

pub returns-in_err-entry-clause-err : goal.returns-in_err-entry-clause-err
returns-in_err-entry-clause-err g c =
    let reading = g.R.Reader.reading in
    let why : ReadError = c.in_err-entry.field-0.0 in
    let e = is_err _ (from_read why) c.from_residual.ensures in
    rw e (inr (λ parts has. working_missed _ _ _ _ _ _ why _ c.if-is_new.true (refused_here _ _ reading _ _ _ _ parts refl refl has why c.in_err-entry.ensures)))

pub returns-then-is_new-clause-err : goal.returns-then-is_new-clause-err
returns-then-is_new-clause-err g c =
    let reading = g.R.Reader.reading in
    let p = passes _ _ reading _ _ _ _ c.in_ok-entry.ensures c.in-Some.is in
    err_then c.convert_name-name.result _ _ _ (λ why h. λ parts has. working_refused _ _ _ _ _ _ (entry_of reading c.in-Some.entry) _ why _ c.if-is_new.true (read_here _ _ reading _ _ _ _ parts refl refl has _ p) h) c.convert_name-name.ensures.err

pub returns-in_default-clause-err : goal.returns-in_default-clause-err
returns-in_default-clause-err g c =
    let reading = g.R.Reader.reading in
    let q = closes _ _ reading _ _ _ c.in_ok-entry.ensures c.in_default.is in
    inr (λ parts has. working_none _ _ _ _ _ _ _ _ c.if-is_new.true (closed_here _ _ reading _ _ _ _ parts refl refl has c.requires.open_yet q))

pub returns-in_err-entry-clause-ok : goal.returns-in_err-entry-clause-ok
returns-in_err-entry-clause-ok g c = rw (is_err _ _ c.from_residual.ensures) tt

pub returns-in_err-entry-clause-text : goal.returns-in_err-entry-clause-text
returns-in_err-entry-clause-text g c = rw (is_err _ _ c.from_residual.ensures) tt

pub returns-in_err-entry-clause-same : goal.returns-in_err-entry-clause-same
returns-in_err-entry-clause-same g c = rw (is_err _ _ c.from_residual.ensures) tt

pub returns-in_err-entry-clause-open : goal.returns-in_err-entry-clause-open
returns-in_err-entry-clause-open g c = rw (is_err _ _ c.from_residual.ensures) tt

pub returns-in_default-clause-ok : goal.returns-in_default-clause-ok
returns-in_default-clause-ok g c = tt

pub returns-in_default-clause-text : goal.returns-in_default-clause-text
returns-in_default-clause-text g c = tt

pub returns-in_default-clause-same : goal.returns-in_default-clause-same
returns-in_default-clause-same g c = tt

pub returns-in_default-clause-open : goal.returns-in_default-clause-open
returns-in_default-clause-open g c = tt

pub returns-then-is_new-clause-text : goal.returns-then-is_new-clause-text
returns-then-is_new-clause-text g c = c.convert_name-name.ensures.text

pub returns-clause-err : goal.returns-clause-err
returns-clause-err g c = IfErr-weaker c.inline.result _ _ (λ e h. inl h) c.inline.ensures.err
