use Rattle.std.proofs.Common.{inl, inr}
use Rattle.dw_sources.specs.declared.convert_error.ConvertError.{ConvertError}
use Rattle.dw_convert_lines.specs.Views.{texts_of, tables}
use Rattle.dw_convert_lines.proofs.Headers.{no_directories, no_working, behind_working, BeginsHeader}
use Rattle.dw_convert_lines.proofs.Outcomes.{ok_then, err_then}
use Rattle.dw_convert_lines.proofs.Reasons.{is_err}
use Rattle.dw_convert_lines.proofs.header.convert_header.Goals as goal

pub returns-in_err-entries-clause-err : goal.returns-in_err-entries-clause-err
returns-in_err-entries-clause-err g c =
    let reading = g.R.Reader.reading in
    let why : ConvertError = c.in_err-entries.field-0.0 in
    let e = is_err _ why c.from_residual.ensures in
    rw e (inr (no_directories _ _ reading (texts_of reading c.args.dwarf.now) c.args.header.now c.args.encoding c.args.line_encoding (tables c.args.strings.now c.args.line_strings.now) why c.in_err-entries.ensures.err))

pub returns-in_err-working-clause-err : goal.returns-in_err-working-clause-err
returns-in_err-working-clause-err g c =
    let reading = g.R.Reader.reading in
    let h = c.args.header.now in
    let texts = texts_of reading c.args.dwarf.now in
    let t = tables c.args.strings.now c.args.line_strings.now in
    let i = c.in_ok-entries.entries in
    let begins : BeginsHeader _ _ reading texts h c.args.encoding c.args.line_encoding t i = record { begins = c.in_ok-entries.ensures.ok; ordered = c.in_ok-entries.ensures.order; convertible = c.in_ok-entries.ensures.convertible } in
    let why : ConvertError = c.in_err-working.field-0.0 in
    let e = is_err _ why c.from_residual-in_err-working.ensures in
    rw e (elim c.in_err-working.ensures.err [
      | inl n ↦ inl n
      | inr n ↦ inr (no_working _ _ reading texts h c.args.encoding c.args.line_encoding t _ i why begins c.tells_working_directory-is_new.ensures n)
    ])

pub returns-clause-ok : goal.returns-clause-ok
returns-clause-ok g c =
    let reading = g.R.Reader.reading in
    let h = c.args.header.now in
    let texts = texts_of reading c.args.dwarf.now in
    let t = tables c.args.strings.now c.args.line_strings.now in
    let i = c.in_ok-entries.entries in
    let begins : BeginsHeader _ _ reading texts h c.args.encoding c.args.line_encoding t i = record { begins = c.in_ok-entries.ensures.ok; ordered = c.in_ok-entries.ensures.order; convertible = c.in_ok-entries.ensures.convertible } in
    let u = tables c.working_directory.new.strings c.working_directory.new.line_strings in
    ok_then c.program_with_entries.result _ _ (λ x o. behind_working _ _ reading texts h c.args.encoding c.args.line_encoding t _ i c.working_directory.new.entries c.in_ok-working.working u _ begins c.tells_working_directory-is_new.ensures c.in_ok-working.ensures.ok c.in_ok-working.ensures.same o)
    c.program_with_entries.ensures.ok

pub returns-clause-err : goal.returns-clause-err
returns-clause-err g c =
    let reading = g.R.Reader.reading in
    let h = c.args.header.now in
    let texts = texts_of reading c.args.dwarf.now in
    let t = tables c.args.strings.now c.args.line_strings.now in
    let i = c.in_ok-entries.entries in
    let begins : BeginsHeader _ _ reading texts h c.args.encoding c.args.line_encoding t i = record { begins = c.in_ok-entries.ensures.ok; ordered = c.in_ok-entries.ensures.order; convertible = c.in_ok-entries.ensures.convertible } in
    let u = tables c.working_directory.new.strings c.working_directory.new.line_strings in
    err_then c.program_with_entries.result _ _ _ (λ e o. behind_working _ _ reading texts h c.args.encoding c.args.line_encoding t _ i c.working_directory.new.entries c.in_ok-working.working u _ begins c.tells_working_directory-is_new.ensures c.in_ok-working.ensures.ok c.in_ok-working.ensures.same o)
    c.program_with_entries.ensures.err

pub returns-in_err-entries-clause-ok : goal.returns-in_err-entries-clause-ok
returns-in_err-entries-clause-ok g c = rw (is_err _ _ c.from_residual.ensures) tt

pub returns-in_err-working-clause-ok : goal.returns-in_err-working-clause-ok
returns-in_err-working-clause-ok g c = rw (is_err _ _ c.from_residual-in_err-working.ensures) tt
