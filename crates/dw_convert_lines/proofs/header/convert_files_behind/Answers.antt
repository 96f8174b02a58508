use Rattle.std.proofs.Common.{◌∙◌, subst, ap, inl, inr, Bool, List, Ok, Err}
use Rattle.std.specs.Prelude.{nat_le}
use Rattle.dw_base.specs.declared.ids.FileId.{FileId}
use Rattle.dw_read.specs.Reading.{left}
use Rattle.dw_sources.specs.declared.convert_error.ConvertError.{ConvertError}
use Rattle.dw_convert_lines.specs.Entries.{EntriesOutcome}
use Rattle.dw_convert_lines.specs.EntryImages.{Converting, file_image}
use Rattle.dw_convert_lines.specs.HeaderImages.{first_ids}
use Rattle.dw_convert_lines.specs.Views.{texts_of, converting}
use Rattle.dw_convert_lines.proofs.FilesMade.{no_files, no_file, all_files, BeginsFiles}
use Rattle.dw_convert_lines.proofs.Reasons.{is_err}
use Rattle.dw_convert_lines.proofs.header.convert_files_behind.Goals as goal

pub returns-in_err-listed-clause-err : goal.returns-in_err-listed-clause-err
returns-in_err-listed-clause-err g c =
    let why : ConvertError = c.in_err-listed.field-0.0 in
    let e = is_err _ why c.from_residual.ensures in
    rw e (inr (no_files _ _ g.R.Reader.reading _ c.args.header.now _ c.args.entries.now _ c.requires.laid why c.in_err-listed.ensures.err))

pub returns-in_err-convert_files-clause-err : goal.returns-in_err-convert_files-clause-err
returns-in_err-convert_files-clause-err g c =
    let reading = g.R.Reader.reading in
    let h = c.args.header.now in
    let texts = texts_of reading c.args.dwarf.now in
    let refs = nat_le 5 c.args.version in
    let d = converting c.args.program.now c.args.directories.now c.args.strings.now c.args.line_strings.now in
    let f = c.in_ok-listed.listed in
    let begins : BeginsFiles _ _ reading texts h refs c.args.entries.now d c.requires.laid f = record { begins = c.in_ok-listed.ensures.ok; ordered = c.in_ok-listed.ensures.order; convertible = c.in_ok-listed.ensures.convertible } in
    let v : Converting FileId = converting c.args.program.now c.in_ok-files.files.items c.args.strings.now c.args.line_strings.now in
    let first = ap (λ (ids : List FileId). converting c.args.program.now ids c.args.strings.now c.args.line_strings.now) (c.in_ok-files.ensures.ok ∙ ap first_ids c.tells_working_directory-is_new.ensures) in
    let why : ConvertError = c.in_err-convert_files.field-0.0 in
    let e = is_err _ why c.from_residual-in_err-convert_files.ensures in
    rw e (elim c.in_err-convert_files.ensures.err [
      | inl n ↦ inl n
      | inr n ↦ inr (no_file _ _ reading texts h refs c.args.entries.now d c.requires.laid f v why begins first
          (subst (λ (b : Bool). EntriesOutcome reading (file_image texts b refs c.args.directories.now) f v (Err why)) c.is_big-is_big.ensures n))
    ])

pub returns-clause-ok : goal.returns-clause-ok
returns-clause-ok g c =
    let reading = g.R.Reader.reading in
    let h = c.args.header.now in
    let texts = texts_of reading c.args.dwarf.now in
    let refs = nat_le 5 c.args.version in
    let d = converting c.args.program.now c.args.directories.now c.args.strings.now c.args.line_strings.now in
    let f = c.in_ok-listed.listed in
    let begins : BeginsFiles _ _ reading texts h refs c.args.entries.now d c.requires.laid f = record { begins = c.in_ok-listed.ensures.ok; ordered = c.in_ok-listed.ensures.order; convertible = c.in_ok-listed.ensures.convertible } in
    let v : Converting FileId = converting c.args.program.now c.in_ok-files.files.items c.args.strings.now c.args.line_strings.now in
    let first = ap (λ (ids : List FileId). converting c.args.program.now ids c.args.strings.now c.args.line_strings.now) (c.in_ok-files.ensures.ok ∙ ap first_ids c.tells_working_directory-is_new.ensures) in
    let x : Converting FileId = converting c.convert_files.new.program c.convert_files.new.ids.items c.convert_files.new.strings c.convert_files.new.line_strings in
    let rest = left (reading c.convert_files.new.entries.input) in
    all_files _ _ reading texts h refs c.args.entries.now d c.requires.laid f v x rest begins first
    (subst (λ (b : Bool). EntriesOutcome reading (file_image texts b refs c.args.directories.now) f v (Ok (x, rest))) c.is_big-is_big.ensures c.in_ok-convert_files.ensures.ok)

pub returns-in_err-listed-clause-ok : goal.returns-in_err-listed-clause-ok
returns-in_err-listed-clause-ok g c = rw (is_err _ _ c.from_residual.ensures) tt

pub returns-in_err-files-clause-ok : goal.returns-in_err-files-clause-ok
returns-in_err-files-clause-ok g c = rw (is_err _ _ c.from_residual-in_err-files.ensures) tt

pub returns-in_err-convert_files-clause-ok : goal.returns-in_err-convert_files-clause-ok
returns-in_err-convert_files-clause-ok g c = rw (is_err _ _ c.from_residual-in_err-convert_files.ensures) tt

pub returns-in_err-files-clause-err : goal.returns-in_err-files-clause-err
returns-in_err-files-clause-err g c = rw (is_err _ _ c.from_residual-in_err-files.ensures) (inl c.in_err-files.ensures.err)

pub returns-clause-err : goal.returns-clause-err
returns-clause-err g c = tt
