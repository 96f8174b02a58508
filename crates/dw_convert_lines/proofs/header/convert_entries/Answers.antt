use Rattle.std.proofs.Common.{subst, ap, inl, inr, List, Ok, Err}
use Rattle.std.specs.Prelude.{nat_le, [], ◌∷◌}
use Rattle.dw_base.specs.declared.ids.DirectoryId.{DirectoryId}
use Rattle.dw_base.specs.declared.ids.FileId.{FileId}
use Rattle.dw_sources.specs.declared.convert_error.ConvertError.{ConvertError}
use Rattle.dw_convert_lines.specs.EntryImages.{Converting}
use Rattle.dw_convert_lines.specs.HeaderLists.{FilesMade}
use Rattle.dw_convert_lines.specs.Views.{texts_of, converting}
use Rattle.dw_convert_lines.proofs.EntriesMade.{no_directory, with_files}
use Rattle.dw_convert_lines.proofs.Outcomes.{ok_then, err_then}
use Rattle.dw_convert_lines.proofs.Reasons.{is_err}
use Rattle.dw_convert_lines.proofs.header.convert_entries.Goals as goal

pub returns-in_err-convert_directories-clause-err : goal.returns-in_err-convert_directories-clause-err
returns-in_err-convert_directories-clause-err g c =
    let reading = g.R.Reader.reading in
    let s : Converting DirectoryId = converting c.args.program.now c.in_ok-directories.directories.items c.args.strings.now c.args.line_strings.now in
    let first : Converting DirectoryId = converting c.args.program.now (record { 0 = 0 } ∷ []) c.args.strings.now c.args.line_strings.now in
    let q = ap (λ (ids : List DirectoryId). converting c.args.program.now ids c.args.strings.now c.args.line_strings.now) c.in_ok-directories.ensures.ok in
    let why : ConvertError = c.in_err-convert_directories.field-0.0 in
    let e = is_err _ why c.from_residual-in_err-convert_directories.ensures in
    rw e (elim c.in_err-convert_directories.ensures.err [
      | inl n ↦ inl n
      | inr n ↦ inr (no_directory _ _ reading (texts_of reading c.args.dwarf.now) c.args.header.now (nat_le 5 c.args.version) c.args.entries.now s first q why n)
    ])

pub returns-clause-err : goal.returns-clause-err
returns-clause-err g c =
    let reading = g.R.Reader.reading in
    let h = c.args.header.now in
    let texts = texts_of reading c.args.dwarf.now in
    let refs = nat_le 5 c.args.version in
    let s : Converting DirectoryId = converting c.args.program.now c.in_ok-directories.directories.items c.args.strings.now c.args.line_strings.now in
    let first : Converting DirectoryId = converting c.args.program.now (record { 0 = 0 } ∷ []) c.args.strings.now c.args.line_strings.now in
    let q = ap (λ (ids : List DirectoryId). converting c.args.program.now ids c.args.strings.now c.args.line_strings.now) c.in_ok-directories.ensures.ok in
    let d : Converting DirectoryId = converting c.convert_directories.new.program c.convert_directories.new.ids.items c.convert_directories.new.strings c.convert_directories.new.line_strings in
    let k = c.convert_directories.new.entries in
    err_then c.convert_files_behind.result _ _ _ (λ e n. with_files _ _ reading texts h refs c.args.entries.now s first q d k (Err e) c.in_ok-convert_directories.ensures.ok c.in_ok-convert_directories.ensures.same
    (subst (λ (ids : List DirectoryId). FilesMade reading texts h refs k (converting c.convert_directories.new.program ids c.convert_directories.new.strings c.convert_directories.new.line_strings) (Err e)) c.as_slice.ensures.value n)) c.convert_files_behind.ensures.err

pub returns-clause-ok : goal.returns-clause-ok
returns-clause-ok g c =
    let reading = g.R.Reader.reading in
    let h = c.args.header.now in
    let texts = texts_of reading c.args.dwarf.now in
    let refs = nat_le 5 c.args.version in
    let s : Converting DirectoryId = converting c.args.program.now c.in_ok-directories.directories.items c.args.strings.now c.args.line_strings.now in
    let first : Converting DirectoryId = converting c.args.program.now (record { 0 = 0 } ∷ []) c.args.strings.now c.args.line_strings.now in
    let q = ap (λ (ids : List DirectoryId). converting c.args.program.now ids c.args.strings.now c.args.line_strings.now) c.in_ok-directories.ensures.ok in
    let d : Converting DirectoryId = converting c.convert_directories.new.program c.convert_directories.new.ids.items c.convert_directories.new.strings c.convert_directories.new.line_strings in
    let k = c.convert_directories.new.entries in
    ok_then c.convert_files_behind.result _ _ (λ files n.
    let x : Converting FileId = converting c.convert_files_behind.new.program files.items c.convert_files_behind.new.strings c.convert_files_behind.new.line_strings in
    with_files _ _ reading texts h refs c.args.entries.now s first q d k (Ok x) c.in_ok-convert_directories.ensures.ok c.in_ok-convert_directories.ensures.same
    (subst (λ (ids : List DirectoryId). FilesMade reading texts h refs k (converting c.convert_directories.new.program ids c.convert_directories.new.strings c.convert_directories.new.line_strings) (Ok x)) c.as_slice.ensures.value n)) c.convert_files_behind.ensures.ok

pub convert_directories-requires-clause-begun : goal.convert_directories-requires-clause-begun
convert_directories-requires-clause-begun g c = c.requires.begun

pub returns-in_err-directories-clause-ok : goal.returns-in_err-directories-clause-ok
returns-in_err-directories-clause-ok g c = rw (is_err _ _ c.from_residual.ensures) tt

pub returns-in_err-convert_directories-clause-ok : goal.returns-in_err-convert_directories-clause-ok
returns-in_err-convert_directories-clause-ok g c = rw (is_err _ _ c.from_residual-in_err-convert_directories.ensures) tt

pub returns-in_err-directories-clause-err : goal.returns-in_err-directories-clause-err
returns-in_err-directories-clause-err g c = rw (is_err _ _ c.from_residual.ensures) (inl c.in_err-directories.ensures.err)
