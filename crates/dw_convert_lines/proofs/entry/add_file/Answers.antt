use Rattle.std.proofs.Common.{subst, inl, inr, ℕ, ◌≤◌, Some, refl}
use Rattle.std.specs.Prelude.{nat_le}
use Rattle.dw_base.specs.declared.ids.FileId.{FileId}
use Rattle.dw_line.specs.declared.line_string.FileInfo.{FileInfo}
use Rattle.dw_line.specs.declared.line_string.LineString.{LineString}
use Rattle.dw_read_lines.specs.LineEntryViews.{entry_of}
use Rattle.dw_sources.specs.declared.convert_error.ConvertError.{ConvertError}
use Rattle.dw_sources.specs.declared.convert_error.ConvertError.TheVariants.{NoMemory}
use Rattle.dw_convert_lines.specs.EntryImages.{Converting}
use Rattle.dw_convert_lines.specs.EntryNames.{Tables}
use Rattle.dw_convert_lines.specs.Views.{texts_of, tables, converting}
use Rattle.dw_convert_lines.proofs.FileSteps.{name_refused, number_refused, directory_refused, info_refused, file_made}
use Rattle.dw_convert_lines.proofs.FileTargets.{target_kept, found_within}
use Rattle.dw_convert_lines.proofs.Reasons.{is_err}
use Rattle.dw_convert_lines.proofs.entry.add_file.Goals as goal

pub returns-in_err-name-clause-err : goal.returns-in_err-name-clause-err
returns-in_err-name-clause-err g c =
    let reading = g.R.Reader.reading in
    let texts = texts_of reading c.args.dwarf.now in
    let refs = nat_le 5 c.args.version in
    let x = entry_of reading c.args.entry.now in
    let s : Converting FileId = converting c.args.program.now c.args.ids.now.items c.args.strings.now c.args.line_strings.now in
    let why : ConvertError = c.in_err-name.field-0.0 in
    let e = is_err _ why c.from_residual.ensures in
    rw e (elim c.in_err-name.ensures.err [
      | inl n ↦ inl n
      | inr n ↦ inr (name_refused texts c.args.is_big refs c.args.directories.now x s why n)
    ])

pub returns-in_err-number-clause-err : goal.returns-in_err-number-clause-err
returns-in_err-number-clause-err g c =
    let reading = g.R.Reader.reading in
    let texts = texts_of reading c.args.dwarf.now in
    let refs = nat_le 5 c.args.version in
    let x = entry_of reading c.args.entry.now in
    let s : Converting FileId = converting c.args.program.now c.args.ids.now.items c.args.strings.now c.args.line_strings.now in
    let name : LineString × Tables = (c.in_ok-name.name, tables c.convert_listed.new.strings c.convert_listed.new.line_strings) in
    let why : ConvertError = c.in_err-number.field-0.0 in
    let e = is_err _ why c.from_residual-in_err-number.ensures in
    rw e (inr (number_refused texts c.args.is_big refs c.args.directories.now x s name c.in_ok-name.ensures.ok why c.in_err-number.ensures))

pub returns-in_err-directory-clause-err : goal.returns-in_err-directory-clause-err
returns-in_err-directory-clause-err g c =
    let reading = g.R.Reader.reading in
    let texts = texts_of reading c.args.dwarf.now in
    let refs = nat_le 5 c.args.version in
    let x = entry_of reading c.args.entry.now in
    let s : Converting FileId = converting c.args.program.now c.args.ids.now.items c.args.strings.now c.args.line_strings.now in
    let name : LineString × Tables = (c.in_ok-name.name, tables c.convert_listed.new.strings c.convert_listed.new.line_strings) in
    let why : ConvertError = c.in_err-directory.field-0.0 in
    let e = is_err _ why c.from_residual-in_err-directory.ensures in
    rw e (inr (directory_refused texts c.args.is_big refs c.args.directories.now x s name c.in_ok-name.ensures.ok c.in_ok-number.number c.in_ok-number.ensures why c.in_err-directory.ensures))

pub returns-in_err-info-clause-err : goal.returns-in_err-info-clause-err
returns-in_err-info-clause-err g c =
    let reading = g.R.Reader.reading in
    let texts = texts_of reading c.args.dwarf.now in
    let refs = nat_le 5 c.args.version in
    let x = entry_of reading c.args.entry.now in
    let s : Converting FileId = converting c.args.program.now c.args.ids.now.items c.args.strings.now c.args.line_strings.now in
    let name : LineString × Tables = (c.in_ok-name.name, tables c.convert_listed.new.strings c.convert_listed.new.line_strings) in
    let why : ConvertError = c.in_err-info.field-0.0 in
    let e = is_err _ why c.from_residual-in_err-info.ensures in
    rw e (elim c.in_err-info.ensures.err [
      | inl n ↦ inl n
      | inr n ↦ inr (info_refused texts c.args.is_big refs c.args.directories.now x s name c.in_ok-name.ensures.ok c.in_ok-number.number c.in_ok-number.ensures c.in_ok-directory.directory c.in_ok-directory.ensures why n)
    ])

pub returns-in_ok-push-in-Ok-clause-ok : goal.returns-in_ok-push-in-Ok-clause-ok
returns-in_ok-push-in-Ok-clause-ok g c =
    let reading = g.R.Reader.reading in
    let texts = texts_of reading c.args.dwarf.now in
    let refs = nat_le 5 c.args.version in
    let x = entry_of reading c.args.entry.now in
    let s : Converting FileId = converting c.args.program.now c.args.ids.now.items c.args.strings.now c.args.line_strings.now in
    let name : LineString × Tables = (c.in_ok-name.name, tables c.convert_listed.new.strings c.convert_listed.new.line_strings) in
    let info : FileInfo × Tables = (c.in_ok-info.info, tables c.convert_info.new.strings c.convert_info.new.line_strings) in
    file_made texts c.args.is_big refs c.args.directories.now x s name c.in_ok-name.ensures.ok c.in_ok-number.number c.in_ok-number.ensures c.in_ok-directory.directory c.in_ok-directory.ensures info
    c.add_file.new.self c.in-Ok.id c.push.new.self.items c.in_ok-info.ensures.ok c.in-Ok.ensures.ok c.in-Ok.ensures.id c.in_ok-push-in-Ok.ensures.items

pub returns-in_ok-push-in-Ok-clause-target : goal.returns-in_ok-push-in-Ok-clause-target
returns-in_ok-push-in-Ok-clause-target g c =
    target_kept c.in_ok-name.name c.in_ok-directory.directory (Some c.in_ok-info.info) c.args.version c.args.directories.now c.args.program.now c.add_file.new.self c.requires c.in-Ok.ensures.ok

pub add_file-requires-clause-there : goal.add_file-requires-clause-there
add_file-requires-clause-there g c = c.requires.there

pub add_file-requires-clause-text : goal.add_file-requires-clause-text
add_file-requires-clause-text g c = c.in_ok-name.ensures.text

pub add_file-requires-clause-named : goal.add_file-requires-clause-named
add_file-requires-clause-named g c = λ old. c.in_ok-name.ensures.full (subst (λ (v : ℕ). v ≤ 4) c.requires.encoded old)

pub add_file-requires-clause-directory : goal.add_file-requires-clause-directory
add_file-requires-clause-directory g c = found_within c.args.directories.now _ c.in_ok-number.number c.in_ok-directory.directory c.requires.within c.in_ok-directory.ensures

pub add_file-requires-clause-source : goal.add_file-requires-clause-source
add_file-requires-clause-source g c = c.in_ok-info.ensures.text

pub returns-in-Err : goal.returns-in-Err
returns-in-Err g c = record { ok = tt; target = tt; err = inl refl }

pub returns-in_err-push-in-Ok : goal.returns-in_err-push-in-Ok
returns-in_err-push-in-Ok g c =
    let e = is_err _ NoMemory c.from_residual-in_err-push-in-Ok.ensures in
    rw e (record { ok = tt; target = tt; err = inl refl })

pub returns-in_err-name-clause-ok : goal.returns-in_err-name-clause-ok
returns-in_err-name-clause-ok g c = rw (is_err _ _ c.from_residual.ensures) tt

pub returns-in_err-name-clause-target : goal.returns-in_err-name-clause-target
returns-in_err-name-clause-target g c = rw (is_err _ _ c.from_residual.ensures) tt

pub returns-in_err-number-clause-ok : goal.returns-in_err-number-clause-ok
returns-in_err-number-clause-ok g c = rw (is_err _ _ c.from_residual-in_err-number.ensures) tt

pub returns-in_err-number-clause-target : goal.returns-in_err-number-clause-target
returns-in_err-number-clause-target g c = rw (is_err _ _ c.from_residual-in_err-number.ensures) tt

pub returns-in_err-directory-clause-ok : goal.returns-in_err-directory-clause-ok
returns-in_err-directory-clause-ok g c = rw (is_err _ _ c.from_residual-in_err-directory.ensures) tt

pub returns-in_err-directory-clause-target : goal.returns-in_err-directory-clause-target
returns-in_err-directory-clause-target g c = rw (is_err _ _ c.from_residual-in_err-directory.ensures) tt

pub returns-in_err-info-clause-ok : goal.returns-in_err-info-clause-ok
returns-in_err-info-clause-ok g c = rw (is_err _ _ c.from_residual-in_err-info.ensures) tt

pub returns-in_err-info-clause-target : goal.returns-in_err-info-clause-target
returns-in_err-info-clause-target g c = rw (is_err _ _ c.from_residual-in_err-info.ensures) tt

pub returns-in_ok-push-in-Ok-clause-err : goal.returns-in_ok-push-in-Ok-clause-err
returns-in_ok-push-in-Ok-clause-err g c = tt
