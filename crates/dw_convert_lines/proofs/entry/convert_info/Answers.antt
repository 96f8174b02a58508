use Rattle.std.proofs.Common.{inl, inr}
use Rattle.std.specs.Prelude.{nat_le, Option}
use Rattle.std.proofs.lemmas.Bool.{le-leb, lt-leb}
use Rattle.dw_line.specs.declared.line_string.LineString.{LineString}
use Rattle.dw_read_lines.specs.LineEntryViews.{entry_of}
use Rattle.dw_sources.specs.declared.convert_error.ConvertError.{ConvertError}
use Rattle.dw_convert_lines.specs.EntryNames.{Tables}
use Rattle.dw_convert_lines.specs.Views.{texts_of, tables}
use Rattle.dw_convert_lines.proofs.InfoSteps.{timestamp_refused, size_refused, old_made, checksum_refused, source_refused, info_made}
use Rattle.dw_convert_lines.proofs.Reasons.{is_err}
use Rattle.dw_convert_lines.proofs.entry.convert_info.Goals as goal

pub returns-in_err-timestamp-clause-err : goal.returns-in_err-timestamp-clause-err
returns-in_err-timestamp-clause-err g c =
    let reading = g.R.Reader.reading in
    let texts = texts_of reading c.args.dwarf.now in
    let t = tables c.args.strings.now c.args.line_strings.now in
    let x = entry_of reading c.args.entry.now in
    let why : ConvertError = c.in_err-timestamp.field-0.0 in
    let e = is_err _ why c.from_residual.ensures in
    rw e (inr (timestamp_refused texts c.args.is_big t x (nat_le 5 c.args.version) why c.in_err-timestamp.ensures))

pub returns-in_err-size-clause-err : goal.returns-in_err-size-clause-err
returns-in_err-size-clause-err g c =
    let reading = g.R.Reader.reading in
    let texts = texts_of reading c.args.dwarf.now in
    let t = tables c.args.strings.now c.args.line_strings.now in
    let x = entry_of reading c.args.entry.now in
    let why : ConvertError = c.in_err-size.field-0.0 in
    let e = is_err _ why c.from_residual-in_err-size.ensures in
    rw e (inr (size_refused texts c.args.is_big t x c.in_ok-timestamp.timestamp c.in_ok-timestamp.ensures (nat_le 5 c.args.version) why c.in_err-size.ensures))

pub returns-then-version-lt5-clause-ok : goal.returns-then-version-lt5-clause-ok
returns-then-version-lt5-clause-ok g c =
    let reading = g.R.Reader.reading in
    let texts = texts_of reading c.args.dwarf.now in
    let t = tables c.args.strings.now c.args.line_strings.now in
    let x = entry_of reading c.args.entry.now in
    old_made texts c.args.is_big t x c.in_ok-timestamp.timestamp c.in_ok-timestamp.ensures c.in_ok-size.size c.in_ok-size.ensures (nat_le 5 c.args.version) (lt-leb 5 c.args.version c.if-version-lt5.true)

pub returns-in_err-md5-clause-err : goal.returns-in_err-md5-clause-err
returns-in_err-md5-clause-err g c =
    let reading = g.R.Reader.reading in
    let texts = texts_of reading c.args.dwarf.now in
    let t = tables c.args.strings.now c.args.line_strings.now in
    let x = entry_of reading c.args.entry.now in
    let why : ConvertError = c.in_err-md5.field-0.0 in
    let e = is_err _ why c.from_residual-in_err-md5.ensures in
    rw e (inr (checksum_refused texts c.args.is_big t x c.in_ok-timestamp.timestamp c.in_ok-timestamp.ensures c.in_ok-size.size c.in_ok-size.ensures (nat_le 5 c.args.version) (le-leb 5 c.args.version c.if-version-lt5.false) why c.in_err-md5.ensures))

pub returns-in_err-source-clause-err : goal.returns-in_err-source-clause-err
returns-in_err-source-clause-err g c =
    let reading = g.R.Reader.reading in
    let texts = texts_of reading c.args.dwarf.now in
    let t = tables c.args.strings.now c.args.line_strings.now in
    let x = entry_of reading c.args.entry.now in
    let why : ConvertError = c.in_err-source.field-0.0 in
    let e = is_err _ why c.from_residual-in_err-source.ensures in
    rw e (elim c.in_err-source.ensures.err [
      | inl n ↦ inl n
      | inr n ↦ inr (source_refused texts c.args.is_big t x c.in_ok-timestamp.timestamp c.in_ok-timestamp.ensures c.in_ok-size.size c.in_ok-size.ensures (nat_le 5 c.args.version) (le-leb 5 c.args.version c.if-version-lt5.false) c.in_ok-md5.md5 c.in_ok-md5.ensures why n)
    ])

pub returns-clause-ok : goal.returns-clause-ok
returns-clause-ok g c =
    let reading = g.R.Reader.reading in
    let texts = texts_of reading c.args.dwarf.now in
    let t = tables c.args.strings.now c.args.line_strings.now in
    let x = entry_of reading c.args.entry.now in
    let source : Option LineString × Tables = (c.in_ok-source.source, tables c.convert_source.new.strings c.convert_source.new.line_strings) in
    info_made texts c.args.is_big t x c.in_ok-timestamp.timestamp c.in_ok-timestamp.ensures c.in_ok-size.size c.in_ok-size.ensures (nat_le 5 c.args.version) (le-leb 5 c.args.version c.if-version-lt5.false) c.in_ok-md5.md5 c.in_ok-md5.ensures source c.in_ok-source.ensures.ok

pub returns-in_err-timestamp-clause-ok : goal.returns-in_err-timestamp-clause-ok
returns-in_err-timestamp-clause-ok g c = rw (is_err _ _ c.from_residual.ensures) tt

pub returns-in_err-timestamp-clause-text : goal.returns-in_err-timestamp-clause-text
returns-in_err-timestamp-clause-text g c = rw (is_err _ _ c.from_residual.ensures) tt

pub returns-in_err-size-clause-ok : goal.returns-in_err-size-clause-ok
returns-in_err-size-clause-ok g c = rw (is_err _ _ c.from_residual-in_err-size.ensures) tt

pub returns-in_err-size-clause-text : goal.returns-in_err-size-clause-text
returns-in_err-size-clause-text g c = rw (is_err _ _ c.from_residual-in_err-size.ensures) tt

pub returns-in_err-md5-clause-ok : goal.returns-in_err-md5-clause-ok
returns-in_err-md5-clause-ok g c = rw (is_err _ _ c.from_residual-in_err-md5.ensures) tt

pub returns-in_err-md5-clause-text : goal.returns-in_err-md5-clause-text
returns-in_err-md5-clause-text g c = rw (is_err _ _ c.from_residual-in_err-md5.ensures) tt

pub returns-in_err-source-clause-ok : goal.returns-in_err-source-clause-ok
returns-in_err-source-clause-ok g c = rw (is_err _ _ c.from_residual-in_err-source.ensures) tt

pub returns-in_err-source-clause-text : goal.returns-in_err-source-clause-text
returns-in_err-source-clause-text g c = rw (is_err _ _ c.from_residual-in_err-source.ensures) tt

pub returns-then-version-lt5-clause-err : goal.returns-then-version-lt5-clause-err
returns-then-version-lt5-clause-err g c = tt

pub returns-clause-err : goal.returns-clause-err
returns-clause-err g c = tt
