use Rattle.std.proofs.Common.{◌∙◌, ap, inr, refl, Ok, Err}
use Rattle.std.specs.Prelude.{unwrap_or}
use Rattle.dw_base.specs.declared.common.Encoding.{Encoding}
use Rattle.dw_sources.specs.declared.convert_error.ConvertError.{ConvertError}
use Rattle.dw_convert_lines.specs.Views.{texts_of, tables, converting}
use Rattle.dw_convert_lines.proofs.BegunPrograms.{program_begun}
use Rattle.dw_convert_lines.proofs.Outcomes.{ok_then, err_then}
use Rattle.dw_convert_lines.proofs.Reasons.{is_err}
use Rattle.dw_convert_lines.proofs.Told.{told}
use Rattle.dw_convert_lines.proofs.program.begin_program.Goals as goal

pub returns-in_err-parameters-clause-err : goal.returns-in_err-parameters-clause-err
returns-in_err-parameters-clause-err g c =
    let reading = g.R.Reader.reading in
    let why : ConvertError = c.in_err-parameters.field-0.0 in
    let e = is_err _ why c.from_residual.ensures in
    rw e (inr (told _ _ reading (texts_of reading c.args.dwarf.now) c.args.encoding c.args.line_encoding (tables c.args.strings.now c.args.line_strings.now) (Err why) c.args.program.now c.header-header.result.now c.line_encoding.result c.opcode_base.result c.unwrap_or-target.result
    c.header-header.ensures c.line_encoding.ensures c.opcode_base.ensures (c.unwrap_or-target.ensures ∙ ap (λ (x : Encoding). unwrap_or c.args.encoding x) c.encoding.ensures)
    (Err why, c.in_err-parameters.ensures, refl)))

pub returns-clause-err : goal.returns-clause-err
returns-clause-err g c =
    let reading = g.R.Reader.reading in
    err_then c.convert_header.result _ _ _ (λ e o. told _ _ reading (texts_of reading c.args.dwarf.now) c.args.encoding c.args.line_encoding (tables c.args.strings.now c.args.line_strings.now) (Err e) c.args.program.now c.header-header.result.now c.line_encoding.result c.opcode_base.result c.unwrap_or-target.result
    c.header-header.ensures c.line_encoding.ensures c.opcode_base.ensures (c.unwrap_or-target.ensures ∙ ap (λ (x : Encoding). unwrap_or c.args.encoding x) c.encoding.ensures)
    (Ok c.in_ok-parameters.parameters, c.in_ok-parameters.ensures, o)) c.convert_header.ensures.err

pub returns-clause-ok : goal.returns-clause-ok
returns-clause-ok g c =
    let reading = g.R.Reader.reading in
    ok_then c.convert_header.result _ _ (λ x o. told _ _ reading (texts_of reading c.args.dwarf.now) c.args.encoding c.args.line_encoding (tables c.args.strings.now c.args.line_strings.now) (Ok (converting x.0 x.1.items c.convert_header.new.strings c.convert_header.new.line_strings)) c.args.program.now c.header-header.result.now c.line_encoding.result c.opcode_base.result c.unwrap_or-target.result
    c.header-header.ensures c.line_encoding.ensures c.opcode_base.ensures (c.unwrap_or-target.ensures ∙ ap (λ (x : Encoding). unwrap_or c.args.encoding x) c.encoding.ensures)
    (Ok c.in_ok-parameters.parameters, c.in_ok-parameters.ensures, o)) c.convert_header.ensures.ok

pub returns-clause-begun : goal.returns-clause-begun
returns-clause-begun g c =
    let reading = g.R.Reader.reading in
    ok_then c.convert_header.result _ _ (λ x o. program_begun _ _ reading (texts_of reading c.args.dwarf.now) c.args.program.now c.args.encoding c.args.line_encoding (tables c.args.strings.now c.args.line_strings.now) (converting x.0 x.1.items c.convert_header.new.strings c.convert_header.new.line_strings)
    (told _ _ reading (texts_of reading c.args.dwarf.now) c.args.encoding c.args.line_encoding (tables c.args.strings.now c.args.line_strings.now) (Ok (converting x.0 x.1.items c.convert_header.new.strings c.convert_header.new.line_strings)) c.args.program.now c.header-header.result.now c.line_encoding.result c.opcode_base.result c.unwrap_or-target.result
    c.header-header.ensures c.line_encoding.ensures c.opcode_base.ensures (c.unwrap_or-target.ensures ∙ ap (λ (x : Encoding). unwrap_or c.args.encoding x) c.encoding.ensures)
    (Ok c.in_ok-parameters.parameters, c.in_ok-parameters.ensures, o))) c.convert_header.ensures.ok

pub returns-in_err-parameters-clause-ok : goal.returns-in_err-parameters-clause-ok
returns-in_err-parameters-clause-ok g c = rw (is_err _ _ c.from_residual.ensures) tt

pub returns-in_err-parameters-clause-begun : goal.returns-in_err-parameters-clause-begun
returns-in_err-parameters-clause-begun g c = rw (is_err _ _ c.from_residual.ensures) tt
