use Rattle.dw_convert_lines.proofs.Reasons.{is_err}
use Rattle.std.proofs.Common.{sym, subst, ap, refl, Ok, Err}
use Rattle.dw_line.specs.LinePrograms.{file_count_of}
use Rattle.dw_read_lines.specs.declared.header.LineProgramHeader.{LineProgramHeader}
use Rattle.dw_convert_lines.specs.ReadPrograms.{RowsOutcome}
use Rattle.dw_convert_lines.specs.RowImages.{AreFiles}
use Rattle.dw_convert_lines.specs.Views.{converting}
use Rattle.dw_convert_lines.proofs.BegunPrograms.{fresh_from}
use Rattle.dw_convert_lines.proofs.Outcomes.{ok_both, err_then}
use Rattle.dw_convert_lines.proofs.program.convert_line_program.Goals as goal

pub with_rows-requires-clause-fresh : goal.with_rows-requires-clause-fresh
with_rows-requires-clause-fresh g c = fresh_from c.in_ok-target.target c.in_ok-target.ensures.begun.fresh

pub with_rows-requires-clause-files : goal.with_rows-requires-clause-files
with_rows-requires-clause-files g c =
    subst (λ (h : LineProgramHeader _ _). AreFiles h.encoding.encoding.version c.in_ok-target.files.items (file_count_of c.in_ok-target.target.program)) (sym c.header.ensures) c.in_ok-target.ensures.begun.files

pub returns-clause-ok : goal.returns-clause-ok
returns-clause-ok g c =
    let reading = g.R.Reader.reading in
    let answers = goal.F-post g c.args.convert_address.now in
    ok_both c.with_rows.result _ _ _ (λ x o same. (
      Ok (converting c.in_ok-target.target c.in_ok-target.files.items c.begin_program.new.strings c.begin_program.new.line_strings),
      c.in_ok-target.ensures.ok,
      (
        subst (λ (h : LineProgramHeader _ _). RowsOutcome reading answers h c.in_ok-target.files.items c.in_ok-target.target (Ok x.0)) c.header.ensures o,
        ap (λ f. f.items) same,
        refl,
      ),
    )) c.with_rows.ensures.ok c.with_rows.ensures.files

pub returns-clause-err : goal.returns-clause-err
returns-clause-err g c =
    let reading = g.R.Reader.reading in
    let answers = goal.F-post g c.args.convert_address.now in
    err_then c.with_rows.result _ _ _ (λ e o. (
      Ok (converting c.in_ok-target.target c.in_ok-target.files.items c.begin_program.new.strings c.begin_program.new.line_strings),
      c.in_ok-target.ensures.ok,
      subst (λ (h : LineProgramHeader _ _). RowsOutcome reading answers h c.in_ok-target.files.items c.in_ok-target.target (Err e)) c.header.ensures o,
    )) c.with_rows.ensures.err

pub returns-in_err-target-clause-ok : goal.returns-in_err-target-clause-ok
returns-in_err-target-clause-ok g c = rw (is_err _ _ c.from_residual.ensures) tt
