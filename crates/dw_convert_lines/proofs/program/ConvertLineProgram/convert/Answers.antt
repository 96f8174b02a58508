use Rattle.std.proofs.Common.{sym, subst}
use Rattle.std.specs.Prelude.{Ok, Err}
use Rattle.dw_line.specs.LinePrograms.{file_count_of}
use Rattle.dw_read_lines.specs.declared.header.LineProgramHeader.{LineProgramHeader}
use Rattle.dw_convert_lines.specs.ReadPrograms.{RowsOutcome}
use Rattle.dw_convert_lines.specs.RowImages.{AreFiles}
use Rattle.dw_convert_lines.proofs.BegunPrograms.{fresh_from}
use Rattle.dw_convert_lines.proofs.Outcomes.{ok_then, err_then}
use Rattle.dw_convert_lines.proofs.program.ConvertLineProgram.convert.Goals as goal

pub with_rows-requires-clause-fresh : goal.with_rows-requires-clause-fresh
with_rows-requires-clause-fresh g c = fresh_from c.args.self.program c.args.self.fresh

pub with_rows-requires-clause-files : goal.with_rows-requires-clause-files
with_rows-requires-clause-files g c =
    subst (λ (h : LineProgramHeader _ _). AreFiles h.encoding.encoding.version c.args.self.files.items (file_count_of c.args.self.program.program)) (sym c.header.ensures) c.args.self.numbered

pub returns-clause-ok : goal.returns-clause-ok
returns-clause-ok g c =
    let answers = goal.F-post g c.args.convert_address.now in
    ok_then c.with_rows.result _ _ (λ x o. subst (λ (h : LineProgramHeader _ _). RowsOutcome g.R.Reader.reading answers h c.args.self.files.items c.args.self.program (Ok x.0)) c.header.ensures o) c.with_rows.ensures.ok

pub returns-clause-err : goal.returns-clause-err
returns-clause-err g c =
    let answers = goal.F-post g c.args.convert_address.now in
    err_then c.with_rows.result _ _ _ (λ e o. subst (λ (h : LineProgramHeader _ _). RowsOutcome g.R.Reader.reading answers h c.args.self.files.items c.args.self.program (Err e)) c.header.ensures o) c.with_rows.ensures.err
