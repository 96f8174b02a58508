use Rattle.std.proofs.Common.{sym, subst, inl, inr, List, Ok, Err, refl}
use Rattle.dw_base.specs.declared.ids.FileId.{FileId}
use Rattle.dw_line.specs.LinePrograms.{file_count_of}
use Rattle.dw_convert_lines.specs.ReadPrograms.{RowsOutcome}
use Rattle.dw_convert_lines.specs.RowImages.{AreFiles}
use Rattle.dw_convert_lines.proofs.program.with_rows.Goals as goal

pub convert_rows-requires-clause-files : goal.convert_rows-requires-clause-files
convert_rows-requires-clause-files g c =
    subst (λ (ids : List FileId). AreFiles c.args.header.now.encoding.encoding.version ids (file_count_of c.args.program.program)) (sym c.as_slice.ensures.value) c.requires.files

pub returns-in-Err-clause-err : goal.returns-in-Err-clause-err
returns-in-Err-clause-err g c =
    let answers = goal.F-post g c.args.convert_address.now in
    elim c.in-Err.ensures.err [
      | inl n ↦ inl n
      | inr n ↦ inr (subst (λ (ids : List FileId). RowsOutcome g.R.Reader.reading answers c.args.header.now ids c.args.program (Err c.in-Err.why)) c.as_slice.ensures.value n)
    ]

pub returns-in-Ok-clause-ok : goal.returns-in-Ok-clause-ok
returns-in-Ok-clause-ok g c =
    let answers = goal.F-post g c.args.convert_address.now in
    subst (λ (ids : List FileId). RowsOutcome g.R.Reader.reading answers c.args.header.now ids c.args.program (Ok c.convert_rows.new.program)) c.as_slice.ensures.value c.in-Ok.ensures.ok

pub returns-in-Ok-clause-err : goal.returns-in-Ok-clause-err
returns-in-Ok-clause-err g c = tt

pub returns-in-Err-clause-ok : goal.returns-in-Err-clause-ok
returns-in-Err-clause-ok g c = tt

pub returns-in-Err-clause-files : goal.returns-in-Err-clause-files
returns-in-Err-clause-files g c = tt

pub returns-in-Ok-clause-files : goal.returns-in-Ok-clause-files
returns-in-Ok-clause-files g c = refl
