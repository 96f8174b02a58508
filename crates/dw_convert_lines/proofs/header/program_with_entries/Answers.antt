use Rattle.std.proofs.Common.{subst, inl, inr, Ok, Err}
use Rattle.std.specs.Prelude.{nat_le, [], ◌∷◌}
use Rattle.dw_base.specs.declared.ids.FileId.{FileId}
use Rattle.dw_line.specs.LinePrograms.{LineProgramValue}
use Rattle.dw_sources.specs.declared.convert_error.ConvertError.{ConvertError}
use Rattle.dw_convert_lines.specs.EntryImages.{Converting}
use Rattle.dw_convert_lines.specs.HeaderLists.{EntriesMade}
use Rattle.dw_convert_lines.specs.Views.{texts_of, converting}
use Rattle.dw_convert_lines.proofs.Reasons.{is_err}
use Rattle.dw_convert_lines.proofs.header.program_with_entries.Goals as goal

pub returns-in_err-files-clause-err : goal.returns-in_err-files-clause-err
returns-in_err-files-clause-err g c =
    let reading = g.R.Reader.reading in
    let texts = texts_of reading c.args.dwarf.now in
    let why : ConvertError = c.in_err-files.field-0.0 in
    let e = is_err _ why c.from_residual-in_err-files.ensures in
    rw e (elim c.in_err-files.ensures.err [
      | inl n ↦ inl n
      | inr n ↦ inr (subst (λ (p : LineProgramValue). EntriesMade reading texts c.args.header.now (nat_le 5 c.args.encoding.version) c.args.entries.now (converting p (record { 0 = 0 } ∷ []) c.args.strings.now c.args.line_strings.now) (Err why)) c.in_ok-program.ensures.ok n)
    ])

pub returns-clause-ok : goal.returns-clause-ok
returns-clause-ok g c =
    let reading = g.R.Reader.reading in
    let texts = texts_of reading c.args.dwarf.now in
    let x : Converting FileId = converting c.convert_entries.new.program c.in_ok-files.files.items c.convert_entries.new.strings c.convert_entries.new.line_strings in
    subst (λ (p : LineProgramValue). EntriesMade reading texts c.args.header.now (nat_le 5 c.args.encoding.version) c.args.entries.now (converting p (record { 0 = 0 } ∷ []) c.args.strings.now c.args.line_strings.now) (Ok x)) c.in_ok-program.ensures.ok c.in_ok-files.ensures.ok

pub new_program-requires-clause-parameters : goal.new_program-requires-clause-parameters
new_program-requires-clause-parameters g c = c.requires.parameters

pub new_program-requires-clause-name : goal.new_program-requires-clause-name
new_program-requires-clause-name g c = c.requires.name

pub convert_entries-requires-clause-begun : goal.convert_entries-requires-clause-begun
convert_entries-requires-clause-begun g c = c.requires.begun

pub convert_entries-requires-clause-laid : goal.convert_entries-requires-clause-laid
convert_entries-requires-clause-laid g c = c.requires.laid

pub returns-in_err-program-clause-ok : goal.returns-in_err-program-clause-ok
returns-in_err-program-clause-ok g c = rw (is_err _ _ c.from_residual.ensures) tt

pub returns-in_err-files-clause-ok : goal.returns-in_err-files-clause-ok
returns-in_err-files-clause-ok g c = rw (is_err _ _ c.from_residual-in_err-files.ensures) tt

pub returns-in_err-program-clause-err : goal.returns-in_err-program-clause-err
returns-in_err-program-clause-err g c = rw (is_err _ _ c.from_residual.ensures) (inl c.in_err-program.ensures.err)

pub returns-clause-err : goal.returns-clause-err
returns-clause-err g c = tt
