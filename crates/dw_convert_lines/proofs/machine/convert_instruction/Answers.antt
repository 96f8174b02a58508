use Rattle.std.proofs.Common.{◌≡◌, ◌∙◌, sym, ap, subst, inl, inr, refl, ℕ, Some, ◌⊎◌}
use Rattle.std.specs.Option.{option_map}
use Rattle.dw_base.specs.declared.common.Encoding.{Encoding}
use Rattle.dw_base.specs.declared.common.LineEncoding.{LineEncoding}
use Rattle.dw_line.specs.ProgramTexts.{ProgramValue}
use Rattle.dw_read_lines.specs.LineHeaderViews.{machine_of}
use Rattle.dw_read_lines.specs.LineInstructionViews.{instruction_of}
use Rattle.dw_sources.specs.declared.convert_error.ConvertError.{ConvertError}
use Rattle.dw_convert_lines.specs.ReadRows.{stepped}
use Rattle.dw_convert_lines.specs.RegisterViews.{registers_of}
use Rattle.dw_convert_lines.specs.RowOutcomes.{RefusesBegin, AddsRow, RefusesRow, Changes, Refuses}
use Rattle.dw_convert_lines.proofs.EffectLaws.{row_followed, row_refused, end_followed, end_refused, nothing_followed, address_followed}
use Rattle.dw_convert_lines.proofs.Reasons.{is_err}
use Rattle.dw_convert_lines.proofs.machine.convert_instruction.Goals as goal

pub returns-in_ok-add_row-in-ShowsRow-clause-ok : goal.returns-in_ok-add_row-in-ShowsRow-clause-ok
returns-in_ok-add_row-in-ShowsRow-clause-ok g c = λ big.
    let h = machine_of g.R.Reader.reading big c.args.header.now.parameters in
    let i = instruction_of g.R.Reader.reading c.args.instruction.now in
    let step : stepped h i (registers_of c.args.machine.registers) ≡ Some (registers_of c.in-Some.registers) = sym (c.step.ensures big) ∙ ap (option_map registers_of) c.in-Some.is in
    let v : c.encoding-version.result.version ≡ c.args.header.now.encoding.encoding.version = ap (λ (e : Encoding). e.version) c.encoding-version.ensures in
    let k = subst (λ (n : ℕ). Changes (AddsRow (goal.F-post g c.args.convert_address.now) c.args.machine.base n c.args.files.now (registers_of c.in-Some.registers)) c.args.program.now c.add_row.new.program) v c.in_ok-add_row-in-ShowsRow.ensures.ok in
    row_followed h c.args.header.now.encoding.encoding.version c.args.files.now (goal.F-post g c.args.convert_address.now) i (registers_of c.args.machine.registers) (registers_of c.in-Some.registers) c.args.machine.base step c.args.program.now c.add_row.new.program (registers_of c.cleared.result) (sym c.effect_of.ensures ∙ c.in-ShowsRow.is) k c.cleared.ensures

pub returns-in_ok-add_end-in-EndsSequence-clause-ok : goal.returns-in_ok-add_end-in-EndsSequence-clause-ok
returns-in_ok-add_end-in-EndsSequence-clause-ok g c = λ big.
    let h = machine_of g.R.Reader.reading big c.args.header.now.parameters in
    let i = instruction_of g.R.Reader.reading c.args.instruction.now in
    let step : stepped h i (registers_of c.args.machine.registers) ≡ Some (registers_of c.in-Some.registers) = sym (c.step.ensures big) ∙ ap (option_map registers_of) c.in-Some.is in
    end_followed h c.args.header.now.encoding.encoding.version c.args.files.now (goal.F-post g c.args.convert_address.now) i (registers_of c.args.machine.registers) (registers_of c.in-Some.registers) c.args.machine.base step c.args.program.now c.add_end.new.program (registers_of c.begin.result) (sym c.effect_of.ensures ∙ c.in-EndsSequence.is) c.in_ok-add_end-in-EndsSequence.ensures.ok
    (c.begin.ensures h (sym (ap (λ (e : LineEncoding). e.default_is_stmt) c.line_encoding.ensures)))

pub returns-then-in_sequence-clause-ok : goal.returns-then-in_sequence-clause-ok
returns-then-in_sequence-clause-ok g c = λ big.
    let h = machine_of g.R.Reader.reading big c.args.header.now.parameters in
    let i = instruction_of g.R.Reader.reading c.args.instruction.now in
    let step : stepped h i (registers_of c.args.machine.registers) ≡ Some (registers_of c.in-Some.registers) = sym (c.step.ensures big) ∙ ap (option_map registers_of) c.in-Some.is in
    address_followed h c.args.header.now.encoding.encoding.version c.args.files.now (goal.F-post g c.args.convert_address.now) i (registers_of c.args.machine.registers) (registers_of c.in-Some.registers) c.args.machine.base step c.args.program.now c.args.machine.base (sym c.effect_of.ensures ∙ c.in-SetsAddress.is) c.requires.there (rw (sym c.in_sequence.ensures ∙ c.if-in_sequence.true) refl)

pub returns-else-in_sequence-clause-ok : goal.returns-else-in_sequence-clause-ok
returns-else-in_sequence-clause-ok g c = λ big.
    let h = machine_of g.R.Reader.reading big c.args.header.now.parameters in
    let i = instruction_of g.R.Reader.reading c.args.instruction.now in
    let step : stepped h i (registers_of c.args.machine.registers) ≡ Some (registers_of c.in-Some.registers) = sym (c.step.ensures big) ∙ ap (option_map registers_of) c.in-Some.is in
    address_followed h c.args.header.now.encoding.encoding.version c.args.files.now (goal.F-post g c.args.convert_address.now) i (registers_of c.args.machine.registers) (registers_of c.in-Some.registers) c.args.machine.base step c.args.program.now (Some c.in-Some.registers.address) (sym c.effect_of.ensures ∙ c.in-SetsAddress.is) c.requires.there (rw (sym c.in_sequence.ensures ∙ c.if-in_sequence.false) refl)

pub returns-in-Nothing-clause-ok : goal.returns-in-Nothing-clause-ok
returns-in-Nothing-clause-ok g c = λ big.
    let h = machine_of g.R.Reader.reading big c.args.header.now.parameters in
    let i = instruction_of g.R.Reader.reading c.args.instruction.now in
    let step : stepped h i (registers_of c.args.machine.registers) ≡ Some (registers_of c.in-Some.registers) = sym (c.step.ensures big) ∙ ap (option_map registers_of) c.in-Some.is in
    nothing_followed h c.args.header.now.encoding.encoding.version c.args.files.now (goal.F-post g c.args.convert_address.now) i (registers_of c.args.machine.registers) (registers_of c.in-Some.registers) c.args.machine.base step c.args.program.now (sym c.effect_of.ensures ∙ c.in-Nothing.is) c.requires.there

pub returns-in_err-add_row-in-ShowsRow-clause-err : goal.returns-in_err-add_row-in-ShowsRow-clause-err
returns-in_err-add_row-in-ShowsRow-clause-err g c =
    let why : ConvertError = c.in_err-add_row-in-ShowsRow.field-0.0 in
    let e = is_err _ why c.from_residual.ensures in
    let answers = goal.F-post g c.args.convert_address.now in
    let v : c.encoding-version.result.version ≡ c.args.header.now.encoding.encoding.version = ap (λ (e : Encoding). e.version) c.encoding-version.ensures in
    rw e (elim c.in_err-add_row-in-ShowsRow.ensures.err [
      | inl n ↦ inl n
      | inr n ↦ inr (λ big.
          let h = machine_of g.R.Reader.reading big c.args.header.now.parameters in
          let i = instruction_of g.R.Reader.reading c.args.instruction.now in
          let step : stepped h i (registers_of c.args.machine.registers) ≡ Some (registers_of c.in-Some.registers) = sym (c.step.ensures big) ∙ ap (option_map registers_of) c.in-Some.is in
          row_refused h c.args.header.now.encoding.encoding.version c.args.files.now (goal.F-post g c.args.convert_address.now) i (registers_of c.args.machine.registers) (registers_of c.in-Some.registers) c.args.machine.base step c.args.program.now why (sym c.effect_of.ensures ∙ c.in-ShowsRow.is)
          (subst (λ (n : ℕ). Refuses (λ (p : ProgramValue). RefusesBegin answers c.args.machine.base p why ⊎ RefusesRow answers c.args.machine.base n c.args.files.now (registers_of c.in-Some.registers) p why) c.args.program.now) v n))
    ])

pub returns-in_err-add_end-in-EndsSequence-clause-err : goal.returns-in_err-add_end-in-EndsSequence-clause-err
returns-in_err-add_end-in-EndsSequence-clause-err g c =
    let why : ConvertError = c.in_err-add_end-in-EndsSequence.field-0.0 in
    let e = is_err _ why c.from_residual-in_err-add_end-in-EndsSequence.ensures in
    rw e (elim c.in_err-add_end-in-EndsSequence.ensures.err [
      | inl n ↦ inl n
      | inr n ↦ inr (λ big.
          let h = machine_of g.R.Reader.reading big c.args.header.now.parameters in
          let i = instruction_of g.R.Reader.reading c.args.instruction.now in
          let step : stepped h i (registers_of c.args.machine.registers) ≡ Some (registers_of c.in-Some.registers) = sym (c.step.ensures big) ∙ ap (option_map registers_of) c.in-Some.is in
          end_refused h c.args.header.now.encoding.encoding.version c.args.files.now (goal.F-post g c.args.convert_address.now) i (registers_of c.args.machine.registers) (registers_of c.in-Some.registers) c.args.machine.base step c.args.program.now why (sym c.effect_of.ensures ∙ c.in-EndsSequence.is) n)
    ])

pub returns-in_err-add_row-in-ShowsRow-clause-ok : goal.returns-in_err-add_row-in-ShowsRow-clause-ok
returns-in_err-add_row-in-ShowsRow-clause-ok g c = rw (is_err _ _ c.from_residual.ensures) tt

pub returns-in_err-add_end-in-EndsSequence-clause-ok : goal.returns-in_err-add_end-in-EndsSequence-clause-ok
returns-in_err-add_end-in-EndsSequence-clause-ok g c = rw (is_err _ _ c.from_residual-in_err-add_end-in-EndsSequence.ensures) tt

pub returns-in_ok-add_row-in-ShowsRow-clause-err : goal.returns-in_ok-add_row-in-ShowsRow-clause-err
returns-in_ok-add_row-in-ShowsRow-clause-err g c = tt

pub returns-in_ok-add_end-in-EndsSequence-clause-err : goal.returns-in_ok-add_end-in-EndsSequence-clause-err
returns-in_ok-add_end-in-EndsSequence-clause-err g c = tt

pub returns-then-in_sequence-clause-err : goal.returns-then-in_sequence-clause-err
returns-then-in_sequence-clause-err g c = tt

pub returns-else-in_sequence-clause-err : goal.returns-else-in_sequence-clause-err
returns-else-in_sequence-clause-err g c = tt

pub returns-in-Nothing-clause-err : goal.returns-in-Nothing-clause-err
returns-in-Nothing-clause-err g c = tt
