use Rattle.std.proofs.Common.{◌≡◌, ◌∙◌, sym, ap, refl}
use Rattle.dw_base.specs.declared.common.LineEncoding.{LineEncoding}
use Rattle.dw_base.specs.LineMachine.{LineHeader}
use Rattle.dw_read_lines.specs.LineHeaderViews.{machine_of}
use Rattle.dw_convert_lines.specs.RegisterSteps.{IsTold}
use Rattle.dw_convert_lines.proofs.step.step.Goals as goal

told : (e f : LineEncoding) (h : LineHeader) → e ≡ f → IsTold f h → IsTold e h
told e f h q t = record {
  minimum_length = t.minimum_length ∙ ap (λ (x : LineEncoding). x.minimum_instruction_length) (sym q);
  line_base = t.line_base ∙ ap (λ (x : LineEncoding). x.line_base) (sym q);
  line_range = t.line_range ∙ ap (λ (x : LineEncoding). x.line_range) (sym q);
}

pub returns-in-Special : goal.returns-in-Special
returns-in-Special g c = λ big.
    let t = told _ _ (machine_of g.R.Reader.reading big c.args.header.now.parameters) c.line_encoding-parameters.ensures (record { minimum_length = refl; line_base = refl; line_range = refl }) in
    rw c.in-Special.is (c.special.ensures (machine_of g.R.Reader.reading big c.args.header.now.parameters) t)

pub returns-in-ConstAddPc : goal.returns-in-ConstAddPc
returns-in-ConstAddPc g c = λ big.
    let t = told _ _ (machine_of g.R.Reader.reading big c.args.header.now.parameters) c.line_encoding-parameters.ensures (record { minimum_length = refl; line_base = refl; line_range = refl }) in
    rw c.in-ConstAddPc.is (c.const_added.ensures (machine_of g.R.Reader.reading big c.args.header.now.parameters) t (sym c.opcode_base.ensures))
