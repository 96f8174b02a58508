use Rattle.std.proofs.Common.{◌≡◌, ◌∙◌, ap, ◌<◌, arith}
use Rattle.std.specs.Option.{option_map}
use Rattle.dw_convert_lines.specs.RegisterViews.{registers_of}
use Rattle.dw_convert_lines.proofs.StepLaws.{none_added, const_added}
use Rattle.dw_convert_lines.proofs.step.const_added.Goals as goal

pub returns-in_err-operations : goal.returns-in_err-operations
returns-in_err-operations c = λ h t b.
    let z : c.args.parameters.line_range ≡ 0 = omega (arith, c.in_err-operations.ensures) in
    ap (option_map registers_of) c.from_residual.ensures ∙ none_added c.args.parameters h t (registers_of c.args.registers) z

pub returns : goal.returns
returns c = λ h t b.
    let o = c.in_ok-operations.ensures in
    let z : 0 < c.args.parameters.line_range = omega (arith, o.0) in
    c.advanced.ensures ∙ const_added c.args.parameters h t (registers_of c.args.registers) c.args.opcode_base c.in_ok-operations.operations z b (rw (c.from.ensures, c.from-range.ensures) at o.1)
