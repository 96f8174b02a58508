use Rattle.std.proofs.Common.{◌≡◌, ◌∙◌, sym, ap, ◌<◌, arith, rules, ◌+ℤ◌, to_z, of_z, w64}
use Rattle.std.proofs.lemmas.Int.{ints}
use Rattle.std.specs.Option.{option_map}
use Rattle.dw_convert_lines.specs.RegisterViews.{registers_of}
use Rattle.dw_convert_lines.proofs.StepLaws.{none_special, special_wide, special_moved}
use Rattle.dw_convert_lines.proofs.step.special.Goals as goal

pub returns-in_err-operations : goal.returns-in_err-operations
returns-in_err-operations c = λ h t.
    let z : c.args.parameters.line_range ≡ 0 = omega (arith, c.in_err-operations.ensures) in
    ap (option_map registers_of) c.from_residual.ensures ∙ none_special c.args.parameters h t (registers_of c.args.registers) c.args.opcode z

pub returns-in_err-moved : goal.returns-in_err-moved
returns-in_err-moved c = λ h t.
    let o = c.in_ok-operations.ensures in
    let z : 0 < c.args.parameters.line_range = omega (arith, o.0) in
    ap (option_map registers_of) c.from_residual-in_err-moved.ensures
    ∙ special_wide c.args.parameters h t (registers_of c.args.registers) c.args.opcode c.in_ok-operations.operations z (rw (c.from.ensures, c.from-range.ensures) at o.1) (search rules) (sym c.advanced.ensures ∙ ap (option_map registers_of) c.in_err-moved.was)

pub returns : goal.returns
returns c = λ h t.
    let o = c.in_ok-operations.ensures in
    let z : 0 < c.args.parameters.line_range = omega (arith, o.0) in
    c.line_moved.ensures
    ∙ special_moved c.args.parameters h t (registers_of c.args.registers) c.args.opcode c.in_ok-operations.operations (to_z w64 (of_z w64 (to_z w64 (of_z w64 c.from-2.result) +ℤ to_z w64 (of_z w64 c.from-3.result)))) (registers_of c.in_ok-moved.moved) z
    (rw (c.from.ensures, c.from-range.ensures) at o.1)
    (omega (arith, ints, c.from-2.ensures, c.from-3.ensures))
    (sym (ap (option_map registers_of) c.in_ok-moved.was) ∙ c.advanced.ensures)
