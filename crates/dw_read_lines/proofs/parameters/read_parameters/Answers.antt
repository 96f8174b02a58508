use Rattle.std.proofs.Common.{◌∙◌, ap, refl, rules, ℕ, ◌-◌, Bool}
use Rattle.std.proofs.lemmas.Int.{to_z-of_z}
use mir.Val.{SFits}
use mir.Syntax.{w8}
use Rattle.std.proofs.lemmas.Result.{err_from_is_err_and}
use Rattle.dw_base.specs.LineMachine.{LineHeader}
use Rattle.dw_read.specs.Reading.{Reading}
use Rattle.dw_read.proofs.Chain.{took, went, went_of, went_then, went_order, number_took, number_not}
use Rattle.dw_read_lines.specs.LineHeaders.{operations_read, parameters_read}
use Rattle.dw_read_lines.proofs.Orders.{took_in, err_in, so_many, not_so_many}
use Rattle.dw_read_lines.proofs.parameters.read_parameters.Goals as goal

pub returns-in_err-minimum-clause-err : goal.returns-in_err-minimum-clause-err
unfolding parameters_read
returns-in_err-minimum-clause-err g c =
    let big = (g.R.Reader.reading c.args.input.now).is_big in
    let p = err_from_is_err_and c.from_residual.result c.from_residual.ensures.1 in
    let h = number_not big 1 _ _ refl c.in_err-minimum.ensures.err in
    rw (p.1, p.2, h) refl

pub returns-in_err-operations-clause-err : goal.returns-in_err-operations-clause-err
unfolding parameters_read
returns-in_err-operations-clause-err g c =
    let big = (g.R.Reader.reading c.args.input.now).is_big in
    let n1 = number_took big 1 _ _ _ refl c.in_ok-minimum.ensures.ok in
    let w1 = went_of 1 _ _ c.in_ok-minimum.ensures.passes in
    let p = err_from_is_err_and c.from_residual-in_err-operations.result c.from_residual-in_err-operations.ensures.1 in
    let h = err_in ℕ (λ (b : Bool). operations_read b c.args.version) big (g.R.Reader.reading c.read_u8.new.self) _ (went_order _ _ w1) c.in_err-operations.ensures.err in
    rw (p.1, p.2, n1, h) refl

pub returns-in_err-statement-clause-err : goal.returns-in_err-statement-clause-err
unfolding parameters_read
returns-in_err-statement-clause-err g c =
    let big = (g.R.Reader.reading c.args.input.now).is_big in
    let n1 = number_took big 1 _ _ _ refl c.in_ok-minimum.ensures.ok in
    let w1 = went_of 1 _ _ c.in_ok-minimum.ensures.passes in
    let n2 = took_in ℕ (λ (b : Bool). operations_read b c.args.version) big _ _ _ (went_order _ _ w1) c.in_ok-operations.ensures.ok in
    let w2 = went_then _ _ _ w1 (went _ _ _ _ _ c.in_ok-operations.ensures.ok) in
    let p = err_from_is_err_and c.from_residual-in_err-statement.result c.from_residual-in_err-statement.ensures.1 in
    let h = number_not big 1 _ _ (went_order _ _ w2) c.in_err-statement.ensures.err in
    rw (p.1, p.2, n1, n2, h) refl

pub returns-in_err-line_base-clause-err : goal.returns-in_err-line_base-clause-err
unfolding parameters_read
returns-in_err-line_base-clause-err g c =
    let big = (g.R.Reader.reading c.args.input.now).is_big in
    let n1 = number_took big 1 _ _ _ refl c.in_ok-minimum.ensures.ok in
    let w1 = went_of 1 _ _ c.in_ok-minimum.ensures.passes in
    let n2 = took_in ℕ (λ (b : Bool). operations_read b c.args.version) big _ _ _ (went_order _ _ w1) c.in_ok-operations.ensures.ok in
    let w2 = went_then _ _ _ w1 (went _ _ _ _ _ c.in_ok-operations.ensures.ok) in
    let n3 = number_took big 1 _ _ _ (went_order _ _ w2) c.in_ok-statement.ensures.ok in
    let w3 = went_then _ _ _ w2 (went_of 1 _ _ c.in_ok-statement.ensures.passes) in
    let p = err_from_is_err_and c.from_residual-in_err-line_base.result c.from_residual-in_err-line_base.ensures.1 in
    let h = number_not big 1 _ _ (went_order _ _ w3) c.in_err-line_base.ensures.err in
    rw (p.1, p.2, n1, n2, n3, h) refl

pub returns-in_err-line_range-clause-err : goal.returns-in_err-line_range-clause-err
unfolding parameters_read
returns-in_err-line_range-clause-err g c =
    let big = (g.R.Reader.reading c.args.input.now).is_big in
    let n1 = number_took big 1 _ _ _ refl c.in_ok-minimum.ensures.ok in
    let w1 = went_of 1 _ _ c.in_ok-minimum.ensures.passes in
    let n2 = took_in ℕ (λ (b : Bool). operations_read b c.args.version) big _ _ _ (went_order _ _ w1) c.in_ok-operations.ensures.ok in
    let w2 = went_then _ _ _ w1 (went _ _ _ _ _ c.in_ok-operations.ensures.ok) in
    let n3 = number_took big 1 _ _ _ (went_order _ _ w2) c.in_ok-statement.ensures.ok in
    let w3 = went_then _ _ _ w2 (went_of 1 _ _ c.in_ok-statement.ensures.passes) in
    let n4 = number_took big 1 _ _ _ (went_order _ _ w3) c.in_ok-line_base.ensures.ok in
    let w4 = went_then _ _ _ w3 (went_of 1 _ _ c.in_ok-line_base.ensures.passes) in
    let p = err_from_is_err_and c.from_residual-in_err-line_range.result c.from_residual-in_err-line_range.ensures.1 in
    let h = number_not big 1 _ _ (went_order _ _ w4) c.in_err-line_range.ensures.err in
    rw (p.1, p.2, n1, n2, n3, n4, h) refl

pub returns-in_err-opcode_base-clause-err : goal.returns-in_err-opcode_base-clause-err
unfolding parameters_read
returns-in_err-opcode_base-clause-err g c =
    let big = (g.R.Reader.reading c.args.input.now).is_big in
    let n1 = number_took big 1 _ _ _ refl c.in_ok-minimum.ensures.ok in
    let w1 = went_of 1 _ _ c.in_ok-minimum.ensures.passes in
    let n2 = took_in ℕ (λ (b : Bool). operations_read b c.args.version) big _ _ _ (went_order _ _ w1) c.in_ok-operations.ensures.ok in
    let w2 = went_then _ _ _ w1 (went _ _ _ _ _ c.in_ok-operations.ensures.ok) in
    let n3 = number_took big 1 _ _ _ (went_order _ _ w2) c.in_ok-statement.ensures.ok in
    let w3 = went_then _ _ _ w2 (went_of 1 _ _ c.in_ok-statement.ensures.passes) in
    let n4 = number_took big 1 _ _ _ (went_order _ _ w3) c.in_ok-line_base.ensures.ok in
    let w4 = went_then _ _ _ w3 (went_of 1 _ _ c.in_ok-line_base.ensures.passes) in
    let n5 = number_took big 1 _ _ _ (went_order _ _ w4) c.in_ok-line_range.ensures.ok in
    let w5 = went_then _ _ _ w4 (went_of 1 _ _ c.in_ok-line_range.ensures.passes) in
    let p = err_from_is_err_and c.from_residual-in_err-opcode_base.result c.from_residual-in_err-opcode_base.ensures.1 in
    let h = number_not big 1 _ _ (went_order _ _ w5) c.in_err-opcode_base.ensures.err in
    rw (p.1, p.2, n1, n2, n3, n4, n5, h) refl

pub returns-in_err-operand_counts-clause-err : goal.returns-in_err-operand_counts-clause-err
unfolding parameters_read
returns-in_err-operand_counts-clause-err g c =
    let big = (g.R.Reader.reading c.args.input.now).is_big in
    let n1 = number_took big 1 _ _ _ refl c.in_ok-minimum.ensures.ok in
    let w1 = went_of 1 _ _ c.in_ok-minimum.ensures.passes in
    let n2 = took_in ℕ (λ (b : Bool). operations_read b c.args.version) big _ _ _ (went_order _ _ w1) c.in_ok-operations.ensures.ok in
    let w2 = went_then _ _ _ w1 (went _ _ _ _ _ c.in_ok-operations.ensures.ok) in
    let n3 = number_took big 1 _ _ _ (went_order _ _ w2) c.in_ok-statement.ensures.ok in
    let w3 = went_then _ _ _ w2 (went_of 1 _ _ c.in_ok-statement.ensures.passes) in
    let n4 = number_took big 1 _ _ _ (went_order _ _ w3) c.in_ok-line_base.ensures.ok in
    let w4 = went_then _ _ _ w3 (went_of 1 _ _ c.in_ok-line_base.ensures.passes) in
    let n5 = number_took big 1 _ _ _ (went_order _ _ w4) c.in_ok-line_range.ensures.ok in
    let w5 = went_then _ _ _ w4 (went_of 1 _ _ c.in_ok-line_range.ensures.passes) in
    let n6 = number_took big 1 _ _ _ (went_order _ _ w5) c.in_ok-opcode_base.ensures.ok in
    let w6 = went_then _ _ _ w5 (went_of 1 _ _ c.in_ok-opcode_base.ensures.passes) in
    let p = err_from_is_err_and c.from_residual-in_err-operand_counts.result c.from_residual-in_err-operand_counts.ensures.1 in
    let h = not_so_many _ (c.in_ok-opcode_base.opcode_base - 1) _ _ c.standard_opcodes.ensures c.in_err-operand_counts.ensures.err.reason in
    rw (p.1, p.2, n1, n2, n3, n4, n5, n6, h) refl

pub returns-clause-ok : goal.returns-clause-ok
unfolding parameters_read
returns-clause-ok g c =
    let big = (g.R.Reader.reading c.args.input.now).is_big in
    let n1 = number_took big 1 _ _ _ refl c.in_ok-minimum.ensures.ok in
    let w1 = went_of 1 _ _ c.in_ok-minimum.ensures.passes in
    let n2 = took_in ℕ (λ (b : Bool). operations_read b c.args.version) big _ _ _ (went_order _ _ w1) c.in_ok-operations.ensures.ok in
    let w2 = went_then _ _ _ w1 (went _ _ _ _ _ c.in_ok-operations.ensures.ok) in
    let n3 = number_took big 1 _ _ _ (went_order _ _ w2) c.in_ok-statement.ensures.ok in
    let w3 = went_then _ _ _ w2 (went_of 1 _ _ c.in_ok-statement.ensures.passes) in
    let n4 = number_took big 1 _ _ _ (went_order _ _ w3) c.in_ok-line_base.ensures.ok in
    let w4 = went_then _ _ _ w3 (went_of 1 _ _ c.in_ok-line_base.ensures.passes) in
    let n5 = number_took big 1 _ _ _ (went_order _ _ w4) c.in_ok-line_range.ensures.ok in
    let w5 = went_then _ _ _ w4 (went_of 1 _ _ c.in_ok-line_range.ensures.passes) in
    let n6 = number_took big 1 _ _ _ (went_order _ _ w5) c.in_ok-opcode_base.ensures.ok in
    let w6 = went_then _ _ _ w5 (went_of 1 _ _ c.in_ok-opcode_base.ensures.passes) in
    let n7 = so_many _ (c.in_ok-opcode_base.opcode_base - 1) _ _ _ c.standard_opcodes.ensures (g.met.R.Reader.is_reading c.read_u8-5.new.self) c.in_ok-operand_counts.ensures.part c.in_ok-operand_counts.ensures.ok in
    let w7 = went_then _ _ _ w6 (went_of _ _ _ c.in_ok-operand_counts.ensures.ok) in
    let fits : SFits w8 c.signed_byte.result = search rules in
    let z = to_z-of_z w8 c.signed_byte.result fits ∙ c.signed_byte.ensures in
    took (ℕ × LineHeader) (parameters_read big c.args.version) _ _ _ w7 (rw (n1, n2, n3, n4, n5, n6, n7, z) refl)

pub returns-clause-order : goal.returns-clause-order
returns-clause-order g c =
    let w1 = went_of 1 _ _ c.in_ok-minimum.ensures.passes in
    let w2 = went_then _ _ _ w1 (went _ _ _ _ _ c.in_ok-operations.ensures.ok) in
    let w3 = went_then _ _ _ w2 (went_of 1 _ _ c.in_ok-statement.ensures.passes) in
    let w4 = went_then _ _ _ w3 (went_of 1 _ _ c.in_ok-line_base.ensures.passes) in
    let w5 = went_then _ _ _ w4 (went_of 1 _ _ c.in_ok-line_range.ensures.passes) in
    let w6 = went_then _ _ _ w5 (went_of 1 _ _ c.in_ok-opcode_base.ensures.passes) in
    ap (λ (r : Reading). r.is_big) c.in_ok-operand_counts.ensures.part ∙ went_order _ _ w6
