use Rattle.std.proofs.Common.{sym, Option, ◌≡◌, ap, subst, arith, refl, ℕ, Bool, Ok, Err}
use Rattle.std.specs.Prelude.{IfErr}
use Rattle.std.proofs.lemmas.Bool.{ne_eqb, le-leb, lt-leb}
use Rattle.std.proofs.lemmas.Result.{err_from_is_err_and, IfOk-weaker, IfErr-weaker}
use Rattle.dw_base.specs.LineMachine.{Instruction}
use Rattle.dw_read.specs.Reading.{left}
use Rattle.dw_read.proofs.Chain.{took, went, went_of, went_then, went_order, number_took, number_not}
use Rattle.dw_read_lines.specs.LineHeaderViews.{machine_of}
use Rattle.dw_read_lines.specs.LineInstructions.{extended_read, standard_read, instruction_read, extended_code, marked_code}
use Rattle.dw_read_lines.specs.LineInstructionViews.{instruction_of, code_of}
use Rattle.dw_read_lines.proofs.Orders.{took_in, err_in}
use Rattle.dw_read_lines.proofs.instruction.read_instruction.Goals as goal

pub returns-in_err-opcode-clause-err : goal.returns-in_err-opcode-clause-err
unfolding instruction_read
returns-in_err-opcode-clause-err g c =
    let p = err_from_is_err_and c.from_residual.result c.from_residual.ensures.1 in
    rw (p.1, p.2, number_not (g.R.Reader.reading c.args.input.now).is_big 1 _ _ refl c.in_err-opcode.ensures.err) refl

pub returns-then-opcode-eq0-clause-err : goal.returns-then-opcode-eq0-clause-err
unfolding instruction_read
returns-then-opcode-eq0-clause-err g c =
    let reading = g.R.Reader.reading in
    let big = (reading c.args.input.now).is_big in
    let n1 = number_took big 1 _ _ _ refl c.in_ok-opcode.ensures.ok in
    let w1 = went_of 1 _ _ c.in_ok-opcode.ensures.passes in
    let o = went_order _ _ w1 in
    let z : c.in_ok-opcode.opcode ≡ 0 = omega arith in
    IfErr-weaker c.read_extended.result _ _ (λ e h. rw (n1, z, err_in Instruction extended_read big (reading c.read_u8.new.self) e o h) refl) c.read_extended.ensures.err

pub returns-then-opcode-eq0-clause-ok : goal.returns-then-opcode-eq0-clause-ok
unfolding instruction_read
returns-then-opcode-eq0-clause-ok g c =
    let reading = g.R.Reader.reading in
    let big = (reading c.args.input.now).is_big in
    let n1 = number_took big 1 _ _ _ refl c.in_ok-opcode.ensures.ok in
    let w1 = went_of 1 _ _ c.in_ok-opcode.ensures.passes in
    let o = went_order _ _ w1 in
    let z : c.in_ok-opcode.opcode ≡ 0 = omega arith in
    IfOk-weaker c.read_extended.result _ _ (λ i h.
    let t = took_in Instruction extended_read big (reading c.read_u8.new.self) (reading c.read_extended.new.input) (instruction_of reading i) o h in
    took Instruction (instruction_read (machine_of reading big c.args.parameters.now)) (reading c.args.input.now) (reading c.read_extended.new.input) (instruction_of reading i) (went_then _ _ _ w1 (went _ _ _ _ _ h)) (rw (n1, z, t) refl)) c.read_extended.ensures.ok

pub returns-then-opcode-parameters-clause-ok : goal.returns-then-opcode-parameters-clause-ok
unfolding instruction_read
returns-then-opcode-parameters-clause-ok g c =
    let big = (g.R.Reader.reading c.args.input.now).is_big in
    let n1 = number_took big 1 _ _ _ refl c.in_ok-opcode.ensures.ok in
    let w1 = went_of 1 _ _ c.in_ok-opcode.ensures.passes in
    took Instruction (instruction_read (machine_of g.R.Reader.reading big c.args.parameters.now)) _ _ _ w1
    (rw (n1, ne_eqb c.in_ok-opcode.opcode 0 (omega arith), le-leb c.args.parameters.now.opcode_base c.in_ok-opcode.opcode (omega arith)) refl)

pub returns-clause-err : goal.returns-clause-err
unfolding instruction_read
returns-clause-err g c =
    let reading = g.R.Reader.reading in
    let big = (reading c.args.input.now).is_big in
    let n1 = number_took big 1 _ _ _ refl c.in_ok-opcode.ensures.ok in
    let w1 = went_of 1 _ _ c.in_ok-opcode.ensures.passes in
    let o = went_order _ _ w1 in
    let opcode = c.in_ok-opcode.opcode in
    let k = subst (λ (n : ℕ). IfErr c.read_standard.result (λ e. standard_read big n opcode (left (reading c.read_u8.new.self)) ≡ Err e)) c.operand_count-count.ensures
    (IfErr-weaker c.read_standard.result _ _ (λ e h. err_in Instruction (λ (b : Bool). standard_read b c.operand_count-count.result opcode) big (reading c.read_u8.new.self) e o h) c.read_standard.ensures.err) in
    IfErr-weaker c.read_standard.result _ _ (λ e h. rw (n1, ne_eqb opcode 0 (omega arith), lt-leb c.args.parameters.now.opcode_base opcode (omega arith), h) refl) k

pub returns-clause-ok : goal.returns-clause-ok
unfolding instruction_read
returns-clause-ok g c =
    let reading = g.R.Reader.reading in
    let big = (reading c.args.input.now).is_big in
    let n1 = number_took big 1 _ _ _ refl c.in_ok-opcode.ensures.ok in
    let w1 = went_of 1 _ _ c.in_ok-opcode.ensures.passes in
    let o = went_order _ _ w1 in
    let opcode = c.in_ok-opcode.opcode in
    let z = ne_eqb opcode 0 (omega arith) in
    let b = lt-leb c.args.parameters.now.opcode_base opcode (omega arith) in
    IfOk-weaker c.read_standard.result _ _ (λ i h.
    let t = took_in Instruction (λ (b : Bool). standard_read b c.operand_count-count.result opcode) big _ _ _ o h in
    let k = subst (λ (n : ℕ). standard_read big n opcode (left (reading c.read_u8.new.self)) ≡ Ok (instruction_of reading i, left (reading c.read_standard.new.input))) c.operand_count-count.ensures t in
    took Instruction (instruction_read (machine_of reading big c.args.parameters.now)) _ _ _ (went_then _ _ _ w1 (went _ _ _ _ _ h)) (rw (n1, z, b, k) refl)) c.read_standard.ensures.ok

pub returns-then-opcode-eq0-clause-code : goal.returns-then-opcode-eq0-clause-code
unfolding extended_code
returns-then-opcode-eq0-clause-code g c =
    let reading = g.R.Reader.reading in
    let big = (reading c.args.input.now).is_big in
    let n1 = number_took big 1 _ _ _ refl c.in_ok-opcode.ensures.ok in
    let w1 = went_of 1 _ _ c.in_ok-opcode.ensures.passes in
    let o = went_order _ _ w1 in
    let z : c.in_ok-opcode.opcode ≡ 0 = omega arith in
    IfOk-weaker c.read_extended.result _ _ (λ i h.
    let k = subst (λ (b : Bool). marked_code b (left (reading c.read_u8.new.self)) ≡ Ok (code_of i)) o h in
    rw (n1, z, k) refl) c.read_extended.ensures.code

pub returns-then-opcode-parameters-clause-code : goal.returns-then-opcode-parameters-clause-code
unfolding extended_code
returns-then-opcode-parameters-clause-code g c =
    let big = (g.R.Reader.reading c.args.input.now).is_big in
    let n1 = number_took big 1 _ _ _ refl c.in_ok-opcode.ensures.ok in
    rw (n1, ne_eqb c.in_ok-opcode.opcode 0 (omega arith)) refl

pub returns-clause-code : goal.returns-clause-code
unfolding extended_code
returns-clause-code g c =
    let big = (g.R.Reader.reading c.args.input.now).is_big in
    let n1 = number_took big 1 _ _ _ refl c.in_ok-opcode.ensures.ok in
    let z = ne_eqb c.in_ok-opcode.opcode 0 (omega arith) in
    IfOk-weaker c.read_standard.result _ _ (λ i h. rw (n1, z) (ap (λ (o : Option ℕ). Ok o) (sym h))) c.read_standard.ensures.code
