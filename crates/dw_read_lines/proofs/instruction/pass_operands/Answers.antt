use Rattle.std.proofs.Common.{◌≡◌, ◌∙◌, ap, arith, ◌-◌, ◌+◌, ℕ}
use Rattle.std.proofs.lemmas.Result.{err_from_is_err_and}
use Rattle.dw_base.specs.Leb128.{uleb_at}
use Rattle.dw_base.specs.LineMachine.{Instruction, Passed}
use Rattle.dw_read.specs.Reading.{left}
use Rattle.dw_read.specs.Reasons.{uleb_read}
use Rattle.dw_read.proofs.Chain.{took, took_of, went, went_none, went_then}
use Rattle.dw_read.proofs.Laws.{uleb_law}
use Rattle.dw_read_lines.specs.LineInstructions.{passed_read}
use Rattle.dw_read_lines.proofs.InstructionReads.{passed_none, passed_more, passed_not}
use Rattle.dw_read_lines.proofs.instruction.pass_operands.Goals as goal

pub loop-init : goal.loop-init
loop-init g c =
    let e : c.args.count ≡ c.args.count - 0 = omega arith in
    record {
      went = went_none _ (g.met.R.Reader.is_reading c.args.input.now);
      is = ap (λ (n : ℕ). passed_read n (left (g.R.Reader.reading c.args.input.now))) e;
      within = omega arith;
    }

pub returns-in_err-read_uleb128-clause-err : goal.returns-in_err-read_uleb128-clause-err
returns-in_err-read_uleb128-clause-err g c =
    let p = err_from_is_err_and c.from_residual.result c.from_residual.ensures.1 in
    rw (p.1, p.2) (c.loop.invariant.is ∙ passed_not (c.args.count - c.loop.counter) (c.args.count - (c.loop.counter + 1)) _ _ (omega arith) c.in_err-read_uleb128.ensures.err.reason)

pub loop-preserved : goal.loop-preserved
loop-preserved g c =
    let t = took_of _ uleb_at uleb_read _ _ _ uleb_law c.in_ok-read_uleb128.ensures.ok in
    record {
      went = went_then _ _ _ c.loop.invariant.went (went _ _ _ _ _ t);
      is = c.loop.invariant.is ∙ passed_more (c.args.count - c.loop.counter) (c.args.count - (c.loop.counter + 1)) _ _ _ (omega arith) t.value;
      within = omega arith;
    }

pub returns-clause-ok : goal.returns-clause-ok
returns-clause-ok g c =
    took Instruction (passed_read c.args.count) _ _ Passed c.loop.invariant.went (c.loop.invariant.is ∙ passed_none (c.args.count - c.loop.counter) _ (omega arith))
