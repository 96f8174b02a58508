use Rattle.std.proofs.Common.{arith}
use Rattle.std.proofs.lemmas.Result.{err_from_is_err_and}
use Rattle.dw_read.proofs.Chain.{went_of}
use Rattle.dw_read_frames.proofs.InstructionLaws.{no_code, instruction_took, instruction_not, holds_after, beyond}
use Rattle.dw_read_frames.proofs.instructions.read_instruction.Goals as goal

pub returns-in_err-code-clause-err : goal.returns-in_err-code-clause-err
returns-in_err-code-clause-err g c =
    let p = err_from_is_err_and c.from_residual.result c.from_residual.ensures.1 in
    rw (p.1, p.2) (no_code c.args.size c.args.encoding _ _ _ _ c.in_err-code.ensures.err.reason)

pub returns-in_err-instruction-clause-err : goal.returns-in_err-instruction-clause-err
returns-in_err-instruction-clause-err g c =
    let p = err_from_is_err_and c.from_residual-in_err-instruction.result c.from_residual-in_err-instruction.ensures.1 in
    rw (p.1, p.2) (instruction_not c.args.size c.args.encoding c.in_ok-code.code _ _ c.in_ok-code.ensures.ok (g.met.R.Reader.is_reading c.read_u8.new.self) _ c.in_err-instruction.ensures.err)

pub returns-clause-ok : goal.returns-clause-ok
returns-clause-ok g c = instruction_took c.args.size c.args.encoding c.in_ok-code.code _ _ c.in_ok-code.ensures.ok (g.met.R.Reader.is_reading c.read_u8.new.self) _ _ c.in_ok-instruction.ensures.ok

pub returns-clause-parts : goal.returns-clause-parts
returns-clause-parts g c = holds_after g.R.Reader.reading _ _ c.in_ok-instruction.instruction (went_of 1 _ _ c.in_ok-code.ensures.passes) c.in_ok-instruction.ensures.parts

pub returns-clause-progress : goal.returns-clause-progress
returns-clause-progress g c = beyond 1 _ _ _ _ c.in_ok-code.ensures.passes c.in_ok-instruction.ensures.ok.passes (omega arith)
