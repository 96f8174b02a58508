use Rattle.std.specs.Prelude.{drop, Result}
use Rattle.dw_base.specs.declared.error.Error.{Error}
use Rattle.dw_writer.specs.Meaning.{Meaning, IsSameWriter}
use Rattle.dw_frame_instructions.specs.Programs.{program_piece, program_fails}
use Rattle.dw_frame_instructions.specs.Causes.{Writes}
use Rattle.dw_frame_instructions.proofs.program.write_steps.Given as goal

-- what becomes of the rest becomes of all
abbrev pub invariant-loop-step : goal.invariant-loop-step
invariant-loop-step g l = record {
  same : IsSameWriter (g.W.Writer.meaning l.initial.w) (g.W.Writer.meaning l.w);
  rest : (r : Result (Unit {0}) Error) (b : Meaning) →
      Writes r (g.W.Writer.meaning l.w) b (program_piece l.encoding l.code_factor l.data_factor l.from (drop l.step-index l.steps))
      (program_fails l.encoding l.code_factor l.data_factor (g.W.Writer.meaning l.initial.w).is_plain l.from (drop l.step-index l.steps)) →
      Writes r (g.W.Writer.meaning l.initial.w) b (program_piece l.encoding l.code_factor l.data_factor 0 l.steps)
      (program_fails l.encoding l.code_factor l.data_factor (g.W.Writer.meaning l.initial.w).is_plain 0 l.steps);
}
