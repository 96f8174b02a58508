use Rattle.std.specs.Prelude.{drop, Result}
use Rattle.dw_base.specs.declared.error.Error.{Error}
use Rattle.dw_writer.specs.Meaning.{Meaning, IsSameWriter}
use Rattle.dw_frame_instructions.specs.Programs.{instructions_piece, instructions_fail}
use Rattle.dw_frame_instructions.specs.Causes.{Writes}
use Rattle.dw_frame_instructions.proofs.program.write_instructions.Given as goal

-- what becomes of the rest becomes of all
abbrev pub invariant-loop-instruction : goal.invariant-loop-instruction
invariant-loop-instruction g l = record {
  same : IsSameWriter (g.W.Writer.meaning l.initial.w) (g.W.Writer.meaning l.w);
  rest : (r : Result (Unit {0}) Error) (b : Meaning) →
      Writes r (g.W.Writer.meaning l.w) b (instructions_piece l.encoding l.data_factor (drop l.instruction-index l.instructions))
      (instructions_fail l.encoding l.data_factor (g.W.Writer.meaning l.initial.w).is_plain (drop l.instruction-index l.instructions)) →
      Writes r (g.W.Writer.meaning l.initial.w) b (instructions_piece l.encoding l.data_factor l.instructions)
      (instructions_fail l.encoding l.data_factor (g.W.Writer.meaning l.initial.w).is_plain l.instructions);
}
