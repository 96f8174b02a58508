use Rattle.std.specs.Prelude.{◌≡◌, take}
use Rattle.dw_frame_instructions.proofs.program.copy_instructions.Given as goal

abbrev pub invariant-loop-instruction : goal.invariant-loop-instruction
invariant-loop-instruction l = l.copies.items ≡ take l.instruction-index l.instructions
