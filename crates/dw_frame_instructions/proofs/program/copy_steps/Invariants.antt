use Rattle.std.specs.Prelude.{◌≡◌, take}
use Rattle.dw_frame_instructions.proofs.program.copy_steps.Given as goal

abbrev pub invariant-loop-step : goal.invariant-loop-step
invariant-loop-step l = l.copies.items ≡ take l.step-index l.steps
