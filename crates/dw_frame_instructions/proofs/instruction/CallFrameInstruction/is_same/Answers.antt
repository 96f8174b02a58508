use Rattle.dw_frame_instructions.proofs.EqualSteps.{instruction_Decides}
use Rattle.dw_frame_instructions.proofs.instruction.CallFrameInstruction.is_same.Goals as goal

pub returns : goal.returns
returns c = rw c.eq.ensures (instruction_Decides c.args.self.now c.args.other.now)
