use Rattle.dw_frame_instructions.proofs.instruction.CallFrameInstruction.spelling.Goals as goal

pub returns-in_default : goal.returns-in_default
returns-in_default c = c.plain_spelling.ensures c.args.factor
