-- The byte order of the expressions in instructions.
use Rattle.std.specs.Prelude.{Bool, false}
use Rattle.dw_read.specs.Reading.{Reading}
use Rattle.dw_read_frames.specs.declared.instruction.CallFrameInstruction.{CallFrameInstruction}
use Rattle.dw_read_frames.specs.declared.instruction.CallFrameInstruction.TheVariants as held

-- other instructions hold no expression
abbrev pub order_of : {R E : Type 0} → (R → Reading) → CallFrameInstruction R E → Bool
order_of reading (held.DefCfaExpression x) = (reading x.0).is_big
order_of reading (held.Expression n x) = (reading x.0).is_big
order_of reading (held.ValExpression n x) = (reading x.0).is_big
order_of reading i = false
