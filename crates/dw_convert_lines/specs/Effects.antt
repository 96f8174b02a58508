-- What instructions do besides changing registers.
use Rattle.dw_base.specs.LineMachine.{Instruction, Copy, Special, EndSequence, SetAddress}
use Rattle.dw_convert_lines.specs.declared.machine.Effect.{Effect}
use Rattle.dw_convert_lines.specs.declared.machine.Effect.TheVariants.{Nothing, SetsAddress, ShowsRow, EndsSequence}

abbrev pub effect_of : Instruction → Effect
effect_of Copy = ShowsRow
effect_of (Special n) = ShowsRow
effect_of EndSequence = EndsSequence
effect_of (SetAddress w n) = SetsAddress
effect_of i = Nothing
