-- Instructions that were read, as the machine has them.
use Rattle.std.specs.Prelude.{ℕ, length, Option, Some, None}
use Rattle.dw_base.specs.Numbers.{value_of}
use Rattle.dw_base.specs.declared.constants.TheConstants.{DW_LNE_end_sequence, DW_LNE_set_address, DW_LNE_set_discriminator}
use Rattle.dw_base.specs.LineMachine.{Instruction, Copy, AdvancePc, AdvanceLine, SetFile, SetColumn, NegateStatement, SetBasicBlock, ConstAddPc, FixedAdvancePc, SetPrologueEnd, SetEpilogueBegin, SetIsa, Special, EndSequence, SetAddress, SetDiscriminator, Passed}
use Rattle.dw_read.specs.Reading.{Reading, left}
use Rattle.dw_read_lines.specs.declared.instruction.LineInstruction.{LineInstruction}
use Rattle.dw_read_lines.specs.declared.instruction.LineInstruction.TheVariants as held

abbrev pub instruction_of : {R E : Type 0} → (R → Reading) → LineInstruction R E → Instruction
instruction_of reading (held.Special n) = Special n
instruction_of reading held.Copy = Copy
instruction_of reading (held.AdvancePc n) = AdvancePc n
instruction_of reading (held.AdvanceLine z) = AdvanceLine z
instruction_of reading (held.SetFile n) = SetFile n
instruction_of reading (held.SetColumn n) = SetColumn n
instruction_of reading held.NegateStatement = NegateStatement
instruction_of reading held.SetBasicBlock = SetBasicBlock
instruction_of reading held.ConstAddPc = ConstAddPc
instruction_of reading (held.FixedAddPc n) = FixedAdvancePc n
instruction_of reading held.SetPrologueEnd = SetPrologueEnd
instruction_of reading held.SetEpilogueBegin = SetEpilogueBegin
instruction_of reading (held.SetIsa n) = SetIsa n
instruction_of reading (held.UnknownStandard o) = Passed
instruction_of reading held.EndSequence = EndSequence
instruction_of reading (held.SetAddress r) = SetAddress (length (left (reading r))) (value_of (reading r).is_big (left (reading r)))
instruction_of reading (held.SetDiscriminator n) = SetDiscriminator n
instruction_of reading (held.UnknownExtended o r) = Passed

-- the code of an extended instruction: the machine passes over all that it doesn't know alike
abbrev pub code_of : {R E : Type 0} → LineInstruction R E → Option ℕ
code_of held.EndSequence = Some DW_LNE_end_sequence.0
code_of (held.SetAddress r) = Some DW_LNE_set_address.0
code_of (held.SetDiscriminator n) = Some DW_LNE_set_discriminator.0
code_of (held.UnknownExtended o r) = Some o.0
code_of i = None
