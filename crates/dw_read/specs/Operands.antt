-- Operands that were read, as the grammar has them.
use Rattle.std.specs.Prelude.{ℕ}
use Rattle.dw_base.specs.Forms.{Operand, Absent, Number, Signed, Bytes, Text}
use Rattle.dw_base.specs.declared.constants.DwForm.{DwForm}
use Rattle.dw_read.specs.Reading.{Reading, left}
use Rattle.dw_read.specs.declared.operand.Operand.{Operand as HeldOperand}
use Rattle.dw_read.specs.declared.operand.Operand.TheVariants.{Absent as HeldAbsent, Number as HeldNumber, Signed as HeldSigned, Bytes as HeldBytes, Text as HeldText}

abbrev pub operand_of : {R E : Type 0} → (R → Reading) → HeldOperand R E → Operand
operand_of reading HeldAbsent = Absent
operand_of reading (HeldNumber n) = Number n
operand_of reading (HeldSigned z) = Signed z
operand_of reading (HeldBytes r) = Bytes (left (reading r))
operand_of reading (HeldText r) = Text (left (reading r))

-- an operand with the form in which it stands
abbrev pub formed : {R E : Type 0} → (R → Reading) → DwForm × HeldOperand R E → ℕ × Operand
formed reading x = (x.0.0, operand_of reading x.1)
