-- Instructions that were read, as the table has them.
use Rattle.std.specs.Prelude.{◌≡◌, ◌≤◌}
use Rattle.dw_read.specs.Reading.{Reading, left}
use Rattle.dw_read_frames.specs.Instructions.{Instruction, SetLoc, AdvanceLoc, DefCfa, DefCfaSf, DefCfaRegister, DefCfaOffset, DefCfaOffsetSf, DefCfaExpression, Undefined, SameValue, Offset, OffsetExtendedSf, ValOffset, ValOffsetSf, Register, Expression, ValExpression, Restore, RememberState, RestoreState, ArgsSize, NegateRaState, Nop}
use Rattle.dw_read_frames.specs.declared.instruction.CallFrameInstruction.{CallFrameInstruction}
use Rattle.dw_read_frames.specs.declared.instruction.CallFrameInstruction.TheVariants as held

abbrev pub instruction_of : {R E : Type 0} → (R → Reading) → CallFrameInstruction R E → Instruction
instruction_of reading (held.SetLoc address) = SetLoc address
instruction_of reading (held.AdvanceLoc delta) = AdvanceLoc delta
instruction_of reading (held.DefCfa register offset) = DefCfa register.0 offset
instruction_of reading (held.DefCfaSf register factored_offset) = DefCfaSf register.0 factored_offset
instruction_of reading (held.DefCfaRegister register) = DefCfaRegister register.0
instruction_of reading (held.DefCfaOffset offset) = DefCfaOffset offset
instruction_of reading (held.DefCfaOffsetSf factored_offset) = DefCfaOffsetSf factored_offset
instruction_of reading (held.DefCfaExpression x) = DefCfaExpression (left (reading x.0))
instruction_of reading (held.Undefined register) = Undefined register.0
instruction_of reading (held.SameValue register) = SameValue register.0
instruction_of reading (held.Offset register factored_offset) = Offset register.0 factored_offset
instruction_of reading (held.OffsetExtendedSf register factored_offset) = OffsetExtendedSf register.0 factored_offset
instruction_of reading (held.ValOffset register factored_offset) = ValOffset register.0 factored_offset
instruction_of reading (held.ValOffsetSf register factored_offset) = ValOffsetSf register.0 factored_offset
instruction_of reading (held.Register dest src) = Register dest.0 src.0
instruction_of reading (held.Expression register x) = Expression register.0 (left (reading x.0))
instruction_of reading (held.ValExpression register x) = ValExpression register.0 (left (reading x.0))
instruction_of reading (held.Restore register) = Restore register.0
instruction_of reading held.RememberState = RememberState
instruction_of reading held.RestoreState = RestoreState
instruction_of reading (held.ArgsSize size) = ArgsSize size
instruction_of reading held.NegateRaState = NegateRaState
instruction_of reading held.Nop = Nop

-- a reader of a part of what an instruction is read from, in the same order
pub record IsWithin (old r : Reading) : Type 0 where
  pub section : r.section ≡ old.section
  pub order : r.is_big ≡ old.is_big
  pub begin : old.place ≤ r.place
  pub end : r.end ≤ old.end

-- expressions of an instruction are such parts
abbrev pub HoldsParts : {R E : Type 0} → (R → Reading) → Reading → CallFrameInstruction R E → Type 0
HoldsParts reading old (held.DefCfaExpression x) = IsWithin old (reading x.0)
HoldsParts reading old (held.Expression register x) = IsWithin old (reading x.0)
HoldsParts reading old (held.ValExpression register x) = IsWithin old (reading x.0)
HoldsParts reading old i = Unit
