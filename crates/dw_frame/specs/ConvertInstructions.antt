-- What frame instructions that are read become: factored offsets are multiplied out, and none is kept that only moves on or pads (DWARF
-- 5, 6.4.2).
use Rattle.std.specs.Prelude.{◌≡◌, ℕ, ◌^◌, nat_lt, Bool, List, Option, Some, None, Result, Ok, Err, ℤ, pos, ◌*ℤ◌, if◌then◌else◌}
use Rattle.dw_base.specs.declared.address.Address.{Address}
use Rattle.dw_base.specs.declared.common.Encoding.{Encoding}
use Rattle.dw_base.specs.declared.common.Register.{Register}
use Rattle.dw_writer.specs.SignedNumbers.{signed_fits}
use Rattle.dw_expr.specs.Trees.{Node}
use Rattle.dw_read_frames.specs.Instructions.{Instruction}
use Rattle.dw_read_frames.specs.Instructions as read
use Rattle.dw_sources.specs.declared.convert_error.ConvertError.{ConvertError}
use Rattle.dw_sources.specs.declared.convert_error.ConvertError.TheVariants.{UnsupportedOperation, UnsupportedCfiInstruction, IntegerOverflow}
use Rattle.dw_convert.specs.Expressions.{ExpressionOutcome}
use Rattle.dw_convert.specs.Outcomes.{Then}
use Rattle.dw_frame_instructions.specs.declared.instruction.CallFrameInstruction.{CallFrameInstruction}
use Rattle.dw_frame_instructions.specs.declared.instruction.CallFrameInstruction.TheVariants as built

-- an expression of a call frame, which has no unit and names no entry
abbrev pub FrameExpression : (ℕ → Option Address → Type 0) → Bool → Encoding → List ℕ → Result (List Node) ConvertError → Type 0
FrameExpression answers big e bytes r = ExpressionOutcome answers (λ i. Err UnsupportedOperation) (λ n. None) (λ n. None) big e bytes r

-- an instruction, or none
abbrev pub Kept : Type 0
Kept = Result (Option CallFrameInstruction) ConvertError

-- a number that has to fit 32 bits, with a sign or without
abbrev pub in_i32 : ℤ → Result ℤ ConvertError
in_i32 z = if signed_fits 4 z then Ok z else Err IntegerOverflow

abbrev pub in_u32 : ℕ → Result ℕ ConvertError
in_u32 n = if nat_lt n (2 ^ 32) then Ok n else Err IntegerOverflow

-- the instruction with a number that fits
abbrev pub with : {A : Type 0} → (A → CallFrameInstruction) → Result A ConvertError → Kept
with f (Ok x) = Ok (Some (f x))
with f (Err e) = Err e

abbrev pub register : ℕ → Register
register n = record { 0 = n }

-- an instruction without an expression, by the factor of data offsets of its CIE
abbrev pub plain : ℤ → Instruction → Kept
plain factor (read.SetLoc address) = Err UnsupportedCfiInstruction
plain factor (read.DefCfa n offset) = with (built.Cfa (register n)) (in_i32 (pos offset))
plain factor (read.DefCfaSf n factored) = with (built.Cfa (register n)) (in_i32 (factored *ℤ factor))
plain factor (read.DefCfaRegister n) = Ok (Some (built.CfaRegister (register n)))
plain factor (read.DefCfaOffset offset) = with built.CfaOffset (in_i32 (pos offset))
plain factor (read.DefCfaOffsetSf factored) = with built.CfaOffset (in_i32 (factored *ℤ factor))
plain factor (read.Undefined n) = Ok (Some (built.Undefined (register n)))
plain factor (read.SameValue n) = Ok (Some (built.SameValue (register n)))
plain factor (read.Offset n factored) = with (built.Offset (register n)) (in_i32 (pos factored *ℤ factor))
plain factor (read.OffsetExtendedSf n factored) = with (built.Offset (register n)) (in_i32 (factored *ℤ factor))
plain factor (read.ValOffset n factored) = with (built.ValOffset (register n)) (in_i32 (pos factored *ℤ factor))
plain factor (read.ValOffsetSf n factored) = with (built.ValOffset (register n)) (in_i32 (factored *ℤ factor))
plain factor (read.Register n m) = Ok (Some (built.Register (register n) (register m)))
plain factor (read.Restore n) = Ok (Some (built.Restore (register n)))
plain factor read.RememberState = Ok (Some built.RememberState)
plain factor read.RestoreState = Ok (Some built.RestoreState)
plain factor (read.ArgsSize size) = with built.ArgsSize (in_u32 size)
plain factor read.NegateRaState = Ok (Some built.NegateRaState)
-- what only moves on or pads
plain factor (read.AdvanceLoc delta) = Ok None
plain factor read.Nop = Ok None
-- those with an expression, which have rows of their own below
plain factor (read.DefCfaExpression bytes) = Ok None
plain factor (read.Expression n bytes) = Ok None
plain factor (read.ValExpression n bytes) = Ok None

-- By the encoding of the CIE and its factor of data offsets, where the caller is known by its answers for addresses.
module _ (answers : ℕ → Option Address → Type 0) (big : Bool) (e : Encoding) (factor : ℤ) where
  -- the instruction with what an expression becomes
  abbrev pub Holds : (List Node → CallFrameInstruction) → List ℕ → Kept → Type 0
  Holds f bytes r = Then (FrameExpression answers big e bytes) (λ x y. y ≡ Ok (Some (f x))) r

  abbrev pub InstructionOutcome : Instruction → Kept → Type 0
  InstructionOutcome (read.DefCfaExpression bytes) r = Holds built.CfaExpression bytes r
  InstructionOutcome (read.Expression n bytes) r = Holds (built.Expression (register n)) bytes r
  InstructionOutcome (read.ValExpression n bytes) r = Holds (built.ValExpression (register n)) bytes r
  InstructionOutcome i r = r ≡ plain factor i
