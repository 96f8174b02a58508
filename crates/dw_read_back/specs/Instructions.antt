-- Call frame instructions that are written, and what they are read as (DWARF 5, 6.4.2).
use Rattle.std.specs.Prelude.{◌≡◌, ℕ, ◌+◌, ◌*◌, ◌^◌, ◌<◌, IsTrue, Bool, List, [], ◌++◌, length, Option, Some, ℤ, pos, ◌*ℤ◌}
use Rattle.dw_base.specs.Leb128.{fits_i64}
use Rattle.dw_base.specs.Numbers.{Parser}
use Rattle.dw_base.specs.declared.common.Encoding.{Encoding}
use Rattle.dw_base.specs.declared.common.Register.{Register}
use Rattle.dw_base.specs.declared.constants.DwEhPe.{DwEhPe}
use Rattle.dw_writer.specs.Meaning.{Layout}
use Rattle.dw_expr.specs.Trees.{Node}
use Rattle.dw_frame_instructions.specs.Advances.{advance_piece}
use Rattle.dw_frame_instructions.specs.Instructions.{instruction_piece}
use Rattle.dw_frame_instructions.specs.Operands.{expression_piece}
use Rattle.dw_frame_instructions.specs.declared.instruction.CallFrameInstruction.{CallFrameInstruction}
use Rattle.dw_frame_instructions.specs.declared.instruction.CallFrameInstruction.TheVariants as built
use Rattle.dw_read_frames.specs.Instructions.{Instruction, instruction_at}
use Rattle.dw_read_frames.specs.Instructions as read

-- What an instruction means that was read, by the factor of data offsets, where expressions are spelled so: a factored offset is
-- the built one once the factor multiplies it, and an expression is its bytes.
module _ (factor : ℤ) (spelled : List Node → Option (List ℕ)) where
  abbrev pub Means : CallFrameInstruction → Instruction → Type 0
  Means (built.Cfa r offset) (read.DefCfa n m) = (n ≡ r.0) × (pos m ≡ offset)
  Means (built.Cfa r offset) (read.DefCfaSf n z) = (n ≡ r.0) × (z *ℤ factor ≡ offset)
  Means (built.CfaRegister r) (read.DefCfaRegister n) = n ≡ r.0
  Means (built.CfaOffset offset) (read.DefCfaOffset m) = pos m ≡ offset
  Means (built.CfaOffset offset) (read.DefCfaOffsetSf z) = z *ℤ factor ≡ offset
  Means (built.CfaExpression x) (read.DefCfaExpression bytes) = spelled x ≡ Some bytes
  Means (built.Restore r) (read.Restore n) = n ≡ r.0
  Means (built.Undefined r) (read.Undefined n) = n ≡ r.0
  Means (built.SameValue r) (read.SameValue n) = n ≡ r.0
  Means (built.Offset r offset) (read.Offset n m) = (n ≡ r.0) × (pos m *ℤ factor ≡ offset)
  Means (built.Offset r offset) (read.OffsetExtendedSf n z) = (n ≡ r.0) × (z *ℤ factor ≡ offset)
  Means (built.ValOffset r offset) (read.ValOffset n m) = (n ≡ r.0) × (pos m *ℤ factor ≡ offset)
  Means (built.ValOffset r offset) (read.ValOffsetSf n z) = (n ≡ r.0) × (z *ℤ factor ≡ offset)
  Means (built.Register r s) (read.Register n m) = (n ≡ r.0) × (m ≡ s.0)
  Means (built.Expression r x) (read.Expression n bytes) = (n ≡ r.0) × (spelled x ≡ Some bytes)
  Means (built.ValExpression r x) (read.ValExpression n bytes) = (n ≡ r.0) × (spelled x ≡ Some bytes)
  Means built.RememberState read.RememberState = Unit {0}
  Means built.RestoreState read.RestoreState = Unit {0}
  Means (built.ArgsSize size) (read.ArgsSize n) = n ≡ size
  Means built.NegateRaState read.NegateRaState = Unit {0}
  Means i x = ⊥

-- expressions as they are spelled in a byte order and a layout
abbrev pub spelled_in : Encoding → Bool → Layout → List Node → Option (List ℕ)
spelled_in e big l ns = (expression_piece e ns).text big l

-- A parser reads an instruction from these bytes, whatever follows them, and leaves what follows.
pub record ReadsAs (Meant : Instruction → Type 0) (parser : Parser Instruction) (bytes : List ℕ) : Type 0 where
  pub instruction : Instruction
  pub meant : Meant instruction
  pub read : (rest : List ℕ) → parser (bytes ++ rest) ≡ Some (instruction, rest)

-- the bytes of an instruction that is written are read as what it means
abbrev pub InstructionReadsBack : Encoding → ℤ → CallFrameInstruction → Type 0
InstructionReadsBack e factor i =
    (big : Bool) (l : Layout) (size end : ℕ) (pointers : DwEhPe) (bytes : List ℕ) →
    (instruction_piece e factor i).text big l ≡ Some bytes → length bytes < 2 ^ 64 →
    ReadsAs (Means factor (spelled_in e big l) i) (instruction_at big size pointers end) bytes

-- how far an advance leads that was read, from an offset, by the factor of code offsets
abbrev pub Advances : ℕ → ℕ → ℕ → Instruction → Type 0
Advances factor from to (read.AdvanceLoc delta) = from + delta * factor ≡ to
Advances factor from to x = ⊥

-- The bytes of an advance from an offset to another are read as one that leads there. Where the offset stays there are none.
abbrev pub AdvanceReadsBack : ℕ → ℕ → ℕ → Type 0
AdvanceReadsBack factor from to =
    (big : Bool) (l : Layout) (size end : ℕ) (pointers : DwEhPe) (bytes : List ℕ) → (advance_piece factor from to).text big l ≡ Some bytes →
    (to ≡ from → bytes ≡ []) × ((to ≡ from → ⊥) → ReadsAs (Advances factor from to) (instruction_at big size pointers end) bytes)

-- The numbers of an instruction have the widths of their types.
abbrev pub IsShort : Register → Type 0
IsShort r = r.0 < 2 ^ 16

abbrev pub HasWidths : CallFrameInstruction → Type 0
HasWidths (built.Cfa r offset) = IsShort r × IsTrue (fits_i64 offset)
HasWidths (built.CfaRegister r) = IsShort r
HasWidths (built.CfaOffset offset) = IsTrue (fits_i64 offset)
HasWidths (built.CfaExpression x) = Unit {0}
HasWidths (built.Restore r) = IsShort r
HasWidths (built.Undefined r) = IsShort r
HasWidths (built.SameValue r) = IsShort r
HasWidths (built.Offset r offset) = IsShort r
HasWidths (built.ValOffset r offset) = IsShort r
HasWidths (built.Register r s) = IsShort r × IsShort s
HasWidths (built.Expression r x) = IsShort r
HasWidths (built.ValExpression r x) = IsShort r
HasWidths built.RememberState = Unit {0}
HasWidths built.RestoreState = Unit {0}
HasWidths (built.ArgsSize size) = size < 2 ^ 64
HasWidths built.NegateRaState = Unit {0}
