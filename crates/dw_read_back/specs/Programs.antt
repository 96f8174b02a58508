-- Programs of call frame instructions that are written, and what they are read as (DWARF 5, 6.4.1 and 6.4.3).
use Rattle.std.specs.Prelude.{◌≡◌, ℕ, ◌+◌, ◌*◌, ◌^◌, ◌<◌, Bool, List, [], ◌∷◌, ◌++◌, length, Option, Some, ℤ}
use Rattle.dw_base.specs.Numbers.{Parser}
use Rattle.dw_base.specs.declared.common.Encoding.{Encoding}
use Rattle.dw_base.specs.declared.constants.DwEhPe.{DwEhPe}
use Rattle.dw_writer.specs.Texts.{zeros}
use Rattle.dw_writer.specs.Meaning.{Layout}
use Rattle.dw_expr.specs.Trees.{Node}
use Rattle.dw_frame_instructions.specs.Programs.{instructions_piece, program_piece}
use Rattle.dw_frame_instructions.specs.declared.instruction.CallFrameInstruction.{CallFrameInstruction}
use Rattle.dw_frame_instructions.specs.declared.program.Step.{Step}
use Rattle.dw_read_frames.specs.Instructions.{Instruction, instruction_at}
use Rattle.dw_read_frames.specs.Instructions as read
use Rattle.dw_read_back.specs.Instructions.{Means, HasWidths, spelled_in}

-- instructions stand one right behind another, and the last ends with the bytes
module _ (parser : Parser Instruction) where
  abbrev pub ReadsAll : List Instruction → List ℕ → Type 0
  ReadsAll [] bytes = bytes ≡ []
  ReadsAll (x ∷ xs) bytes = (rest : List ℕ) × (parser bytes ≡ Some (x, rest)) × ReadsAll xs rest

-- Where instructions that were read hold, from an offset on, by the factor of code offsets: an advance moves on, and padding does
-- nothing.
module _ (factor : ℕ) where
  abbrev pub holding : ℕ → List Instruction → List (ℕ × Instruction)
  holding at [] = []
  holding at (read.AdvanceLoc delta ∷ xs) = holding (at + delta * factor) xs
  holding at (read.Nop ∷ xs) = holding at xs
  holding at (x ∷ xs) = (at, x) ∷ holding at xs

-- instructions that were read mean those that were built, one for one
module _ (factor : ℤ) (spelled : List Node → Option (List ℕ)) where
  -- at their offsets
  abbrev pub AreSteps : List Step → List (ℕ × Instruction) → Type 0
  AreSteps [] [] = Unit {0}
  AreSteps (s ∷ ss) (x ∷ xs) = (x.0 ≡ s.offset) × Means factor spelled s.instruction x.1 × AreSteps ss xs
  AreSteps ss xs = ⊥

  -- at a function's begin
  abbrev pub AreFirst : List CallFrameInstruction → List (ℕ × Instruction) → Type 0
  AreFirst [] [] = Unit {0}
  AreFirst (i ∷ is) (x ∷ xs) = (x.0 ≡ 0) × Means factor spelled i x.1 × AreFirst is xs
  AreFirst is xs = ⊥

-- the numbers of programs have the widths of their types
abbrev pub StepsHaveWidths : List Step → Type 0
StepsHaveWidths [] = Unit {0}
StepsHaveWidths (s ∷ ss) = HasWidths s.instruction × (s.offset < 2 ^ 32) × StepsHaveWidths ss

abbrev pub HaveWidths : List CallFrameInstruction → Type 0
HaveWidths [] = Unit {0}
HaveWidths (i ∷ is) = HasWidths i × HaveWidths is

-- bytes are read to the last one as instructions that are so where they hold
pub record ReadsProgram (Are : List (ℕ × Instruction) → Type 0) (parser : Parser Instruction) (code_factor from : ℕ) (bytes : List ℕ) : Type 0 where
  pub instructions : List Instruction
  pub read : ReadsAll parser instructions bytes
  pub are : Are (holding code_factor from instructions)

-- The bytes of an FDE's program, with any padding behind them, are read as the instructions of its steps, each where it was built to
-- hold.
abbrev pub ProgramReadsBack : Encoding → ℕ → ℤ → List Step → Type 0
ProgramReadsBack e code_factor data_factor steps =
    (big : Bool) (l : Layout) (size end : ℕ) (pointers : DwEhPe) (padding : ℕ) (bytes : List ℕ) → StepsHaveWidths steps →
    (program_piece e code_factor data_factor 0 steps).text big l ≡ Some bytes → length bytes < 2 ^ 64 →
    ReadsProgram (AreSteps data_factor (spelled_in e big l) steps) (instruction_at big size pointers end) code_factor 0 (bytes ++ zeros padding)

-- those of a CIE's program as its instructions
abbrev pub FirstReadBack : Encoding → ℕ → ℤ → List CallFrameInstruction → Type 0
FirstReadBack e code_factor data_factor instructions =
    (big : Bool) (l : Layout) (size end : ℕ) (pointers : DwEhPe) (padding : ℕ) (bytes : List ℕ) → HaveWidths instructions →
    (instructions_piece e data_factor instructions).text big l ≡ Some bytes → length bytes < 2 ^ 64 →
    ReadsProgram (AreFirst data_factor (spelled_in e big l) instructions) (instruction_at big size pointers end) code_factor 0 (bytes ++ zeros padding)
