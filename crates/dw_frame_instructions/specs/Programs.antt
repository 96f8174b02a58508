-- Instructions, one after another: those of a CIE, and those of an FDE with the advances between them (DWARF 5, 6.4.1).
use Rattle.std.specs.Prelude.{ℕ, Bool, List, [], ◌∷◌, ℤ}
use Rattle.dw_base.specs.declared.common.Encoding.{Encoding}
use Rattle.dw_base.specs.declared.error.Error.{Error}
use Rattle.dw_frame_instructions.specs.declared.instruction.CallFrameInstruction.{CallFrameInstruction}
use Rattle.dw_frame_instructions.specs.declared.program.Step.{Step}
use Rattle.dw_frame_instructions.specs.Instructions.{instruction_piece, instruction_fails}
use Rattle.dw_frame_instructions.specs.Advances.{advance_piece, advance_fails}
use Rattle.dw_frame_instructions.specs.Pieces.{Piece, nothing, both}
use Rattle.dw_frame_instructions.specs.Causes.{never, either}

-- by the factor of data offsets
abbrev pub instructions_piece : Encoding → ℤ → List CallFrameInstruction → Piece
instructions_piece e data_factor [] = nothing
instructions_piece e data_factor (i ∷ is) = both (instruction_piece e data_factor i) (instructions_piece e data_factor is)

abbrev pub instructions_fail : Encoding → ℤ → Bool → List CallFrameInstruction → Error → Bool
instructions_fail e data_factor plain [] = never
instructions_fail e data_factor plain (i ∷ is) = either (instruction_fails e data_factor plain i) (instructions_fail e data_factor plain is)

-- by both factors, from an offset on: each instruction behind the advance from the offset of the one before
abbrev pub program_piece : Encoding → ℕ → ℤ → ℕ → List Step → Piece
program_piece e code_factor data_factor from [] = nothing
program_piece e code_factor data_factor from (s ∷ ss) =
    both (advance_piece code_factor from s.offset)
    (both (instruction_piece e data_factor s.instruction) (program_piece e code_factor data_factor s.offset ss))

abbrev pub program_fails : Encoding → ℕ → ℤ → Bool → ℕ → List Step → Error → Bool
program_fails e code_factor data_factor plain from [] = never
program_fails e code_factor data_factor plain from (s ∷ ss) =
    either (advance_fails code_factor from s.offset)
    (either (instruction_fails e data_factor plain s.instruction) (program_fails e code_factor data_factor plain s.offset ss))

-- an instruction at an offset
abbrev pub a_step : ℕ → CallFrameInstruction → Step
a_step at i = record { offset = at; instruction = i }
