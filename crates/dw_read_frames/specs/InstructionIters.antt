-- What iteration over the instructions of an entry answers.
use Rattle.std.specs.Prelude.{◌≡◌, ◌⊎◌, ℕ, ◌<◌, length, true, false, Option, Some, None, Result, Ok, Err}
use Rattle.dw_base.specs.declared.constants.DwEhPe.{DwEhPe}
use Rattle.dw_read.specs.Reading.{Reading, Reads, Refuses, left}
use Rattle.dw_read.specs.declared.error.ReadError.{ReadError}
use Rattle.dw_read_frames.specs.Instructions.{Instruction, instruction_at, instruction_read}
use Rattle.dw_read_frames.specs.InstructionViews.{instruction_of, HoldsParts}
use Rattle.dw_read_frames.specs.declared.instruction.CallFrameInstruction.{CallFrameInstruction}
use Rattle.dw_read_frames.specs.declared.instructions.CallFrameInstructionIter.{CallFrameInstructionIter}

-- the instructions that a reader has left, from the first on
pub record BeginsInstructions {R E : Type 0} (reading : R → Reading) (rest : R) (size : ℕ) (encoding : DwEhPe) (i : CallFrameInstructionIter R E) : Type 0 where
  pub input : reading i.input ≡ reading rest
  pub address_size : i.address_size ≡ size
  pub address_encoding : i.address_encoding ≡ encoding
  pub not_failed : i.has_failed ≡ false

module _ {R E : Type 0} (reading : R → Reading) (old new : CallFrameInstructionIter R E) where
  -- no byte was left, or an error was answered
  abbrev pub IsOver : Type 0
  IsOver = (old.has_failed ≡ true) ⊎ (length (left (reading old.input)) ≡ 0)

  -- the instruction at the place is what the grammar reads there, and is passed
  pub record PassesInstruction (o : CallFrameInstruction R E) : Type 0 where
    pub went_on : (old.has_failed ≡ false) × (new.has_failed ≡ false)
    pub size : new.address_size ≡ old.address_size
    pub encoding : new.address_encoding ≡ old.address_encoding
    pub instruction : Reads Instruction (instruction_at (reading old.input).is_big old.address_size old.address_encoding (reading old.input).end) (reading old.input) (reading new.input) (instruction_of reading o)
    pub parts : HoldsParts reading (reading old.input) o
    pub progress : (reading old.input).place < (reading new.input).place

  -- the grammar reads no instruction at the place, for this reason, and iteration ends there
  pub record RefusesInstruction (e : ReadError) : Type 0 where
    pub not_over : IsOver → ⊥
    pub kept : new ≡ record old { has_failed = true }
    pub refused : Refuses Instruction (instruction_at (reading old.input).is_big old.address_size old.address_encoding (reading old.input).end) (instruction_read (reading old.input).is_big old.address_size old.address_encoding (reading old.input).end) (reading old.input) e

  -- None at the end and after an error alone; else the instruction at the place, or the reason why there is none
  abbrev pub ReadsInstruction : Result (Option (CallFrameInstruction R E)) ReadError → Type 0
  ReadsInstruction (Ok None) = (new ≡ old) × IsOver
  ReadsInstruction (Ok (Some o)) = PassesInstruction o
  ReadsInstruction (Err e) = RefusesInstruction e
