-- What iteration over the instructions of a line program answers.
use Rattle.std.specs.Prelude.{◌≡◌, ◌⊎◌, ◌<◌, length, true, false, Option, Some, None, Result, Ok, Err}
use Rattle.dw_base.specs.LineMachine.{LineHeader, Instruction}
use Rattle.dw_base.specs.Instructions.{instruction_at}
use Rattle.dw_read.specs.Reading.{Reading, Reads, Refuses, left}
use Rattle.dw_read.specs.declared.error.ReadError.{ReadError}
use Rattle.dw_read_lines.specs.LineHeaderViews.{machine_of}
use Rattle.dw_read_lines.specs.LineInstructions.{instruction_read, extended_code}
use Rattle.dw_read_lines.specs.LineInstructionViews.{instruction_of, code_of}
use Rattle.dw_read_lines.specs.declared.header.LineProgramHeader.{LineProgramHeader}
use Rattle.dw_read_lines.specs.declared.instruction.LineInstruction.{LineInstruction}
use Rattle.dw_read_lines.specs.declared.instructions.LineInstructions.{LineInstructions}

module _ {R E : Type 0} (reading : R → Reading) (h : LineProgramHeader R E) (old new : LineInstructions R E) where
  -- what the machine is told
  abbrev pub machine : LineHeader
  machine = machine_of reading (reading old.input).is_big h.parameters

  -- no byte was left, or an error was answered
  abbrev pub IsOver : Type 0
  IsOver = (old.has_failed ≡ true) ⊎ (length (left (reading old.input)) ≡ 0)

  -- the instruction at the place is what the machine reads there, and is passed
  pub record PassesInstruction (i : LineInstruction R E) : Type 0 where
    pub went_on : (old.has_failed ≡ false) × (new.has_failed ≡ false)
    pub instruction : Reads Instruction (instruction_at machine) (reading old.input) (reading new.input) (instruction_of reading i)
    pub code : extended_code (reading old.input).is_big (left (reading old.input)) ≡ Ok (code_of i)
    pub progress : (reading old.input).place < (reading new.input).place

  -- the machine reads no instruction at the place, for this reason, and iteration ends there
  pub record RefusesInstruction (e : ReadError) : Type 0 where
    pub not_over : IsOver → ⊥
    pub kept : new ≡ record old { has_failed = true }
    pub refused : Refuses Instruction (instruction_at machine) (instruction_read machine) (reading old.input) e

  -- None at the end and after an error alone; else the instruction at the place, or the reason why there is none
  abbrev pub ReadsInstruction : Result (Option (LineInstruction R E)) ReadError → Type 0
  ReadsInstruction (Ok None) = (new ≡ old) × IsOver
  ReadsInstruction (Ok (Some i)) = PassesInstruction i
  ReadsInstruction (Err e) = RefusesInstruction e
