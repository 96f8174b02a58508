-- What the instructions of an entry become, one after the other: those of a CIE, and those of an FDE with their offsets (DWARF 5, 6.4.1).
use Rattle.std.specs.Prelude.{◌≡◌, ◌≢◌, ◌⊎◌, ℕ, ◌+◌, ◌*◌, ◌^◌, ◌<◌, Bool, List, [], ◌∷◌, ◌++◌, length, map, All, option_to_list, Option, Some, Result, Ok, Err}
use Rattle.dw_base.specs.Numbers.{Parser}
use Rattle.dw_base.specs.declared.address.Address.{Address}
use Rattle.dw_read.specs.Reading.{Read}
use Rattle.dw_read.specs.declared.error.ReadError.{ReadError}
use Rattle.dw_read_frames.specs.Fdes.{address_encoding}
use Rattle.dw_read_frames.specs.Instructions.{Instruction, AdvanceLoc, instruction_at, instruction_read}
use Rattle.dw_read_frames.specs.declared.cie.CieFields.{CieFields}
use Rattle.dw_sources.specs.ConvertErrors.{from_read}
use Rattle.dw_sources.specs.declared.convert_error.ConvertError.{ConvertError}
use Rattle.dw_convert.specs.Lists.{First}
use Rattle.dw_frame_instructions.specs.declared.instruction.CallFrameInstruction.{CallFrameInstruction}
use Rattle.dw_frame_instructions.specs.declared.program.Step.{Step}
use Rattle.dw_frame_instructions.specs.Programs.{a_step}
use Rattle.dw_frame.specs.ConvertInstructions.{InstructionOutcome, in_u32}

-- by what instructions are read and converted: the byte order, the place where they end, and what their CIE says
pub record Terms : Type 0 where
  pub is_big : Bool
  pub end : ℕ
  pub cie : CieFields

abbrev pub grammar : Terms → Parser Instruction
grammar t = instruction_at t.is_big t.cie.encoding.address_size (address_encoding t.cie.augmentation) t.end

abbrev pub reason : Terms → Read Instruction
reason t = instruction_read t.is_big t.cie.encoding.address_size (address_encoding t.cie.augmentation) t.end

-- an instruction that was read, and what is kept of it
pub record Image : Type 0 where
  pub read : Instruction
  pub kept : Option CallFrameInstruction

abbrev pub read_ones : List Image → List Instruction
read_ones xs = map (λ x. x.read) xs

abbrev pub kept_ones : List Image → List CallFrameInstruction
kept_ones [] = []
kept_ones (x ∷ xs) = option_to_list x.kept ++ kept_ones xs

-- how many bytes an instruction moves on
abbrev pub advance : ℕ → Instruction → ℕ
advance factor (AdvanceLoc delta) = delta * factor
advance factor i = 0

-- the offset behind instructions
abbrev pub behind : ℕ → ℕ → List Image → ℕ
behind factor from [] = from
behind factor from (x ∷ xs) = behind factor (from + advance factor x.read) xs

-- an instruction at its offset, where one is kept
abbrev pub steps_at : ℕ → Option CallFrameInstruction → List Step
steps_at at o = map (a_step at) (option_to_list o)

-- what is kept from an offset on, each behind the advances before it
abbrev pub kept_steps : ℕ → ℕ → List Image → List Step
kept_steps factor from [] = []
kept_steps factor from (x ∷ xs) = steps_at (from + advance factor x.read) x.kept ++ kept_steps factor (from + advance factor x.read) xs

module _ (answers : ℕ → Option Address → Type 0) (t : Terms) where
  abbrev pub Becomes : Instruction → Result (Option CallFrameInstruction) ConvertError → Type 0
  Becomes i r = InstructionOutcome answers t.is_big t.cie.encoding t.cie.data_alignment_factor i r

  -- the first instructions, and what is kept of them
  pub record Begun (bytes rest : List ℕ) (images : List Image) : Type 0 where
    pub read : First (grammar t) bytes (read_ones images) rest
    pub are : All (λ x. Becomes x.read (Ok x.kept)) images

  -- what is kept of all instructions of a CIE, whose advances move nothing
  pub record AreInstructions (bytes : List ℕ) (xs : List CallFrameInstruction) : Type 0 where
    pub images : List Image
    pub begun : Begun bytes [] images
    pub is : xs ≡ kept_ones images

  -- what is kept of all instructions of an FDE, none of which leads past 32 bits
  pub record AreSteps (bytes : List ℕ) (xs : List Step) : Type 0 where
    pub images : List Image
    pub begun : Begun bytes [] images
    pub fits : behind t.cie.code_alignment_factor 0 images < 2 ^ 32
    pub is : xs ≡ kept_steps t.cie.code_alignment_factor 0 images

  -- an instruction that can't be read, for this reason
  pub record MissesInstruction (rest : List ℕ) (why : ConvertError) : Type 0 where
    pub more : length rest ≢ 0
    pub error : ReadError
    pub refused : reason t rest ≡ Err error
    pub is : why ≡ from_read error

  -- an instruction that becomes nothing, for this reason
  pub record FailsInstruction (rest : List ℕ) (why : ConvertError) : Type 0 where
    pub instruction : Instruction
    pub next : List ℕ
    pub read : grammar t rest ≡ Some (instruction, next)
    pub refused : Becomes instruction (Err why)

  -- an instruction that leads past 32 bits
  pub record LeadsPast (images : List Image) (rest : List ℕ) (why : ConvertError) : Type 0 where
    pub instruction : Instruction
    pub next : List ℕ
    pub read : grammar t rest ≡ Some (instruction, next)
    pub past : in_u32 (behind t.cie.code_alignment_factor 0 images + advance t.cie.code_alignment_factor instruction) ≡ Err why

  -- the first instructions of a CIE were converted, and the next one can't be read or becomes nothing
  pub record RefusesInstructions (bytes : List ℕ) (why : ConvertError) : Type 0 where
    pub images : List Image
    pub rest : List ℕ
    pub begun : Begun bytes rest images
    pub cause : MissesInstruction rest why ⊎ FailsInstruction rest why

  -- the same in an FDE, where the next one may lead too far too
  pub record RefusesSteps (bytes : List ℕ) (why : ConvertError) : Type 0 where
    pub images : List Image
    pub rest : List ℕ
    pub begun : Begun bytes rest images
    pub fits : behind t.cie.code_alignment_factor 0 images < 2 ^ 32
    pub cause : MissesInstruction rest why ⊎ (FailsInstruction rest why ⊎ LeadsPast images rest why)
