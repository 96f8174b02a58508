-- How the instructions of the line machine are read and spelled (DWARF 5, 6.2.5 and 7.22).
use Rattle.std.specs.Prelude.{◌≡◌, ℕ, zero, suc, ◌+◌, ◌-◌, ◌^◌, ◌<◌, ◌==◌, nat_le, List, [], ◌∷◌, ◌++◌, length, Option, Some, None, IsTrue, slice_index, if◌then◌else◌}
use Rattle.dw_base.specs.Numbers.{Parser, ◌>>=◌, bytes_at, number_at, num, fits}
use Rattle.dw_base.specs.Leb128.{uleb_at, sleb_at, uleb, sleb, fits_i64}
use Rattle.dw_base.specs.declared.constants.TheConstants.{DW_LNS_copy, DW_LNS_advance_pc, DW_LNS_advance_line, DW_LNS_set_file, DW_LNS_set_column, DW_LNS_negate_stmt, DW_LNS_set_basic_block, DW_LNS_const_add_pc, DW_LNS_fixed_advance_pc, DW_LNS_set_prologue_end, DW_LNS_set_epilogue_begin, DW_LNS_set_isa, DW_LNE_end_sequence, DW_LNE_set_address, DW_LNE_set_discriminator}
use Rattle.dw_base.specs.LineMachine.{LineHeader, Instruction, Copy, AdvancePc, AdvanceLine, SetFile, SetColumn, NegateStatement, SetBasicBlock, ConstAddPc, FixedAdvancePc, SetPrologueEnd, SetEpilogueBegin, SetIsa, Special, EndSequence, SetAddress, SetDiscriminator, Passed, Shown, begin, run}

-- an instruction of an operand that was read
abbrev pub with : {A : Type 0} → (A → Instruction) → Option (A × List ℕ) → Option (Instruction × List ℕ)
with make r = r >>= λ x. Some (make x.0, x.1)

-- so many operands of an opcode that isn't known
unfoldable pub passed_at : ℕ → Parser Instruction
passed_at zero bytes = Some (Passed, bytes)
passed_at (suc n) bytes = uleb_at bytes >>= λ x. passed_at n x.1

-- a standard instruction, after its opcode
unfoldable pub standard_at : LineHeader → ℕ → Parser Instruction
standard_at h opcode bytes =
    if opcode == DW_LNS_copy.0 then Some (Copy, bytes)
    else if opcode == DW_LNS_advance_pc.0 then with AdvancePc (uleb_at bytes)
    else if opcode == DW_LNS_advance_line.0 then with AdvanceLine (sleb_at bytes)
    else if opcode == DW_LNS_set_file.0 then with SetFile (uleb_at bytes)
    else if opcode == DW_LNS_set_column.0 then with SetColumn (uleb_at bytes)
    else if opcode == DW_LNS_negate_stmt.0 then Some (NegateStatement, bytes)
    else if opcode == DW_LNS_set_basic_block.0 then Some (SetBasicBlock, bytes)
    else if opcode == DW_LNS_const_add_pc.0 then Some (ConstAddPc, bytes)
    else if opcode == DW_LNS_fixed_advance_pc.0 then with FixedAdvancePc (number_at h.is_big 2 bytes)
    else if opcode == DW_LNS_set_prologue_end.0 then Some (SetPrologueEnd, bytes)
    else if opcode == DW_LNS_set_epilogue_begin.0 then Some (SetEpilogueBegin, bytes)
    else if opcode == DW_LNS_set_isa.0 then with SetIsa (uleb_at bytes)
    else passed_at (slice_index h.operand_counts (opcode - 1)) bytes

-- an extended instruction, of all its bytes from the code on
unfoldable pub extended_of : LineHeader → List ℕ → Option Instruction
extended_of h [] = None
extended_of h (code ∷ bytes) =
    if code == DW_LNE_end_sequence.0 then Some EndSequence
    else if code == DW_LNE_set_address.0 then (number_at h.is_big (length bytes) bytes >>= λ x. Some (SetAddress (length bytes) x.0))
    else if code == DW_LNE_set_discriminator.0 then (uleb_at bytes >>= λ x. Some (SetDiscriminator x.0))
    else Some Passed

-- the same after the zero that marks it: its length, and so many bytes
unfoldable pub extended_at : LineHeader → Parser Instruction
extended_at h bytes =
    uleb_at bytes >>= λ n. bytes_at n.0 n.1 >>= λ body. extended_of h body.0 >>= λ i. Some (i, body.1)

-- one instruction; from the header's base on, opcodes are special
unfoldable pub instruction_at : LineHeader → Parser Instruction
instruction_at h [] = None
instruction_at h (opcode ∷ bytes) =
    if opcode == 0 then extended_at h bytes
    else if nat_le h.opcode_base opcode then Some (Special (opcode - h.opcode_base), bytes)
    else standard_at h opcode bytes

-- instructions up to the end of the bytes
unfoldable pub instructions_at : ℕ → LineHeader → List ℕ → Option (List Instruction)
instructions_at fuel h [] = Some []
instructions_at zero h (b ∷ bs) = None
instructions_at (suc fuel) h (b ∷ bs) =
    instruction_at h (b ∷ bs) >>= λ x. instructions_at fuel h x.1 >>= λ more. Some (x.0 ∷ more)

-- what the line machine shows for the bytes after a header
unfoldable pub rows_of : LineHeader → List ℕ → Option (List Shown)
rows_of h bytes = instructions_at (length bytes) h bytes >>= λ is. run h is (begin h)

-- an extended instruction after its zero
abbrev pub extended_bytes : ℕ → List ℕ → List ℕ
extended_bytes code operand = uleb (suc (length operand)) ++ code ∷ operand

abbrev pub opcode_of : LineHeader → Instruction → ℕ
opcode_of h Copy = DW_LNS_copy.0
opcode_of h (AdvancePc n) = DW_LNS_advance_pc.0
opcode_of h (AdvanceLine z) = DW_LNS_advance_line.0
opcode_of h (SetFile n) = DW_LNS_set_file.0
opcode_of h (SetColumn n) = DW_LNS_set_column.0
opcode_of h NegateStatement = DW_LNS_negate_stmt.0
opcode_of h SetBasicBlock = DW_LNS_set_basic_block.0
opcode_of h ConstAddPc = DW_LNS_const_add_pc.0
opcode_of h (FixedAdvancePc n) = DW_LNS_fixed_advance_pc.0
opcode_of h SetPrologueEnd = DW_LNS_set_prologue_end.0
opcode_of h SetEpilogueBegin = DW_LNS_set_epilogue_begin.0
opcode_of h (SetIsa n) = DW_LNS_set_isa.0
opcode_of h (Special n) = h.opcode_base + n
opcode_of h _ = 0

abbrev pub operand_bytes : LineHeader → Instruction → List ℕ
operand_bytes h (AdvancePc n) = uleb n
operand_bytes h (AdvanceLine z) = sleb z
operand_bytes h (SetFile n) = uleb n
operand_bytes h (SetColumn n) = uleb n
operand_bytes h (FixedAdvancePc n) = num h.is_big 2 n
operand_bytes h (SetIsa n) = uleb n
operand_bytes h EndSequence = extended_bytes DW_LNE_end_sequence.0 []
operand_bytes h (SetAddress w n) = extended_bytes DW_LNE_set_address.0 (num h.is_big w n)
operand_bytes h (SetDiscriminator n) = extended_bytes DW_LNE_set_discriminator.0 (uleb n)
operand_bytes h _ = []

-- the shortest spelling of an instruction
abbrev pub instruction_bytes : LineHeader → Instruction → List ℕ
instruction_bytes h i = opcode_of h i ∷ operand_bytes h i

-- an operand fits its place
abbrev pub IsSpellable : LineHeader → Instruction → Type 0
IsSpellable h (AdvancePc n) = n < 2 ^ 64
IsSpellable h (AdvanceLine z) = IsTrue (fits_i64 z)
IsSpellable h (SetFile n) = n < 2 ^ 64
IsSpellable h (SetColumn n) = n < 2 ^ 64
IsSpellable h (FixedAdvancePc n) = IsTrue (fits 2 n)
IsSpellable h (SetIsa n) = n < 2 ^ 64
IsSpellable h (SetAddress w n) = (w < 256) × IsTrue (fits w n)
IsSpellable h (SetDiscriminator n) = n < 2 ^ 64
IsSpellable h Passed = ⊥
IsSpellable h _ = Unit {0}

-- the header of a program that is written
pub record IsWrittenHeader (h : LineHeader) : Type 0 where
  pub opcode_base : h.opcode_base ≡ 13
  pub minimum_length : 0 < h.minimum_length
