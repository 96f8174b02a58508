-- The instructions of the line machine, with the reason where one can't be read (DWARF 5, 6.2.5 and 7.22): a law says that they
-- are those of the machine.
use Rattle.std.specs.Prelude.{ℕ, zero, suc, ◌-◌, ◌==◌, nat_le, Bool, List, length, Option, Some, None, Result, Ok, slice_index, if◌then◌else◌}
use Rattle.dw_base.specs.Numbers.{value_of}
use Rattle.dw_base.specs.declared.constants.TheConstants.{DW_LNS_copy, DW_LNS_advance_pc, DW_LNS_advance_line, DW_LNS_set_file, DW_LNS_set_column, DW_LNS_negate_stmt, DW_LNS_set_basic_block, DW_LNS_const_add_pc, DW_LNS_fixed_advance_pc, DW_LNS_set_prologue_end, DW_LNS_set_epilogue_begin, DW_LNS_set_isa, DW_LNE_end_sequence, DW_LNE_set_address, DW_LNE_set_discriminator}
use Rattle.dw_base.specs.LineMachine.{LineHeader, Instruction, Copy, AdvancePc, AdvanceLine, SetFile, SetColumn, NegateStatement, SetBasicBlock, ConstAddPc, FixedAdvancePc, SetPrologueEnd, SetEpilogueBegin, SetIsa, Special, EndSequence, SetAddress, SetDiscriminator, Passed}
use Rattle.dw_read.specs.Reading.{Read}
use Rattle.dw_read.specs.Reasons.{◌=>>◌, bytes_read, number_read, uleb_read, sleb_read}
use Rattle.dw_read.specs.declared.error.ReadError.{ReadError}

-- an instruction of an operand that was read
abbrev pub with_read : {A : Type 0} → (A → Instruction) → Result (A × List ℕ) ReadError → Result (Instruction × List ℕ) ReadError
with_read make r = r =>> λ x. Ok (make x.0, x.1)

-- so many operands of an opcode that isn't known
unfoldable pub passed_read : ℕ → Read Instruction
passed_read zero bytes = Ok (Passed, bytes)
passed_read (suc n) bytes = uleb_read bytes =>> λ x. passed_read n x.1

-- a standard instruction after its opcode, or so many operands of one that isn't known
unfoldable pub standard_read : Bool → ℕ → ℕ → Read Instruction
standard_read big count opcode bytes =
    if opcode == DW_LNS_copy.0 then Ok (Copy, bytes)
    else if opcode == DW_LNS_advance_pc.0 then with_read AdvancePc (uleb_read bytes)
    else if opcode == DW_LNS_advance_line.0 then with_read AdvanceLine (sleb_read bytes)
    else if opcode == DW_LNS_set_file.0 then with_read SetFile (uleb_read bytes)
    else if opcode == DW_LNS_set_column.0 then with_read SetColumn (uleb_read bytes)
    else if opcode == DW_LNS_negate_stmt.0 then Ok (NegateStatement, bytes)
    else if opcode == DW_LNS_set_basic_block.0 then Ok (SetBasicBlock, bytes)
    else if opcode == DW_LNS_const_add_pc.0 then Ok (ConstAddPc, bytes)
    else if opcode == DW_LNS_fixed_advance_pc.0 then with_read FixedAdvancePc (number_read big 2 bytes)
    else if opcode == DW_LNS_set_prologue_end.0 then Ok (SetPrologueEnd, bytes)
    else if opcode == DW_LNS_set_epilogue_begin.0 then Ok (SetEpilogueBegin, bytes)
    else if opcode == DW_LNS_set_isa.0 then with_read SetIsa (uleb_read bytes)
    else passed_read count bytes

-- an extended instruction after its code, of all its bytes
unfoldable pub coded_read : Bool → ℕ → List ℕ → Result Instruction ReadError
coded_read big code bytes =
    if code == DW_LNE_end_sequence.0 then Ok EndSequence
    else if code == DW_LNE_set_address.0 then Ok (SetAddress (length bytes) (value_of big bytes))
    else if code == DW_LNE_set_discriminator.0 then (uleb_read bytes =>> λ x. Ok (SetDiscriminator x.0))
    else Ok Passed

-- the same after the zero that marks it: its length, and so many bytes
unfoldable pub extended_read : Bool → Read Instruction
extended_read big bytes =
    uleb_read bytes =>> λ n. bytes_read n.0 n.1 =>> λ body. number_read big 1 body.0 =>> λ code.
    coded_read big code.0 code.1 =>> λ i. Ok (i, body.1)

-- the code of an extended instruction after the zero that marks it
unfoldable pub marked_code : Bool → List ℕ → Result (Option ℕ) ReadError
marked_code big bytes = uleb_read bytes =>> λ n. bytes_read n.0 n.1 =>> λ body. number_read big 1 body.0 =>> λ code. Ok (Some code.0)

-- the code of an instruction, where it is an extended one
unfoldable pub extended_code : Bool → List ℕ → Result (Option ℕ) ReadError
extended_code big bytes = number_read big 1 bytes =>> λ opcode. if opcode.0 == 0 then marked_code big opcode.1 else Ok None

-- one instruction; from the header's base on, opcodes are special
unfoldable pub instruction_read : LineHeader → Read Instruction
instruction_read h bytes =
    number_read h.is_big 1 bytes =>> λ opcode.
    if opcode.0 == 0 then extended_read h.is_big opcode.1
    else if nat_le h.opcode_base opcode.0 then Ok (Special (opcode.0 - h.opcode_base), opcode.1)
    else standard_read h.is_big (slice_index h.operand_counts (opcode.0 - 1)) opcode.0 opcode.1
