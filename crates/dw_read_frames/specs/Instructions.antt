-- The table of frame instructions: what stands behind each code, with the reason where it can't be read (DWARF 5, 6.4.2 and table 7.29).
use Rattle.std.specs.Prelude.{ℕ, ◌-◌, nat_lt, Bool, List, [], ◌∷◌, length, Option, Some, None, Ok, Err, ℤ, if◌then◌else◌}
use Rattle.std.specs.Result.{result_ok}
use Rattle.dw_base.specs.Numbers.{Parser}
use Rattle.dw_base.specs.declared.constants.DwEhPe.{DwEhPe}
use Rattle.dw_base.specs.declared.constants.TheConstants.{DW_CFA_nop, DW_CFA_set_loc, DW_CFA_advance_loc1, DW_CFA_advance_loc2, DW_CFA_advance_loc4, DW_CFA_offset_extended, DW_CFA_restore_extended, DW_CFA_undefined, DW_CFA_same_value, DW_CFA_register, DW_CFA_remember_state, DW_CFA_restore_state, DW_CFA_def_cfa, DW_CFA_def_cfa_register, DW_CFA_def_cfa_offset, DW_CFA_def_cfa_expression, DW_CFA_expression, DW_CFA_offset_extended_sf, DW_CFA_def_cfa_sf, DW_CFA_def_cfa_offset_sf, DW_CFA_val_offset, DW_CFA_val_offset_sf, DW_CFA_val_expression, DW_CFA_AARCH64_negate_ra_state, DW_CFA_GNU_args_size, DW_CFA_advance_loc, DW_CFA_offset, DW_CFA_restore}
use Rattle.dw_read.specs.Reading.{Read}
use Rattle.dw_read.specs.Reasons.{◌=>>◌, bytes_read, number_read, uleb_read, uleb16_read, sleb_read}
use Rattle.dw_read.specs.declared.error.ReadError.TheVariants.{UnknownCallFrameInstruction}
use Rattle.dw_read_frames.specs.Pointers.{among, pointer_read}
use Rattle.dw_read_frames.specs.Augmentations.{standing}

-- an instruction; an offset is factored but in DefCfa and DefCfaOffset, and an expression is its bytes
pub data Instruction : Type 0 where
  SetLoc : ℕ → Instruction
  AdvanceLoc : ℕ → Instruction
  DefCfa : ℕ → ℕ → Instruction
  DefCfaSf : ℕ → ℤ → Instruction
  DefCfaRegister : ℕ → Instruction
  DefCfaOffset : ℕ → Instruction
  DefCfaOffsetSf : ℤ → Instruction
  DefCfaExpression : List ℕ → Instruction
  Undefined : ℕ → Instruction
  SameValue : ℕ → Instruction
  Offset : ℕ → ℕ → Instruction
  OffsetExtendedSf : ℕ → ℤ → Instruction
  ValOffset : ℕ → ℕ → Instruction
  ValOffsetSf : ℕ → ℤ → Instruction
  Register : ℕ → ℕ → Instruction
  Expression : ℕ → List ℕ → Instruction
  ValExpression : ℕ → List ℕ → Instruction
  Restore : ℕ → Instruction
  RememberState : Instruction
  RestoreState : Instruction
  ArgsSize : ℕ → Instruction
  NegateRaState : Instruction
  Nop : Instruction

-- an instruction without operands, and with one and two
abbrev pub none : Instruction → Read Instruction
none i bytes = Ok (i, bytes)

abbrev pub one : {A : Type 0} → Read A → (A → Instruction) → Read Instruction
one p f bytes = p bytes =>> λ a. Ok (f a.0, a.1)

abbrev pub two : {A B : Type 0} → Read A → Read B → (A → B → Instruction) → Read Instruction
two p q f bytes = p bytes =>> λ a. q a.1 =>> λ b. Ok (f a.0 b.0, b.1)

-- bytes behind their number in ULEB128
unfoldable pub block_read : Read (List ℕ)
block_read bytes = uleb_read bytes =>> λ n. bytes_read n.0 n.1

-- the instructions that say where rules begin to hold, and those on all rules
unfoldable pub place_row : Bool → ℕ → DwEhPe → ℕ → ℕ → Option (Read Instruction)
place_row big size encoding place code = among code (
    (DW_CFA_nop.0, none Nop)
    ∷ (DW_CFA_set_loc.0, one (pointer_read big size encoding place) SetLoc)
    ∷ (DW_CFA_advance_loc1.0, one (number_read big 1) AdvanceLoc)
    ∷ (DW_CFA_advance_loc2.0, one (number_read big 2) AdvanceLoc)
    ∷ (DW_CFA_advance_loc4.0, one (number_read big 4) AdvanceLoc)
    ∷ (DW_CFA_remember_state.0, none RememberState)
    ∷ (DW_CFA_restore_state.0, none RestoreState)
    ∷ (DW_CFA_AARCH64_negate_ra_state.0, none NegateRaState)
    ∷ (DW_CFA_GNU_args_size.0, one uleb_read ArgsSize)
    ∷ [])

-- the instructions whose code has an operand in its low six bits
unfoldable pub coded_row : ℕ → Option (Read Instruction)
coded_row code =
    if nat_lt code DW_CFA_advance_loc.0 then None
    else if nat_lt code DW_CFA_offset.0 then Some (none (AdvanceLoc (code - DW_CFA_advance_loc.0)))
    else if nat_lt code DW_CFA_restore.0 then Some (one uleb_read (Offset (code - DW_CFA_offset.0)))
    else Some (none (Restore (code - DW_CFA_restore.0)))

-- the instructions on the frame's address
unfoldable pub frame_row : ℕ → Option (Read Instruction)
frame_row code = among code (
    (DW_CFA_def_cfa.0, two uleb16_read uleb_read DefCfa)
    ∷ (DW_CFA_def_cfa_sf.0, two uleb16_read sleb_read DefCfaSf)
    ∷ (DW_CFA_def_cfa_register.0, one uleb16_read DefCfaRegister)
    ∷ (DW_CFA_def_cfa_offset.0, one uleb_read DefCfaOffset)
    ∷ (DW_CFA_def_cfa_offset_sf.0, one sleb_read DefCfaOffsetSf)
    ∷ (DW_CFA_def_cfa_expression.0, one block_read DefCfaExpression)
    ∷ [])

-- the instructions on a register
unfoldable pub rule_row : ℕ → Option (Read Instruction)
rule_row code = among code (
    (DW_CFA_offset_extended.0, two uleb16_read uleb_read Offset)
    ∷ (DW_CFA_offset_extended_sf.0, two uleb16_read sleb_read OffsetExtendedSf)
    ∷ (DW_CFA_restore_extended.0, one uleb16_read Restore)
    ∷ (DW_CFA_undefined.0, one uleb16_read Undefined)
    ∷ (DW_CFA_same_value.0, one uleb16_read SameValue)
    ∷ (DW_CFA_register.0, two uleb16_read uleb16_read Register)
    ∷ (DW_CFA_expression.0, two uleb16_read block_read Expression)
    ∷ (DW_CFA_val_expression.0, two uleb16_read block_read ValExpression)
    ∷ (DW_CFA_val_offset.0, two uleb16_read uleb_read ValOffset)
    ∷ (DW_CFA_val_offset_sf.0, two uleb16_read sleb_read ValOffsetSf)
    ∷ [])

-- what is read where a table has a code, and nothing where it hasn't
unfoldable pub tried : Option (Read Instruction) → Read (Option Instruction)
tried None bytes = Ok (None, bytes)
tried (Some p) bytes = p bytes =>> λ x. Ok (Some x.0, x.1)

-- the row of a table, or what further tables have
abbrev pub first_of : Option (Read Instruction) → Read Instruction → Read Instruction
first_of None more = more
first_of (Some p) more = p

-- what stands behind a code, at a place
unfoldable pub behind_read : Bool → ℕ → DwEhPe → ℕ → ℕ → Read Instruction
behind_read big size encoding place code =
    first_of (place_row big size encoding place code) (first_of (coded_row code) (first_of (frame_row code) (first_of (rule_row code)
    (λ bytes. Err (UnknownCallFrameInstruction code)))))

-- an instruction, in bytes that go on to an end, where addresses have so many bytes and the encoding
unfoldable pub instruction_read : Bool → ℕ → DwEhPe → ℕ → Read Instruction
instruction_read big size encoding end bytes = number_read big 1 bytes =>> λ code. behind_read big size encoding (standing end code.1) code.0 code.1

-- the grammar of instructions
unfoldable pub instruction_at : Bool → ℕ → DwEhPe → ℕ → Parser Instruction
instruction_at big size encoding end bytes = result_ok (instruction_read big size encoding end bytes)
