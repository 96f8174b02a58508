-- Call frame instructions (DWARF 5, 6.4.2 and 7.24): a code, and up to two operands.
use Rattle.std.specs.Prelude.{ℕ, ◌+◌, Bool, false, nat_lt, [], ◌∷◌, Option, Some, None, ℤ, pos, negsuc, if◌then◌else◌}
use Rattle.std.specs.Ordering.{int_eq}
use Rattle.dw_base.specs.Numbers.{◌>>=◌}
use Rattle.dw_base.specs.declared.common.Encoding.{Encoding}
use Rattle.dw_base.specs.declared.common.Register.{Register}
use Rattle.dw_base.specs.declared.error.Error.{Error}
use Rattle.dw_base.specs.declared.error.Error.TheVariants as errors
use Rattle.dw_base.specs.declared.constants.TheConstants.{DW_CFA_offset_extended, DW_CFA_restore_extended, DW_CFA_undefined, DW_CFA_same_value, DW_CFA_register, DW_CFA_remember_state, DW_CFA_restore_state, DW_CFA_def_cfa, DW_CFA_def_cfa_register, DW_CFA_def_cfa_offset, DW_CFA_def_cfa_expression, DW_CFA_expression, DW_CFA_offset_extended_sf, DW_CFA_def_cfa_sf, DW_CFA_def_cfa_offset_sf, DW_CFA_val_offset, DW_CFA_val_offset_sf, DW_CFA_val_expression, DW_CFA_AARCH64_negate_ra_state, DW_CFA_GNU_args_size, DW_CFA_offset, DW_CFA_restore}
use Rattle.dw_frame_instructions.specs.declared.instruction.CallFrameInstruction.{CallFrameInstruction}
use Rattle.dw_frame_instructions.specs.declared.instruction.CallFrameInstruction.TheVariants.{Cfa, CfaRegister, CfaOffset, CfaExpression, Restore, Undefined, SameValue, Offset, ValOffset, Expression, ValExpression, RememberState, RestoreState, ArgsSize, NegateRaState}
use Rattle.dw_frame_instructions.specs.declared.instruction.CallFrameInstruction.TheVariants as built
use Rattle.dw_frame_instructions.specs.declared.spelling.Spelling.{Spelling as Kept}
use Rattle.dw_frame_instructions.specs.Factors.{factored}
use Rattle.dw_frame_instructions.specs.Operands.{Operand, Nothing, Uleb, Sleb, Block, operand_in, operand_piece, operand_fails}
use Rattle.dw_frame_instructions.specs.Pieces.{Piece, missing, bytes, both}
use Rattle.dw_frame_instructions.specs.Causes.{either}

pub record Spelling : Type 0 where
  pub code : ℕ
  pub first : Operand
  pub second : Operand

abbrev pub spell : ℕ → Operand → Operand → Spelling
spell code first second = record { code = code; first = first; second = second }

abbrev pub spelling_in : Kept → Spelling
spelling_in s = spell s.code (operand_in s.first) (operand_in s.second)

-- whether a register has room in the low six bits of a code
abbrev pub is_small : Register → Bool
is_small r = nat_lt r.0 0x40

abbrev pub restored : Register → Spelling
restored r =
    if is_small r then spell (DW_CFA_restore.0 + r.0) Nothing Nothing else spell DW_CFA_restore_extended.0 (Uleb r.0) Nothing

-- a rule by a factored offset, with a code of its own below zero
abbrev pub offset_rule : Register → ℤ → Spelling
offset_rule r (pos n) =
    if is_small r then spell (DW_CFA_offset.0 + r.0) (Uleb n) Nothing else spell DW_CFA_offset_extended.0 (Uleb r.0) (Uleb n)
offset_rule r (negsuc n) = spell DW_CFA_offset_extended_sf.0 (Uleb r.0) (Sleb (negsuc n))

abbrev pub value_rule : Register → ℤ → Spelling
value_rule r (pos n) = spell DW_CFA_val_offset.0 (Uleb r.0) (Uleb n)
value_rule r (negsuc n) = spell DW_CFA_val_offset_sf.0 (Uleb r.0) (Sleb (negsuc n))

-- the offset of the frame's address is factored only below zero
abbrev pub frame_rule : ℤ → Register → ℤ → Option Spelling
frame_rule factor r (pos n) = Some (spell DW_CFA_def_cfa.0 (Uleb r.0) (Uleb n))
frame_rule factor r (negsuc n) = factored factor (negsuc n) >>= λ z. Some (spell DW_CFA_def_cfa_sf.0 (Uleb r.0) (Sleb z))

abbrev pub frame_offset_rule : ℤ → ℤ → Option Spelling
frame_offset_rule factor (pos n) = Some (spell DW_CFA_def_cfa_offset.0 (Uleb n) Nothing)
frame_offset_rule factor (negsuc n) = factored factor (negsuc n) >>= λ z. Some (spell DW_CFA_def_cfa_offset_sf.0 (Sleb z) Nothing)

-- an instruction by the factor of data offsets; one whose offset can't be factored has no spelling
abbrev pub spelled : ℤ → CallFrameInstruction → Option Spelling
spelled factor (Cfa r offset) = frame_rule factor r offset
spelled factor (CfaRegister r) = Some (spell DW_CFA_def_cfa_register.0 (Uleb r.0) Nothing)
spelled factor (CfaOffset offset) = frame_offset_rule factor offset
spelled factor (CfaExpression x) = Some (spell DW_CFA_def_cfa_expression.0 (Block x) Nothing)
spelled factor (Restore r) = Some (restored r)
spelled factor (Undefined r) = Some (spell DW_CFA_undefined.0 (Uleb r.0) Nothing)
spelled factor (SameValue r) = Some (spell DW_CFA_same_value.0 (Uleb r.0) Nothing)
spelled factor (Offset r offset) = factored factor offset >>= λ z. Some (offset_rule r z)
spelled factor (ValOffset r offset) = factored factor offset >>= λ z. Some (value_rule r z)
spelled factor (built.Register r s) = Some (spell DW_CFA_register.0 (Uleb r.0) (Uleb s.0))
spelled factor (Expression r x) = Some (spell DW_CFA_expression.0 (Uleb r.0) (Block x))
spelled factor (ValExpression r x) = Some (spell DW_CFA_val_expression.0 (Uleb r.0) (Block x))
spelled factor RememberState = Some (spell DW_CFA_remember_state.0 Nothing Nothing)
spelled factor RestoreState = Some (spell DW_CFA_restore_state.0 Nothing Nothing)
spelled factor (ArgsSize n) = Some (spell DW_CFA_GNU_args_size.0 (Uleb n) Nothing)
spelled factor NegateRaState = Some (spell DW_CFA_AARCH64_negate_ra_state.0 Nothing Nothing)

-- the offset of an instruction, where it has one
abbrev pub offset_of : CallFrameInstruction → Option ℤ
offset_of (Cfa r offset) = Some offset
offset_of (CfaOffset offset) = Some offset
offset_of (Offset r offset) = Some offset
offset_of (ValOffset r offset) = Some offset
offset_of i = None

abbrev pub is_offset : ℤ → Option ℤ → Bool
is_offset z None = false
is_offset z (Some o) = int_eq z o

-- the offset that the error names is the instruction's, which can't be factored
abbrev pub factor_fails : Option Spelling → Option ℤ → Error → Bool
factor_fails None offset (errors.InvalidFrameDataOffset z) = is_offset z offset
factor_fails s offset err = false

abbrev pub spelling_piece : Encoding → Option Spelling → Piece
spelling_piece e None = missing
spelling_piece e (Some s) = both (bytes (s.code ∷ [])) (both (operand_piece e s.first) (operand_piece e s.second))

abbrev pub spelling_fails : Encoding → Bool → Option Spelling → Error → Bool
spelling_fails e plain None err = false
spelling_fails e plain (Some s) err = either (operand_fails e plain s.first) (operand_fails e plain s.second) err

-- an instruction
abbrev pub instruction_piece : Encoding → ℤ → CallFrameInstruction → Piece
instruction_piece e factor i = spelling_piece e (spelled factor i)

abbrev pub instruction_fails : Encoding → ℤ → Bool → CallFrameInstruction → Error → Bool
instruction_fails e factor plain i err = either (factor_fails (spelled factor i) (offset_of i)) (spelling_fails e plain (spelled factor i)) err
