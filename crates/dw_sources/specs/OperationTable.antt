-- The table of operations: what stands behind each code, and what operation that is (DWARF 5, 2.5, 2.6.1 and table 7.9). The typed
-- operations came with version 5 and have the codes of the GNU extensions, too; each code is read in every version.
use Rattle.std.specs.Prelude.{ℕ, ◌+◌, ◌-◌, ◌*◌, ◌^◌, ◌==◌, ◌&&◌, ◌||◌, nat_lt, nat_le, Bool, true, false, List, [], ◌∷◌, Option, Some, None, Ok, Err, if◌then◌else◌}
use Rattle.std.specs.Result.{result_ok}
use Rattle.dw_base.specs.Numbers.{Parser, word_of}
use Rattle.dw_base.specs.declared.common.Encoding.{Encoding}
use Rattle.dw_base.specs.declared.constants.DwOp.{DwOp}
use Rattle.dw_base.specs.declared.constants.TheConstants.{DW_OP_addr, DW_OP_deref, DW_OP_const1u, DW_OP_const1s, DW_OP_const2u, DW_OP_const2s, DW_OP_const4u, DW_OP_const4s, DW_OP_const8u, DW_OP_const8s, DW_OP_constu, DW_OP_consts, DW_OP_dup, DW_OP_drop, DW_OP_over, DW_OP_pick, DW_OP_swap, DW_OP_rot, DW_OP_xderef, DW_OP_abs, DW_OP_and, DW_OP_div, DW_OP_minus, DW_OP_mod, DW_OP_mul, DW_OP_neg, DW_OP_not, DW_OP_or, DW_OP_plus, DW_OP_plus_uconst, DW_OP_shl, DW_OP_shr, DW_OP_shra, DW_OP_xor, DW_OP_bra, DW_OP_eq, DW_OP_ge, DW_OP_gt, DW_OP_le, DW_OP_lt, DW_OP_ne, DW_OP_skip, DW_OP_lit0, DW_OP_reg0, DW_OP_breg0, DW_OP_regx, DW_OP_fbreg, DW_OP_bregx, DW_OP_piece, DW_OP_deref_size, DW_OP_xderef_size, DW_OP_nop, DW_OP_push_object_address, DW_OP_call2, DW_OP_call4, DW_OP_call_ref, DW_OP_form_tls_address, DW_OP_call_frame_cfa, DW_OP_bit_piece, DW_OP_implicit_value, DW_OP_stack_value, DW_OP_implicit_pointer, DW_OP_addrx, DW_OP_constx, DW_OP_entry_value, DW_OP_const_type, DW_OP_regval_type, DW_OP_deref_type, DW_OP_xderef_type, DW_OP_convert, DW_OP_reinterpret, DW_OP_GNU_push_tls_address, DW_OP_WASM_location, DW_OP_GNU_uninit, DW_OP_GNU_implicit_pointer, DW_OP_GNU_entry_value, DW_OP_GNU_const_type, DW_OP_GNU_regval_type, DW_OP_GNU_deref_type, DW_OP_GNU_convert, DW_OP_GNU_reinterpret, DW_OP_GNU_parameter_ref, DW_OP_GNU_variable_value}
use Rattle.dw_read.specs.Reading.{Read}
use Rattle.dw_read.specs.Reasons.{◌=>>◌, if_so, number_read, uleb_read, uleb16_read, sleb_read, address_read}
use Rattle.dw_read.specs.declared.error.ReadError.{ReadError}
use Rattle.dw_read.specs.declared.error.ReadError.TheVariants.{InvalidExpression, InvalidPiece}
use Rattle.dw_sources.specs.Operations.{Operation, Simple, Address, AddressIndex, ConstantIndex, UnsignedConstant, SignedConstant, ConstantType, FrameOffset, RegisterOffset, RegisterType, Pick, Deref, DerefSize, DerefType, PlusConstant, Skip, Branch, Call, CallRef, VariableValue, Convert, Reinterpret, EntryValue, Register, ImplicitValue, ImplicitPointer, Piece, BitPiece, ParameterRef, WasmLocal, WasmGlobal, WasmStack}
use Rattle.dw_sources.specs.Operands.{signed_read, uleb32_read, base_read, block_read, short_block_read, info_place_read}

-- a code, and what is read behind it
abbrev pub Row : Type 0 → Type 0
Row A = ℕ × A

-- the row of a code
abbrev pub among : {A : Type 0} → ℕ → List (Row A) → Option A
among code [] = None
among code (r ∷ rows) = if code == r.0 then Some r.1 else among code rows

-- the operations that have no operand, but for those that are rows below or whose code has a number in it
abbrev pub simple_operations : List DwOp
simple_operations =
    DW_OP_drop
    ∷ DW_OP_swap
    ∷ DW_OP_rot
    ∷ DW_OP_abs
    ∷ DW_OP_and
    ∷ DW_OP_div
    ∷ DW_OP_minus
    ∷ DW_OP_mod
    ∷ DW_OP_mul
    ∷ DW_OP_neg
    ∷ DW_OP_not
    ∷ DW_OP_or
    ∷ DW_OP_plus
    ∷ DW_OP_shl
    ∷ DW_OP_shr
    ∷ DW_OP_shra
    ∷ DW_OP_xor
    ∷ DW_OP_eq
    ∷ DW_OP_ge
    ∷ DW_OP_gt
    ∷ DW_OP_le
    ∷ DW_OP_lt
    ∷ DW_OP_ne
    ∷ DW_OP_nop
    ∷ DW_OP_push_object_address
    ∷ DW_OP_form_tls_address
    ∷ DW_OP_call_frame_cfa
    ∷ DW_OP_stack_value
    ∷ DW_OP_GNU_push_tls_address
    ∷ DW_OP_GNU_uninit
    ∷ []

abbrev pub is_one_of : List DwOp → ℕ → Bool
is_one_of [] code = false
is_one_of (op ∷ ops) code = (code == op.0) || is_one_of ops code

unfoldable pub is_simple : ℕ → Bool
is_simple code = is_one_of simple_operations code

-- those that are read as an operation with an operand
abbrev pub plain_rows : List (Row Operation)
plain_rows =
    (DW_OP_deref.0, Deref false)
    ∷ (DW_OP_xderef.0, Deref true)
    ∷ (DW_OP_dup.0, Pick 0)
    ∷ (DW_OP_over.0, Pick 1)
    ∷ []

-- whether a code is one of the 32 that begin with one
abbrev pub is_from : DwOp → ℕ → Bool
is_from first code = nat_le first.0 code && nat_lt code (first.0 + 32)

-- an operation without operands
unfoldable pub plain_of : ℕ → Option Operation
plain_of code =
    if is_from DW_OP_lit0 code then Some (UnsignedConstant (code - DW_OP_lit0.0))
    else if is_from DW_OP_reg0 code then Some (Register (code - DW_OP_reg0.0))
    else if is_simple code then Some (Simple code)
    else among code plain_rows

-- one operand, and two of them
abbrev pub one : {A : Type 0} → Read A → (A → Operation) → Read Operation
one p f bytes = p bytes =>> λ a. Ok (f a.0, a.1)

abbrev pub two : {A B : Type 0} → Read A → Read B → (A → B → Operation) → Read Operation
two p q f bytes = p bytes =>> λ a. q a.1 =>> λ b. Ok (f a.0 b.0, b.1)

abbrev pub invalid : DwOp → ReadError
invalid op = InvalidExpression op

-- a piece, whose bits are a number of 64 bits
abbrev pub piece_read : Read Operation
piece_read bytes = uleb_read bytes =>> λ n. if_so (nat_lt (n.0 * 8) (2 ^ 64)) InvalidPiece (Ok (Piece n.0, n.1))

-- what a location of WebAssembly is in, by the byte before its index
abbrev pub wasm_of : Bool → ℕ → Read Operation
wasm_of big kind bytes =
    if kind == 0 then one uleb32_read WasmLocal bytes
    else if kind == 1 then one uleb32_read WasmGlobal bytes
    else if kind == 2 then one uleb32_read WasmStack bytes
    else if kind == 3 then one (number_read big 4) WasmGlobal bytes
    else Err (invalid DW_OP_WASM_location)

unfoldable pub wasm_read : Bool → Read Operation
wasm_read big bytes = number_read big 1 bytes =>> λ kind. wasm_of big kind.0 kind.1

module _ (big : Bool) (e : Encoding) where
  -- literals (2.5.1.1)
  unfoldable pub literals : ℕ → Option (Read Operation)
  literals code = among code (
      (DW_OP_addr.0, one (address_read big e.address_size) Address)
      ∷ (DW_OP_const1u.0, one (number_read big 1) UnsignedConstant)
      ∷ (DW_OP_const1s.0, one (signed_read big 1) SignedConstant)
      ∷ (DW_OP_const2u.0, one (number_read big 2) UnsignedConstant)
      ∷ (DW_OP_const2s.0, one (signed_read big 2) SignedConstant)
      ∷ (DW_OP_const4u.0, one (number_read big 4) UnsignedConstant)
      ∷ (DW_OP_const4s.0, one (signed_read big 4) SignedConstant)
      ∷ (DW_OP_const8u.0, one (number_read big 8) UnsignedConstant)
      ∷ (DW_OP_const8s.0, one (signed_read big 8) SignedConstant)
      ∷ (DW_OP_constu.0, one uleb_read UnsignedConstant)
      ∷ (DW_OP_consts.0, one sleb_read SignedConstant)
      ∷ (DW_OP_addrx.0, one uleb_read AddressIndex)
      ∷ (DW_OP_constx.0, one uleb_read ConstantIndex)
      ∷ [])

  -- operands on the stack, and where to go on (2.5.1.3 to 2.5.1.5)
  unfoldable pub stack_operations : ℕ → Option (Read Operation)
  stack_operations code = among code (
      (DW_OP_pick.0, one (number_read big 1) Pick)
      ∷ (DW_OP_deref_size.0, one (number_read big 1) (DerefSize false))
      ∷ (DW_OP_xderef_size.0, one (number_read big 1) (DerefSize true))
      ∷ (DW_OP_plus_uconst.0, one uleb_read PlusConstant)
      ∷ (DW_OP_bra.0, one (signed_read big 2) Branch)
      ∷ (DW_OP_skip.0, one (signed_read big 2) Skip)
      ∷ [])

  -- entries (2.5.1.5), and the extensions that grew from these
  unfoldable pub entry_operations : ℕ → Option (Read Operation)
  entry_operations code = among code (
      (DW_OP_call2.0, one (number_read big 2) Call)
      ∷ (DW_OP_call4.0, one (number_read big 4) Call)
      ∷ (DW_OP_call_ref.0, one (number_read big (word_of e.format)) CallRef)
      ∷ (DW_OP_implicit_pointer.0, two (info_place_read big e) sleb_read ImplicitPointer)
      ∷ (DW_OP_GNU_implicit_pointer.0, two (info_place_read big e) sleb_read ImplicitPointer)
      ∷ (DW_OP_GNU_parameter_ref.0, one (number_read big 4) ParameterRef)
      ∷ (DW_OP_GNU_variable_value.0, one (number_read big (word_of e.format)) VariableValue)
      ∷ [])

  -- typed values (2.5.1.1 to 2.5.1.3 and 2.5.1.6)
  unfoldable pub typed_operations : ℕ → Option (Read Operation)
  typed_operations code = among code (
      (DW_OP_const_type.0, two uleb_read (short_block_read big) ConstantType)
      ∷ (DW_OP_GNU_const_type.0, two uleb_read (short_block_read big) ConstantType)
      ∷ (DW_OP_regval_type.0, two uleb16_read uleb_read RegisterType)
      ∷ (DW_OP_GNU_regval_type.0, two uleb16_read uleb_read RegisterType)
      ∷ (DW_OP_deref_type.0, two (number_read big 1) uleb_read (DerefType false))
      ∷ (DW_OP_GNU_deref_type.0, two (number_read big 1) uleb_read (DerefType false))
      ∷ (DW_OP_xderef_type.0, two (number_read big 1) uleb_read (DerefType true))
      ∷ (DW_OP_convert.0, one base_read Convert)
      ∷ (DW_OP_GNU_convert.0, one base_read Convert)
      ∷ (DW_OP_reinterpret.0, one base_read Reinterpret)
      ∷ (DW_OP_GNU_reinterpret.0, one base_read Reinterpret)
      ∷ [])

  -- registers and other locations (2.5.1.2, 2.5.1.7 and 2.6.1), but for those whose code has a number in it
  unfoldable pub location_rows : ℕ → Option (Read Operation)
  location_rows code = among code (
      (DW_OP_regx.0, one uleb16_read Register)
      ∷ (DW_OP_fbreg.0, one sleb_read FrameOffset)
      ∷ (DW_OP_bregx.0, two uleb16_read sleb_read RegisterOffset)
      ∷ (DW_OP_piece.0, piece_read)
      ∷ (DW_OP_bit_piece.0, two uleb_read uleb_read BitPiece)
      ∷ (DW_OP_implicit_value.0, one block_read ImplicitValue)
      ∷ (DW_OP_entry_value.0, one block_read EntryValue)
      ∷ (DW_OP_GNU_entry_value.0, one block_read EntryValue)
      ∷ (DW_OP_WASM_location.0, wasm_read big)
      ∷ [])

  unfoldable pub locations : ℕ → Option (Read Operation)
  locations code =
      if is_from DW_OP_breg0 code then Some (one sleb_read (RegisterOffset (code - DW_OP_breg0.0)))
      else location_rows code

-- what one table reads behind a code that it has, and what comes after it reads behind every other
abbrev pub first_of : Option (Read Operation) → Read Operation → Read Operation
first_of None more bytes = more bytes
first_of (Some p) more bytes = p bytes

abbrev pub without_operand : Option Operation → Option (Read Operation)
without_operand None = None
without_operand (Some o) = Some (λ bytes. Ok (o, bytes))

-- what stands behind a code; no operation has another code
unfoldable pub behind : Bool → Encoding → ℕ → Read Operation
behind big e code =
    first_of (without_operand (plain_of code))
    (first_of (literals big e code)
    (first_of (stack_operations big e code)
    (first_of (entry_operations big e code)
    (first_of (typed_operations big e code)
    (first_of (locations big e code)
    (λ bytes. Err (invalid (record { 0 = code }))))))))

-- an operation, or the reason why none can be read
unfoldable pub operation_read : Bool → Encoding → Read Operation
operation_read big e bytes = number_read big 1 bytes =>> λ code. behind big e code.0 code.1

-- the grammar of operations
unfoldable pub operation_at : Bool → Encoding → Parser Operation
operation_at big e bytes = result_ok (operation_read big e bytes)
