-- The row of each code: what stands behind it.
use Rattle.std.proofs.Common.{◌≡◌, refl, ℕ, Bool, true, false, List, Ok, nat_le, if◌then◌else◌}
use Rattle.dw_base.specs.Numbers.{word_of}
use Rattle.dw_base.specs.declared.common.Encoding.{Encoding}
use Rattle.dw_base.specs.declared.constants.DwOp.{DwOp}
use Rattle.dw_base.specs.declared.constants.TheConstants.{DW_OP_addr, DW_OP_deref, DW_OP_constu, DW_OP_consts, DW_OP_dup, DW_OP_over, DW_OP_pick, DW_OP_xderef, DW_OP_plus_uconst, DW_OP_bra, DW_OP_skip, DW_OP_regx, DW_OP_fbreg, DW_OP_bregx, DW_OP_piece, DW_OP_deref_size, DW_OP_xderef_size, DW_OP_call4, DW_OP_call_ref, DW_OP_bit_piece, DW_OP_implicit_value, DW_OP_implicit_pointer, DW_OP_entry_value, DW_OP_const_type, DW_OP_regval_type, DW_OP_deref_type, DW_OP_convert, DW_OP_reinterpret, DW_OP_WASM_location, DW_OP_GNU_implicit_pointer, DW_OP_GNU_entry_value, DW_OP_GNU_const_type, DW_OP_GNU_regval_type, DW_OP_GNU_deref_type, DW_OP_GNU_convert, DW_OP_GNU_reinterpret, DW_OP_GNU_parameter_ref, DW_OP_GNU_variable_value}
use Rattle.dw_read.specs.Reading.{Read}
use Rattle.dw_read.specs.Reasons.{number_read, uleb_read, uleb16_read, sleb_read, address_read}
use Rattle.dw_expr.specs.Operands.{code_by, entry_value_code, typed_deref_code}
use Rattle.dw_sources.specs.Operations.{Operation, Address, UnsignedConstant, SignedConstant, ConstantType, FrameOffset, RegisterOffset, RegisterType, Pick, Deref, DerefSize, DerefType, PlusConstant, Skip, Branch, Call, CallRef, VariableValue, Convert, Reinterpret, EntryValue, Register, ImplicitValue, ImplicitPointer, BitPiece, ParameterRef}
use Rattle.dw_sources.specs.Operands.{signed_read, base_read, block_read, short_block_read, info_place_read}
use Rattle.dw_sources.specs.OperationTable.{one, two, piece_read, wasm_read, is_simple, plain_of, literals, stack_operations, entry_operations, typed_operations, location_rows, locations, behind}

-- a code, and what its row reads
abbrev pub IsRow : Bool → Encoding → ℕ → Read Operation → Type 0
IsRow big e code q = (bytes : List ℕ) → behind big e code bytes ≡ q bytes

-- an operation without operands
abbrev pub alone : Operation → Read Operation
alone o bytes = Ok (o, bytes)

module _ (big : Bool) (e : Encoding) where
  pub addr_row : IsRow big e DW_OP_addr.0 (one (address_read big e.address_size) Address)
  unfolding behind plain_of is_simple literals
  addr_row bytes = refl

  pub constu_row : IsRow big e DW_OP_constu.0 (one uleb_read UnsignedConstant)
  unfolding behind plain_of is_simple literals
  constu_row bytes = refl

  pub consts_row : IsRow big e DW_OP_consts.0 (one sleb_read SignedConstant)
  unfolding behind plain_of is_simple literals
  consts_row bytes = refl

  pub pick_row : IsRow big e DW_OP_pick.0 (one (number_read big 1) Pick)
  unfolding behind plain_of is_simple literals stack_operations
  pick_row bytes = refl

  pub deref_row : (space : Bool) → IsRow big e (if space then DW_OP_xderef else DW_OP_deref).0 (alone (Deref space))
  unfolding behind plain_of is_simple
  deref_row true bytes = refl
  deref_row false bytes = refl

  pub dup_row : IsRow big e DW_OP_dup.0 (alone (Pick 0))
  unfolding behind plain_of is_simple
  dup_row bytes = refl

  pub over_row : IsRow big e DW_OP_over.0 (alone (Pick 1))
  unfolding behind plain_of is_simple
  over_row bytes = refl

  pub deref_size_row : (space : Bool) → IsRow big e (if space then DW_OP_xderef_size else DW_OP_deref_size).0 (one (number_read big 1) (DerefSize space))
  unfolding behind plain_of is_simple literals stack_operations
  deref_size_row true bytes = refl
  deref_size_row false bytes = refl

  pub plus_uconst_row : IsRow big e DW_OP_plus_uconst.0 (one uleb_read PlusConstant)
  unfolding behind plain_of is_simple literals stack_operations
  plus_uconst_row bytes = refl

  pub skip_row : IsRow big e DW_OP_skip.0 (one (signed_read big 2) Skip)
  unfolding behind plain_of is_simple literals stack_operations
  skip_row bytes = refl

  pub bra_row : IsRow big e DW_OP_bra.0 (one (signed_read big 2) Branch)
  unfolding behind plain_of is_simple literals stack_operations
  bra_row bytes = refl

  pub call4_row : IsRow big e DW_OP_call4.0 (one (number_read big 4) Call)
  unfolding behind plain_of is_simple literals stack_operations entry_operations
  call4_row bytes = refl

  pub call_ref_row : IsRow big e DW_OP_call_ref.0 (one (number_read big (word_of e.format)) CallRef)
  unfolding behind plain_of is_simple literals stack_operations entry_operations
  call_ref_row bytes = refl

  pub variable_value_row : IsRow big e DW_OP_GNU_variable_value.0 (one (number_read big (word_of e.format)) VariableValue)
  unfolding behind plain_of is_simple literals stack_operations entry_operations
  variable_value_row bytes = refl

  pub parameter_ref_row : IsRow big e DW_OP_GNU_parameter_ref.0 (one (number_read big 4) ParameterRef)
  unfolding behind plain_of is_simple literals stack_operations entry_operations
  parameter_ref_row bytes = refl

  -- a code that came with version 5, and that of the extension
  either : (new old : DwOp) (q : Read Operation) → IsRow big e new.0 q → IsRow big e old.0 q → (b : Bool) → IsRow big e (if b then new else old).0 q
  either new old q h k true = h
  either new old q h k false = k

  pub by_version : (new old : DwOp) (q : Read Operation) → IsRow big e new.0 q → IsRow big e old.0 q → IsRow big e (code_by e new old) q
  by_version new old q h k = either new old q h k (nat_le 5 e.version)

  pub implicit_pointer_row : IsRow big e (code_by e DW_OP_implicit_pointer DW_OP_GNU_implicit_pointer) (two (info_place_read big e) sleb_read ImplicitPointer)
  unfolding behind plain_of is_simple literals stack_operations entry_operations
  implicit_pointer_row = by_version DW_OP_implicit_pointer DW_OP_GNU_implicit_pointer _ (λ bytes. refl) (λ bytes. refl)

  pub const_type_row : IsRow big e (code_by e DW_OP_const_type DW_OP_GNU_const_type) (two uleb_read (short_block_read big) ConstantType)
  unfolding behind plain_of is_simple literals stack_operations entry_operations typed_operations
  const_type_row = by_version DW_OP_const_type DW_OP_GNU_const_type _ (λ bytes. refl) (λ bytes. refl)

  pub regval_type_row : IsRow big e (code_by e DW_OP_regval_type DW_OP_GNU_regval_type) (two uleb16_read uleb_read RegisterType)
  unfolding behind plain_of is_simple literals stack_operations entry_operations typed_operations
  regval_type_row = by_version DW_OP_regval_type DW_OP_GNU_regval_type _ (λ bytes. refl) (λ bytes. refl)

  pub deref_type_row : (space : Bool) → IsRow big e (typed_deref_code e space) (two (number_read big 1) uleb_read (DerefType space))
  unfolding behind plain_of is_simple literals stack_operations entry_operations typed_operations
  deref_type_row true = λ bytes. refl
  deref_type_row false = by_version DW_OP_deref_type DW_OP_GNU_deref_type _ (λ bytes. refl) (λ bytes. refl)

  pub convert_row : IsRow big e (code_by e DW_OP_convert DW_OP_GNU_convert) (one base_read Convert)
  unfolding behind plain_of is_simple literals stack_operations entry_operations typed_operations
  convert_row = by_version DW_OP_convert DW_OP_GNU_convert _ (λ bytes. refl) (λ bytes. refl)

  pub reinterpret_row : IsRow big e (code_by e DW_OP_reinterpret DW_OP_GNU_reinterpret) (one base_read Reinterpret)
  unfolding behind plain_of is_simple literals stack_operations entry_operations typed_operations
  reinterpret_row = by_version DW_OP_reinterpret DW_OP_GNU_reinterpret _ (λ bytes. refl) (λ bytes. refl)

  pub entry_value_row : IsRow big e (entry_value_code e) (one block_read EntryValue)
  unfolding behind plain_of is_simple literals stack_operations entry_operations typed_operations locations location_rows
  entry_value_row = by_version DW_OP_entry_value DW_OP_GNU_entry_value _ (λ bytes. refl) (λ bytes. refl)

  pub regx_row : IsRow big e DW_OP_regx.0 (one uleb16_read Register)
  unfolding behind plain_of is_simple literals stack_operations entry_operations typed_operations locations location_rows
  regx_row bytes = refl

  pub fbreg_row : IsRow big e DW_OP_fbreg.0 (one sleb_read FrameOffset)
  unfolding behind plain_of is_simple literals stack_operations entry_operations typed_operations locations location_rows
  fbreg_row bytes = refl

  pub bregx_row : IsRow big e DW_OP_bregx.0 (two uleb16_read sleb_read RegisterOffset)
  unfolding behind plain_of is_simple literals stack_operations entry_operations typed_operations locations location_rows
  bregx_row bytes = refl

  pub piece_row : IsRow big e DW_OP_piece.0 piece_read
  unfolding behind plain_of is_simple literals stack_operations entry_operations typed_operations locations location_rows
  piece_row bytes = refl

  pub bit_piece_row : IsRow big e DW_OP_bit_piece.0 (two uleb_read uleb_read BitPiece)
  unfolding behind plain_of is_simple literals stack_operations entry_operations typed_operations locations location_rows
  bit_piece_row bytes = refl

  pub implicit_value_row : IsRow big e DW_OP_implicit_value.0 (one block_read ImplicitValue)
  unfolding behind plain_of is_simple literals stack_operations entry_operations typed_operations locations location_rows
  implicit_value_row bytes = refl

  pub wasm_row : IsRow big e DW_OP_WASM_location.0 (wasm_read big)
  unfolding behind plain_of is_simple literals stack_operations entry_operations typed_operations locations location_rows
  wasm_row bytes = refl
