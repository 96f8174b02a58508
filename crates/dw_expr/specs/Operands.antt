-- The table of operations: the code of each and the operands behind it (DWARF 5, 2.5, 2.6.1 and 7.7.1). The typed
-- operations came with version 5; below it they have the codes of the GNU extensions that they grew from.
use Rattle.std.specs.Prelude.{ℕ, ◌+◌, ◌==◌, Bool, nat_lt, nat_le, List, [], ◌∷◌, ◌++◌, length, Option, Some, None, ℤ, if◌then◌else◌}
use Rattle.dw_base.specs.Numbers.{word_of}
use Rattle.dw_base.specs.Forms.{info_place_of}
use Rattle.dw_base.specs.declared.constants.TheConstants.{DW_OP_GNU_const_type, DW_OP_GNU_convert, DW_OP_GNU_deref_type, DW_OP_GNU_entry_value, DW_OP_GNU_implicit_pointer, DW_OP_GNU_parameter_ref, DW_OP_GNU_regval_type, DW_OP_GNU_reinterpret, DW_OP_GNU_variable_value, DW_OP_WASM_location, DW_OP_addr, DW_OP_bit_piece, DW_OP_bra, DW_OP_breg0, DW_OP_bregx, DW_OP_call4, DW_OP_call_ref, DW_OP_const_type, DW_OP_consts, DW_OP_constu, DW_OP_convert, DW_OP_deref, DW_OP_deref_size, DW_OP_deref_type, DW_OP_dup, DW_OP_entry_value, DW_OP_fbreg, DW_OP_implicit_pointer, DW_OP_implicit_value, DW_OP_lit0, DW_OP_over, DW_OP_pick, DW_OP_piece, DW_OP_plus_uconst, DW_OP_reg0, DW_OP_regval_type, DW_OP_regx, DW_OP_reinterpret, DW_OP_skip, DW_OP_xderef, DW_OP_xderef_size, DW_OP_xderef_type}
use Rattle.dw_base.specs.declared.address.Address.{Address as TargetAddress}
use Rattle.dw_base.specs.declared.address.DebugInfoRef.{DebugInfoRef as InfoRef}
use Rattle.dw_base.specs.declared.common.Encoding.{Encoding}
use Rattle.dw_base.specs.declared.constants.DwOp.{DwOp}
use Rattle.dw_base.specs.declared.ids.UnitEntryId.{UnitEntryId}
use Rattle.dw_expr.specs.Trees.{Plain, Node, plain, entry_value, Raw, Simple, Address, UnsignedConstant, SignedConstant, ConstantType, FrameOffset, RegisterOffset, RegisterType, Pick, Deref, DerefSize, DerefType, PlusConstant, Skip, Branch, Call, CallRef, VariableValue, Convert, Reinterpret, Register, ImplicitValue, ImplicitPointer, Piece, BitPiece, ParameterRef, WasmLocal, WasmGlobal, WasmStack}

pub data Operand : Type 0 where
  Nothing : Operand
  -- one byte
  Byte : ℕ → Operand
  -- bytes as they are
  Bytes : List ℕ → Operand
  -- a number as ULEB128, and a signed one as SLEB128
  Uleb : ℕ → Operand
  Sleb : ℤ → Operand
  -- how many bytes follow, in one byte
  Count : ℕ → Operand
  -- an address of the target
  Target : TargetAddress → Operand
  -- an entry's place in the unit, as ULEB128 and in four bytes
  Base : UnitEntryId → Operand
  Place : UnitEntryId → Operand
  -- an entry's place in .debug_info, in so many bytes
  Info : ℕ → InfoRef → Operand
  -- the distance to an operation, in two bytes
  Distance : Option ℕ → Operand

-- the code that an operation has from version 5 on, or that of the extension
abbrev pub code_by : Encoding → DwOp → DwOp → ℕ
code_by e new old = (if nat_le 5 e.version then new else old).0

-- a number below 32 as a part of the code, and any other behind a code of its own
abbrev pub short_or : DwOp → DwOp → ℕ → List Operand
short_or short long n = if nat_lt n 32 then Byte (short.0 + n) ∷ [] else Byte long.0 ∷ Uleb n ∷ []

-- the first two elements of the stack have codes of their own
abbrev pub picked : ℕ → List Operand
picked n =
    if n == 0 then Byte DW_OP_dup.0 ∷ [] else if n == 1 then Byte DW_OP_over.0 ∷ [] else Byte DW_OP_pick.0 ∷ Byte n ∷ []

-- a base type, or 0 for the generic type
abbrev pub base_or_generic : Option UnitEntryId → Operand
base_or_generic None = Byte 0
base_or_generic (Some i) = Base i

-- a typed dereference; that of an address space was no extension
abbrev pub typed_deref_code : Encoding → Bool → ℕ
typed_deref_code e space = if space then DW_OP_xderef_type.0 else code_by e DW_OP_deref_type DW_OP_GNU_deref_type

abbrev pub operands : Encoding → Plain → List Operand
operands e (Raw bytes) = Bytes bytes ∷ []
operands e (Simple code) = Byte code.0 ∷ []
operands e (Address a) = Byte DW_OP_addr.0 ∷ Target a ∷ []
operands e (UnsignedConstant n) = short_or DW_OP_lit0 DW_OP_constu n
operands e (SignedConstant z) = Byte DW_OP_consts.0 ∷ Sleb z ∷ []
operands e (ConstantType base bytes) =
    Byte (code_by e DW_OP_const_type DW_OP_GNU_const_type) ∷ Base base ∷ Count (length bytes) ∷ Bytes bytes ∷ []
operands e (FrameOffset z) = Byte DW_OP_fbreg.0 ∷ Sleb z ∷ []
operands e (RegisterOffset r z) = short_or DW_OP_breg0 DW_OP_bregx r.0 ++ Sleb z ∷ []
operands e (RegisterType r base) = Byte (code_by e DW_OP_regval_type DW_OP_GNU_regval_type) ∷ Uleb r.0 ∷ Base base ∷ []
operands e (Pick n) = picked n
operands e (Deref space) = Byte (if space then DW_OP_xderef else DW_OP_deref).0 ∷ []
operands e (DerefSize space size) = Byte (if space then DW_OP_xderef_size else DW_OP_deref_size).0 ∷ Byte size ∷ []
operands e (DerefType space size base) = Byte (typed_deref_code e space) ∷ Byte size ∷ Base base ∷ []
operands e (PlusConstant n) = Byte DW_OP_plus_uconst.0 ∷ Uleb n ∷ []
operands e (Skip target) = Byte DW_OP_skip.0 ∷ Distance target ∷ []
operands e (Branch target) = Byte DW_OP_bra.0 ∷ Distance target ∷ []
operands e (Call entry) = Byte DW_OP_call4.0 ∷ Place entry ∷ []
operands e (CallRef r) = Byte DW_OP_call_ref.0 ∷ Info (word_of e.format) r ∷ []
operands e (VariableValue r) = Byte DW_OP_GNU_variable_value.0 ∷ Info (word_of e.format) r ∷ []
operands e (Convert base) = Byte (code_by e DW_OP_convert DW_OP_GNU_convert) ∷ base_or_generic base ∷ []
operands e (Reinterpret base) = Byte (code_by e DW_OP_reinterpret DW_OP_GNU_reinterpret) ∷ base_or_generic base ∷ []
operands e (Register r) = short_or DW_OP_reg0 DW_OP_regx r.0
operands e (ImplicitValue bytes) = Byte DW_OP_implicit_value.0 ∷ Uleb (length bytes) ∷ Bytes bytes ∷ []
operands e (ImplicitPointer r z) =
    Byte (code_by e DW_OP_implicit_pointer DW_OP_GNU_implicit_pointer) ∷ Info (info_place_of e) r ∷ Sleb z ∷ []
operands e (Piece n) = Byte DW_OP_piece.0 ∷ Uleb n ∷ []
operands e (BitPiece n m) = Byte DW_OP_bit_piece.0 ∷ Uleb n ∷ Uleb m ∷ []
operands e (ParameterRef entry) = Byte DW_OP_GNU_parameter_ref.0 ∷ Place entry ∷ []
operands e (WasmLocal n) = Byte DW_OP_WASM_location.0 ∷ Byte 0 ∷ Uleb n ∷ []
operands e (WasmGlobal n) = Byte DW_OP_WASM_location.0 ∷ Byte 1 ∷ Uleb n ∷ []
operands e (WasmStack n) = Byte DW_OP_WASM_location.0 ∷ Byte 2 ∷ Uleb n ∷ []

-- operands without those that are nothing
abbrev pub dense : List Operand → List Operand
dense [] = []
dense (Nothing ∷ os) = dense os
dense (o ∷ os) = o ∷ dense os

-- the code before an expression within an operation
abbrev pub entry_value_code : Encoding → ℕ
entry_value_code e = code_by e DW_OP_entry_value DW_OP_GNU_entry_value

-- an operation's operands before an expression in it
abbrev pub node_operands : Encoding → Node → List Operand
node_operands e (plain p) = operands e p
node_operands e (entry_value x) = Byte (entry_value_code e) ∷ []
