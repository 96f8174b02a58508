-- The operation as which a written one is read (DWARF 5, 2.5, 2.6.1 and 7.7.1): an entry is the place where it stands, an
-- address its number, a branch the distance to where it leads, and an expression within an operation its bytes.
use Rattle.std.specs.Prelude.{ℕ, ◌+◌, ◌-◌, ◌*◌, ◌^◌, ◌==◌, ◌&&◌, ◌||◌, nat_lt, nat_le, Bool, true, false, List, [], ◌∷◌, Option, Some, None, ℤ, pos, negsuc, slice_get, ◌+ℤ◌, ◌-ℤ◌, if◌then◌else◌}
use Rattle.std.specs.List.{list_all}
use Rattle.std.specs.Option.{is_some}
use Rattle.dw_base.specs.Numbers.{◌>>=◌}
use Rattle.dw_base.specs.declared.address.Address.{Address as TargetAddress}
use Rattle.dw_base.specs.declared.address.Address.TheVariants as addresses
use Rattle.dw_base.specs.declared.address.DebugInfoRef.{DebugInfoRef as InfoRef}
use Rattle.dw_base.specs.declared.address.DebugInfoRef.TheVariants as refs
use Rattle.dw_base.specs.declared.common.Encoding.{Encoding}
use Rattle.dw_base.specs.declared.constants.DwOp.{DwOp}
use Rattle.dw_base.specs.declared.constants.TheConstants.{DW_OP_deref, DW_OP_dup, DW_OP_drop, DW_OP_over, DW_OP_swap, DW_OP_rot, DW_OP_xderef, DW_OP_abs, DW_OP_and, DW_OP_div, DW_OP_minus, DW_OP_mod, DW_OP_mul, DW_OP_neg, DW_OP_not, DW_OP_or, DW_OP_plus, DW_OP_shl, DW_OP_shr, DW_OP_shra, DW_OP_xor, DW_OP_eq, DW_OP_ge, DW_OP_gt, DW_OP_le, DW_OP_lt, DW_OP_ne, DW_OP_lit0, DW_OP_reg0, DW_OP_nop, DW_OP_push_object_address, DW_OP_form_tls_address, DW_OP_call_frame_cfa, DW_OP_stack_value, DW_OP_GNU_push_tls_address, DW_OP_GNU_uninit}
use Rattle.dw_base.specs.declared.ids.UnitEntryId.{UnitEntryId}
use Rattle.dw_writer.specs.Meaning.{Layout}
use Rattle.dw_writer.specs.Drafts.{Info}
use Rattle.dw_expr.specs.Trees.{Plain, Node, plain, entry_value, Raw, Simple, Address, UnsignedConstant, SignedConstant, ConstantType, FrameOffset, RegisterOffset, RegisterType, Pick, Deref, DerefSize, DerefType, PlusConstant, Skip, Branch, Call, CallRef, VariableValue, Convert, Reinterpret, Register, ImplicitValue, ImplicitPointer, Piece, BitPiece, ParameterRef, WasmLocal, WasmGlobal, WasmStack}
use Rattle.dw_expr.specs.Spelling.{expression, starts_from, node_part, tree_parts, parts_of}
use Rattle.dw_sources.specs.Operations.{Operation}
use Rattle.dw_sources.specs.Operations as read

-- a value that is there, as a part of an operation
abbrev pub made : {A : Type 0} → Option A → (A → Operation) → Option Operation
made v f = v >>= λ x. Some (f x)

-- the operations whose code is all of them, and is read as such (DWARF 5, table 7.9, and the GNU extensions)
abbrev pub simple_codes : List DwOp
simple_codes =
    DW_OP_drop
    ∷ DW_OP_swap
    ∷ DW_OP_rot
    ∷ DW_OP_abs
    ∷ DW_OP_and
    ∷ DW_OP_div
    ∷ DW_OP_minus
    ∷ DW_OP_mod
    ∷ DW_OP_mul
    ∷ DW_OP_neg
    ∷ DW_OP_not
    ∷ DW_OP_or
    ∷ DW_OP_plus
    ∷ DW_OP_shl
    ∷ DW_OP_shr
    ∷ DW_OP_shra
    ∷ DW_OP_xor
    ∷ DW_OP_eq
    ∷ DW_OP_ge
    ∷ DW_OP_gt
    ∷ DW_OP_le
    ∷ DW_OP_lt
    ∷ DW_OP_ne
    ∷ DW_OP_nop
    ∷ DW_OP_push_object_address
    ∷ DW_OP_form_tls_address
    ∷ DW_OP_call_frame_cfa
    ∷ DW_OP_stack_value
    ∷ DW_OP_GNU_push_tls_address
    ∷ DW_OP_GNU_uninit
    ∷ []

abbrev pub is_listed : List DwOp → ℕ → Bool
is_listed [] code = false
is_listed (op ∷ ops) code = (code == op.0) || is_listed ops code

-- the codes that say an operand themselves
abbrev pub is_within : DwOp → ℕ → Bool
is_within first code = nat_le first.0 code && nat_lt code (first.0 + 32)

abbrev pub code_as : ℕ → Option Operation
code_as code =
    if is_listed simple_codes code then Some (read.Simple code)
    else if is_within DW_OP_lit0 code then Some (read.UnsignedConstant (code - DW_OP_lit0.0))
    else if is_within DW_OP_reg0 code then Some (read.Register (code - DW_OP_reg0.0))
    else if code == DW_OP_dup.0 then Some (read.Pick 0)
    else if code == DW_OP_over.0 then Some (read.Pick 1)
    else if code == DW_OP_deref.0 then Some (read.Deref false)
    else if code == DW_OP_xderef.0 then Some (read.Deref true)
    else None

abbrev pub natural : ℤ → Option ℕ
natural (pos n) = Some n
natural (negsuc n) = None

-- an address of a symbol is the symbol's value with the addend
abbrev pub address_as : Layout → TargetAddress → Option ℕ
address_as l (addresses.Constant n) = Some n
address_as l (addresses.Symbol s addend) = slice_get l.symbols s >>= λ v. natural (addend +ℤ pos v)

abbrev pub info_as : Info → InfoRef → Option ℕ
info_as info (refs.Symbol s) = None
info_as info (refs.Entry u i) = info u.0 i.0

-- how far from a place an operation begins
abbrev pub distance_as : List ℕ → ℕ → Option ℕ → Option ℤ
distance_as starts from target = target >>= λ k. slice_get starts k >>= λ to. Some (pos to -ℤ pos from)

-- the place of a base type, or none for the generic type
abbrev pub base_as : (ℕ → Option ℕ) → Option UnitEntryId → Option (Option ℕ)
base_as place None = Some None
base_as place (Some i) = place i.0 >>= λ n. Some (Some n)

-- where the operations of the expression begin, and where this one ends
module _ (e : Encoding) (place : ℕ → Option ℕ) (info : Info) (big : Bool) (l : Layout) (starts : List ℕ) (to : ℕ) where
  abbrev pub plain_as : Plain → Option Operation
  plain_as (Raw bytes) = None
  plain_as (Simple code) = code_as code.0
  plain_as (Address a) = made (address_as l a) read.Address
  plain_as (UnsignedConstant n) = Some (read.UnsignedConstant n)
  plain_as (SignedConstant z) = Some (read.SignedConstant z)
  plain_as (ConstantType base bytes) = made (place base.0) (λ n. read.ConstantType n bytes)
  plain_as (FrameOffset z) = Some (read.FrameOffset z)
  plain_as (RegisterOffset r z) = Some (read.RegisterOffset r.0 z)
  plain_as (RegisterType r base) = made (place base.0) (read.RegisterType r.0)
  plain_as (Pick n) = Some (read.Pick n)
  plain_as (Deref space) = Some (read.Deref space)
  plain_as (DerefSize space size) = Some (read.DerefSize space size)
  plain_as (DerefType space size base) = made (place base.0) (read.DerefType space size)
  plain_as (PlusConstant n) = Some (read.PlusConstant n)
  plain_as (Skip target) = made (distance_as starts to target) read.Skip
  plain_as (Branch target) = made (distance_as starts to target) read.Branch
  plain_as (Call entry) = made (place entry.0) read.Call
  plain_as (CallRef r) = made (info_as info r) read.CallRef
  plain_as (VariableValue r) = made (info_as info r) read.VariableValue
  plain_as (Convert base) = made (base_as place base) read.Convert
  plain_as (Reinterpret base) = made (base_as place base) read.Reinterpret
  plain_as (Register r) = Some (read.Register r.0)
  plain_as (ImplicitValue bytes) = Some (read.ImplicitValue bytes)
  plain_as (ImplicitPointer r z) = made (info_as info r) (λ n. read.ImplicitPointer n z)
  plain_as (Piece n) = Some (read.Piece n)
  plain_as (BitPiece n m) = Some (read.BitPiece n m)
  plain_as (ParameterRef entry) = made (place entry.0) read.ParameterRef
  plain_as (WasmLocal n) = Some (read.WasmLocal n)
  plain_as (WasmGlobal n) = Some (read.WasmGlobal n)
  plain_as (WasmStack n) = Some (read.WasmStack n)

  abbrev pub node_as : Node → Option Operation
  node_as (plain p) = plain_as p
  node_as (entry_value x) = made ((expression (tree_parts e place x)).text info big l) read.EntryValue

-- operations one after another, the first of which begins at a place; the places where all of them begin come first
module _ (e : Encoding) (place : ℕ → Option ℕ) (info : Info) (big : Bool) (l : Layout) where
  abbrev pub nodes_as : List ℕ → ℕ → List Node → Option (List Operation)
  nodes_as starts at [] = Some []
  nodes_as starts at (n ∷ ns) =
      let to = at + (node_part e place n).size in
      node_as e place info big l starts to n >>= λ o. nodes_as starts to ns >>= λ os. Some (o ∷ os)

  abbrev pub expression_as : List Node → Option (List Operation)
  expression_as ns = nodes_as (starts_from 0 (parts_of e place ns)) 0 ns

-- Raw bytes are read as whatever they are, a code alone may be that of an operation with operands, and a piece whose bits are
-- no number of 64 bits is read as none; every other operation is read again.
abbrev pub is_plain_read : Plain → Bool
is_plain_read (Raw bytes) = false
is_plain_read (Simple code) = is_some (code_as code.0)
is_plain_read (Piece n) = nat_lt (n * 8) (2 ^ 64)
is_plain_read p = true

abbrev pub is_read : Node → Bool
is_read (plain p) = is_plain_read p
is_read (entry_value x) = true

abbrev pub are_read : List Node → Bool
are_read ns = list_all is_read ns
