-- What contracts see of expressions: trees of operations, where an operation may hold an expression (DWARF 5, 2.5).
use Rattle.std.specs.Prelude.{ℕ, suc, max, Bool, List, [], ◌∷◌, Option, ℤ}
use Rattle.dw_base.specs.declared.address.Address.{Address as Target}
use Rattle.dw_base.specs.declared.address.DebugInfoRef.{DebugInfoRef as InfoRef}
use Rattle.dw_base.specs.declared.common.Register.{Register as Reg}
use Rattle.dw_base.specs.declared.constants.DwOp.{DwOp}
use Rattle.dw_base.specs.declared.ids.UnitEntryId.{UnitEntryId}

-- an operation that holds no other
pub data Plain : Type 0 where
  Raw : List ℕ → Plain
  Simple : DwOp → Plain
  Address : Target → Plain
  UnsignedConstant : ℕ → Plain
  SignedConstant : ℤ → Plain
  ConstantType : UnitEntryId → List ℕ → Plain
  FrameOffset : ℤ → Plain
  RegisterOffset : Reg → ℤ → Plain
  RegisterType : Reg → UnitEntryId → Plain
  Pick : ℕ → Plain
  Deref : Bool → Plain
  DerefSize : Bool → ℕ → Plain
  DerefType : Bool → ℕ → UnitEntryId → Plain
  PlusConstant : ℕ → Plain
  Skip : Option ℕ → Plain
  Branch : Option ℕ → Plain
  Call : UnitEntryId → Plain
  CallRef : InfoRef → Plain
  VariableValue : InfoRef → Plain
  Convert : Option UnitEntryId → Plain
  Reinterpret : Option UnitEntryId → Plain
  Register : Reg → Plain
  ImplicitValue : List ℕ → Plain
  ImplicitPointer : InfoRef → ℤ → Plain
  Piece : ℕ → Plain
  BitPiece : ℕ → ℕ → Plain
  ParameterRef : UnitEntryId → Plain
  WasmLocal : ℕ → Plain
  WasmGlobal : ℕ → Plain
  WasmStack : ℕ → Plain

mutual
  -- an operation, which may hold an expression
  pub data Node : Type 0 where
    plain : Plain → Node
    entry_value : Tree → Node

  -- an expression within an operation: nothing, or an operation before others
  pub data Tree : Type 0 where
    nothing : Tree
    before : Node → Tree → Tree

-- an expression as a list, and back
abbrev pub tree_of : List Node → Tree
tree_of [] = nothing
tree_of (n ∷ ns) = before n (tree_of ns)

abbrev pub nodes_of : Tree → List Node
nodes_of nothing = []
nodes_of (before n x) = n ∷ nodes_of x

-- how deep expressions stand within expressions
abbrev mutual
  pub depth_of : Node → ℕ
  depth_of (plain p) = 0
  depth_of (entry_value x) = suc (tree_depth x)

  pub tree_depth : Tree → ℕ
  tree_depth nothing = 0
  tree_depth (before n x) = max (depth_of n) (tree_depth x)

abbrev pub depth : List Node → ℕ
depth [] = 0
depth (n ∷ ns) = max (depth_of n) (depth ns)
