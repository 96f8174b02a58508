-- The operation of a tree that a value stands for.
use Rattle.std.specs.Prelude.{Bool, true, false, List, map}
use Rattle.dw_expr.specs.Trees.{Plain, Node, plain, entry_value, tree_of}
use Rattle.dw_expr.specs.Trees as trees
use Rattle.dw_expr.specs.declared.op.Operation.{Operation}
use Rattle.dw_expr.specs.declared.op.Operation.TheVariants as ops

abbrev pub node_of : Operation → Node
node_of (ops.Raw bytes) = plain (trees.Raw bytes)
node_of (ops.Simple code) = plain (trees.Simple code)
node_of (ops.Address address) = plain (trees.Address address)
node_of (ops.UnsignedConstant n) = plain (trees.UnsignedConstant n)
node_of (ops.SignedConstant offset) = plain (trees.SignedConstant offset)
node_of (ops.ConstantType entry bytes) = plain (trees.ConstantType entry bytes)
node_of (ops.FrameOffset offset) = plain (trees.FrameOffset offset)
node_of (ops.RegisterOffset register offset) = plain (trees.RegisterOffset register offset)
node_of (ops.RegisterType register entry) = plain (trees.RegisterType register entry)
node_of (ops.Pick n) = plain (trees.Pick n)
node_of (ops.Deref space) = plain (trees.Deref space)
node_of (ops.DerefSize space n) = plain (trees.DerefSize space n)
node_of (ops.DerefType space n entry) = plain (trees.DerefType space n entry)
node_of (ops.PlusConstant n) = plain (trees.PlusConstant n)
node_of (ops.Skip target) = plain (trees.Skip target)
node_of (ops.Branch target) = plain (trees.Branch target)
node_of (ops.Call entry) = plain (trees.Call entry)
node_of (ops.CallRef entry) = plain (trees.CallRef entry)
node_of (ops.VariableValue entry) = plain (trees.VariableValue entry)
node_of (ops.Convert base) = plain (trees.Convert base)
node_of (ops.Reinterpret base) = plain (trees.Reinterpret base)
node_of (ops.Register register) = plain (trees.Register register)
node_of (ops.ImplicitValue bytes) = plain (trees.ImplicitValue bytes)
node_of (ops.ImplicitPointer entry offset) = plain (trees.ImplicitPointer entry offset)
node_of (ops.Piece n) = plain (trees.Piece n)
node_of (ops.BitPiece n m) = plain (trees.BitPiece n m)
node_of (ops.ParameterRef entry) = plain (trees.ParameterRef entry)
node_of (ops.WasmLocal n) = plain (trees.WasmLocal n)
node_of (ops.WasmGlobal n) = plain (trees.WasmGlobal n)
node_of (ops.WasmStack n) = plain (trees.WasmStack n)
node_of (ops.EntryValue expression) = entry_value (tree_of expression)

abbrev pub nodes_in : List Operation → List Node
nodes_in operations = map node_of operations

-- neither bytes nor an expression belong to it
abbrev pub owns_nothing : Operation → Bool
owns_nothing (ops.Raw bytes) = false
owns_nothing (ops.ConstantType entry bytes) = false
owns_nothing (ops.ImplicitValue bytes) = false
owns_nothing (ops.EntryValue expression) = false
owns_nothing o = true
