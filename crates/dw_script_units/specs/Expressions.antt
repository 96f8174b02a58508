-- The expression that the steps of a line spell (DWARF 5, 2.5).
use Rattle.std.specs.Prelude.{List, [], ◌∷◌, ◌++◌}
use Rattle.std.specs.Option.{option_map}
use Rattle.dw_expr.specs.Trees.{Node, plain, entry_value, tree_of}
use Rattle.dw_expr.specs.Trees as trees
use Rattle.dw_script_fields.specs.declared.expression_step.ExpressionStep.{ExpressionStep}
use Rattle.dw_script_fields.specs.declared.expression_step.ExpressionStep.TheVariants as step
use Rattle.dw_script_fields.specs.declared.operation.ScriptOperation.{ScriptOperation}
use Rattle.dw_script_fields.specs.declared.operation.ScriptOperation.TheVariants as operation

-- an operation with its operands; the number of an entry is its id
abbrev pub node_of_operation : ScriptOperation → Node
node_of_operation (operation.Raw bytes) = plain (trees.Raw bytes)
node_of_operation (operation.Simple code) = plain (trees.Simple code)
node_of_operation (operation.Address address) = plain (trees.Address address)
node_of_operation (operation.UnsignedConstant n) = plain (trees.UnsignedConstant n)
node_of_operation (operation.SignedConstant z) = plain (trees.SignedConstant z)
node_of_operation (operation.ConstantType base bytes) = plain (trees.ConstantType (record { 0 = base }) bytes)
node_of_operation (operation.FrameOffset offset) = plain (trees.FrameOffset offset)
node_of_operation (operation.RegisterOffset register offset) = plain (trees.RegisterOffset register offset)
node_of_operation (operation.RegisterType register base) = plain (trees.RegisterType register (record { 0 = base }))
node_of_operation (operation.Pick index) = plain (trees.Pick index)
node_of_operation (operation.Deref space) = plain (trees.Deref space)
node_of_operation (operation.DerefSize space size) = plain (trees.DerefSize space size)
node_of_operation (operation.DerefType space size base) = plain (trees.DerefType space size (record { 0 = base }))
node_of_operation (operation.PlusConstant n) = plain (trees.PlusConstant n)
node_of_operation (operation.Skip target) = plain (trees.Skip target)
node_of_operation (operation.Branch target) = plain (trees.Branch target)
node_of_operation (operation.Call entry) = plain (trees.Call (record { 0 = entry }))
node_of_operation (operation.CallRef entry) = plain (trees.CallRef entry)
node_of_operation (operation.VariableValue entry) = plain (trees.VariableValue entry)
node_of_operation (operation.Convert base) = plain (trees.Convert (option_map (λ i. record { 0 = i }) base))
node_of_operation (operation.Reinterpret base) = plain (trees.Reinterpret (option_map (λ i. record { 0 = i }) base))
node_of_operation (operation.Register register) = plain (trees.Register register)
node_of_operation (operation.ImplicitValue bytes) = plain (trees.ImplicitValue bytes)
node_of_operation (operation.ImplicitPointer entry offset) = plain (trees.ImplicitPointer entry offset)
node_of_operation (operation.Piece size) = plain (trees.Piece size)
node_of_operation (operation.BitPiece size offset) = plain (trees.BitPiece size offset)
node_of_operation (operation.ParameterRef entry) = plain (trees.ParameterRef (record { 0 = entry }))
node_of_operation (operation.WasmLocal index) = plain (trees.WasmLocal index)
node_of_operation (operation.WasmGlobal index) = plain (trees.WasmGlobal index)
node_of_operation (operation.WasmStack index) = plain (trees.WasmStack index)

-- the operations of the innermost expression that is open, and those of the ones around it, of which the first is the next further out
pub record OpenNodes : Type 0 where
  pub current : List Node
  pub around : List (List Node)

-- one expression without operations
abbrev pub no_nodes : OpenNodes
no_nodes = record { current = []; around = [] }

-- one operation more in the innermost expression
abbrev pub with_node : Node → OpenNodes → OpenNodes
with_node n nodes = record nodes { current = nodes.current ++ n ∷ [] }

-- the innermost expression ends, and is the operand of an operation of the one around it; the whole has none around it and stays as it is
abbrev pub closed : List Node → List (List Node) → OpenNodes
closed inner [] = record { current = inner; around = [] }
closed inner (outer ∷ around) = with_node (entry_value (tree_of inner)) (record { current = outer; around = around })

-- what a step does to the expressions that are open
abbrev pub after_step : ExpressionStep → OpenNodes → OpenNodes
after_step (step.Operation o) nodes = with_node (node_of_operation o) nodes
after_step step.Open nodes = record { current = []; around = nodes.current ∷ nodes.around }
after_step step.Close nodes = closed nodes.current nodes.around

-- the operations of the expression that is the innermost after these steps
abbrev pub built : OpenNodes → List ExpressionStep → List Node
built nodes [] = nodes.current
built nodes (step ∷ steps) = built (after_step step nodes) steps

-- the operations of the expression that steps spell up to its own `Close`
abbrev pub expression_of : List ExpressionStep → List Node
expression_of steps = built no_nodes steps
