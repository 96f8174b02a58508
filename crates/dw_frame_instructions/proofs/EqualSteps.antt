-- Instructions are equal where they are the same.
use Rattle.std.specs.Prelude.{◌≡◌, List, IsTrue}
use Rattle.std.specs.Bool.{Decides}
use Rattle.std.proofs.Common.{rules}
use Rattle.dw_expr.specs.Trees.{Node}
use Rattle.dw_expr.specs.Equality.{nodes_eq, nodes_decides}
use Rattle.dw_frame_instructions.specs.contracts.instruction.CallFrameInstructionPartialEq.TheImpl as instruction
use Rattle.dw_frame_instructions.specs.declared.instruction.CallFrameInstruction.{CallFrameInstruction}

pub same_nodes : (x y : List Node) → IsTrue (nodes_eq x y) → x ≡ y
same_nodes x y = (nodes_decides x y).0

pub equal_nodes : (x y : List Node) → x ≡ y → IsTrue (nodes_eq x y)
equal_nodes x y = (nodes_decides x y).1

pub instruction_Decides : (i j : CallFrameInstruction) → Decides (instruction.ghosts.eq i j) (i ≡ j)
instruction_Decides i j = search (rules, same_nodes, equal_nodes)
