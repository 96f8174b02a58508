-- What contracts see of expressions that are open.
use Rattle.std.specs.Prelude.{List, map, reverse}
use Rattle.std.specs.Global.{Vec}
use Rattle.dw_expr.specs.Trees.{Node}
use Rattle.dw_expr.specs.Views.{nodes_in}
use Rattle.dw_expr.specs.declared.op.Operation.{Operation}
use Rattle.dw_script_units.specs.Expressions.{OpenNodes}
use Rattle.dw_script_units.specs.declared.expressions.OpenOperations.{OpenOperations}

-- the operations of lists, the last of them first
abbrev pub nodes_around : List (Vec Operation) → List (List Node)
nodes_around lists = reverse (map (λ operations. nodes_in operations.items) lists)

abbrev pub open_in : OpenOperations → OpenNodes
open_in o = record { current = nodes_in o.current.items; around = nodes_around o.around.items }
