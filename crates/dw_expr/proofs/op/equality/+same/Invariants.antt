use Rattle.std.proofs.Common.{◌≡◌, drop}
use Rattle.dw_expr.specs.Equality.{nodes_eq}
use Rattle.dw_expr.specs.Views.{nodes_in}
use Rattle.dw_expr.proofs.op.equality.+same.Given as goal

abbrev pub invariant-same_operations-loop-i : goal.invariant-same_operations-loop-i
invariant-same_operations-loop-i l =
    nodes_eq (nodes_in (drop l.i l.left)) (nodes_in (drop l.i l.right)) ≡ nodes_eq (nodes_in l.left) (nodes_in l.right)
