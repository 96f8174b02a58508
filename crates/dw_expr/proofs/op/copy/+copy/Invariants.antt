use Rattle.std.proofs.Common.{◌≡◌, take}
use Rattle.dw_expr.specs.Views.{nodes_in}
use Rattle.dw_expr.proofs.op.copy.+copy.Given as goal

abbrev pub invariant-copy_operations-loop-operation : goal.invariant-copy_operations-loop-operation
invariant-copy_operations-loop-operation l = nodes_in l.copies.items ≡ nodes_in (take l.operation-index l.operations)
