use Rattle.std.proofs.Common.{◌≡◌, drop}
use Rattle.std.specs.List.{fold}
use Rattle.dw_expr.specs.Equality.{nodes_hash}
use Rattle.dw_expr.specs.Views.{nodes_in}
use Rattle.dw_expr.proofs.op.equality.+feed.Given as goal

abbrev pub invariant-feed_operations-loop-operation : goal.invariant-feed_operations-loop-operation
invariant-feed_operations-loop-operation g l =
    fold g.H.Hasher.write l.state (nodes_hash (nodes_in (drop l.operation-index l.operations))) ≡ fold g.H.Hasher.write l.initial.state (nodes_hash (nodes_in l.operations))
