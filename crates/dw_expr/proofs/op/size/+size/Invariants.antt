use Rattle.std.proofs.Common.{◌≡◌, ◌+◌, drop, false}
use Rattle.dw_base.specs.declared.error.Error.{Error}
use Rattle.dw_expr.specs.Causes.{length_fails, nodes_unplaced}
use Rattle.dw_expr.specs.Places.{known_by, place_by}
use Rattle.dw_expr.specs.Spelling.{expression_size}
use Rattle.dw_expr.specs.Views.{nodes_in}
use Rattle.dw_expr.proofs.op.size.+size.Given as goal

abbrev pub invariant-operations_size-loop-operation : goal.invariant-operations_size-loop-operation
invariant-operations_size-loop-operation g l =
    let known = known_by g.P.EntryPlaces.places l.places in
    (l.size + expression_size l.encoding (place_by known) (nodes_in (drop l.operation-index l.operations)) ≡ expression_size l.encoding (place_by known) (nodes_in l.operations))
    × ((err : Error) → length_fails l.size err ≡ false)
    × ((err : Error) → nodes_unplaced l.encoding known (nodes_in (drop l.operation-index l.operations)) err ≡ nodes_unplaced l.encoding known (nodes_in l.operations) err)
