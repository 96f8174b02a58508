use Rattle.std.proofs.Common.{◌≡◌, ◌∙◌, ◌<◌, ◌+◌, ap, sym, Err, ◌||◌, arith, length, refl, drop}
use Rattle.std.proofs.lemmas.Bool.{or_from, or_parts}
use Rattle.std.proofs.lemmas.List.{at_drop_all}
use Rattle.std.proofs.lemmas.Result.{err_from_is_err_and}
use Rattle.dw_base.specs.Leb128.{uleb}
use Rattle.dw_base.specs.declared.error.Error.{Error}
use Rattle.dw_expr.specs.Trees.{entry_value, tree_of}
use Rattle.dw_expr.specs.Views.{node_of, nodes_in}
use Rattle.dw_expr.specs.Places.{known_by, place_by}
use Rattle.dw_expr.specs.Causes.{length_fails, size_fails, node_size_fails, nodes_unplaced, operands_size_fails}
use Rattle.dw_expr.specs.Spelling.{operands_size, node_part, expression_size}
use Rattle.dw_expr.proofs.SizeLaws.{Sized-err, Sized-is, nested_size, nested_fails, nested_long, nested_sound, other_size, other_unplaced, size_more, unplaced_more, size_fails_at, size_long_at, length_none}
use Rattle.dw_expr.proofs.op.size.+size.Goals as goal

pub operations_size-loop-operation-init : goal.operations_size-loop-operation-init
operations_size-loop-operation-init g t c = (omega arith, length_none, λ err. refl)

pub operations_size-loop-operation-preserved : goal.operations_size-loop-operation-preserved
operations_size-loop-operation-preserved g t c =
    let e = c.args.encoding in
    let known = known_by g.P.EntryPlaces.places c.args.places in
    let xs = c.args.operations.now in
    let i = c.loop-operation.operation-index in
    let inv = c.loop-operation.invariant in
    let o = c.operation-item.result in
    let below : i < length xs = c.loop-operation-test.true in
    let more = size_more e known xs i o below c.operation-item.is in
    let sized = c.in_ok-more.ensures in
    let summed = c.in_ok-size.ensures in
    let left = unplaced_more e known xs i o in (
      omega (arith, inv.0, more, sized.0, summed.0),
      λ err. ap (λ n. length_fails n err) summed.0 ∙ summed.1 err,
      λ err.
          let none = (or_parts (length_fails (node_part e (place_by known) (node_of o)).size err) _ (sized.1 err)).1 in
          sym (left err below c.operation-item.is ∙ ap (λ b. b || nodes_unplaced e known (nodes_in (drop (i + 1) xs)) err) none) ∙ inv.2 err,
    )

pub operations_size-returns-in_err-more : goal.operations_size-returns-in_err-more
operations_size-returns-in_err-more g t c =
    let e = c.args.encoding in
    let known = known_by g.P.EntryPlaces.places c.args.places in
    let xs = c.args.operations.now in
    let i = c.loop-operation.operation-index in
    let inv = c.loop-operation.invariant in
    let o = c.operation-item.result in
    let below : i < length xs = c.loop-operation-test.true in
    let more = size_more e known xs i o below c.operation-item.is in
    let p = err_from_is_err_and c.from_residual.result c.from_residual.ensures.1 in
    let err = c.in_err-more.field-0.0 in
    Sized-err c.from_residual.result _ _ err (p.1 ∙ ap Err p.2)
    (size_fails_at e known xs i o c.loop-operation.size err below c.operation-item.is inv.0 (inv.2 err) c.in_err-more.ensures)

pub operations_size-returns-in_err-size : goal.operations_size-returns-in_err-size
operations_size-returns-in_err-size g t c =
    let e = c.args.encoding in
    let known = known_by g.P.EntryPlaces.places c.args.places in
    let xs = c.args.operations.now in
    let i = c.loop-operation.operation-index in
    let inv = c.loop-operation.invariant in
    let o = c.operation-item.result in
    let below : i < length xs = c.loop-operation-test.true in
    let more = size_more e known xs i o below c.operation-item.is in
    let p = err_from_is_err_and c.from_residual-in_err-size.result c.from_residual-in_err-size.ensures.1 in
    let err = c.in_err-size.field-0.0 in
    Sized-err c.from_residual-in_err-size.result _ _ err (p.1 ∙ ap Err p.2)
    (size_long_at e known xs (c.loop-operation.size + c.in_ok-more.more) err (omega (arith, inv.0, more, c.in_ok-more.ensures.0)) c.in_err-size.ensures)

pub operations_size-returns : goal.operations_size-returns
operations_size-returns g t c =
    let e = c.args.encoding in
    let known = known_by g.P.EntryPlaces.places c.args.places in
    let xs = c.args.operations.now in
    let i = c.loop-operation.operation-index in
    let inv = c.loop-operation.invariant in
    let done = at_drop_all (λ l. expression_size e (place_by known) (nodes_in l)) xs i c.loop-operation-test.false in
    let total : c.loop-operation.size ≡ expression_size e (place_by known) (nodes_in xs) = omega (arith, inv.0, done) in (
      total,
      λ err.
          or_from (length_fails (expression_size e (place_by known) (nodes_in xs)) err) _ (ap (λ n. length_fails n err) (sym total) ∙ inv.1 err)
          (sym (inv.2 err) ∙ at_drop_all (λ l. nodes_unplaced e known (nodes_in l) err) xs i c.loop-operation-test.false),
    )

pub operation_size-returns-in_err-inner : goal.operation_size-returns-in_err-inner
operation_size-returns-in_err-inner g t c =
    let e = c.args.encoding in
    let known = known_by g.P.EntryPlaces.places c.args.places in
    let x = c.in-EntryValue.expression in
    let inner = ap nodes_in c.as_slice.ensures.value ∙ c.expression.view_is in
    let node = ap node_of c.in-EntryValue.is in
    let p = err_from_is_err_and c.from_residual.result c.from_residual.ensures.1 in
    let err = c.in_err-inner.field-0.0 in
    Sized-err c.from_residual.result _ _ err (p.1 ∙ ap Err p.2)
    (ap (λ n. node_size_fails e known n err) node ∙ nested_fails e known x err (sym (ap (λ ns. size_fails e known ns err) inner) ∙ c.in_err-inner.ensures))

pub operation_size-returns-in_err-rest : goal.operation_size-returns-in_err-rest
operation_size-returns-in_err-rest g t c =
    let e = c.args.encoding in
    let known = known_by g.P.EntryPlaces.places c.args.places in
    let x = c.in-EntryValue.expression in
    let inner = ap nodes_in c.as_slice.ensures.value ∙ c.expression.view_is in
    let node = ap node_of c.in-EntryValue.is in
    let p = err_from_is_err_and c.from_residual-in_err-rest.result c.from_residual-in_err-rest.ensures.1 in
    let err = c.in_err-rest.field-0.0 in
    let size = c.in_ok-inner.ensures.0 ∙ ap (expression_size e (place_by known)) inner in
    let ulebs = c.uleb128_size.ensures.size ∙ ap (λ k. length (uleb k)) size in
    Sized-err c.from_residual-in_err-rest.result _ _ err (p.1 ∙ ap Err p.2)
    (ap (λ n. node_size_fails e known n err) node ∙ nested_long e known x (c.uleb128_size.result + c.in_ok-inner.inner) err (omega (arith, size, ulebs)) c.in_err-rest.ensures)

pub operation_size-returns-in-EntryValue : goal.operation_size-returns-in-EntryValue
operation_size-returns-in-EntryValue g t c =
    let e = c.args.encoding in
    let known = known_by g.P.EntryPlaces.places c.args.places in
    let x = c.in-EntryValue.expression in
    let inner = ap nodes_in c.as_slice.ensures.value ∙ c.expression.view_is in
    let node = ap node_of c.in-EntryValue.is in
    let size = c.in_ok-inner.ensures.0 ∙ ap (expression_size e (place_by known)) inner in
    let ulebs = c.uleb128_size.ensures.size ∙ ap (λ k. length (uleb k)) size in
    let total : 1 + c.in_ok-rest.rest ≡ (node_part e (place_by known) (entry_value (tree_of x))).size = omega (arith, nested_size e known x, size, ulebs, c.in_ok-rest.ensures.0) in
    let sound = λ (err : Error). sym (ap (λ ns. size_fails e known ns err) inner) ∙ c.in_ok-inner.ensures.1 err in
    Sized-is c.sum-in-EntryValue.result c.sum-in-EntryValue.ensures (total ∙ ap (λ n. (node_part e (place_by known) n).size) (sym node))
    (λ err. nested_sound e known x (1 + c.in_ok-rest.rest) total sound err ∙ ap (λ n. node_size_fails e known n err) (sym node))

pub operation_size-returns : goal.operation_size-returns
operation_size-returns g t c =
    let e = c.args.encoding in
    let known = known_by g.P.EntryPlaces.places c.args.places in
    let o = c.args.operation.now in
    let os = c.operands.ensures in
    Sized-is c.operands_bytes.result c.operands_bytes.ensures (ap (operands_size e (place_by known)) os ∙ other_size e known o c.in_default.not-EntryValue)
    (λ err. ap (λ l. operands_size_fails e known l err) os ∙ other_unplaced e known o c.in_default.not-EntryValue err)
