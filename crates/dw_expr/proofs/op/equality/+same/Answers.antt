use Rattle.std.proofs.Common.{◌∙◌, ap, sym}
use Rattle.dw_expr.specs.Trees.{entry_value, tree_of}
use Rattle.dw_expr.specs.Keys.{key_eq}
use Rattle.dw_expr.specs.Views.{node_of, nodes_in}
use Rattle.dw_expr.specs.Equality.{key_in, node_key, node_eq, nodes_eq}
use Rattle.dw_expr.proofs.EqualityLaws.{tree_eq-tree_of, other_same}
use Rattle.dw_expr.proofs.op.equality.+same.Goals as goal

pub same_operation-returns-in-EntryValue-right : goal.same_operation-returns-in-EntryValue-right
same_operation-returns-in-EntryValue-right t c =
    let x = c.in-EntryValue.inner in
    let y = c.in-EntryValue-right.other in
    let left = ap nodes_in c.as_slice.ensures.value ∙ c.inner.view_is in
    let right = ap nodes_in c.as_slice-in-EntryValue-right.ensures.value ∙ c.other.view_is in
    c.same_operations.ensures
    ∙ ap (λ ns. nodes_eq ns (nodes_in c.as_slice-in-EntryValue-right.result.now)) left ∙ ap (nodes_eq x) right
    ∙ sym (tree_eq-tree_of x y)
    ∙ ap (λ o. node_eq (node_of o) (entry_value (tree_of y))) (sym c.in-EntryValue.is)
    ∙ ap (λ o. node_eq (node_of c.args.left.now) (node_of o)) (sym c.in-EntryValue-right.is)

pub same_operation-returns : goal.same_operation-returns
same_operation-returns t c =
    c.is.ensures
    ∙ ap (λ k. key_eq k (key_in c.key-2.result)) c.key.ensures
    ∙ ap (key_eq (node_key (node_of c.args.left.now))) c.key-2.ensures
    ∙ other_same c.args.left.now (node_of c.args.right.now) c.in_default.not-EntryValue
