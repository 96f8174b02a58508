use Rattle.std.proofs.Common.{◌∙◌, ap, sym}
use Rattle.std.specs.List.{fold}
use Rattle.std.proofs.lemmas.List.Sums.{fold-append}
use Rattle.dw_expr.specs.Trees.{entry_value, tree_of}
use Rattle.dw_expr.specs.Views.{node_of, nodes_in}
use Rattle.dw_expr.specs.Equality.{node_key, key_hash, node_hash, tree_hash, nodes_hash}
use Rattle.dw_expr.proofs.EqualityLaws.{tree_hash-tree_of, other_hashed}
use Rattle.dw_expr.proofs.op.equality.+feed.Goals as goal

pub feed_operation-returns-in-EntryValue : goal.feed_operation-returns-in-EntryValue
feed_operation-returns-in-EntryValue g t c =
    let W = g.H.Hasher.write in
    let s = c.args.state.now in
    let x = c.in-EntryValue.expression in
    let inner = ap nodes_in c.as_slice.ensures.value ∙ c.expression.view_is in
    let fed = c.feed.ensures ∙ ap (λ k. fold W s (key_hash k)) (c.key.ensures ∙ ap (λ p. node_key (node_of p)) c.in-EntryValue.is) in
    c.feed_operations.ensures
    ∙ ap (λ ns. fold W c.feed.new.state (nodes_hash ns)) inner
    ∙ ap (λ w. fold W c.feed.new.state w) (sym (tree_hash-tree_of x))
    ∙ ap (λ r. fold W r (tree_hash (tree_of x))) fed
    ∙ sym (fold-append W s (key_hash (node_key (entry_value (tree_of x)))) (tree_hash (tree_of x)))
    ∙ ap (λ p. fold W s (node_hash (node_of p))) (sym c.in-EntryValue.is)

pub feed_operation-returns-in_default : goal.feed_operation-returns-in_default
feed_operation-returns-in_default g t c =
    let W = g.H.Hasher.write in
    let s = c.args.state.now in
    let o = c.args.operation.now in
    c.feed.ensures ∙ ap (λ k. fold W s (key_hash k)) c.key.ensures ∙ ap (fold W s) (other_hashed o c.in_default.not-EntryValue)
