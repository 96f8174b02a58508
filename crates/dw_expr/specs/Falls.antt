-- An expression within another is less deep.
use Rattle.std.specs.Prelude.{◌≡◌, ◌≤◌, max, List, [], ◌∷◌, refl}
use Rattle.std.proofs.Common.{arith, ap}
use denote.Param.Weighed.{most}
use Rattle.dw_expr.specs.Trees.{Node, tree_of, depth, depth_of, tree_depth}
use Rattle.dw_expr.specs.Views.{node_of, nodes_in}
use Rattle.dw_expr.specs.declared.op.Operation.{Operation}
use Rattle.dw_expr.specs.declared.op.Operation.TheVariants as ops
use Rattle.dw_expr.specs.declared.op.Expression.TheDeep.{deep-Operation}

depth-tree : (ns : List Node) → tree_depth (tree_of ns) ≡ depth ns
depth-tree [] = refl
depth-tree (n ∷ ns) = ap (max (depth_of n)) (depth-tree ns)

deep_below : (o : Operation) → deep-Operation o ≤ depth_of (node_of o)
deep_below (ops.EntryValue x) = omega (arith, depth-tree x)
deep_below o = omega arith

pub most_depth : (xs : List Operation) → max (most deep-Operation xs) 0 ≤ depth (nodes_in xs)
most_depth [] = omega arith
most_depth (o ∷ xs) = omega (arith, deep_below o, most_depth xs)
