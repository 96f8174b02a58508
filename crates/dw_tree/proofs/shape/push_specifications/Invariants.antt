use Rattle.std.proofs.Common.{◌≡◌, ◌++◌, map, take}
use Rattle.dw_tree.specs.Shapes.{specification}
use Rattle.dw_tree.proofs.shape.push_specifications.Given as goal

abbrev pub invariant-loop-attribute : goal.invariant-loop-attribute
invariant-loop-attribute l =
    l.declared.items ≡ l.initial.declared.items ++ map (specification l.encoding) (take l.attribute-index l.attributes)
