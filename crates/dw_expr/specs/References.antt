-- Operations that name an entry by its place in .debug_info (DWARF 5, 2.5.1.5 and 2.6.1.1.4).
use Rattle.std.specs.Prelude.{Bool, true, false, ◌||◌, List}
use Rattle.std.specs.List.{list_any}
use Rattle.dw_base.specs.declared.address.DebugInfoRef.{DebugInfoRef as InfoRef}
use Rattle.dw_base.specs.declared.address.DebugInfoRef.TheVariants as refs
use Rattle.dw_expr.specs.Trees.{Plain, Node, Tree, plain, entry_value, nothing, before, CallRef, VariableValue, ImplicitPointer}

-- an entry of a unit, and not of another object
abbrev pub is_entry : InfoRef → Bool
is_entry (refs.Entry u i) = true
is_entry (refs.Symbol s) = false

abbrev pub plain_refers : Plain → Bool
plain_refers (CallRef r) = is_entry r
plain_refers (VariableValue r) = is_entry r
plain_refers (ImplicitPointer r z) = is_entry r
plain_refers p = false

abbrev mutual
  pub node_refers : Node → Bool
  node_refers (plain p) = plain_refers p
  node_refers (entry_value x) = tree_refers x

  pub tree_refers : Tree → Bool
  tree_refers nothing = false
  tree_refers (before n x) = node_refers n || tree_refers x

-- some operation of an expression does
abbrev pub nodes_refer : List Node → Bool
nodes_refer ns = list_any node_refers ns
