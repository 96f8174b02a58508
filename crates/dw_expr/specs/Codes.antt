-- How a ghost variable stores an expression.
use Rattle.std.specs.Prelude.{◌≡◌, ℕ, List, [], ◌∷◌, ℤ, refl}
use Rattle.std.proofs.Common.{◌∙◌, ap}
use Rattle.std.specs.Coded.{Coded, code_by, coded×, coded_ℕ, coded_ℤ, coded_list}
use base.Stored.{Gv, gnil, gnum, gcons}
use Rattle.dw_expr.specs.Trees.{Plain, Node, Tree, plain, entry_value, nothing, before, tree_of, nodes_of}
use Rattle.dw_expr.specs.Keys.{key, plain_by, plain_by-key}

abbrev Fields : Type 0
Fields = ℕ × (ℕ × (ℕ × (ℕ × (ℤ × List ℕ))))

abbrev fields : Plain → Fields
fields p = let k = key p in (k.kind, (k.first, (k.second, (k.third, (k.signed, k.bytes)))))

abbrev plain_of : Fields → Plain
plain_of f = plain_by (record { kind = f.0; first = f.1.0; second = f.1.1.0; third = f.1.1.1.0; signed = f.1.1.1.1.0; bytes = f.1.1.1.1.1 })

abbrev pub plain_code : Coded Plain
plain_code =
    code_by Fields (coded× coded_ℕ (coded× coded_ℕ (coded× coded_ℕ (coded× coded_ℕ (coded× coded_ℤ (coded_list coded_ℕ)))))) fields plain_of plain_by-key

abbrev mutual
  pub node_stored : Node → Gv
  node_stored (plain p) = gcons gnil (plain_code.code p)
  node_stored (entry_value x) = gcons (gnum 0) (tree_stored x)

  pub tree_stored : Tree → Gv
  tree_stored nothing = gnil
  tree_stored (before n x) = gcons (node_stored n) (tree_stored x)

mutual
  pub node_one : (m n : Node) → node_stored m ≡ node_stored n → m ≡ n
  node_one (plain p) (plain q) h = let e : plain_code.code p ≡ plain_code.code q = cc in ap plain (plain_code.inj p q e)
  node_one (plain p) (entry_value y) h = absurd (let e : gnil ≡ gnum 0 = cc in cc)
  node_one (entry_value x) (plain q) h = absurd (let e : gnum 0 ≡ gnil = cc in cc)
  node_one (entry_value x) (entry_value y) h = let e : tree_stored x ≡ tree_stored y = cc in ap entry_value (tree_one x y e)

  pub tree_one : (x y : Tree) → tree_stored x ≡ tree_stored y → x ≡ y
  tree_one nothing nothing h = refl
  tree_one nothing (before n y) h = absurd cc
  tree_one (before m x) nothing h = absurd cc
  tree_one (before m x) (before n y) h =
      let e : node_stored m ≡ node_stored n = cc in
      let f : tree_stored x ≡ tree_stored y = cc in
      ap (λ k. before k x) (node_one m n e) ∙ ap (before n) (tree_one x y f)

pub nodes_of-tree_of : (ns : List Node) → nodes_of (tree_of ns) ≡ ns
nodes_of-tree_of [] = refl
nodes_of-tree_of (n ∷ ns) = ap (λ r. n ∷ r) (nodes_of-tree_of ns)

abbrev pub node_code : Coded Node
node_code = record { code = node_stored; inj = node_one }

abbrev pub tree_code : Coded Tree
tree_code = record { code = tree_stored; inj = tree_one }

abbrev pub expression_code : Coded (List Node)
expression_code = code_by Tree tree_code tree_of nodes_of nodes_of-tree_of
