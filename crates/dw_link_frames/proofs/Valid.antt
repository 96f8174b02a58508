-- Entries that no writer has a cause to refuse are there, once symbols have values.
use Rattle.std.specs.Prelude.{◌≡◌, ℕ, ◌+◌, ◌||◌, Bool, true, false, List, [], ◌∷◌, map, Option, Some, None, is_none, refl, pos, ◌-ℤ◌, IsFalse, slice_get, if◌then◌else◌}
use Rattle.std.proofs.Common.{subst}
use Rattle.dw_base.specs.Leb128.{uleb, sleb}
use Rattle.dw_base.specs.Numbers.{◌>>=◌, when, num, fits}
use Rattle.dw_base.specs.declared.common.Encoding.{Encoding}
use Rattle.dw_base.specs.declared.error.Error.{Error}
use Rattle.dw_base.specs.declared.error.Error.TheVariants as errors
use Rattle.dw_writer.specs.Drafts.{Draft, then_draft}
use Rattle.dw_writer.specs.Layout.{Layout}
use Rattle.dw_writer.specs.SectionTexts.{address_text, bytes_text}
use Rattle.dw_writer.specs.SignedNumbers.{signed_fits, signed_num}
use Rattle.dw_writer.specs.Texts.{Text, num_text}
use Rattle.dw_expr.specs.Causes as causes
use Rattle.dw_expr.specs.Places.{place_by}
use Rattle.dw_expr.specs.Spelling.{bytes, distance_text, parts_size, starts_from, parts_draft, expression, nested, operand_draft, operands_draft, node_part, tree_parts, parts_of}
use Rattle.dw_expr.specs.Operands.{Operand, Nothing, Byte, Bytes, Uleb, Sleb, Count, Target, Base, Place, Info, Distance, operands, entry_value_code}
use Rattle.dw_expr.specs.Trees.{Node, Tree, plain, entry_value, nothing, before}
use Rattle.dw_frame_instructions.specs.Causes.{IsNone}
use Rattle.dw_frame_instructions.specs.Operands.{nowhere, expression_piece}
use Rattle.dw_link_frames.specs.Numbered.{numbered_node, numbered_tree, numbered_nodes}
use Rattle.dw_link_frames.proofs.Entering.{first_false, second_false}
use Rattle.dw_link_frames.proofs.Expressing.{numbered_operand, operands_same}
use Rattle.dw_link_frames.proofs.Sound.{IsThere, followed_there, true_from, There, address_known}

pub left_none : (f g : Error → Bool) → IsNone (λ e. f e || g e) → IsNone f
left_none f g h e = first_false (f e) (g e) (h e)

pub right_none : (f g : Error → Bool) → IsNone (λ e. f e || g e) → IsNone g
right_none f g h e = second_false (f e) (g e) (h e)

-- Expressions

-- no entry has a place
abbrev no_place : ℕ → Option ℕ
no_place = place_by None

when_here : (xs : List ℕ) (b : Bool) → b ≡ true → IsThere (when b (Some xs))
when_here xs true h = (xs, refl)
when_here xs false h = cc

module _ (big : Bool) (l : Layout) (e : Encoding) where
  -- the addresses among operands have texts
  abbrev OperandKnown : Operand → Type 0
  OperandKnown (Target a) = IsThere (address_text e.address_size a big l)
  OperandKnown o = Unit {0}

  abbrev OperandsKnown : List Operand → Type 0
  OperandsKnown [] = Unit {0}
  OperandsKnown (o ∷ os) = OperandKnown o × OperandsKnown os

  abbrev mutual
    NodeKnown : Node → Type 0
    NodeKnown (plain p) = OperandsKnown (operands e p)
    NodeKnown (entry_value x) = TreeKnown x

    TreeKnown : Tree → Type 0
    TreeKnown nothing = Unit {0}
    TreeKnown (before n x) = NodeKnown n × TreeKnown x

  abbrev NodesKnown : List Node → Type 0
  NodesKnown [] = Unit {0}
  NodesKnown (n ∷ ns) = NodeKnown n × NodesKnown ns

  -- the text of a draft in which no entry has a place
  abbrev text_of : Draft → Text
  text_of d = d.text nowhere big l

  then_there : (d f : Draft) → IsThere (text_of d) → IsThere (text_of f) → IsThere (text_of (then_draft d f))
  unfolding then_draft
  then_there d f a b = followed_there (text_of d) (text_of f) a b

  bytes_there : (xs : List ℕ) → IsThere (text_of (bytes xs))
  unfolding bytes_text
  bytes_there xs = (xs, refl)

  count_there : (n : ℕ) → IsNone (causes.count_fails n) → IsThere (num_text big 1 n)
  unfolding num_text
  count_there n h = when_there1 (fits 1 n) (true_from (fits 1 n) (h errors.ValueTooLarge))
    where
      when_there1 : (b : Bool) → b ≡ true → IsThere (if b then Some (num big 1 n) else None)
      when_there1 true h = (num big 1 n, refl)
      when_there1 false h = cc

  distance_there : (starts : List ℕ) (to : ℕ) (target : Option ℕ) → IsNone (causes.distance_fails starts to target) → IsThere (distance_text big starts to target)
  distance_there starts to None h = let k : true ≡ false = h errors.UnsetBranchTarget in cc
  distance_there starts to (Some k) h = by (slice_get starts k) (h errors.UnsetBranchTarget) (h errors.ValueTooLarge)
    where
      by : (o : Option ℕ) → IsFalse (is_none o) → IsFalse (causes.is_distant to o) → IsThere (o >>= λ at. when (signed_fits 2 (pos at -ℤ pos to)) (Some (signed_num big 2 (pos at -ℤ pos to))))
      by None p q = let x : true ≡ false = p in cc
      by (Some at) p q = when_here (signed_num big 2 (pos at -ℤ pos to)) (signed_fits 2 (pos at -ℤ pos to)) (true_from (signed_fits 2 (pos at -ℤ pos to)) q)

  operand_there : (starts : List ℕ) (to : ℕ) (o : Operand) → IsNone (causes.operand_fails e None false false starts to o) → OperandKnown o → IsThere (text_of (operand_draft e no_place starts to o))
  operand_there starts to Nothing h k = ([], refl)
  operand_there starts to (Byte n) h k = bytes_there (n ∷ [])
  operand_there starts to (Bytes xs) h k = bytes_there xs
  operand_there starts to (Uleb n) h k = bytes_there (uleb n)
  operand_there starts to (Sleb z) h k = bytes_there (sleb z)
  operand_there starts to (Count n) h k = count_there n h
  operand_there starts to (Target a) h k = k
  operand_there starts to (Base i) h k = let x : true ≡ false = h errors.UnsupportedCfiExpressionReference in cc
  operand_there starts to (Place i) h k = let x : true ≡ false = h errors.UnsupportedCfiExpressionReference in cc
  operand_there starts to (Info w r) h k = let x : true ≡ false = h errors.InvalidReference in cc
  operand_there starts to (Distance target) h k = distance_there starts to target h

  operands_there : (starts : List ℕ) (to : ℕ) (os : List Operand) → IsNone (causes.operands_fail e None false false starts to os) → OperandsKnown os → IsThere (text_of (operands_draft e no_place starts to os))
  operands_there starts to [] h k = ([], refl)
  operands_there starts to (o ∷ os) h k =
      let f = causes.operand_fails e None false false starts to o in
      let g = causes.operands_fail e None false false starts to os in
      then_there (operand_draft e no_place starts to o) (operands_draft e no_place starts to os) (operand_there starts to o (left_none f g h) k.0) (operands_there starts to os (right_none f g h) k.1)

  mutual
    node_there : (n : Node) (starts : List ℕ) (to : ℕ) → IsNone (causes.node_fails e None false false starts to n) → NodeKnown n → IsThere (text_of ((node_part e no_place n).draft starts to))
    node_there (plain p) starts to h k = operands_there starts to (operands e p) h k
    node_there (entry_value x) starts to h k =
        let ps = tree_parts e no_place x in
        let f = causes.tree_size_fails e None x in
        let g = causes.tree_fails e None false false (causes.tree_starts e None x) 0 x in
        then_there (bytes (entry_value_code e ∷ [])) (nested ps) (bytes_there (entry_value_code e ∷ []))
        (then_there (bytes (uleb (parts_size ps))) (expression ps) (bytes_there (uleb (parts_size ps))) (tree_there x (starts_from 0 ps) 0 (right_none f g h) k))

    tree_there : (x : Tree) (starts : List ℕ) (at : ℕ) → IsNone (causes.tree_fails e None false false starts at x) → TreeKnown x → IsThere (text_of (parts_draft starts at (tree_parts e no_place x)))
    tree_there nothing starts at h k = ([], refl)
    tree_there (before n x) starts at h k =
        let p = node_part e no_place n in
        let to = at + p.size in
        let f = causes.node_fails e None false false starts to n in
        let g = causes.tree_fails e None false false starts to x in
        then_there (p.draft starts to) (parts_draft starts to (tree_parts e no_place x)) (node_there n starts to (left_none f g h) k.0) (tree_there x starts to (right_none f g h) k.1)

  nodes_there : (ns : List Node) (starts : List ℕ) (at : ℕ) → IsNone (causes.nodes_fail e None false false starts at ns) → NodesKnown ns → IsThere (text_of (parts_draft starts at (parts_of e no_place ns)))
  nodes_there [] starts at h k = ([], refl)
  nodes_there (n ∷ ns) starts at h k =
      let p = node_part e no_place n in
      let to = at + p.size in
      let f = causes.node_fails e None false false starts to n in
      let g = causes.nodes_fail e None false false starts to ns in
      then_there (p.draft starts to) (parts_draft starts to (parts_of e no_place ns)) (node_there n starts to (left_none f g h) k.0) (nodes_there ns starts to (right_none f g h) k.1)

  -- addresses are known where neither writer refuses them

  operand_known : (starts now : List ℕ) (to there : ℕ) (o : Operand) → IsNone (causes.operand_fails e None false false starts to o) → IsNone (causes.operand_fails e None false true now there (numbered_operand l.symbols o)) → OperandKnown o
  operand_known starts now to there Nothing h k = tt
  operand_known starts now to there (Byte n) h k = tt
  operand_known starts now to there (Bytes xs) h k = tt
  operand_known starts now to there (Uleb n) h k = tt
  operand_known starts now to there (Sleb z) h k = tt
  operand_known starts now to there (Count n) h k = tt
  operand_known starts now to there (Target a) h k = address_known big l e.address_size a 0 h k
  operand_known starts now to there (Base i) h k = tt
  operand_known starts now to there (Place i) h k = tt
  operand_known starts now to there (Info w r) h k = tt
  operand_known starts now to there (Distance target) h k = tt

  operands_known : (starts now : List ℕ) (to there : ℕ) (os : List Operand) → IsNone (causes.operands_fail e None false false starts to os) → IsNone (causes.operands_fail e None false true now there (map (numbered_operand l.symbols) os)) → OperandsKnown os
  operands_known starts now to there [] h k = tt
  operands_known starts now to there (o ∷ os) h k =
      let f = causes.operand_fails e None false false starts to o in
      let g = causes.operands_fail e None false false starts to os in
      let p = causes.operand_fails e None false true now there (numbered_operand l.symbols o) in
      let q = causes.operands_fail e None false true now there (map (numbered_operand l.symbols) os) in
      (operand_known starts now to there o (left_none f g h) (left_none p q k), operands_known starts now to there os (right_none f g h) (right_none p q k))

  mutual
    node_known : (n : Node) (starts now : List ℕ) (to there : ℕ) → IsNone (causes.node_fails e None false false starts to n) → IsNone (causes.node_fails e None false true now there (numbered_node l.symbols n)) → NodeKnown n
    node_known (plain p) starts now to there h k =
        operands_known starts now to there (operands e p) h (subst (λ os. IsNone (causes.operands_fail e None false true now there os)) (operands_same l.symbols e p) k)
    node_known (entry_value x) starts now to there h k =
        let y = numbered_tree l.symbols x in
        let f = causes.tree_size_fails e None x in
        let g = causes.tree_fails e None false false (causes.tree_starts e None x) 0 x in
        let p = causes.tree_size_fails e None y in
        let q = causes.tree_fails e None false true (causes.tree_starts e None y) 0 y in
        tree_known x (causes.tree_starts e None x) (causes.tree_starts e None y) 0 0 (right_none f g h) (right_none p q k)

    tree_known : (x : Tree) (starts now : List ℕ) (at there : ℕ) → IsNone (causes.tree_fails e None false false starts at x) → IsNone (causes.tree_fails e None false true now there (numbered_tree l.symbols x)) → TreeKnown x
    tree_known nothing starts now at there h k = tt
    tree_known (before n x) starts now at there h k =
        let to = at + (node_part e no_place n).size in
        let next = there + (node_part e no_place (numbered_node l.symbols n)).size in
        let f = causes.node_fails e None false false starts to n in
        let g = causes.tree_fails e None false false starts to x in
        let p = causes.node_fails e None false true now next (numbered_node l.symbols n) in
        let q = causes.tree_fails e None false true now next (numbered_tree l.symbols x) in
        (node_known n starts now to next (left_none f g h) (left_none p q k), tree_known x starts now to next (right_none f g h) (right_none p q k))

  nodes_known : (ns : List Node) (starts now : List ℕ) (at there : ℕ) → IsNone (causes.nodes_fail e None false false starts at ns) → IsNone (causes.nodes_fail e None false true now there (numbered_nodes l.symbols ns)) → NodesKnown ns
  nodes_known [] starts now at there h k = tt
  nodes_known (n ∷ ns) starts now at there h k =
      let to = at + (node_part e no_place n).size in
      let next = there + (node_part e no_place (numbered_node l.symbols n)).size in
      let f = causes.node_fails e None false false starts to n in
      let g = causes.nodes_fail e None false false starts to ns in
      let p = causes.node_fails e None false true now next (numbered_node l.symbols n) in
      let q = causes.nodes_fail e None false true now next (numbered_nodes l.symbols ns) in
      (node_known n starts now to next (left_none f g h) (left_none p q k), nodes_known ns starts now to next (right_none f g h) (right_none p q k))

  pub expression_there : (ns : List Node) → IsNone (causes.expression_fails e None false false ns) → IsNone (causes.expression_fails e None false true (numbered_nodes l.symbols ns)) → There big l (expression_piece e ns)
  expression_there ns h k =
      let more = numbered_nodes l.symbols ns in
      let starts = starts_from 0 (parts_of e no_place ns) in
      let now = starts_from 0 (parts_of e no_place more) in
      let none = right_none (causes.size_fails e None ns) (causes.nodes_fail e None false false starts 0 ns) h in
      let other = right_none (causes.size_fails e None more) (causes.nodes_fail e None false true now 0 more) k in
      nodes_there ns starts 0 none (nodes_known ns starts now 0 0 none other)
