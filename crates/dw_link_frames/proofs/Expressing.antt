-- Expressions, once symbols have values.
use Rattle.std.specs.Prelude.{◌≡◌, ℕ, ◌+◌, Bool, List, [], ◌∷◌, length, map, Option, Some, None, refl}
use Rattle.std.proofs.Common.{sym, ◌∙◌, ap, ap₂, subst}
use Rattle.dw_base.specs.Leb128.{uleb}
use Rattle.dw_base.specs.declared.address.DebugInfoRef.{DebugInfoRef as InfoRef}
use Rattle.dw_base.specs.declared.address.DebugInfoRef.TheVariants as refs
use Rattle.dw_base.specs.declared.common.Encoding.{Encoding}
use Rattle.dw_writer.specs.Layout.{Layout}
use Rattle.dw_writer.specs.Texts.{followed}
use Rattle.dw_writer.specs.SectionTexts.{bytes_text}
use Rattle.dw_writer.specs.Drafts.{Draft, no_draft, then_draft}
use Rattle.dw_writer.proofs.Laws.{followed-somes}
use Rattle.dw_expr.specs.Trees.{Plain, Node, Tree, plain, entry_value, nothing, before}
use Rattle.dw_expr.specs.Operands.{Operand, Nothing, Byte, Bytes, Uleb, Sleb, Count, Target, Base, Place, Info, Distance, operands, entry_value_code}
use Rattle.dw_expr.specs.Places.{place_by}
use Rattle.dw_expr.specs.Spelling.{bytes, place_draft, info_draft, Part, parts_size, starts_from, parts_draft, expression, nested, operand_draft, operands_draft, operands_size, part, nested_part, node_part, tree_parts, parts_of, expression_size}
use Rattle.dw_frame_instructions.specs.Operands.{nowhere, expression_piece}
use Rattle.dw_frame.specs.Reading.{at_zero}
use Rattle.dw_frame.proofs.TextParts.{split}
pub use Rattle.dw_dwarf_laws.proofs.Expressions.{numbered_operand, operands_same}
use Rattle.dw_link_frames.specs.Numbered.{numbered_plain, numbered_node, numbered_tree, numbered_nodes}
use Rattle.dw_link_frames.proofs.Turning.{Turns}
use Rattle.dw_link_frames.proofs.Pointing.{address_moves}

module _ (big : Bool) (l : Layout) (e : Encoding) where
  abbrev pub no_place : ℕ → Option ℕ
  no_place = place_by None

  -- a draft of the same size, which has the text over no layout
  record Drafted (d f : Draft) : Type 0 where
    size : f.size ≡ d.size
    text : (xs : List ℕ) → d.text nowhere big l ≡ Some xs → f.text nowhere big at_zero ≡ Some xs

  stays : (d : Draft) → ((xs : List ℕ) → d.text nowhere big l ≡ Some xs → d.text nowhere big at_zero ≡ Some xs) → Drafted d d
  stays d h = record { size = refl; text = h }

  bytes_drafted : (xs : List ℕ) → Drafted (bytes xs) (bytes xs)
  unfolding bytes_text
  bytes_drafted xs = stays (bytes xs) (λ ys is. is)

  then_drafted : (d f g h : Draft) → Drafted d f → Drafted g h → Drafted (then_draft d g) (then_draft f h)
  unfolding then_draft
  then_drafted d f g h a b = record {
    size = ap₂ (λ m n. m + n) a.size b.size;
    text = λ zs is.
        let t = split (d.text nowhere big l) (g.text nowhere big l) zs is in
        ap₂ followed (a.text t.xs t.first) (b.text t.ys t.second) ∙ followed-somes t.xs t.ys ∙ ap Some (sym t.whole);
  }

  place_drafted : (o : Option ℕ) → Drafted (place_draft o) (place_draft o)
  place_drafted None = stays (place_draft None) (λ xs is. cc)
  place_drafted (Some n) = bytes_drafted (uleb n)

  info_drafted : (w : ℕ) (r : InfoRef) → Drafted (info_draft w r) (info_draft w r)
  info_drafted w (refs.Symbol s) = stays (info_draft w (refs.Symbol s)) (λ xs is. cc)
  info_drafted w (refs.Entry u i) = stays (info_draft w (refs.Entry u i)) (λ xs is. is)

  operand_drafted : (starts : List ℕ) (to : ℕ) (o : Operand) → Drafted (operand_draft e no_place starts to o) (operand_draft e no_place starts to (numbered_operand l.symbols o))
  operand_drafted starts to Nothing = stays no_draft (λ xs is. is)
  operand_drafted starts to (Byte n) = bytes_drafted (n ∷ [])
  operand_drafted starts to (Bytes xs) = bytes_drafted xs
  operand_drafted starts to (Uleb n) = bytes_drafted _
  operand_drafted starts to (Sleb z) = bytes_drafted _
  operand_drafted starts to (Count n) = stays (operand_draft e no_place starts to (Count n)) (λ xs is. is)
  operand_drafted starts to (Target a) = record { size = refl; text = λ xs is. (address_moves big l e.address_size a 0 xs is).text }
  operand_drafted starts to (Base i) = place_drafted (no_place i.0)
  operand_drafted starts to (Place i) = stays (operand_draft e no_place starts to (Place i)) (λ xs is. is)
  operand_drafted starts to (Info w r) = info_drafted w r
  operand_drafted starts to (Distance target) = stays (operand_draft e no_place starts to (Distance target)) (λ xs is. is)

  operands_drafted : (starts : List ℕ) (to : ℕ) (os : List Operand) → Drafted (operands_draft e no_place starts to os) (operands_draft e no_place starts to (map (numbered_operand l.symbols) os))
  operands_drafted starts to [] = stays no_draft (λ xs is. is)
  operands_drafted starts to (o ∷ os) = then_drafted _ _ _ _ (operand_drafted starts to o) (operands_drafted starts to os)

  sizes_same : (os : List Operand) → operands_size e no_place (map (numbered_operand l.symbols) os) ≡ operands_size e no_place os
  sizes_same [] = refl
  sizes_same (o ∷ os) = ap₂ (λ m n. m + n) (operand_drafted [] 0 o).size (sizes_same os)

  record Parted (p q : Part) : Type 0 where
    size : q.size ≡ p.size
    draft : (starts : List ℕ) (to : ℕ) → Drafted (p.draft starts to) (q.draft starts to)

  abbrev AllParted : List Part → List Part → Type 0
  AllParted [] [] = Unit {0}
  AllParted [] (q ∷ qs) = ⊥
  AllParted (p ∷ ps) [] = ⊥
  AllParted (p ∷ ps) (q ∷ qs) = Parted p q × AllParted ps qs

  all_sizes : (ps qs : List Part) → AllParted ps qs → parts_size qs ≡ parts_size ps
  all_sizes [] [] h = refl
  all_sizes [] (q ∷ qs) h = absurd h
  all_sizes (p ∷ ps) [] h = absurd h
  all_sizes (p ∷ ps) (q ∷ qs) h = ap₂ (λ m n. m + n) h.0.size (all_sizes ps qs h.1)

  all_starts : (at : ℕ) (ps qs : List Part) → AllParted ps qs → starts_from at qs ≡ starts_from at ps
  all_starts at [] [] h = refl
  all_starts at [] (q ∷ qs) h = absurd h
  all_starts at (p ∷ ps) [] h = absurd h
  all_starts at (p ∷ ps) (q ∷ qs) h = ap (λ ns. at ∷ ns) (ap (λ n. starts_from (at + n) qs) h.0.size ∙ all_starts (at + p.size) ps qs h.1)

  all_drafted : (starts : List ℕ) (at : ℕ) (ps qs : List Part) → AllParted ps qs → Drafted (parts_draft starts at ps) (parts_draft starts at qs)
  all_drafted starts at [] [] h = stays no_draft (λ xs is. is)
  all_drafted starts at [] (q ∷ qs) h = absurd h
  all_drafted starts at (p ∷ ps) [] h = absurd h
  all_drafted starts at (p ∷ ps) (q ∷ qs) h =
      subst (λ n. Drafted (parts_draft starts at (p ∷ ps)) (then_draft (q.draft starts (at + n)) (parts_draft starts (at + n) qs))) (sym h.0.size)
      (then_drafted _ _ _ _ (h.0.draft starts (at + p.size)) (all_drafted starts (at + p.size) ps qs h.1))

  expression_drafted : (ps qs : List Part) → AllParted ps qs → Drafted (expression ps) (expression qs)
  expression_drafted ps qs h = record {
    size = all_sizes ps qs h;
    text = λ xs is. ap (λ ns. (parts_draft ns 0 qs).text nowhere big at_zero) (all_starts 0 ps qs h) ∙ (all_drafted (starts_from 0 ps) 0 ps qs h).text xs is;
  }

  nested_drafted : (ps qs : List Part) → AllParted ps qs → Drafted (nested ps) (nested qs)
  nested_drafted ps qs h =
      subst (λ n. Drafted (nested ps) (then_draft (bytes (uleb n)) (expression qs))) (sym (all_sizes ps qs h))
      (then_drafted _ _ _ _ (bytes_drafted (uleb (parts_size ps))) (expression_drafted ps qs h))

  nested_parted : (ps qs : List Part) → AllParted ps qs → Parted (nested_part e no_place ps) (nested_part e no_place qs)
  nested_parted ps qs h = record {
    size = ap (λ n. 1 + (length (uleb n) + n)) (all_sizes ps qs h);
    draft = λ starts to. then_drafted _ _ _ _ (bytes_drafted (entry_value_code e ∷ [])) (nested_drafted ps qs h);
  }

  plain_parted : (p : Plain) → Parted (node_part e no_place (plain p)) (node_part e no_place (plain (numbered_plain l.symbols p)))
  plain_parted p =
      subst (λ os. Parted (part e no_place (operands e p)) (part e no_place os)) (sym (operands_same l.symbols e p))
      (record { size = sizes_same (operands e p); draft = λ starts to. operands_drafted starts to (operands e p) })

  mutual
    node_parted : (n : Node) → Parted (node_part e no_place n) (node_part e no_place (numbered_node l.symbols n))
    node_parted (plain p) = plain_parted p
    node_parted (entry_value x) = nested_parted _ _ (tree_parted x)

    tree_parted : (x : Tree) → AllParted (tree_parts e no_place x) (tree_parts e no_place (numbered_tree l.symbols x))
    tree_parted nothing = tt
    tree_parted (before n x) = (node_parted n, tree_parted x)

  nodes_parted : (ns : List Node) → AllParted (parts_of e no_place ns) (parts_of e no_place (numbered_nodes l.symbols ns))
  nodes_parted [] = tt
  nodes_parted (n ∷ ns) = (node_parted n, nodes_parted ns)

  pub expression_size_same : (ns : List Node) → expression_size e no_place (numbered_nodes l.symbols ns) ≡ expression_size e no_place ns
  expression_size_same ns = all_sizes _ _ (nodes_parted ns)

  pub expression_turns : (ns : List Node) → Turns big l (expression_piece e ns) (expression_piece e (numbered_nodes l.symbols ns))
  expression_turns ns xs is =
      let d = expression_drafted _ _ (nodes_parted ns) in
      record { size = d.size; text = d.text xs is }
