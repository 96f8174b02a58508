-- An expression has the text of the one in which symbols have values.
use Rattle.std.specs.Prelude.{◌≡◌, ℕ, ◌+◌, ◌==◌, nat_lt, Bool, true, false, List, [], ◌∷◌, ◌++◌, map, length, Option, Some, None, refl, if◌then◌else◌}
use Rattle.std.proofs.Common.{sym, ◌∙◌, ap, ap₂, subst}
use Rattle.dw_base.specs.Leb128.{uleb}
use Rattle.dw_base.specs.declared.common.Encoding.{Encoding}
use Rattle.dw_base.specs.declared.constants.DwOp.{DwOp}
use Rattle.dw_base.specs.declared.constants.TheConstants.{DW_OP_breg0, DW_OP_bregx, DW_OP_dup, DW_OP_over, DW_OP_pick}
use Rattle.dw_writer.specs.Layout.{Layout}
use Rattle.dw_writer.specs.SectionTexts.{address_text}
use Rattle.dw_expr.specs.Trees.{Plain, Node, Tree, plain, entry_value, nothing, before}
use Rattle.dw_expr.specs.Trees as operations
use Rattle.dw_expr.specs.Operands.{Operand, Byte, Uleb, Sleb, Target, operands, short_or, picked, entry_value_code}
use Rattle.dw_expr.specs.Spelling.{Part, bytes, parts_size, starts_from, parts_draft, expression, nested, operand_draft, operands_size, part, node_part, tree_parts, parts_of, expression_draft}
use Rattle.dw_dwarf_laws.specs.Addresses.{numbered_address, numbered_plain, numbered_node, numbered_tree, numbered_expression}
use Rattle.dw_dwarf_laws.proofs.Addresses.{address_same}
use Rattle.dw_dwarf_laws.proofs.Drafts.{IsSameDraft, draft_itself, whole_same, then_same, all_same}

-- an operand in which symbols have values
abbrev pub numbered_operand : List ℕ → Operand → Operand
numbered_operand symbols (Target a) = Target (numbered_address symbols a)
numbered_operand symbols o = o

-- the codes of a pick, by what it picks
abbrev picks : ℕ → Bool → Bool → List Operand
picks n a b = if a then Byte DW_OP_dup.0 ∷ [] else if b then Byte DW_OP_over.0 ∷ [] else Byte DW_OP_pick.0 ∷ Byte n ∷ []

module _ (symbols : List ℕ) where
  abbrev pub numbered_operands : List Operand → List Operand
  numbered_operands os = map (numbered_operand symbols) os

  short_same : (short long : DwOp) (n : ℕ) → numbered_operands (short_or short long n) ≡ short_or short long n
  short_same short long n = by (nat_lt n 32)
    where
      by : (b : Bool) → numbered_operands (if b then Byte (short.0 + n) ∷ [] else Byte long.0 ∷ Uleb n ∷ []) ≡ (if b then Byte (short.0 + n) ∷ [] else Byte long.0 ∷ Uleb n ∷ [])
      by true = refl
      by false = refl

  numbered_append : (xs ys : List Operand) → numbered_operands (xs ++ ys) ≡ numbered_operands xs ++ numbered_operands ys
  numbered_append [] ys = refl
  numbered_append (x ∷ xs) ys = ap (λ os. numbered_operand symbols x ∷ os) (numbered_append xs ys)

  pick_same : (n : ℕ) → numbered_operands (picked n) ≡ picked n
  pick_same n = by (n == 0) (n == 1)
    where
      by : (a b : Bool) → numbered_operands (picks n a b) ≡ picks n a b
      by true b = refl
      by false true = refl
      by false false = refl

  -- only an address is another operand
  pub operands_same : (e : Encoding) (p : Plain) → operands e (numbered_plain symbols p) ≡ numbered_operands (operands e p)
  operands_same e (operations.UnsignedConstant n) = sym (short_same _ _ n)
  operands_same e (operations.RegisterOffset r z) = sym (numbered_append (short_or DW_OP_breg0 DW_OP_bregx r.0) (Sleb z ∷ []) ∙ ap (λ os. os ++ Sleb z ∷ []) (short_same _ _ r.0))
  operands_same e (operations.Register r) = sym (short_same _ _ r.0)
  operands_same e (operations.Pick n) = sym (pick_same n)
  operands_same e (operations.Convert None) = refl
  operands_same e (operations.Convert (Some i)) = refl
  operands_same e (operations.Reinterpret None) = refl
  operands_same e (operations.Reinterpret (Some i)) = refl
  operands_same e p = refl

module _ (l : Layout) where
  -- operations of one size, with one text wherever they stand
  record IsSamePart (p q : Part) : Type 0 where
    size : p.size ≡ q.size
    draft : (starts : List ℕ) (to : ℕ) → IsSameDraft l (p.draft starts to) (q.draft starts to)

  abbrev AreSameParts : List Part → List Part → Type 0
  AreSameParts [] [] = Unit {0}
  AreSameParts [] (q ∷ qs) = ⊥
  AreSameParts (p ∷ ps) [] = ⊥
  AreSameParts (p ∷ ps) (q ∷ qs) = IsSamePart p q × AreSameParts ps qs

  sizes_same : (ps qs : List Part) → AreSameParts ps qs → parts_size ps ≡ parts_size qs
  sizes_same [] [] h = refl
  sizes_same [] (q ∷ qs) h = absurd h
  sizes_same (p ∷ ps) [] h = absurd h
  sizes_same (p ∷ ps) (q ∷ qs) h = ap₂ (λ m n. m + n) h.0.size (sizes_same ps qs h.1)

  starts_same : (at : ℕ) (ps qs : List Part) → AreSameParts ps qs → starts_from at ps ≡ starts_from at qs
  starts_same at [] [] h = refl
  starts_same at [] (q ∷ qs) h = absurd h
  starts_same at (p ∷ ps) [] h = absurd h
  starts_same at (p ∷ ps) (q ∷ qs) h =
      ap (λ n. at ∷ starts_from (at + n) ps) h.0.size ∙ ap (λ xs. at ∷ xs) (starts_same (at + q.size) ps qs h.1)

  parts_same : (starts : List ℕ) (at : ℕ) (ps qs : List Part) → AreSameParts ps qs → IsSameDraft l (parts_draft starts at ps) (parts_draft starts at qs)
  parts_same starts at [] [] h = draft_itself l _
  parts_same starts at [] (q ∷ qs) h = absurd h
  parts_same starts at (p ∷ ps) [] h = absurd h
  parts_same starts at (p ∷ ps) (q ∷ qs) h =
      let there = subst (λ n. IsSameDraft l (parts_draft starts (at + n) ps) (parts_draft starts (at + q.size) qs)) (sym h.0.size) (parts_same starts (at + q.size) ps qs h.1) in
      let here = subst (λ n. IsSameDraft l (p.draft starts (at + p.size)) (q.draft starts (at + n))) h.0.size (h.0.draft starts (at + p.size)) in
      then_same l (p.draft starts (at + p.size)) (q.draft starts (at + q.size)) (parts_draft starts (at + p.size) ps) (parts_draft starts (at + q.size) qs) here there

  whole_expression : (ps qs : List Part) → AreSameParts ps qs → IsSameDraft l (expression ps) (expression qs)
  whole_expression ps qs h =
      let own = subst (λ xs. IsSameDraft l (parts_draft (starts_from 0 ps) 0 ps) (parts_draft xs 0 qs)) (starts_same 0 ps qs h) (parts_same (starts_from 0 ps) 0 ps qs h) in
      record { size = sizes_same ps qs h; holes = own.holes; text = own.text }

  bytes_same : (xs ys : List ℕ) → xs ≡ ys → IsSameDraft l (bytes xs) (bytes ys)
  bytes_same xs ys h = subst (λ zs. IsSameDraft l (bytes xs) (bytes zs)) h (draft_itself l (bytes xs))

  module _ (e : Encoding) (place : ℕ → Option ℕ) where
    operand_same : (starts : List ℕ) (to : ℕ) (o : Operand) → IsSameDraft l (operand_draft e place starts to o) (operand_draft e place starts to (numbered_operand l.symbols o))
    operand_same starts to (Target a) = whole_same l e.address_size (address_text e.address_size a) (address_text e.address_size (numbered_address l.symbols a)) (λ big. address_same e.address_size a big l)
    operand_same starts to o = draft_itself l _

    operand_sizes : (os : List Operand) → operands_size e place os ≡ operands_size e place (numbered_operands l.symbols os)
    operand_sizes [] = refl
    operand_sizes (o ∷ os) = ap₂ (λ m n. m + n) (operand_same [] 0 o).size (operand_sizes os)

    part_same : (os : List Operand) → IsSamePart (part e place os) (part e place (numbered_operands l.symbols os))
    part_same os = record {
      size = operand_sizes os;
      draft = λ starts to. all_same l (operand_draft e place starts to) (operand_draft e place starts to) (numbered_operand l.symbols) os (operand_same starts to);
    }

    mutual
      node_same : (n : Node) → IsSamePart (node_part e place n) (node_part e place (numbered_node l.symbols n))
      node_same (plain p) = subst (λ os. IsSamePart (part e place (operands e p)) (part e place os)) (sym (operands_same l.symbols e p)) (part_same (operands e p))
      node_same (entry_value x) =
          let ps = tree_parts e place x in
          let qs = tree_parts e place (numbered_tree l.symbols x) in
          let size = sizes_same ps qs (tree_same x) in
          record {
            size = ap (λ n. 1 + (length (uleb n) + n)) size;
            draft = λ starts to.
                then_same l (bytes (entry_value_code e ∷ [])) (bytes (entry_value_code e ∷ [])) (nested ps) (nested qs) (draft_itself l _)
                (then_same l (bytes (uleb (parts_size ps))) (bytes (uleb (parts_size qs))) (expression ps) (expression qs) (bytes_same _ _ (ap uleb size)) (whole_expression ps qs (tree_same x)));
          }

      tree_same : (x : Tree) → AreSameParts (tree_parts e place x) (tree_parts e place (numbered_tree l.symbols x))
      tree_same nothing = tt
      tree_same (before n x) = (node_same n, tree_same x)

    nodes_same : (ns : List Node) → AreSameParts (parts_of e place ns) (parts_of e place (numbered_expression l.symbols ns))
    nodes_same [] = tt
    nodes_same (n ∷ ns) = (node_same n, nodes_same ns)

    -- an expression and the one in which symbols have values
    pub expression_same : (ns : List Node) → IsSameDraft l (expression_draft e place ns) (expression_draft e place (numbered_expression l.symbols ns))
    expression_same ns = whole_expression (parts_of e place ns) (parts_of e place (numbered_expression l.symbols ns)) (nodes_same ns)
