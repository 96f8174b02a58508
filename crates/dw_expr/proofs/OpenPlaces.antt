-- Which drafts leave no place open, and which expressions.
use Rattle.std.specs.Prelude.{◌≡◌, ℕ, ◌+◌, Bool, true, false, not, ◌&&◌, ◌||◌, ◌==◌, nat_lt, List, [], ◌∷◌, ◌++◌, Option, Some, None, refl, if◌then◌else◌}
use Rattle.std.specs.List.{list_any}
use Rattle.std.proofs.Common.{◌∙◌, ap}
use Rattle.dw_base.specs.Leb128.{uleb}
use Rattle.dw_base.specs.declared.address.DebugInfoRef.TheVariants as refs
use Rattle.dw_base.specs.declared.common.Encoding.{Encoding}
use Rattle.dw_base.specs.declared.constants.DwOp.{DwOp}
use Rattle.dw_base.specs.declared.ids.UnitEntryId.{UnitEntryId}
use Rattle.dw_writer.specs.Drafts.{Draft, then_draft, shifted}
use Rattle.dw_writer.specs.declared.fixup.DebugInfoFixup.{DebugInfoFixup}
use Rattle.dw_expr.specs.Trees as trees
use Rattle.dw_expr.specs.Trees.{Plain, Node, Tree, plain, entry_value, nothing, before}
use Rattle.dw_expr.specs.Operands.{Operand, short_or, picked, base_or_generic, operands, entry_value_code}
use Rattle.dw_expr.specs.Operands as table
use Rattle.dw_expr.specs.References.{is_entry, plain_refers, node_refers, tree_refers, nodes_refer}
use Rattle.dw_expr.specs.Spelling.{bytes, place_draft, parts_size, parts_draft, starts_from, expression, nested, operand_draft, operands_draft, node_part, tree_parts, parts_of, expression_draft}

abbrev pub no_hole : List DebugInfoFixup → Bool
no_hole [] = true
no_hole (h ∷ hs) = false

pub no_hole-append : (xs ys : List DebugInfoFixup) → no_hole (xs ++ ys) ≡ (no_hole xs && no_hole ys)
no_hole-append [] ys = refl
no_hole-append (x ∷ xs) ys = refl

pub no_hole-shifted : (n : ℕ) (hs : List DebugInfoFixup) → no_hole (shifted n hs) ≡ no_hole hs
no_hole-shifted n [] = refl
no_hole-shifted n (h ∷ hs) = refl

-- one draft after another has no hole where neither has
pub no_hole-then : (d f : Draft) → no_hole (then_draft d f).holes ≡ (no_hole d.holes && no_hole f.holes)
unfolding then_draft
no_hole-then d f = no_hole-append d.holes (shifted d.size f.holes) ∙ ap (λ b. no_hole d.holes && b) (no_hole-shifted d.size f.holes)

pub not_or : (a b : Bool) → (not a && not b) ≡ not (a || b)
not_or true b = refl
not_or false b = refl

-- Operands

abbrev names_info : Operand → Bool
names_info (table.Info w r) = is_entry r
names_info o = false

abbrev name_info : List Operand → Bool
name_info os = list_any names_info os

module _ (e : Encoding) (place : ℕ → Option ℕ) where
  place_holes : (o : Option ℕ) → no_hole (place_draft o).holes ≡ true
  place_holes None = refl
  place_holes (Some n) = refl

  operand_holes : (starts : List ℕ) (to : ℕ) (o : Operand) → no_hole (operand_draft e place starts to o).holes ≡ not (names_info o)
  operand_holes starts to (table.Base i) = place_holes (place i.0)
  operand_holes starts to (table.Info w (refs.Symbol s)) = refl
  operand_holes starts to (table.Info w (refs.Entry u i)) = refl
  operand_holes starts to o = refl

  operands_holes : (starts : List ℕ) (to : ℕ) (os : List Operand) → no_hole (operands_draft e place starts to os).holes ≡ not (name_info os)
  operands_holes starts to [] = refl
  operands_holes starts to (o ∷ os) =
      let d = operand_draft e place starts to o in
      let f = operands_draft e place starts to os in
      no_hole-then d f ∙ ap (λ b. b && no_hole f.holes) (operand_holes starts to o) ∙ ap (λ b. not (names_info o) && b) (operands_holes starts to os) ∙ not_or (names_info o) (name_info os)

-- The table of operations

short_info : (short long : DwOp) (n : ℕ) (os : List Operand) → name_info (short_or short long n ++ os) ≡ name_info os
short_info short long n os = by (nat_lt n 32)
  where
    by : (b : Bool) → name_info ((if b then table.Byte (short.0 + n) ∷ [] else table.Byte long.0 ∷ table.Uleb n ∷ []) ++ os) ≡ name_info os
    by true = refl
    by false = refl

alone_info : (short long : DwOp) (n : ℕ) → name_info (short_or short long n) ≡ false
alone_info short long n = by (nat_lt n 32)
  where
    by : (b : Bool) → name_info (if b then table.Byte (short.0 + n) ∷ [] else table.Byte long.0 ∷ table.Uleb n ∷ []) ≡ false
    by true = refl
    by false = refl

picked_info : (n : ℕ) → name_info (picked n) ≡ false
picked_info n = by (n == 0) (n == 1)
  where
    by : (a b : Bool) → name_info (if a then table.Byte 0x12 ∷ [] else if b then table.Byte 0x14 ∷ [] else table.Byte 0x15 ∷ table.Byte n ∷ []) ≡ false
    by true b = refl
    by false true = refl
    by false false = refl

generic_info : (base : Option UnitEntryId) → names_info (base_or_generic base) ≡ false
generic_info None = refl
generic_info (Some i) = refl

last_info : (a : Bool) → (a || false) ≡ a
last_info true = refl
last_info false = refl

plain_info : (e : Encoding) (p : Plain) → name_info (operands e p) ≡ plain_refers p
plain_info e (trees.UnsignedConstant n) = alone_info _ _ n
plain_info e (trees.RegisterOffset r z) = short_info _ _ r.0 (table.Sleb z ∷ [])
plain_info e (trees.Pick n) = picked_info n
plain_info e (trees.CallRef r) = last_info (is_entry r)
plain_info e (trees.VariableValue r) = last_info (is_entry r)
plain_info e (trees.Convert base) = last_info (names_info (base_or_generic base)) ∙ generic_info base
plain_info e (trees.Reinterpret base) = last_info (names_info (base_or_generic base)) ∙ generic_info base
plain_info e (trees.Register r) = alone_info _ _ r.0
plain_info e (trees.ImplicitPointer r z) = last_info (is_entry r)
plain_info e p = refl

-- Expressions

module _ (e : Encoding) (place : ℕ → Option ℕ) where
  mutual
    node_holes : (n : Node) (starts : List ℕ) (to : ℕ) → no_hole ((node_part e place n).draft starts to).holes ≡ not (node_refers n)
    node_holes (plain p) starts to = operands_holes e place starts to (operands e p) ∙ ap not (plain_info e p)
    node_holes (entry_value x) starts to =
        let ps = tree_parts e place x in
        no_hole-then (bytes (entry_value_code e ∷ [])) (nested ps) ∙ no_hole-then (bytes (uleb (parts_size ps))) (expression ps) ∙ tree_holes x (starts_from 0 ps) 0

    tree_holes : (x : Tree) (starts : List ℕ) (at : ℕ) → no_hole (parts_draft starts at (tree_parts e place x)).holes ≡ not (tree_refers x)
    tree_holes nothing starts at = refl
    tree_holes (before n x) starts at =
        let p = node_part e place n in
        let d = p.draft starts (at + p.size) in
        let f = parts_draft starts (at + p.size) (tree_parts e place x) in
        no_hole-then d f ∙ ap (λ b. b && no_hole f.holes) (node_holes n starts (at + p.size)) ∙ ap (λ b. not (node_refers n) && b) (tree_holes x starts (at + p.size)) ∙ not_or (node_refers n) (tree_refers x)

  nodes_holes : (ns : List Node) (starts : List ℕ) (at : ℕ) → no_hole (parts_draft starts at (parts_of e place ns)).holes ≡ not (nodes_refer ns)
  nodes_holes [] starts at = refl
  nodes_holes (n ∷ ns) starts at =
      let p = node_part e place n in
      let d = p.draft starts (at + p.size) in
      let f = parts_draft starts (at + p.size) (parts_of e place ns) in
      no_hole-then d f ∙ ap (λ b. b && no_hole f.holes) (node_holes n starts (at + p.size)) ∙ ap (λ b. not (node_refers n) && b) (nodes_holes ns starts (at + p.size)) ∙ not_or (node_refers n) (nodes_refer ns)

  -- an expression leaves places open exactly where some operation names an entry by its place in .debug_info
  pub expression_holes : (ns : List Node) → no_hole (expression_draft e place ns).holes ≡ not (nodes_refer ns)
  expression_holes ns = nodes_holes ns (starts_from 0 (parts_of e place ns)) 0
