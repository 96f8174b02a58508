-- The spelling of expressions (DWARF 5, 2.5 and 7.7.1): the size, the text and the references of each operand, and of
-- operations one after another.
use Rattle.std.specs.Prelude.{ℕ, ◌+◌, Bool, List, [], ◌∷◌, map, length, Option, Some, None, slice_get, pos, ◌-ℤ◌}
use Rattle.dw_base.specs.Numbers.{◌>>=◌, when}
use Rattle.dw_base.specs.Leb128.{uleb, sleb}
use Rattle.dw_base.specs.declared.address.DebugInfoRef.{DebugInfoRef as InfoRef}
use Rattle.dw_base.specs.declared.address.DebugInfoRef.TheVariants as refs
use Rattle.dw_base.specs.declared.common.Encoding.{Encoding}
use Rattle.dw_writer.specs.Texts.{Text, num_text}
use Rattle.dw_writer.specs.SignedNumbers.{signed_fits, signed_num}
use Rattle.dw_writer.specs.SectionTexts.{address_text, bytes_text}
use Rattle.dw_writer.specs.Drafts.{Draft, no_draft, whole, then_draft, all_drafts, reference}
use Rattle.dw_expr.specs.Trees.{Node, Tree, plain, entry_value, nothing, before}
use Rattle.dw_expr.specs.Operands.{Operand, Nothing, Byte, Bytes, Uleb, Sleb, Count, Target, Base, Place, Info, Distance, operands, entry_value_code}

-- bytes as they are
abbrev pub bytes : List ℕ → Draft
bytes xs = whole (length xs) (bytes_text xs)

-- a place in ULEB128, where it is there
abbrev pub place_draft : Option ℕ → Draft
place_draft None = whole 0 (λ big l. None)
place_draft (Some n) = bytes (uleb n)

-- the place of an entry in .debug_info, left open; another object's entry has none
abbrev pub info_draft : ℕ → InfoRef → Draft
info_draft width (refs.Symbol s) = whole width (λ big l. None)
info_draft width (refs.Entry u i) = reference width u i

-- the distance from a place to where an operation begins, in two bytes
abbrev pub distance_text : Bool → List ℕ → ℕ → Option ℕ → Text
distance_text big starts from target =
    target >>= λ k. slice_get starts k >>= λ to. when (signed_fits 2 (pos to -ℤ pos from)) (Some (signed_num big 2 (pos to -ℤ pos from)))

-- An operation within an expression: its size, and its draft where the expression's operations begin at these places, and
-- this one ends at a place.
pub record Part : Type 0 where
  pub size : ℕ
  pub draft : List ℕ → ℕ → Draft

abbrev pub parts_size : List Part → ℕ
parts_size [] = 0
parts_size (p ∷ ps) = p.size + parts_size ps

-- where operations begin, the first at a place, and where the last one ends
abbrev pub starts_from : ℕ → List Part → List ℕ
starts_from at [] = at ∷ []
starts_from at (p ∷ ps) = at ∷ starts_from (at + p.size) ps

abbrev pub parts_draft : List ℕ → ℕ → List Part → Draft
parts_draft starts at [] = no_draft
parts_draft starts at (p ∷ ps) = then_draft (p.draft starts (at + p.size)) (parts_draft starts (at + p.size) ps)

-- operations one after another, the first at 0
abbrev pub expression : List Part → Draft
expression ps = record (parts_draft (starts_from 0 ps) 0 ps) { size = parts_size ps }

-- an expression behind its length
abbrev pub nested : List Part → Draft
nested ps = then_draft (bytes (uleb (parts_size ps))) (expression ps)

module _ (e : Encoding) (place : ℕ → Option ℕ) where
  abbrev pub operand_draft : List ℕ → ℕ → Operand → Draft
  operand_draft starts to Nothing = no_draft
  operand_draft starts to (Byte n) = bytes (n ∷ [])
  operand_draft starts to (Bytes xs) = bytes xs
  operand_draft starts to (Uleb n) = bytes (uleb n)
  operand_draft starts to (Sleb z) = bytes (sleb z)
  operand_draft starts to (Count n) = whole 1 (λ big l. num_text big 1 n)
  operand_draft starts to (Target a) = whole e.address_size (address_text e.address_size a)
  operand_draft starts to (Base i) = place_draft (place i.0)
  operand_draft starts to (Place i) = whole 4 (λ big l. place i.0 >>= num_text big 4)
  operand_draft starts to (Info width r) = info_draft width r
  operand_draft starts to (Distance target) = whole 2 (λ big l. distance_text big starts to target)

  abbrev pub operand_size : Operand → ℕ
  operand_size o = (operand_draft [] 0 o).size

  abbrev pub operands_draft : List ℕ → ℕ → List Operand → Draft
  operands_draft starts to os = all_drafts (map (operand_draft starts to) os)

  abbrev pub operands_size : List Operand → ℕ
  operands_size [] = 0
  operands_size (o ∷ os) = operand_size o + operands_size os

  -- operands, wherever they stand
  abbrev pub part : List Operand → Part
  part os = record { size = operands_size os; draft = λ starts to. operands_draft starts to os }

  -- an operation that holds an expression; branches within that stay in it
  abbrev pub nested_part : List Part → Part
  nested_part ps = record {
    size = 1 + (length (uleb (parts_size ps)) + parts_size ps);
    draft = λ starts to. then_draft (bytes (entry_value_code e ∷ [])) (nested ps);
  }

  abbrev mutual
    pub node_part : Node → Part
    node_part (plain p) = part (operands e p)
    node_part (entry_value x) = nested_part (tree_parts x)

    pub tree_parts : Tree → List Part
    tree_parts nothing = []
    tree_parts (before n x) = node_part n ∷ tree_parts x

  abbrev pub parts_of : List Node → List Part
  parts_of ns = map node_part ns

  -- an expression as it is written
  abbrev pub expression_draft : List Node → Draft
  expression_draft ns = expression (parts_of ns)

  abbrev pub expression_size : List Node → ℕ
  expression_size ns = parts_size (parts_of ns)
