-- Why expressions can't be sized or written: a line for each operand and error.
use Rattle.std.specs.Prelude.{ℕ, ◌+◌, ◌^◌, ◌==◌, Bool, true, false, not, ◌&&◌, ◌||◌, nat_le, List, [], ◌∷◌, Option, Some, None, is_none, slice_get, pos, ◌-ℤ◌}
use Rattle.std.specs.List.{list_any}
use Rattle.dw_base.specs.Numbers.{is_width, fits}
use Rattle.dw_base.specs.declared.address.Address.{Address as TargetAddress}
use Rattle.dw_base.specs.declared.address.Address.TheVariants as addresses
use Rattle.dw_base.specs.declared.address.DebugInfoRef.{DebugInfoRef as InfoRef}
use Rattle.dw_base.specs.declared.address.DebugInfoRef.TheVariants as refs
use Rattle.dw_base.specs.declared.common.Encoding.{Encoding}
use Rattle.dw_base.specs.declared.error.Error.{Error}
use Rattle.dw_base.specs.declared.error.Error.TheVariants as errors
use Rattle.dw_writer.specs.SignedNumbers.{signed_fits}
use Rattle.dw_expr.specs.Trees.{Node, Tree, plain, entry_value, nothing, before}
use Rattle.dw_expr.specs.Operands.{Operand, Count, Target, Base, Place, Info, Distance, operands}
use Rattle.dw_expr.specs.Places.{place_by}
use Rattle.dw_expr.specs.Spelling.{parts_size, starts_from, operands_size, node_part, tree_parts, parts_of, expression_size}

-- an entry has no place, or no places are given at all
abbrev pub entry_fails : Option (ℕ → Option ℕ) → ℕ → Error → Bool
entry_fails None i errors.UnsupportedCfiExpressionReference = true
entry_fails (Some place) i errors.UnsupportedExpressionForwardReference = is_none (place i)
entry_fails known i err = false

-- a place that is there doesn't fit four bytes
abbrev pub is_far : Option ℕ → Bool
is_far None = false
is_far (Some n) = not (fits 4 n)

abbrev pub place_fails : Option (ℕ → Option ℕ) → ℕ → Error → Bool
place_fails known i errors.ValueTooLarge = is_far (place_by known i)
place_fails known i err = entry_fails known i err

-- a width isn't 1, 2, 4 or 8
abbrev pub width_fails : ℕ → Error → Bool
width_fails w (errors.UnsupportedWordSize n) = (n == w) && not (is_width w)
width_fails w err = false

abbrev pub address_fails : ℕ → Bool → TargetAddress → Error → Bool
address_fails w is_plain (addresses.Constant n) errors.ValueTooLarge = is_width w && not (fits w n)
address_fails w is_plain (addresses.Symbol s a) errors.InvalidAddress = is_plain
address_fails w is_plain a err = width_fails w err

abbrev pub is_symbol : InfoRef → Bool
is_symbol (refs.Symbol s) = true
is_symbol (refs.Entry u i) = false

-- a reference names another object's entry, or no list of fixups is given
abbrev pub info_fails : ℕ → Bool → InfoRef → Error → Bool
info_fails w keeps r errors.InvalidReference = not keeps || is_symbol r
info_fails w keeps r err = width_fails w err

-- a branch has no target, or one past the end
abbrev pub is_unset : List ℕ → Option ℕ → Bool
is_unset starts None = true
is_unset starts (Some k) = is_none (slice_get starts k)

-- the distance to a target doesn't fit two bytes
abbrev pub is_distant : ℕ → Option ℕ → Bool
is_distant from None = false
is_distant from (Some to) = not (signed_fits 2 (pos to -ℤ pos from))

abbrev pub target_place : List ℕ → Option ℕ → Option ℕ
target_place starts None = None
target_place starts (Some k) = slice_get starts k

abbrev pub distance_fails : List ℕ → ℕ → Option ℕ → Error → Bool
distance_fails starts from target errors.UnsetBranchTarget = is_unset starts target
distance_fails starts from target errors.ValueTooLarge = is_distant from (target_place starts target)
distance_fails starts from target err = false

abbrev pub count_fails : ℕ → Error → Bool
count_fails n errors.ValueTooLarge = not (fits 1 n)
count_fails n err = false

-- so many bytes can't be counted
abbrev pub length_fails : ℕ → Error → Bool
length_fails n errors.ValueTooLarge = nat_le (2 ^ 64) n
length_fails n err = false

module _ (e : Encoding) (known : Option (ℕ → Option ℕ)) where
  -- what the size hangs on: places in ULEB128
  abbrev pub base_fails : Operand → Error → Bool
  base_fails (Base i) err = entry_fails known i.0 err
  base_fails o err = false

  abbrev pub bases_fail : List Operand → Error → Bool
  bases_fail os err = list_any (λ o. base_fails o err) os

  abbrev pub operands_size_fails : List Operand → Error → Bool
  operands_size_fails os err = length_fails (operands_size e (place_by known) os) err || bases_fail os err

  abbrev mutual
    pub node_unplaced : Node → Error → Bool
    node_unplaced (plain p) err = bases_fail (operands e p) err
    node_unplaced (entry_value x) err = tree_unplaced x err

    pub tree_unplaced : Tree → Error → Bool
    tree_unplaced nothing err = false
    tree_unplaced (before n x) err = node_unplaced n err || tree_unplaced x err

  abbrev pub nodes_unplaced : List Node → Error → Bool
  nodes_unplaced ns err = list_any (λ n. node_unplaced n err) ns

  -- why an operation, and an expression, has no size
  abbrev pub node_size_fails : Node → Error → Bool
  node_size_fails n err = length_fails (node_part e (place_by known) n).size err || node_unplaced n err

  abbrev pub size_fails : List Node → Error → Bool
  size_fails ns err = length_fails (expression_size e (place_by known) ns) err || nodes_unplaced ns err

  abbrev pub tree_size_fails : Tree → Error → Bool
  tree_size_fails x err = length_fails (parts_size (tree_parts e (place_by known) x)) err || tree_unplaced x err

  abbrev pub tree_starts : Tree → List ℕ
  tree_starts x = starts_from 0 (tree_parts e (place_by known) x)

  module _ (keeps is_plain : Bool) where
    -- why an operand can't be written
    abbrev pub operand_fails : List ℕ → ℕ → Operand → Error → Bool
    operand_fails starts to (Count n) err = count_fails n err
    operand_fails starts to (Target a) err = address_fails e.address_size is_plain a err
    operand_fails starts to (Base i) err = entry_fails known i.0 err
    operand_fails starts to (Place i) err = place_fails known i.0 err
    operand_fails starts to (Info w r) err = info_fails w keeps r err
    operand_fails starts to (Distance target) err = distance_fails starts to target err
    operand_fails starts to o err = false

    abbrev pub operands_fail : List ℕ → ℕ → List Operand → Error → Bool
    operands_fail starts to os err = list_any (λ o. operand_fails starts to o err) os

    -- and operations, which begin at these places, the first at a place
    abbrev mutual
      pub node_fails : List ℕ → ℕ → Node → Error → Bool
      node_fails starts to (plain p) err = operands_fail starts to (operands e p) err
      node_fails starts to (entry_value x) err = tree_size_fails x err || tree_fails (tree_starts x) 0 x err

      pub tree_fails : List ℕ → ℕ → Tree → Error → Bool
      tree_fails starts at nothing err = false
      tree_fails starts at (before n x) err =
          let to = at + (node_part e (place_by known) n).size in node_fails starts to n err || tree_fails starts to x err

    abbrev pub nodes_fail : List ℕ → ℕ → List Node → Error → Bool
    nodes_fail starts at [] err = false
    nodes_fail starts at (n ∷ ns) err =
        let to = at + (node_part e (place_by known) n).size in node_fails starts to n err || nodes_fail starts to ns err

    -- why an expression can't be written: it has no size, or an operation can't be
    abbrev pub expression_fails : List Node → Error → Bool
    expression_fails ns err = size_fails ns err || nodes_fail (starts_from 0 (parts_of e (place_by known) ns)) 0 ns err
