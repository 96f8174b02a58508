-- A size hangs on the places of the entries that operands name in ULEB128, and on no others: places that extend those give the
-- same.
use Rattle.std.specs.Prelude.{◌≡◌, ℕ, zero, suc, ◌+◌, ◌/◌, ◌≤◌, nat_lt, ◌||◌, true, false, List, [], ◌∷◌, length, Option, Some, None, is_none, IsFalse, refl}
use Rattle.std.proofs.Common.{sym, ◌∙◌, ap, arith, ⊎_elim}
use Rattle.std.proofs.lemmas.Bool.{or_parts, or_from, lt-ltb, le-ltb, cases_lt}
use Rattle.dw_base.specs.Leb128.{uleb, uleb_groups}
use Rattle.dw_base.specs.declared.common.Encoding.{Encoding}
use Rattle.dw_base.specs.declared.error.Error.{Error}
use Rattle.dw_base.specs.declared.error.Error.TheVariants as errors
use Rattle.dw_expr.specs.Trees.{Node, Tree, plain, entry_value, nothing, before}
use Rattle.dw_expr.specs.Operands.{Operand, operands}
use Rattle.dw_expr.specs.Operands as table
use Rattle.dw_expr.specs.Spelling.{parts_size, place_draft, operand_size, operands_size, node_part, tree_parts, expression_size}
use Rattle.dw_expr.specs.Causes.{entry_fails, base_fails, bases_fail, node_unplaced, tree_unplaced, nodes_unplaced}

-- the cause of an entry without a place
abbrev none_there : Error
none_there = errors.UnsupportedExpressionForwardReference

module _ (e : Encoding) (p q : ℕ → Option ℕ) (more : (i n : ℕ) → p i ≡ Some n → q i ≡ Some n) where
  placed : (i : ℕ) → is_none (p i) ≡ false → (place_draft (p i)).size ≡ (place_draft (q i)).size
  placed i h = by (p i) refl h
    where
      by : (o : Option ℕ) → p i ≡ o → is_none o ≡ false → (place_draft (p i)).size ≡ (place_draft (q i)).size
      by None is h = absurd (let k : true ≡ false = h in cc)
      by (Some n) is h = ap (λ o. (place_draft o).size) (is ∙ sym (more i n is))

  operand_same : (o : Operand) → IsFalse (base_fails e (Some p) o none_there) → operand_size e p o ≡ operand_size e q o
  operand_same (table.Base i) h = placed i.0 h
  operand_same o h = refl

  operands_same : (os : List Operand) → IsFalse (bases_fail e (Some p) os none_there) → operands_size e p os ≡ operands_size e q os
  operands_same [] h = refl
  operands_same (o ∷ os) h =
      let parts = or_parts (base_fails e (Some p) o none_there) (bases_fail e (Some p) os none_there) h in
      omega (arith, operand_same o parts.0, operands_same os parts.1)

  mutual
    pub node_same : (n : Node) → IsFalse (node_unplaced e (Some p) n none_there) → (node_part e p n).size ≡ (node_part e q n).size
    node_same (plain x) h = operands_same (operands e x) h
    node_same (entry_value x) h = ap (λ n. 1 + (length (uleb n) + n)) (tree_same x h)

    pub tree_same : (x : Tree) → IsFalse (tree_unplaced e (Some p) x none_there) → parts_size (tree_parts e p x) ≡ parts_size (tree_parts e q x)
    tree_same nothing h = refl
    tree_same (before n x) h =
        let parts = or_parts (node_unplaced e (Some p) n none_there) (tree_unplaced e (Some p) x none_there) h in
        omega (arith, node_same n parts.0, tree_same x parts.1)

  -- an expression that has a size has the same wherever later entries are placed
  pub size_same : (ns : List Node) → IsFalse (nodes_unplaced e (Some p) ns none_there) → expression_size e p ns ≡ expression_size e q ns
  size_same [] h = refl
  size_same (n ∷ ns) h =
      let parts = or_parts (node_unplaced e (Some p) n none_there) (nodes_unplaced e (Some p) ns none_there) h in
      omega (arith, node_same n parts.0, size_same ns parts.1)

-- A larger number has no fewer groups

groups_last : (k n : ℕ) → nat_lt n 128 ≡ true → length (uleb_groups (suc k) n) ≡ 1
unfolding uleb_groups
groups_last k n e = rw (e, uleb_groups) refl

groups_more : (k n : ℕ) → nat_lt n 128 ≡ false → length (uleb_groups (suc k) n) ≡ suc (length (uleb_groups k (n / 128)))
unfolding uleb_groups
groups_more k n e = rw (e, uleb_groups) refl

groups_none : (n : ℕ) → length (uleb_groups 0 n) ≡ 1
unfolding uleb_groups
groups_none n = refl

groups_some : (k n : ℕ) → 1 ≤ length (uleb_groups k n)
groups_some zero n = omega (arith, groups_none n)
groups_some (suc k) n =
    ⊎_elim (λ lt. omega (arith, groups_last k n (lt-ltb _ _ lt))) (λ le. omega (arith, groups_more k n (le-ltb _ _ le))) (cases_lt n 128)

groups_grow : (k m n : ℕ) → m ≤ n → length (uleb_groups k m) ≤ length (uleb_groups k n)
groups_grow zero m n le = omega (arith, groups_none m, groups_none n)
groups_grow (suc k) m n le =
    ⊎_elim
    (λ lt. omega (arith, groups_last k m (lt-ltb _ _ lt), groups_some (suc k) n))
    (λ long.
    let less : m / 128 ≤ n / 128 = omega (arith, le) in
    omega (arith, groups_more k m (le-ltb _ _ long), groups_more k n (le-ltb _ _ (omega (arith, le, long))), groups_grow k (m / 128) (n / 128) less))
    (cases_lt m 128)

uleb_grows : (m n : ℕ) → m ≤ n → length (uleb m) ≤ length (uleb n)
unfolding uleb
uleb_grows m n le = groups_grow 9 m n le

-- Where more entries have places, no size is smaller

module _ (e : Encoding) (p q : ℕ → Option ℕ) (more : (i n : ℕ) → p i ≡ Some n → q i ≡ Some n) where
  place_grows : (i : ℕ) → (place_draft (p i)).size ≤ (place_draft (q i)).size
  place_grows i = by (p i) refl
    where
      by : (o : Option ℕ) → p i ≡ o → (place_draft o).size ≤ (place_draft (q i)).size
      by None is = omega arith
      by (Some n) is = omega (arith, ap (λ o. (place_draft o).size) (more i n is))

  operand_grows : (o : Operand) → operand_size e p o ≤ operand_size e q o
  operand_grows (table.Base i) = place_grows i.0
  operand_grows o = omega arith

  operands_grow : (os : List Operand) → operands_size e p os ≤ operands_size e q os
  operands_grow [] = omega arith
  operands_grow (o ∷ os) = omega (arith, operand_grows o, operands_grow os)

  mutual
    node_grows : (n : Node) → (node_part e p n).size ≤ (node_part e q n).size
    node_grows (plain x) = operands_grow (operands e x)
    node_grows (entry_value x) = omega (arith, tree_grows x, uleb_grows (parts_size (tree_parts e p x)) (parts_size (tree_parts e q x)) (tree_grows x))

    tree_grows : (x : Tree) → parts_size (tree_parts e p x) ≤ parts_size (tree_parts e q x)
    tree_grows nothing = omega arith
    tree_grows (before n x) = omega (arith, node_grows n, tree_grows x)

  pub size_grows : (ns : List Node) → expression_size e p ns ≤ expression_size e q ns
  size_grows [] = omega arith
  size_grows (n ∷ ns) = omega (arith, node_grows n, size_grows ns)

-- and the length before an expression's bytes is no shorter
pub counted_grows : (m n : ℕ) → m ≤ n → length (uleb m) + m ≤ length (uleb n) + n
counted_grows m n le = omega (arith, le, uleb_grows m n le)

-- Where places are given, an entry without one is no matter of size

module _ (e : Encoding) (p : ℕ → Option ℕ) where
  bases_large : (os : List Operand) → bases_fail e (Some p) os errors.ValueTooLarge ≡ false
  bases_large [] = refl
  bases_large (table.Base i ∷ os) = bases_large os
  bases_large (o ∷ os) = bases_large os

  mutual
    node_large : (n : Node) → node_unplaced e (Some p) n errors.ValueTooLarge ≡ false
    node_large (plain x) = bases_large (operands e x)
    node_large (entry_value x) = tree_large x

    tree_large : (x : Tree) → tree_unplaced e (Some p) x errors.ValueTooLarge ≡ false
    tree_large nothing = refl
    tree_large (before n x) = or_from (node_unplaced e (Some p) n errors.ValueTooLarge) _ (node_large n) (tree_large x)

  pub unplaced_large : (ns : List Node) → nodes_unplaced e (Some p) ns errors.ValueTooLarge ≡ false
  unplaced_large [] = refl
  unplaced_large (n ∷ ns) = or_from (node_unplaced e (Some p) n errors.ValueTooLarge) _ (node_large n) (unplaced_large ns)

-- Which places they are is no matter

module _ (e : Encoding) (p q : ℕ → Option ℕ) (same : (i : ℕ) → is_none (p i) ≡ is_none (q i)) where
  entry_same : (i : ℕ) (err : Error) → entry_fails (Some p) i err ≡ entry_fails (Some q) i err
  entry_same i errors.UnsupportedExpressionForwardReference = same i
  entry_same i err = refl

  base_same : (o : Operand) (err : Error) → base_fails e (Some p) o err ≡ base_fails e (Some q) o err
  base_same (table.Base i) err = entry_same i.0 err
  base_same o err = refl

  bases_same : (os : List Operand) (err : Error) → bases_fail e (Some p) os err ≡ bases_fail e (Some q) os err
  bases_same [] err = refl
  bases_same (o ∷ os) err = λ i. base_same o err i || bases_same os err i

  mutual
    node_unplaced-same : (n : Node) (err : Error) → node_unplaced e (Some p) n err ≡ node_unplaced e (Some q) n err
    node_unplaced-same (plain x) err = bases_same (operands e x) err
    node_unplaced-same (entry_value x) err = tree_unplaced-same x err

    tree_unplaced-same : (x : Tree) (err : Error) → tree_unplaced e (Some p) x err ≡ tree_unplaced e (Some q) x err
    tree_unplaced-same nothing err = refl
    tree_unplaced-same (before n x) err = λ i. node_unplaced-same n err i || tree_unplaced-same x err i

  pub unplaced-same : (ns : List Node) (err : Error) → nodes_unplaced e (Some p) ns err ≡ nodes_unplaced e (Some q) ns err
  unplaced-same [] err = refl
  unplaced-same (n ∷ ns) err = λ i. node_unplaced-same n err i || unplaced-same ns err i
