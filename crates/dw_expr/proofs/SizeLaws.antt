-- Sizes of operations, and why they are refused.
use Rattle.std.specs.Prelude.{◌≡◌, ℕ, ◌+◌, ◌^◌, ◌≤◌, ◌<◌, Bool, true, false, ◌||◌, nat_le, List, [], ◌∷◌, length, get_or, drop, Option, Result, Ok, Err, IsTrue, IsFalse, refl}
use Rattle.std.proofs.Common.{sym, ◌∙◌, ap, subst, arith}
use Rattle.std.proofs.lemmas.Bool.{or_left, or_right, or_parts, or_from}
use Rattle.std.proofs.lemmas.Bool.Decides.{nat_tests}
use Rattle.std.proofs.lemmas.List.{at_drop_more}
use Rattle.dw_base.specs.Leb128.{uleb}
use Rattle.dw_base.specs.declared.common.Encoding.{Encoding}
use Rattle.dw_base.specs.declared.error.Error.{Error}
use Rattle.dw_base.specs.declared.error.Error.TheVariants as errors
use Rattle.dw_expr.specs.Trees.{Node, entry_value, tree_of}
use Rattle.dw_expr.specs.Operands.{Operand, Nothing, dense, node_operands}
use Rattle.dw_expr.specs.Places.{place_by, Sized}
use Rattle.dw_expr.specs.Spelling.{parts_size, operand_size, operands_size, node_part, tree_parts, parts_of, expression_size}
use Rattle.dw_expr.specs.Causes.{length_fails, base_fails, bases_fail, operands_size_fails, node_unplaced, tree_unplaced, nodes_unplaced, node_size_fails, size_fails}
use Rattle.dw_expr.specs.Views.{node_of, nodes_in}
use Rattle.dw_expr.specs.declared.op.Operation.{Operation}
use Rattle.dw_expr.specs.declared.op.Operation.TheVariants as ops

-- Results with sizes

pub Sized-err : (r : Result ℕ Error) (size : ℕ) (fails : Error → Bool) (e : Error) → r ≡ Err e → IsTrue (fails e) → Sized r size fails
Sized-err r size fails e is h = subst (λ q. Sized q size fails) (sym is) h

pub Sized-is : (r : Result ℕ Error) {m n : ℕ} {f g : Error → Bool} → Sized r m f → m ≡ n → ((err : Error) → f err ≡ g err) → Sized r n g
Sized-is (Ok k) h e same = (h.0 ∙ e, λ err. sym (same err) ∙ h.1 err)
Sized-is (Err err) h e same = sym (same err) ∙ h

-- Lengths

le_more : (k m n : ℕ) → m ≤ n → nat_le k m ≡ true → nat_le k n ≡ true
le_more k m n le h = grind (arith, nat_tests)

pub length_more : (m n : ℕ) (err : Error) → m ≤ n → IsTrue (length_fails m err) → IsTrue (length_fails n err)
length_more m n errors.ValueTooLarge le h = le_more (2 ^ 64) m n le h
length_more m n err le h = h

pub length_none : (err : Error) → length_fails 0 err ≡ false
length_none errors.ValueTooLarge = refl
length_none err = refl

-- Lists with operands that are nothing

module _ (e : Encoding) (known : Option (ℕ → Option ℕ)) where
  size_dense : (os : List Operand) → operands_size e (place_by known) (dense os) ≡ operands_size e (place_by known) os
  size_dense [] = refl
  size_dense (Nothing ∷ os) = omega (arith, size_dense os)
  size_dense (o ∷ os) = ap (λ n. operand_size e (place_by known) o + n) (size_dense os)

  fails_dense : (os : List Operand) (err : Error) → bases_fail e known (dense os) err ≡ bases_fail e known os err
  fails_dense [] err = refl
  fails_dense (Nothing ∷ os) err = fails_dense os err
  fails_dense (o ∷ os) err = ap (λ b. base_fails e known o err || b) (fails_dense os err)

  module _ (a b c d : Operand) where
    pub four_size : (i j k l : ℕ) → i ≡ operand_size e (place_by known) a → j ≡ operand_size e (place_by known) b → k ≡ operand_size e (place_by known) c → l ≡ operand_size e (place_by known) d →
        i + (j + (k + l)) ≡ operands_size e (place_by known) (dense (a ∷ b ∷ c ∷ d ∷ []))
    four_size i j k l p q r s = omega (arith, p, q, r, s, size_dense (a ∷ b ∷ c ∷ d ∷ []))

    pub four_fail : (err : Error) → IsTrue (base_fails e known a err || (base_fails e known b err || (base_fails e known c err || (base_fails e known d err || false)))) →
        IsTrue (operands_size_fails e known (dense (a ∷ b ∷ c ∷ d ∷ [])) err)
    four_fail err h = or_right (length_fails (operands_size e (place_by known) (dense (a ∷ b ∷ c ∷ d ∷ []))) err) _ (fails_dense (a ∷ b ∷ c ∷ d ∷ []) err ∙ h)

    pub four_long : (n : ℕ) (err : Error) → n ≤ operands_size e (place_by known) (dense (a ∷ b ∷ c ∷ d ∷ [])) → IsTrue (length_fails n err) →
        IsTrue (operands_size_fails e known (dense (a ∷ b ∷ c ∷ d ∷ [])) err)
    four_long n err le h = or_left _ (bases_fail e known (dense (a ∷ b ∷ c ∷ d ∷ [])) err) (length_more n _ err le h)

    pub four_sound : (n : ℕ) → n ≡ operands_size e (place_by known) (dense (a ∷ b ∷ c ∷ d ∷ [])) →
        ((err : Error) → IsFalse (base_fails e known a err)) → ((err : Error) → IsFalse (base_fails e known b err)) → ((err : Error) → IsFalse (base_fails e known c err)) → ((err : Error) → IsFalse (base_fails e known d err)) →
        (err : Error) → length_fails n err ≡ operands_size_fails e known (dense (a ∷ b ∷ c ∷ d ∷ [])) err
    four_sound n is p q r s err =
        ap (λ k. length_fails k err) is ∙ sym (none _ _ (fails_dense (a ∷ b ∷ c ∷ d ∷ []) err ∙ or_from (base_fails e known a err) _ (p err) (or_from (base_fails e known b err) _ (q err) (or_from (base_fails e known c err) _ (r err) (or_from (base_fails e known d err) false (s err) refl)))))
      where
        none : (x y : Bool) → y ≡ false → (x || y) ≡ x
        none true y h = refl
        none false y h = h

  -- Trees are lists

  pub tree_parts-tree_of : (ns : List Node) → tree_parts e (place_by known) (tree_of ns) ≡ parts_of e (place_by known) ns
  tree_parts-tree_of [] = refl
  tree_parts-tree_of (n ∷ ns) = ap (λ ps. node_part e (place_by known) n ∷ ps) (tree_parts-tree_of ns)

  pub tree_unplaced-tree_of : (ns : List Node) (err : Error) → tree_unplaced e known (tree_of ns) err ≡ nodes_unplaced e known ns err
  tree_unplaced-tree_of [] err = refl
  tree_unplaced-tree_of (n ∷ ns) err = ap (λ b. node_unplaced e known n err || b) (tree_unplaced-tree_of ns err)

  -- Operations that hold expressions, and others

  pub nested_size : (ns : List Node) → (node_part e (place_by known) (entry_value (tree_of ns))).size ≡ 1 + (length (uleb (expression_size e (place_by known) ns)) + expression_size e (place_by known) ns)
  nested_size ns = ap (λ ps. 1 + (length (uleb (parts_size ps)) + parts_size ps)) (tree_parts-tree_of ns)

  pub nested_fails : (ns : List Node) (err : Error) → IsTrue (size_fails e known ns err) → IsTrue (node_size_fails e known (entry_value (tree_of ns)) err)
  nested_fails ns err h =
      by (length_fails (expression_size e (place_by known) ns) err) refl
    where
      by : (b : Bool) → length_fails (expression_size e (place_by known) ns) err ≡ b → IsTrue (node_size_fails e known (entry_value (tree_of ns)) err)
      by true is = or_left _ _ (length_more (expression_size e (place_by known) ns) _ err (omega (arith, nested_size ns)) is)
      by false is = or_right (length_fails (node_part e (place_by known) (entry_value (tree_of ns))).size err) _ (tree_unplaced-tree_of ns err ∙ sym (ap (λ b. b || nodes_unplaced e known ns err) is) ∙ h)

  pub nested_long : (ns : List Node) (n : ℕ) (err : Error) → n ≤ 1 + (length (uleb (expression_size e (place_by known) ns)) + expression_size e (place_by known) ns) → IsTrue (length_fails n err) →
      IsTrue (node_size_fails e known (entry_value (tree_of ns)) err)
  nested_long ns n err le h = or_left _ _ (length_more n _ err (omega (arith, nested_size ns)) h)

  pub nested_sound : (ns : List Node) (n : ℕ) → n ≡ (node_part e (place_by known) (entry_value (tree_of ns))).size → ((err : Error) → IsFalse (size_fails e known ns err)) →
      (err : Error) → length_fails n err ≡ node_size_fails e known (entry_value (tree_of ns)) err
  nested_sound ns n is sound err =
      let none = (or_parts (length_fails (expression_size e (place_by known) ns) err) _ (sound err)).1 in
      ap (λ k. length_fails k err) is ∙ sym (last (length_fails (node_part e (place_by known) (entry_value (tree_of ns))).size err) _ (tree_unplaced-tree_of ns err ∙ none))
    where
      last : (x y : Bool) → y ≡ false → (x || y) ≡ x
      last true y h = refl
      last false y h = h

  pub other_size : (o : Operation) → ((x : List Node) → o ≡ ops.EntryValue x → ⊥) → operands_size e (place_by known) (node_operands e (node_of o)) ≡ (node_part e (place_by known) (node_of o)).size
  other_size (ops.EntryValue x) h = absurd (h x refl)
  other_size o h = refl

  pub other_unplaced : (o : Operation) → ((x : List Node) → o ≡ ops.EntryValue x → ⊥) → (err : Error) → operands_size_fails e known (node_operands e (node_of o)) err ≡ node_size_fails e known (node_of o) err
  other_unplaced (ops.EntryValue x) h err = absurd (h x refl)
  other_unplaced o h err = refl

  -- One operation after another

  pub size_more : (xs : List Operation) (i : ℕ) (o : Operation) → i < length xs → o ≡ get_or xs i o →
      expression_size e (place_by known) (nodes_in (drop i xs)) ≡ (node_part e (place_by known) (node_of o)).size + expression_size e (place_by known) (nodes_in (drop (i + 1) xs))
  size_more xs i o below is =
      at_drop_more (λ l. expression_size e (place_by known) (nodes_in l)) xs i o below
      ∙ ap (λ y. (node_part e (place_by known) (node_of y)).size + expression_size e (place_by known) (nodes_in (drop (i + 1) xs))) (sym is)

  pub unplaced_more : (xs : List Operation) (i : ℕ) (o : Operation) (err : Error) → i < length xs → o ≡ get_or xs i o →
      nodes_unplaced e known (nodes_in (drop i xs)) err ≡ (node_unplaced e known (node_of o) err || nodes_unplaced e known (nodes_in (drop (i + 1) xs)) err)
  unplaced_more xs i o err below is =
      at_drop_more (λ l. nodes_unplaced e known (nodes_in l) err) xs i o below
      ∙ ap (λ y. node_unplaced e known (node_of y) err || nodes_unplaced e known (nodes_in (drop (i + 1) xs)) err) (sym is)

  -- why one operation of several has no size, and where the sum is too long
  pub size_fails_at : (xs : List Operation) (i : ℕ) (o : Operation) (n : ℕ) (err : Error) → i < length xs → o ≡ get_or xs i o →
      n + expression_size e (place_by known) (nodes_in (drop i xs)) ≡ expression_size e (place_by known) (nodes_in xs) →
      nodes_unplaced e known (nodes_in (drop i xs)) err ≡ nodes_unplaced e known (nodes_in xs) err →
      IsTrue (node_size_fails e known (node_of o) err) → IsTrue (size_fails e known (nodes_in xs) err)
  size_fails_at xs i o n err below is total same h =
      by (length_fails (node_part e (place_by known) (node_of o)).size err) refl
    where
      by : (b : Bool) → length_fails (node_part e (place_by known) (node_of o)).size err ≡ b → IsTrue (size_fails e known (nodes_in xs) err)
      by true long = or_left _ (nodes_unplaced e known (nodes_in xs) err) (length_more _ (expression_size e (place_by known) (nodes_in xs)) err (omega (arith, total, size_more xs i o below is)) long)
      by false short =
          or_right (length_fails (expression_size e (place_by known) (nodes_in xs)) err) _
          (sym same ∙ unplaced_more xs i o err below is ∙ or_left (node_unplaced e known (node_of o) err) _ (sym (ap (λ b. b || node_unplaced e known (node_of o) err) short) ∙ h))

  pub size_long_at : (xs : List Operation) (n : ℕ) (err : Error) → n ≤ expression_size e (place_by known) (nodes_in xs) → IsTrue (length_fails n err) → IsTrue (size_fails e known (nodes_in xs) err)
  size_long_at xs n err le h = or_left _ (nodes_unplaced e known (nodes_in xs) err) (length_more n _ err le h)
