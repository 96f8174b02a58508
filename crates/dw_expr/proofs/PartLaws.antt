-- Expressions, one operation after another.
use Rattle.std.specs.Prelude.{◌≡◌, ℕ, zero, suc, ◌+◌, ◌≤◌, ◌<◌, Bool, true, false, ◌||◌, List, [], ◌∷◌, ◌++◌, length, map, take, drop, get_or, Option, Some, None, refl, IsTrue, Result, Err, IfErr}
use Rattle.std.proofs.Common.{sym, ◌∙◌, ap, subst, arith, add_assoc, add-zero, append_assoc}
use Rattle.std.proofs.lemmas.Bool.{or_from}
use Rattle.std.proofs.lemmas.List.{map_more, map-append, length-map, at_drop_more, at_drop_all}
use Rattle.dw_base.specs.Leb128.{uleb}
use Rattle.dw_base.specs.declared.common.Encoding.{Encoding}
use Rattle.dw_base.specs.declared.error.Error.{Error}
use Rattle.dw_base.specs.declared.error.Error.TheVariants as errors
use Rattle.dw_writer.specs.Meaning.{Meaning, IsSameWriter}
use Rattle.dw_writer.specs.Causes.{BytesRefused}
use Rattle.dw_writer.specs.Drafts.{then_draft, Drafts}
use Rattle.dw_writer.specs.declared.fixup.DebugInfoFixup.{DebugInfoFixup}
use Rattle.dw_writer.proofs.DraftLaws.{draft_is, then-assoc, then-nothing, nothing-then}
use Rattle.dw_writer.proofs.FaultLaws.{HasRisen-from}
use Rattle.dw_writer.proofs.WriteLaws.{Drafts-is, Drafts-then}
use Rattle.dw_expr.specs.Trees.{Node, Tree, plain, entry_value, nothing, before, tree_of}
use Rattle.dw_expr.specs.Operands.{Operand, operands, node_operands, entry_value_code}
use Rattle.dw_expr.specs.Operands as table
use Rattle.dw_expr.specs.Places.{place_by, MemoryOr, Refused}
use Rattle.dw_expr.specs.Spelling.{Part, bytes, parts_size, parts_draft, starts_from, nested, operand_draft, operand_size, operands_draft, operands_size, node_part, parts_of, expression_draft, expression_size}
use Rattle.dw_expr.specs.Causes.{entry_fails, length_fails, base_fails, bases_fail, node_unplaced, tree_unplaced, nodes_unplaced, size_fails, operands_fail, node_fails, tree_fails, nodes_fail, expression_fails}
use Rattle.dw_expr.specs.Views.{node_of, nodes_in}
use Rattle.dw_expr.specs.declared.op.Operation.{Operation}
use Rattle.dw_expr.specs.declared.op.Operation.TheVariants as ops
use Rattle.dw_expr.proofs.SizeLaws.{tree_parts-tree_of, tree_unplaced-tree_of}

-- Places of parts

pub length-starts : (at : ℕ) (ps : List Part) → length (starts_from at ps) ≡ length ps + 1
length-starts at [] = refl
length-starts at (p ∷ ps) = omega (arith, length-starts (at + p.size) ps)

-- where an operation begins
starts_at : (at : ℕ) (ps : List Part) (i : ℕ) → i ≤ length ps → get_or (starts_from at ps) i 0 ≡ at + parts_size (take i ps)
starts_at at ps zero h = first at ps
  where
    first : (at : ℕ) (ps : List Part) → get_or (starts_from at ps) 0 0 ≡ at + 0
    first at [] = sym (add-zero at)
    first at (p ∷ ps) = sym (add-zero at)
starts_at at [] (suc i) h = absurd (omega arith)
starts_at at (p ∷ ps) (suc i) h = starts_at (at + p.size) ps i (omega arith) ∙ add_assoc at p.size (parts_size (take i ps))

parts_size-more : (ps : List Part) (p : Part) → parts_size (ps ++ p ∷ []) ≡ parts_size ps + p.size
parts_size-more [] p = omega arith
parts_size-more (q ∷ ps) p = omega (arith, parts_size-more ps p)

take-map : {A B : Type 0} (f : A → B) (xs : List A) (i : ℕ) → take i (map f xs) ≡ map f (take i xs)
take-map f xs zero = refl
take-map f [] (suc i) = refl
take-map f (x ∷ xs) (suc i) = ap (λ r. f x ∷ r) (take-map f xs i)

parts_more : (starts : List ℕ) (at : ℕ) (ps : List Part) (p : Part) → parts_draft starts at (ps ++ p ∷ []) ≡ then_draft (parts_draft starts at ps) (p.draft starts (at + parts_size ps + p.size))
parts_more starts at [] p =
    then-nothing (p.draft starts (at + p.size)) ∙ ap (λ n. p.draft starts (n + p.size)) (sym (add-zero at)) ∙ sym (nothing-then (p.draft starts (at + 0 + p.size)))
parts_more starts at (q ∷ ps) p =
    ap (then_draft (q.draft starts (at + q.size))) (parts_more starts (at + q.size) ps p)
    ∙ ap (λ n. then_draft (q.draft starts (at + q.size)) (then_draft (parts_draft starts (at + q.size) ps) (p.draft starts (n + p.size)))) (add_assoc at q.size (parts_size ps))
    ∙ sym (then-assoc (q.draft starts (at + q.size)) (parts_draft starts (at + q.size) ps) (p.draft starts (at + (q.size + parts_size ps) + p.size)))

module _ (e : Encoding) (known : Option (ℕ → Option ℕ)) where
  -- the parts of operations
  abbrev pub all_parts : List Operation → List Part
  all_parts xs = parts_of e (place_by known) (nodes_in xs)

  abbrev pub part_at : Operation → Part
  part_at o = node_part e (place_by known) (node_of o)

  parts_take : (xs : List Operation) (i : ℕ) → take i (all_parts xs) ≡ all_parts (take i xs)
  parts_take xs i = take-map (node_part e (place_by known)) (nodes_in xs) i ∙ ap (map (node_part e (place_by known))) (take-map node_of xs i)

  parts_next : (xs : List Operation) (i : ℕ) (o : Operation) → i < length xs → o ≡ get_or xs i o → all_parts (take (i + 1) xs) ≡ all_parts (take i xs) ++ part_at o ∷ []
  parts_next xs i o below is =
      ap (map (node_part e (place_by known))) (map_more node_of xs i o below)
      ∙ map-append (node_part e (place_by known)) (nodes_in (take i xs)) (node_of (get_or xs i o) ∷ [])
      ∙ ap (λ y. all_parts (take i xs) ++ part_at y ∷ []) (sym is)

  pub length-all_parts : (xs : List Operation) → length (all_parts xs) ≡ length xs
  length-all_parts xs = length-map (nodes_in xs) (node_part e (place_by known)) ∙ length-map xs node_of

  -- where an operation ends
  pub ends_at : (starts : List ℕ) (xs : List Operation) (i : ℕ) (o : Operation) → i < length xs → o ≡ get_or xs i o → starts ≡ starts_from 0 (all_parts xs) →
      get_or starts (i + 1) 0 ≡ parts_size (all_parts (take i xs)) + (part_at o).size
  ends_at starts xs i o below is found =
      let n = ap (λ l. get_or l (i + 1) 0) found in
      let at = starts_at 0 (all_parts xs) (i + 1) (omega (arith, length-all_parts xs)) in
      let size = ap parts_size (parts_take xs (i + 1) ∙ parts_next xs i o below is) in
      let sum = parts_size-more (all_parts (take i xs)) (part_at o) in
      omega (arith, n, at, size, sum)

  pub size_next : (xs : List Operation) (i : ℕ) (o : Operation) → i < length xs → o ≡ get_or xs i o → parts_size (all_parts (take (i + 1) xs)) ≡ parts_size (all_parts (take i xs)) + (part_at o).size
  size_next xs i o below is = ap parts_size (parts_next xs i o below is) ∙ parts_size-more (all_parts (take i xs)) (part_at o)

  -- one operation more is written
  pub more_written : {a b c : Meaning} {x y z : List DebugInfoFixup} (starts : List ℕ) (xs : List Operation) (i to : ℕ) (o : Operation) → i < length xs → o ≡ get_or xs i o →
      to ≡ parts_size (all_parts (take i xs)) + (part_at o).size → Drafts a b x y (parts_draft starts 0 (all_parts (take i xs))) → Drafts b c y z ((part_at o).draft starts to) →
      Drafts a c x z (parts_draft starts 0 (all_parts (take (i + 1) xs)))
  more_written starts xs i to o below is ends p q =
      let ps = all_parts (take i xs) in
      let at : to ≡ 0 + parts_size ps + (part_at o).size = omega (arith, ends) in
      Drafts-is (Drafts-then p q)
      (ap (λ n. then_draft (parts_draft starts 0 ps) ((part_at o).draft starts n)) at ∙ sym (parts_more starts 0 ps (part_at o)) ∙ ap (parts_draft starts 0) (sym (parts_next xs i o below is)))

  -- The size of a draft

  operand_width : (starts : List ℕ) (to : ℕ) (o : Operand) → (operand_draft e (place_by known) starts to o).size ≡ operand_size e (place_by known) o
  operand_width starts to table.Nothing = refl
  operand_width starts to o = refl

  operands_width : (starts : List ℕ) (to : ℕ) (os : List Operand) → (operands_draft e (place_by known) starts to os).size ≡ operands_size e (place_by known) os
  unfolding then_draft
  operands_width starts to [] = refl
  operands_width starts to (o ∷ os) = omega (arith, operand_width starts to o, operands_width starts to os)

  nested_width : (ps : List Part) → (nested ps).size ≡ length (uleb (parts_size ps)) + parts_size ps
  unfolding then_draft
  nested_width ps = refl

  pub part_width : (n : Node) (starts : List ℕ) (to : ℕ) → ((node_part e (place_by known) n).draft starts to).size ≡ (node_part e (place_by known) n).size
  unfolding then_draft
  part_width (plain p) starts to = operands_width starts to (operands e p)
  part_width (entry_value x) starts to = refl

  parts_width : (starts : List ℕ) (at : ℕ) (ns : List Node) → (parts_draft starts at (parts_of e (place_by known) ns)).size ≡ expression_size e (place_by known) ns
  unfolding then_draft
  parts_width starts at [] = refl
  parts_width starts at (n ∷ ns) =
      let p = node_part e (place_by known) n in
      omega (arith, part_width n starts (at + p.size), parts_width starts (at + p.size) ns)

  -- all of them are written
  pub all_written : (starts : List ℕ) (ns : List Node) → starts ≡ starts_from 0 (parts_of e (place_by known) ns) → parts_draft starts 0 (parts_of e (place_by known) ns) ≡ expression_draft e (place_by known) ns
  all_written starts ns found =
      ap (λ s. parts_draft s 0 (parts_of e (place_by known) ns)) found
      ∙ draft_is _ _ _ _ _ _ (parts_width (starts_from 0 (parts_of e (place_by known) ns)) 0 ns) (λ info big l. refl) refl

  -- Places that are found one after another

  pub starts_next : (all : List ℕ) (at : ℕ) (xs : List Operation) (i : ℕ) (o : Operation) → i < length xs → o ≡ get_or xs i o →
      all ++ starts_from at (all_parts (drop i xs)) ≡ (all ++ at ∷ []) ++ starts_from (at + (part_at o).size) (all_parts (drop (i + 1) xs))
  starts_next all at xs i o below is =
      ap (λ l. all ++ l) (at_drop_more (λ l. starts_from at (all_parts l)) xs i o below ∙ ap (λ y. at ∷ starts_from (at + (part_at y).size) (all_parts (drop (i + 1) xs))) (sym is))
      ∙ sym (append_assoc all (at ∷ []) (starts_from (at + (part_at o).size) (all_parts (drop (i + 1) xs))))

  pub starts_done : (all : List ℕ) (at : ℕ) (xs : List Operation) (i : ℕ) → length xs ≤ i → all ++ starts_from at (all_parts (drop i xs)) ≡ all ++ at ∷ []
  starts_done all at xs i past = ap (λ l. all ++ l) (at_drop_all (λ l. starts_from at (all_parts l)) xs i past)

  -- Sizes are never refused by a writer

  entry_quiet : (known : Option (ℕ → Option ℕ)) (i : ℕ) → entry_fails known i errors.WriteFault ≡ false
  entry_quiet None i = refl
  entry_quiet (Some place) i = refl

  base_quiet : (o : Operand) → base_fails e known o errors.WriteFault ≡ false
  base_quiet (table.Base i) = entry_quiet known i.0
  base_quiet o = refl

  bases_quiet : (os : List Operand) → bases_fail e known os errors.WriteFault ≡ false
  bases_quiet [] = refl
  bases_quiet (o ∷ os) = or_from (base_fails e known o errors.WriteFault) _ (base_quiet o) (bases_quiet os)

  mutual
    node_quiet : (n : Node) → node_unplaced e known n errors.WriteFault ≡ false
    node_quiet (plain p) = bases_quiet (operands e p)
    node_quiet (entry_value x) = tree_quiet x

    tree_quiet : (x : Tree) → tree_unplaced e known x errors.WriteFault ≡ false
    tree_quiet nothing = refl
    tree_quiet (before n x) = or_from (node_unplaced e known n errors.WriteFault) _ (node_quiet n) (tree_quiet x)

  pub nodes_quiet : (ns : List Node) → nodes_unplaced e known ns errors.WriteFault ≡ false
  nodes_quiet [] = refl
  nodes_quiet (n ∷ ns) = or_from (node_unplaced e known n errors.WriteFault) _ (node_quiet n) (nodes_quiet ns)

  -- so why there is no size is why an expression isn't written
  pub size_refused : (old new : Meaning) (ns : List Node) (g : Error → Bool) → ((err : Error) → IsTrue (size_fails e known ns err) → IsTrue (g err)) → (err : Error) → IsTrue (size_fails e known ns err) → Refused old new g err
  size_refused old new ns g more errors.NoMemory h = tt
  size_refused old new ns g more errors.WriteFault h = absurd (let k : true ≡ false = sym h ∙ nodes_quiet ns in cc)
  size_refused old new ns g more err h = more err h

  pub starts_refused : (old new : Meaning) (ns : List Node) (g : Error → Bool) → ((err : Error) → IsTrue (size_fails e known ns err) → IsTrue (g err)) → (err : Error) → MemoryOr (size_fails e known ns) err → Refused old new g err
  starts_refused old new ns g more errors.NoMemory h = tt
  starts_refused old new ns g more errors.WriteFault h = absurd (let k : true ≡ false = sym h ∙ nodes_quiet ns in cc)
  starts_refused old new ns g more err h = more err h

  -- Operations that hold no expression, and those that do

  pub other_draft : (o : Operation) (starts : List ℕ) (to : ℕ) → ((x : List Node) → o ≡ ops.EntryValue x → ⊥) → operands_draft e (place_by known) starts to (node_operands e (node_of o)) ≡ (part_at o).draft starts to
  other_draft (ops.EntryValue x) starts to h = absurd (h x refl)
  other_draft o starts to h = refl

  pub nested_draft : (x : List Node) (starts : List ℕ) (to : ℕ) →
      then_draft (bytes (entry_value_code e ∷ [])) (then_draft (bytes (uleb (expression_size e (place_by known) x))) (expression_draft e (place_by known) x)) ≡ (node_part e (place_by known) (entry_value (tree_of x))).draft starts to
  nested_draft x starts to = ap (λ ps. then_draft (bytes (entry_value_code e ∷ [])) (nested ps)) (sym (tree_parts-tree_of e known x))

  module _ (keeps is_plain : Bool) where
    pub other_fails : (o : Operation) (starts : List ℕ) (to : ℕ) (err : Error) → ((x : List Node) → o ≡ ops.EntryValue x → ⊥) →
        operands_fail e known keeps is_plain starts to (node_operands e (node_of o)) err ≡ node_fails e known keeps is_plain starts to (node_of o) err
    other_fails (ops.EntryValue x) starts to err h = absurd (h x refl)
    other_fails o starts to err h = refl

    pub code_fails : (n : Node) (starts : List ℕ) (to : ℕ) (err : Error) → IsTrue (operands_fail e known keeps is_plain starts to (node_operands e n) err) → IsTrue (node_fails e known keeps is_plain starts to n err)
    code_fails (plain p) starts to err h = h
    code_fails (entry_value x) starts to err h = absurd (let k : false ≡ true = h in cc)

    tree_fails-tree_of : (starts : List ℕ) (at : ℕ) (ns : List Node) (err : Error) → tree_fails e known keeps is_plain starts at (tree_of ns) err ≡ nodes_fail e known keeps is_plain starts at ns err
    tree_fails-tree_of starts at [] err = refl
    tree_fails-tree_of starts at (n ∷ ns) err =
        let to = at + (node_part e (place_by known) n).size in
        ap (λ b. node_fails e known keeps is_plain starts to n err || b) (tree_fails-tree_of starts to ns err)

    pub nested_fails_as : (x : List Node) (starts : List ℕ) (to : ℕ) (err : Error) → node_fails e known keeps is_plain starts to (entry_value (tree_of x)) err ≡ expression_fails e known keeps is_plain x err
    nested_fails_as x starts to err =
        let ps = tree_parts-tree_of e known x in
        ap (λ l. (length_fails (parts_size l) err || tree_unplaced e known (tree_of x) err) || tree_fails e known keeps is_plain (starts_from 0 l) 0 (tree_of x) err) ps
        ∙ ap (λ b. (length_fails (expression_size e (place_by known) x) err || b) || tree_fails e known keeps is_plain (starts_from 0 (parts_of e (place_by known) x)) 0 (tree_of x) err) (tree_unplaced-tree_of e known x err)
        ∙ ap (λ b. size_fails e known x err || b) (tree_fails-tree_of (starts_from 0 (parts_of e (place_by known) x)) 0 x err)

    -- one operation after another
    pub fails_next : (starts : List ℕ) (at : ℕ) (xs : List Operation) (i : ℕ) (o : Operation) (err : Error) → i < length xs → o ≡ get_or xs i o →
        nodes_fail e known keeps is_plain starts at (nodes_in (drop i xs)) err
        ≡ (node_fails e known keeps is_plain starts (at + (part_at o).size) (node_of o) err || nodes_fail e known keeps is_plain starts (at + (part_at o).size) (nodes_in (drop (i + 1) xs)) err)
    fails_next starts at xs i o err below is =
        at_drop_more (λ l. nodes_fail e known keeps is_plain starts at (nodes_in l) err) xs i o below
        ∙ ap (λ y. node_fails e known keeps is_plain starts (at + (part_at y).size) (node_of y) err || nodes_fail e known keeps is_plain starts (at + (part_at y).size) (nodes_in (drop (i + 1) xs)) err) (sym is)

  pub memory_or : (f : Error → Bool) (err : Error) → IsTrue (f err) → MemoryOr f err
  memory_or f errors.NoMemory h = tt
  memory_or f err h = h

-- bytes are refused as a part of more
pub bytes_refused : (a b c : Meaning) (g : Error → Bool) → IsSameWriter a b → (err : Error) → BytesRefused b c err → Refused a c g err
bytes_refused a b c g same errors.NoMemory h = tt
bytes_refused a b c g same errors.WriteFault h = HasRisen-from a b c same.faults h
bytes_refused a b c g same err h = absurd h

pub vec_err_at : {A : Type 0} (r : Result A Error) (F : Error → Type 0) (e : Error) → r ≡ Err e → F e → IfErr r F
vec_err_at r F e is h = subst (λ q. IfErr q F) (sym is) h
