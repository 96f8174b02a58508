-- Expressions are drafts: a text has as many bytes as its size says, and references in it have the widths of numbers.
use Rattle.std.specs.Prelude.{◌≡◌, ℕ, ◌+◌, Bool, true, false, ◌==◌, nat_lt, List, [], ◌∷◌, ◌++◌, length, Option, Some, None, ℤ, pos, negsuc, ◌-ℤ◌, ◌+ℤ◌, slice_get, IsTrue, refl, if◌then◌else◌}
use Rattle.std.proofs.Common.{sym, ◌∙◌, ap, subst, arith}
use Rattle.std.proofs.lemmas.Option.{none-some, same_Some}
use Rattle.dw_base.specs.Numbers.{◌>>=◌, is_width, word_of}
use Rattle.dw_base.specs.Leb128.{uleb}
use Rattle.dw_base.specs.Forms.{info_place_of}
use Rattle.dw_base.specs.declared.address.Address.{Address as TargetAddress}
use Rattle.dw_base.specs.declared.address.Address.TheVariants as addresses
use Rattle.dw_base.specs.declared.address.DebugInfoRef.{DebugInfoRef as InfoRef}
use Rattle.dw_base.specs.declared.address.DebugInfoRef.TheVariants as refs
use Rattle.dw_base.specs.declared.common.Encoding.{Encoding}
use Rattle.dw_base.specs.declared.common.Format.{Format}
use Rattle.dw_base.specs.declared.common.Format.TheVariants.{Dwarf32, Dwarf64}
use Rattle.dw_base.specs.declared.constants.DwOp.{DwOp}
use Rattle.dw_base.specs.declared.ids.UnitEntryId.{UnitEntryId}
use Rattle.dw_base.proofs.NumberLaws.{bind_parts, when_same}
use Rattle.dw_writer.specs.Texts.{Text, num_text, int_text}
use Rattle.dw_writer.specs.Meaning.{Layout}
use Rattle.dw_writer.specs.SignedNumbers.{signed_fits, signed_num}
use Rattle.dw_writer.specs.SectionTexts.{address_text, bytes_text}
use Rattle.dw_writer.specs.Drafts.{Info, Draft, no_draft, then_draft, IsDraft}
use Rattle.dw_writer.proofs.DraftLaws.{whole-draft, no-draft, then-draft, bound-wide}
use Rattle.dw_writer.proofs.Laws.{length-num_text}
use Rattle.dw_writer.proofs.Steps.{followed_texts-wide}
use Rattle.dw_writer.proofs.WriteLaws.{reference-draft}
use Rattle.dw_expr.specs.Trees as trees
use Rattle.dw_expr.specs.Trees.{Plain, Node, Tree, plain, entry_value, nothing, before}
use Rattle.dw_expr.specs.Operands.{Operand, short_or, picked, base_or_generic, operands, entry_value_code}
use Rattle.dw_expr.specs.Operands as table
use Rattle.dw_expr.specs.Spelling.{bytes, place_draft, info_draft, distance_text, parts_size, parts_draft, starts_from, expression, nested, operand_draft, operands_draft, node_part, tree_parts, parts_of, expression_draft, expression_size}
use Rattle.dw_expr.proofs.PartLaws.{part_width}
use Rattle.dw_expr.proofs.WriteSteps.{length-signed_num}

-- Operands

pub bytes-draft : (xs : List ℕ) → IsDraft (bytes xs)
unfolding bytes_text
bytes-draft xs = whole-draft (length xs) (bytes_text xs) (λ big l ys h. sym (ap length (same_Some xs ys h)))

place-draft : (o : Option ℕ) → IsDraft (place_draft o)
place-draft None = whole-draft 0 (λ big l. None) (λ big l xs h. absurd (none-some xs h))
place-draft (Some n) = bytes-draft (uleb n)

integer-wide : (big : Bool) (w : ℕ) (z : ℤ) (xs : List ℕ) → int_text big w z ≡ Some xs → length xs ≡ w
unfolding int_text
integer-wide big w (pos n) xs h = length-num_text big w n xs h
integer-wide big w (negsuc n) xs h = absurd (none-some xs h)

symbol-wide : (big : Bool) (w : ℕ) (a : ℤ) (o : Option ℕ) (xs : List ℕ) → ◌≡◌ {A = Text} (elim o [ None ↦ None | Some v ↦ int_text big w (a +ℤ pos v) ]) (Some xs) → length xs ≡ w
symbol-wide big w a None xs h = absurd (none-some xs h)
symbol-wide big w a (Some v) xs h = integer-wide big w (a +ℤ pos v) xs h

address-wide : (big : Bool) (l : Layout) (w : ℕ) (a : TargetAddress) (xs : List ℕ) → address_text w a big l ≡ Some xs → length xs ≡ w
unfolding address_text
address-wide big l w (addresses.Constant n) xs h = length-num_text big w n xs h
address-wide big l w (addresses.Symbol s a) xs h = symbol-wide big w a (slice_get l.symbols s) xs h

distance-wide : (big : Bool) (starts : List ℕ) (from : ℕ) (target : Option ℕ) (xs : List ℕ) → distance_text big starts from target ≡ Some xs → length xs ≡ 2
distance-wide big starts from target xs h =
    let k = bind_parts target _ xs h in
    let to = bind_parts (slice_get starts k.0) _ xs k.2 in
    let z = pos to.0 -ℤ pos from in
    sym (ap length (same_Some (signed_num big 2 z) xs (when_same (signed_fits 2 z) (Some (signed_num big 2 z)) xs to.2))) ∙ length-signed_num big 2 z

-- a place in .debug_info has the width of a number
abbrev HasWidth : Operand → Type 0
HasWidth (table.Info w r) = IsTrue (is_width w)
HasWidth o = Unit {0}

abbrev HaveWidths : List Operand → Type 0
HaveWidths [] = Unit {0}
HaveWidths (o ∷ os) = HasWidth o × HaveWidths os

module _ (e : Encoding) (place : ℕ → Option ℕ) where
  info-draft : (w : ℕ) (r : InfoRef) → IsTrue (is_width w) → IsDraft (info_draft w r)
  info-draft w (refs.Symbol s) wide = whole-draft w (λ big l. None) (λ big l xs h. absurd (none-some xs h))
  info-draft w (refs.Entry u i) wide = reference-draft w u i wide

  operand-draft : (starts : List ℕ) (to : ℕ) (o : Operand) → HasWidth o → IsDraft (operand_draft e place starts to o)
  operand-draft starts to table.Nothing wide = no-draft
  operand-draft starts to (table.Byte n) wide = bytes-draft (n ∷ [])
  operand-draft starts to (table.Bytes xs) wide = bytes-draft xs
  operand-draft starts to (table.Uleb n) wide = bytes-draft (uleb n)
  operand-draft starts to (table.Sleb z) wide = bytes-draft _
  operand-draft starts to (table.Count n) wide = whole-draft 1 (λ big l. num_text big 1 n) (λ big l xs h. length-num_text big 1 n xs h)
  operand-draft starts to (table.Target a) wide = whole-draft e.address_size (address_text e.address_size a) (λ big l xs h. address-wide big l e.address_size a xs h)
  operand-draft starts to (table.Base i) wide = place-draft (place i.0)
  operand-draft starts to (table.Place i) wide = whole-draft 4 (λ big l. place i.0 >>= num_text big 4) (λ big l xs h. bound-wide big 4 (place i.0) xs h)
  operand-draft starts to (table.Info w r) wide = info-draft w r wide
  operand-draft starts to (table.Distance target) wide = whole-draft 2 (λ big l. distance_text big starts to target) (λ big l xs h. distance-wide big starts to target xs h)

  operands-draft : (starts : List ℕ) (to : ℕ) (os : List Operand) → HaveWidths os → IsDraft (operands_draft e place starts to os)
  operands-draft starts to [] wide = no-draft
  operands-draft starts to (o ∷ os) wide = then-draft (operand-draft starts to o wide.0) (operands-draft starts to os wide.1)

-- The widths of the table of operations

word-wide : (format : Format) → IsTrue (is_width (word_of format))
word-wide Dwarf32 = refl
word-wide Dwarf64 = refl

info-wide : (e : Encoding) → IsTrue (is_width e.address_size) → IsTrue (is_width (info_place_of e))
info-wide e h = either (e.version == 2)
  where
    either : (old : Bool) → IsTrue (is_width (if old then e.address_size else word_of e.format))
    either true = h
    either false = word-wide e.format

short-wide : (short long : DwOp) (n : ℕ) (os : List Operand) → HaveWidths os → HaveWidths (short_or short long n ++ os)
short-wide short long n os h = by (nat_lt n 32)
  where
    by : (b : Bool) → HaveWidths ((if b then table.Byte (short.0 + n) ∷ [] else table.Byte long.0 ∷ table.Uleb n ∷ []) ++ os)
    by true = (tt, h)
    by false = (tt, (tt, h))

alone-wide : (short long : DwOp) (n : ℕ) → HaveWidths (short_or short long n)
alone-wide short long n = by (nat_lt n 32)
  where
    by : (b : Bool) → HaveWidths (if b then table.Byte (short.0 + n) ∷ [] else table.Byte long.0 ∷ table.Uleb n ∷ [])
    by true = (tt, tt)
    by false = (tt, (tt, tt))

picked-wide : (n : ℕ) → HaveWidths (picked n)
picked-wide n = by (n == 0) (n == 1)
  where
    by : (a b : Bool) → HaveWidths (if a then table.Byte 0x12 ∷ [] else if b then table.Byte 0x14 ∷ [] else table.Byte 0x15 ∷ table.Byte n ∷ [])
    by true b = (tt, tt)
    by false true = (tt, tt)
    by false false = (tt, (tt, tt))

generic-wide : (base : Option UnitEntryId) → HasWidth (base_or_generic base)
generic-wide None = tt
generic-wide (Some i) = tt

operands-wide : (e : Encoding) → IsTrue (is_width e.address_size) → (p : Plain) → HaveWidths (operands e p)
operands-wide e h (trees.Raw xs) = (tt, tt)
operands-wide e h (trees.Simple code) = (tt, tt)
operands-wide e h (trees.Address a) = (tt, (tt, tt))
operands-wide e h (trees.UnsignedConstant n) = alone-wide _ _ n
operands-wide e h (trees.SignedConstant z) = (tt, (tt, tt))
operands-wide e h (trees.ConstantType base xs) = (tt, (tt, (tt, (tt, tt))))
operands-wide e h (trees.FrameOffset z) = (tt, (tt, tt))
operands-wide e h (trees.RegisterOffset r z) = short-wide _ _ r.0 (table.Sleb z ∷ []) (tt, tt)
operands-wide e h (trees.RegisterType r base) = (tt, (tt, (tt, tt)))
operands-wide e h (trees.Pick n) = picked-wide n
operands-wide e h (trees.Deref space) = (tt, tt)
operands-wide e h (trees.DerefSize space size) = (tt, (tt, tt))
operands-wide e h (trees.DerefType space size base) = (tt, (tt, (tt, tt)))
operands-wide e h (trees.PlusConstant n) = (tt, (tt, tt))
operands-wide e h (trees.Skip target) = (tt, (tt, tt))
operands-wide e h (trees.Branch target) = (tt, (tt, tt))
operands-wide e h (trees.Call entry) = (tt, (tt, tt))
operands-wide e h (trees.CallRef r) = (tt, (word-wide e.format, tt))
operands-wide e h (trees.VariableValue r) = (tt, (word-wide e.format, tt))
operands-wide e h (trees.Convert base) = (tt, (generic-wide base, tt))
operands-wide e h (trees.Reinterpret base) = (tt, (generic-wide base, tt))
operands-wide e h (trees.Register r) = alone-wide _ _ r.0
operands-wide e h (trees.ImplicitValue xs) = (tt, (tt, (tt, tt)))
operands-wide e h (trees.ImplicitPointer r z) = (tt, (info-wide e h, (tt, tt)))
operands-wide e h (trees.Piece n) = (tt, (tt, tt))
operands-wide e h (trees.BitPiece n m) = (tt, (tt, (tt, tt)))
operands-wide e h (trees.ParameterRef entry) = (tt, (tt, tt))
operands-wide e h (trees.WasmLocal n) = (tt, (tt, (tt, tt)))
operands-wide e h (trees.WasmGlobal n) = (tt, (tt, (tt, tt)))
operands-wide e h (trees.WasmStack n) = (tt, (tt, (tt, tt)))

-- Texts have their sizes, whatever the widths

module _ (e : Encoding) (place : ℕ → Option ℕ) where
  abbrev IsWideDraft : Draft → Type 0
  IsWideDraft d = (info : Info) (big : Bool) (l : Layout) (xs : List ℕ) → d.text info big l ≡ Some xs → length xs ≡ d.size

  then-wide : (d f : Draft) → IsWideDraft d → IsWideDraft f → IsWideDraft (then_draft d f)
  unfolding then_draft
  then-wide d f p q info big l = followed_texts-wide d.size f.size (d.text info big l) (f.text info big l) (p info big l) (q info big l)

  none-wide : IsWideDraft no_draft
  none-wide = no-draft.wide

  operand-wide : (starts : List ℕ) (to : ℕ) (o : Operand) → IsWideDraft (operand_draft e place starts to o)
  operand-wide starts to (table.Info w (refs.Symbol s)) info big l xs h = absurd (none-some xs h)
  operand-wide starts to (table.Info w (refs.Entry u i)) info big l xs h = bound-wide big w (info u.0 i.0) xs h
  operand-wide starts to o info big l xs h = (operand-draft e place starts to o tt).wide info big l xs h

  all-wide : (starts : List ℕ) (to : ℕ) (os : List Operand) → IsWideDraft (operands_draft e place starts to os)
  all-wide starts to [] = none-wide
  all-wide starts to (o ∷ os) =
      then-wide (operand_draft e place starts to o) (operands_draft e place starts to os) (operand-wide starts to o) (all-wide starts to os)

  sized-wide : (d : Draft) (n : ℕ) → d.size ≡ n → IsWideDraft d → IsWideDraft (record d { size = n })
  sized-wide d n same h = subst (λ (k : ℕ). IsWideDraft (record d { size = k })) same h

  tree-width : (starts : List ℕ) (at : ℕ) (x : Tree) → (parts_draft starts at (tree_parts e place x)).size ≡ parts_size (tree_parts e place x)
  unfolding then_draft
  tree-width starts at nothing = refl
  tree-width starts at (before n x) =
      let p = node_part e place n in
      omega (arith, part_width e (Some place) n starts (at + p.size), tree-width starts (at + p.size) x)

  nodes-width : (starts : List ℕ) (at : ℕ) (ns : List Node) → (parts_draft starts at (parts_of e place ns)).size ≡ parts_size (parts_of e place ns)
  unfolding then_draft
  nodes-width starts at [] = refl
  nodes-width starts at (n ∷ ns) =
      let p = node_part e place n in
      omega (arith, part_width e (Some place) n starts (at + p.size), nodes-width starts (at + p.size) ns)

  mutual
    node-wide : (n : Node) (starts : List ℕ) (to : ℕ) → IsWideDraft ((node_part e place n).draft starts to)
    node-wide (plain p) starts to = all-wide starts to (operands e p)
    node-wide (entry_value x) starts to =
        let ps = tree_parts e place x in
        then-wide (bytes (entry_value_code e ∷ [])) (nested ps) (bytes-draft (entry_value_code e ∷ [])).wide
        (then-wide (bytes (uleb (parts_size ps))) (expression ps) (bytes-draft (uleb (parts_size ps))).wide
        (sized-wide (parts_draft (starts_from 0 ps) 0 ps) (parts_size ps) (tree-width (starts_from 0 ps) 0 x) (tree-wide x (starts_from 0 ps) 0)))

    tree-wide : (x : Tree) (starts : List ℕ) (at : ℕ) → IsWideDraft (parts_draft starts at (tree_parts e place x))
    tree-wide nothing starts at = none-wide
    tree-wide (before n x) starts at =
        let p = node_part e place n in
        let to = at + p.size in
        then-wide (p.draft starts to) (parts_draft starts to (tree_parts e place x)) (node-wide n starts to) (tree-wide x starts to)

  nodes-wide : (ns : List Node) (starts : List ℕ) (at : ℕ) → IsWideDraft (parts_draft starts at (parts_of e place ns))
  nodes-wide [] starts at = none-wide
  nodes-wide (n ∷ ns) starts at =
      let p = node_part e place n in
      let to = at + p.size in
      then-wide (p.draft starts to) (parts_draft starts to (parts_of e place ns)) (node-wide n starts to) (nodes-wide ns starts to)

  pub expression-wide : (ns : List Node) (info : Info) (big : Bool) (l : Layout) (xs : List ℕ) → (expression_draft e place ns).text info big l ≡ Some xs → length xs ≡ expression_size e place ns
  expression-wide ns =
      let ps = parts_of e place ns in
      sized-wide (parts_draft (starts_from 0 ps) 0 ps) (parts_size ps) (nodes-width (starts_from 0 ps) 0 ns) (nodes-wide ns (starts_from 0 ps) 0)

-- Expressions

sized-draft : (d : Draft) (n : ℕ) → d.size ≡ n → IsDraft d → IsDraft (record d { size = n })
sized-draft d n same h = subst (λ (k : ℕ). IsDraft (record d { size = k })) same h

module _ (e : Encoding) (place : ℕ → Option ℕ) (width : IsTrue (is_width e.address_size)) where
  mutual
    node-draft : (n : Node) (starts : List ℕ) (to : ℕ) → IsDraft ((node_part e place n).draft starts to)
    node-draft (plain p) starts to = operands-draft e place starts to (operands e p) (operands-wide e width p)
    node-draft (entry_value x) starts to =
        let ps = tree_parts e place x in
        then-draft (bytes-draft (entry_value_code e ∷ []))
        (then-draft (bytes-draft (uleb (parts_size ps))) (sized-draft _ (parts_size ps) (tree-width e place (starts_from 0 ps) 0 x) (tree-draft x (starts_from 0 ps) 0)))

    tree-draft : (x : Tree) (starts : List ℕ) (at : ℕ) → IsDraft (parts_draft starts at (tree_parts e place x))
    tree-draft nothing starts at = no-draft
    tree-draft (before n x) starts at = then-draft (node-draft n starts _) (tree-draft x starts _)

  nodes-draft : (ns : List Node) (starts : List ℕ) (at : ℕ) → IsDraft (parts_draft starts at (parts_of e place ns))
  nodes-draft [] starts at = no-draft
  nodes-draft (n ∷ ns) starts at = then-draft (node-draft n starts _) (nodes-draft ns starts _)

  pub expression-draft : (ns : List Node) → IsDraft (expression_draft e place ns)
  expression-draft ns =
      let ps = parts_of e place ns in
      sized-draft _ (parts_size ps) (nodes-width e place (starts_from 0 ps) 0 ns) (nodes-draft ns (starts_from 0 ps) 0)
