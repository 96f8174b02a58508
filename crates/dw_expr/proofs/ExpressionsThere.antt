-- The text of an expression that has no fault for a plain writer is there, once its open places are known.
use Rattle.std.specs.Prelude.{◌≡◌, ℕ, ◌+◌, Bool, true, false, not, ◌&&◌, List, [], ◌∷◌, ◌++◌, Option, Some, None, is_none, pos, ◌-ℤ◌, slice_get, IsTrue, IsFalse, refl}
use Rattle.std.proofs.Common.{sym, ◌∙◌, ap}
use Rattle.std.proofs.lemmas.Bool.{or_parts, eq-eqb}
use Rattle.dw_base.specs.Numbers.{◌>>=◌, when, num, is_width, fits}
use Rattle.dw_base.specs.Leb128.{uleb}
use Rattle.dw_base.specs.declared.address.Address.{Address as TargetAddress}
use Rattle.dw_base.specs.declared.address.Address.TheVariants as addresses
use Rattle.dw_base.specs.declared.address.DebugInfoRef.TheVariants as refs
use Rattle.dw_base.specs.declared.common.Encoding.{Encoding}
use Rattle.dw_base.specs.declared.error.Error.{Error}
use Rattle.dw_base.specs.declared.error.Error.TheVariants as errors
use Rattle.dw_writer.specs.Texts.{Text, num_text, followed}
use Rattle.dw_writer.specs.Meaning.{Layout}
use Rattle.dw_writer.specs.SignedNumbers.{signed_fits, signed_num}
use Rattle.dw_writer.specs.SectionTexts.{address_text, bytes_text}
use Rattle.dw_writer.specs.Drafts.{Info, Draft, then_draft, shifted}
use Rattle.dw_writer.specs.declared.fixup.DebugInfoFixup.{DebugInfoFixup}
use Rattle.dw_writer.proofs.Plain.{num-shown}
use Rattle.dw_expr.specs.Trees.{Node, Tree, plain, entry_value, nothing, before}
use Rattle.dw_expr.specs.Operands.{Operand, operands, entry_value_code}
use Rattle.dw_expr.specs.Operands as table
use Rattle.dw_expr.specs.Causes.{width_fails, address_fails, is_far, is_distant, is_unset, target_place, operand_fails, operands_fail, tree_size_fails, node_fails, tree_fails, nodes_fail, size_fails, expression_fails}
use Rattle.dw_expr.specs.Spelling.{bytes, place_draft, distance_text, parts_size, parts_draft, starts_from, expression, nested, operand_draft, operands_draft, node_part, tree_parts, parts_of, expression_draft}

-- references lead to places that fit
abbrev pub ArePlaced : Info → List DebugInfoFixup → Type 0
ArePlaced info [] = Unit {0}
ArePlaced info (h ∷ hs) = ((n : ℕ) × (info h.unit.0 h.entry.0 ≡ Some n) × IsTrue (fits h.size n)) × ArePlaced info hs

placed-append : (info : Info) (xs ys : List DebugInfoFixup) → ArePlaced info (xs ++ ys) → ArePlaced info xs × ArePlaced info ys
placed-append info [] ys h = (tt, h)
placed-append info (x ∷ xs) ys h = let rest = placed-append info xs ys h.1 in ((h.0, rest.0), rest.1)

placed-shifted : (info : Info) (n : ℕ) (hs : List DebugInfoFixup) → ArePlaced info (shifted n hs) → ArePlaced info hs
placed-shifted info n [] h = tt
placed-shifted info n (x ∷ hs) h = (h.0, placed-shifted info n hs h.1)

placed-then : (info : Info) (d f : Draft) → ArePlaced info (then_draft d f).holes → ArePlaced info d.holes × ArePlaced info f.holes
unfolding then_draft
placed-then info d f h = let parts = placed-append info d.holes (shifted d.size f.holes) h in (parts.0, placed-shifted info d.size f.holes parts.1)

abbrev IsThere : Text → Type 0
IsThere t = (xs : List ℕ) × (t ≡ Some xs)

followed_there : (t u : Text) → IsThere t → IsThere u → IsThere (followed t u)
unfolding followed
followed_there t u a b = (a.0 ++ b.0, ap (λ x. followed x u) a.1 ∙ ap (followed (Some a.0)) b.1)

not_false : (b : Bool) → IsFalse (not b) → IsTrue b
not_false true h = refl
not_false false h = absurd (let k : true ≡ false = h in cc)

-- a width that no cause names is one
width_known : (w : ℕ) → ((err : Error) → IsFalse (width_fails w err)) → IsTrue (is_width w)
width_known w sound = not_false (is_width w) (sym (ap (λ b. b && not (is_width w)) (eq-eqb w w refl)) ∙ sound (errors.UnsupportedWordSize w))

fitting : (wide fit : Bool) → IsTrue wide → IsFalse (wide && not fit) → IsTrue fit
fitting true true h k = refl
fitting true false h k = absurd (let x : true ≡ false = k in cc)
fitting false fit h k = absurd (let x : false ≡ true = h in cc)

module _ (big : Bool) (e : Encoding) (place : ℕ → Option ℕ) (info : Info) (l : Layout) where
  -- the text of a draft, once all places are known
  abbrev text_of : Draft → Text
  text_of d = d.text info big l

  then_there : (d f : Draft) → IsThere (text_of d) → IsThere (text_of f) → IsThere (text_of (then_draft d f))
  unfolding then_draft
  then_there d f a b = followed_there (text_of d) (text_of f) a b

  number_there : (w n : ℕ) → IsTrue (is_width w) → IsTrue (fits w n) → IsThere (num_text big w n)
  number_there w n wide fit = (num big w n, num-shown big w n wide fit)

  bytes_there : (xs : List ℕ) → IsThere (text_of (bytes xs))
  unfolding bytes_text
  bytes_there xs = (xs, refl)

  address_there : (w : ℕ) (a : TargetAddress) → ((err : Error) → IsFalse (address_fails w true a err)) → IsThere (address_text w a big l)
  unfolding address_text
  address_there w (addresses.Constant n) sound =
      let wide = width_known w (λ err. width_of err) in
      number_there w n wide (fitting (is_width w) (fits w n) wide (sound errors.ValueTooLarge))
    where
      width_of : (err : Error) → IsFalse (width_fails w err)
      width_of (errors.UnsupportedWordSize k) = sound (errors.UnsupportedWordSize k)
      width_of err = refl
  address_there w (addresses.Symbol s a) sound = absurd (let k : true ≡ false = sound errors.InvalidAddress in cc)

  place_there : (o : Option ℕ) → IsFalse (is_none o) → IsThere (text_of (place_draft o))
  place_there None h = absurd (let k : true ≡ false = h in cc)
  place_there (Some n) h = bytes_there (uleb n)

  word_there : (o : Option ℕ) → IsFalse (is_none o) → IsFalse (is_far o) → IsThere (o >>= num_text big 4)
  word_there None h k = absurd (let x : true ≡ false = h in cc)
  word_there (Some n) h k = number_there 4 n refl (not_false (fits 4 n) k)

  info_there : (w n : ℕ) (o : Option ℕ) → o ≡ Some n → IsTrue (is_width w) → IsTrue (fits w n) → IsThere (o >>= num_text big w)
  info_there w n o is wide fit = let there = number_there w n wide fit in (there.0, ap (λ x. let t : Text = x >>= num_text big w in t) is ∙ there.1)

  signed_there : (xs : List ℕ) (b : Bool) → IsTrue b → IsThere (when b (Some xs))
  signed_there xs true h = (xs, refl)
  signed_there xs false h = absurd (let k : false ≡ true = h in cc)

  distance_there : (starts : List ℕ) (to : ℕ) (target : Option ℕ) → IsFalse (is_unset starts target) → IsFalse (is_distant to (target_place starts target)) → IsThere (distance_text big starts to target)
  distance_there starts to None unset distant = absurd (let k : true ≡ false = unset in cc)
  distance_there starts to (Some k) unset distant = by (slice_get starts k) unset distant
    where
      by : (o : Option ℕ) → IsFalse (is_none o) → IsFalse (is_distant to o) → IsThere (o >>= λ at. when (signed_fits 2 (pos at -ℤ pos to)) (Some (signed_num big 2 (pos at -ℤ pos to))))
      by None h k = absurd (let x : true ≡ false = h in cc)
      by (Some at) h k = signed_there (signed_num big 2 (pos at -ℤ pos to)) (signed_fits 2 (pos at -ℤ pos to)) (not_false (signed_fits 2 (pos at -ℤ pos to)) k)

  operand_there : (starts : List ℕ) (to : ℕ) (o : Operand) → ((err : Error) → IsFalse (operand_fails e (Some place) true true starts to o err)) → ArePlaced info (operand_draft e place starts to o).holes →
      IsThere (text_of (operand_draft e place starts to o))
  operand_there starts to table.Nothing sound holes = ([], refl)
  operand_there starts to (table.Byte n) sound holes = bytes_there (n ∷ [])
  operand_there starts to (table.Bytes xs) sound holes = bytes_there xs
  operand_there starts to (table.Uleb n) sound holes = bytes_there (uleb n)
  operand_there starts to (table.Sleb z) sound holes = bytes_there _
  operand_there starts to (table.Count n) sound holes = number_there 1 n refl (not_false (fits 1 n) (sound errors.ValueTooLarge))
  operand_there starts to (table.Target a) sound holes = address_there e.address_size a sound
  operand_there starts to (table.Base i) sound holes = place_there (place i.0) (sound errors.UnsupportedExpressionForwardReference)
  operand_there starts to (table.Place i) sound holes = word_there (place i.0) (sound errors.UnsupportedExpressionForwardReference) (sound errors.ValueTooLarge)
  operand_there starts to (table.Info w (refs.Symbol s)) sound holes = absurd (let k : true ≡ false = sound errors.InvalidReference in cc)
  operand_there starts to (table.Info w (refs.Entry u i)) sound holes =
      info_there w holes.0.0 (info u.0 i.0) holes.0.1 (width_known w width_of) holes.0.2
    where
      width_of : (err : Error) → IsFalse (width_fails w err)
      width_of (errors.UnsupportedWordSize k) = sound (errors.UnsupportedWordSize k)
      width_of err = refl
  operand_there starts to (table.Distance target) sound holes = distance_there starts to target (sound errors.UnsetBranchTarget) (sound errors.ValueTooLarge)

  operands_there : (starts : List ℕ) (to : ℕ) (os : List Operand) → ((err : Error) → IsFalse (operands_fail e (Some place) true true starts to os err)) → ArePlaced info (operands_draft e place starts to os).holes →
      IsThere (text_of (operands_draft e place starts to os))
  operands_there starts to [] sound holes = ([], refl)
  operands_there starts to (o ∷ os) sound holes =
      let d = operand_draft e place starts to o in
      let f = operands_draft e place starts to os in
      let parts = λ (err : Error). or_parts (operand_fails e (Some place) true true starts to o err) (operands_fail e (Some place) true true starts to os err) (sound err) in
      let both = placed-then info d f holes in
      then_there d f (operand_there starts to o (λ err. (parts err).0) both.0) (operands_there starts to os (λ err. (parts err).1) both.1)

  mutual
    node_there : (n : Node) (starts : List ℕ) (to : ℕ) → ((err : Error) → IsFalse (node_fails e (Some place) true true starts to n err)) → ArePlaced info ((node_part e place n).draft starts to).holes →
        IsThere (text_of ((node_part e place n).draft starts to))
    node_there (plain p) starts to sound holes = operands_there starts to (operands e p) sound holes
    node_there (entry_value x) starts to sound holes =
        let ps = tree_parts e place x in
        let inner = expression ps in
        let behind = placed-then info (bytes (entry_value_code e ∷ [])) (nested ps) holes in
        let own = placed-then info (bytes (uleb (parts_size ps))) inner behind.1 in
        let parts = λ (err : Error). or_parts (tree_size_fails e (Some place) x err) (tree_fails e (Some place) true true (starts_from 0 ps) 0 x err) (sound err) in
        then_there (bytes (entry_value_code e ∷ [])) (nested ps) (bytes_there (entry_value_code e ∷ []))
        (then_there (bytes (uleb (parts_size ps))) inner (bytes_there (uleb (parts_size ps))) (tree_there x (starts_from 0 ps) 0 (λ err. (parts err).1) own.1))

    tree_there : (x : Tree) (starts : List ℕ) (at : ℕ) → ((err : Error) → IsFalse (tree_fails e (Some place) true true starts at x err)) → ArePlaced info (parts_draft starts at (tree_parts e place x)).holes →
        IsThere (text_of (parts_draft starts at (tree_parts e place x)))
    tree_there nothing starts at sound holes = ([], refl)
    tree_there (before n x) starts at sound holes =
        let p = node_part e place n in
        let to = at + p.size in
        let d = p.draft starts to in
        let f = parts_draft starts to (tree_parts e place x) in
        let parts = λ (err : Error). or_parts (node_fails e (Some place) true true starts to n err) (tree_fails e (Some place) true true starts to x err) (sound err) in
        let both = placed-then info d f holes in
        then_there d f (node_there n starts to (λ err. (parts err).0) both.0) (tree_there x starts to (λ err. (parts err).1) both.1)

  nodes_there : (ns : List Node) (starts : List ℕ) (at : ℕ) → ((err : Error) → IsFalse (nodes_fail e (Some place) true true starts at ns err)) → ArePlaced info (parts_draft starts at (parts_of e place ns)).holes →
      IsThere (text_of (parts_draft starts at (parts_of e place ns)))
  nodes_there [] starts at sound holes = ([], refl)
  nodes_there (n ∷ ns) starts at sound holes =
      let p = node_part e place n in
      let to = at + p.size in
      let d = p.draft starts to in
      let f = parts_draft starts to (parts_of e place ns) in
      let parts = λ (err : Error). or_parts (node_fails e (Some place) true true starts to n err) (nodes_fail e (Some place) true true starts to ns err) (sound err) in
      let both = placed-then info d f holes in
      then_there d f (node_there n starts to (λ err. (parts err).0) both.0) (nodes_there ns starts to (λ err. (parts err).1) both.1)

  pub expression_there : (ns : List Node) → ((err : Error) → IsFalse (expression_fails e (Some place) true true ns err)) → ArePlaced info (expression_draft e place ns).holes →
      (xs : List ℕ) × ((expression_draft e place ns).text info big l ≡ Some xs)
  expression_there ns sound holes =
      let ps = parts_of e place ns in
      let parts = λ (err : Error). or_parts (size_fails e (Some place) ns err) (nodes_fail e (Some place) true true (starts_from 0 ps) 0 ns err) (sound err) in
      nodes_there ns (starts_from 0 ps) 0 (λ err. (parts err).1) holes
