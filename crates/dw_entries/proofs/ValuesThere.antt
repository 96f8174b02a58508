-- Values without a fault have a text where every section starts at 0.
use Rattle.std.specs.Prelude.{◌≡◌, ℕ, ◌+◌, ◌^◌, Bool, true, false, not, nat_le, List, [], ◌∷◌, length, Option, Some, None, is_none, refl, IsTrue, IsFalse}
use Rattle.std.proofs.Common.{◌∙◌, ap, arith}
use Rattle.std.proofs.lemmas.Bool.{not_from_false, or_parts}
use Rattle.std.proofs.lemmas.Bool.Decides.{nat_tests}
use Rattle.dw_base.specs.Numbers.{◌>>=◌, when, fits, word_of}
use Rattle.dw_base.specs.Forms.{Operand, Absent, Number, Signed, Bytes, Text, kind_of, info_place_of}
use Rattle.dw_base.specs.Spelling.{operand_bytes}
use Rattle.dw_base.specs.declared.address.Address.{Address as TargetAddress}
use Rattle.dw_base.specs.declared.address.Address.TheVariants as addresses
use Rattle.dw_base.specs.declared.address.DebugInfoRef.TheVariants as refs
use Rattle.dw_base.specs.declared.common.Encoding.{Encoding}
use Rattle.dw_base.specs.declared.error.Error.{Error}
use Rattle.dw_base.specs.declared.error.Error.TheVariants as errors
use Rattle.dw_base.specs.declared.section_id.SectionId.{SectionId}
use Rattle.dw_base.proofs.NumberLaws.{bind_is}
use Rattle.dw_writer.specs.Layout.{Layout, start_of}
use Rattle.dw_writer.specs.Drafts.{Info, shifted}
use Rattle.dw_writer.specs.declared.fixup.DebugInfoFixup.{DebugInfoFixup}
use Rattle.dw_expr.specs.Trees.{Node}
use Rattle.dw_expr.specs.Spelling.{starts_from, parts_of, expression_draft, expression_size}
use Rattle.dw_expr.specs.Causes.{nodes_unplaced, nodes_fail, expression_fails}
use Rattle.dw_expr.proofs.ExpressionDrafts.{expression-wide}
use Rattle.dw_expr.proofs.ExpressionsThere.{ArePlaced, expression_there}
use Rattle.dw_entries.specs.Content.{Content, Nothing, Plain, Wide, Leb, SignedLeb, Block, Expression, Closed, Target, Offset, InTable, TableIndex, OwnPart, File, EntryPlace, InfoPlace, number_in, bytes_in, has_zero, address_in, address_fails, table_fails, own_fails, content_operand, content_holes, content_fails}
use Rattle.dw_entries.specs.Targets.{Targets, UnitTargets, targets_in, HaveInfoPlaces}
use Rattle.dw_entries.specs.Values.{form_of, content_of, operand_of, operand_holes, value_text, value_fails}
use Rattle.dw_entries.specs.declared.value.AttributeValue.{AttributeValue}

abbrev IsOperand : Option Operand → Type 0
IsOperand x = (o : Operand) × (x ≡ Some o)

-- no section's part starts later
abbrev pub StartsAtZero : Layout → Type 0
StartsAtZero l = (s : SectionId) → start_of l s ≡ 0

-- an operand that stands where a test holds
when_there : (b : Bool) (o : Operand) → IsTrue b → IsOperand (when b (Some o))
when_there b o h = (o, ap (λ x. when x (Some o)) h)

not_false : (b : Bool) → IsFalse (not b) → IsTrue b
not_false true h = refl
not_false false h = absurd (let k : true ≡ false = h in cc)

-- a number that is there and fits
number_there : (w : ℕ) (x : Option ℕ) → IsFalse (is_none x) → ((n : ℕ) → x ≡ Some n → IsTrue (fits w n)) → IsOperand (x >>= number_in w)
number_there w None h fit = absurd (let k : true ≡ false = h in cc)
number_there w (Some n) h fit = when_there (fits w n) (Number n) (fit n refl)

-- an address that a plain writer takes
address_there : (w : ℕ) (t : Targets) (a : TargetAddress) → ((err : Error) → IsFalse (address_fails w true a err)) → IsOperand (address_in t a >>= number_in w)
address_there w t (addresses.Constant n) sound = when_there (fits w n) (Number n) (not_false (fits w n) (sound errors.ValueTooLarge))
address_there w t (addresses.Symbol s a) sound = absurd (let k : true ≡ false = sound errors.InvalidAddress in cc)

-- an offset that a plain writer takes
offset_there : (w n start : ℕ) → start ≡ 0 → IsFalse (not (fits w n)) → IsOperand (number_in w (n + start))
offset_there w n start zero h =
    let same : n + start ≡ n = omega (arith, zero) in
    when_there (fits w (n + start)) (Number (n + start)) (ap (fits w) same ∙ not_false (fits w n) h)

-- a place that is there and fits
place_there : (w : ℕ) (x : Option ℕ) (n : ℕ) → x ≡ Some n → IsTrue (fits w n) → IsOperand (x >>= number_in w)
place_there w x n is fit = let o = when_there (fits w n) (Number n) fit in (o.0, ap (λ y. y >>= number_in w) is ∙ o.1)

-- what a table has there
table_there : (w start : ℕ) (i : Option ℕ) → start ≡ 0 → ((err : Error) → IsFalse (table_fails w true i err)) → IsOperand (i >>= λ n. number_in w (n + start))
table_there w start None zero sound = absurd (let k : true ≡ false = sound errors.InvalidReference in cc)
table_there w start (Some n) zero sound = offset_there w n start zero (sound errors.ValueTooLarge)

-- the index of what a table has
index_there : (i : Option ℕ) (o : Operand) → IsFalse (is_none i) → IsOperand (i >>= λ n. Some o)
index_there None o h = absurd (let k : true ≡ false = h in cc)
index_there (Some n) o h = (o, refl)

-- the unit's own part
own_there : (w start : ℕ) (i : Option ℕ) → start ≡ 0 → ((err : Error) → IsFalse (own_fails w true i err)) → IsOperand (i >>= λ n. number_in w (n + start))
own_there w start None zero sound = absurd (let k : true ≡ false = sound errors.InvalidAttributeValue in cc)
own_there w start (Some n) zero sound = offset_there w n start zero (sound errors.ValueTooLarge)

-- an expression's open places
placed : (info : Info) (n : ℕ) (hs : List DebugInfoFixup) → HaveInfoPlaces info (shifted n hs) → ArePlaced info hs
placed info n [] h = tt
placed info n (x ∷ hs) h = ((h.0.place, h.0.is, h.0.fits), placed info n hs h.1)

-- bytes whose number fits
counted_there : (xs : List ℕ) (n : ℕ) → length xs ≡ n → IsFalse (nat_le (2 ^ 64) n) → IsOperand (bytes_in xs)
counted_there xs n same short =
    let fit : IsTrue (fits 8 (length xs)) = grind (arith, nat_tests, same, short) in
    when_there (fits 8 (length xs)) (Bytes xs) fit

-- what is written without a fault is there
module _ (big : Bool) (e : Encoding) (u : UnitTargets) (l : Layout) (info : Info) where
  expression_operand : (ns : List Node) → ArePlaced info (expression_draft e u.place ns).holes → ((err : Error) → IsFalse (expression_fails e (Some u.place) true true ns err)) →
      IsOperand ((expression_draft e u.place ns).text info big l >>= bytes_in)
  expression_operand ns holes sound =
      let there = expression_there big e u.place info l ns sound holes in
      let long = expression-wide e u.place ns info big l there.0 there.1 in
      let size = (or_parts _ (nodes_fail e (Some u.place) true true (starts_from 0 (parts_of e u.place ns)) 0 ns errors.ValueTooLarge) (sound errors.ValueTooLarge)).0 in
      let short = (or_parts (nat_le (2 ^ 64) (expression_size e u.place ns)) (nodes_unplaced e (Some u.place) ns errors.ValueTooLarge) size).0 in
      let o = counted_there there.0 (expression_size e u.place ns) long short in
      (o.0, bind_is ((expression_draft e u.place ns).text info big l) there.0 bytes_in there.1 ∙ o.1)

  content_there : (c : Content) → StartsAtZero l → HaveInfoPlaces info (content_holes e u.place c) →
      ((i n : ℕ) → u.place i ≡ Some n → IsTrue (fits (word_of e.format) n)) → ((err : Error) → IsFalse (content_fails e u true c err)) → IsOperand (content_operand big e (targets_in u l info) c)
  content_there Nothing zero holes fit sound = (Absent, refl)
  content_there (Plain w n) zero holes fit sound = when_there (fits w n) (Number n) (not_false (fits w n) (sound errors.ValueTooLarge))
  content_there (Wide n) zero holes fit sound = (Number n, refl)
  content_there (Leb n) zero holes fit sound = (Number n, refl)
  content_there (SignedLeb z) zero holes fit sound = (Signed z, refl)
  content_there (Block xs) zero holes fit sound = (Bytes xs, refl)
  content_there (Expression ns) zero holes fit sound = expression_operand ns (placed info _ _ holes) sound
  content_there (Closed s) zero holes fit sound = when_there (not (has_zero s)) (Text s) (not_from_false (has_zero s) (sound errors.InvalidAttributeValue))
  content_there (Target a) zero holes fit sound = address_there e.address_size (targets_in u l info) a sound
  content_there (Offset section n) zero holes fit sound = offset_there (word_of e.format) n (start_of l section) (zero section) (sound errors.ValueTooLarge)
  content_there (InTable section i) zero holes fit sound = table_there (word_of e.format) (start_of l section) (u.tables.part section i) (zero section) sound
  content_there (TableIndex section i) zero holes fit sound = index_there (u.tables.part section i) (Number i) (sound errors.InvalidReference)
  content_there (OwnPart section) zero holes fit sound = own_there (word_of e.format) (start_of l section) (u.tables.own section) (zero section) sound
  content_there (File n) zero holes fit sound = when_there (fits 8 n) (Number n) (not_false (fits 8 n) (sound errors.ValueTooLarge))
  content_there (EntryPlace i) zero holes fit sound = number_there (word_of e.format) (u.place i) (sound errors.InvalidReference) (fit i)
  content_there (InfoPlace (refs.Symbol s)) zero holes fit sound = absurd (let k : true ≡ false = sound errors.InvalidReference in cc)
  content_there (InfoPlace (refs.Entry w i)) zero holes fit sound = place_there (info_place_of e) (info w.0 i.0) holes.0.place holes.0.is holes.0.fits

module _ (big : Bool) (e : Encoding) (u : UnitTargets) (l : Layout) (info : Info) where
  -- the text of a value without a fault is there
  pub value_there : (v : AttributeValue) → StartsAtZero l → HaveInfoPlaces info (operand_holes e u.place v) →
      ((i n : ℕ) → u.place i ≡ Some n → IsTrue (fits (word_of e.format) n)) → ((err : Error) → IsFalse (value_fails e u true v err)) →
      (xs : List ℕ) × (value_text big e (targets_in u l info) v ≡ Some xs)
  value_there v zero holes fit sound =
      let bytes : Operand → List ℕ = operand_bytes big (kind_of e (form_of e v)) in
      let o = content_there big e u l info (content_of e v) zero holes fit sound in
      (bytes o.0, bind_is (operand_of big e (targets_in u l info) v) o.0 (λ x. Some (bytes x)) o.1)
