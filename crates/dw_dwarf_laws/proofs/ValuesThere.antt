-- A value without a fault for a plain writer, with all places counted from the begins of the sections, has a text where its unit's
-- parts start.
use Rattle.std.specs.Prelude.{◌≡◌, ℕ, ◌+◌, ◌^◌, ◌==◌, Bool, true, false, nat_le, List, [], ◌∷◌, length, Option, Some, None, refl, IsTrue, IsFalse, if◌then◌else◌}
use Rattle.std.proofs.Common.{sym, ◌∙◌, ap, subst, arith}
use Rattle.std.proofs.lemmas.Bool.{or_parts}
use Rattle.std.proofs.lemmas.Bool.Decides.{nat_tests}
use Rattle.dw_base.specs.Numbers.{◌>>=◌, when, fits, word_of}
use Rattle.dw_base.specs.Forms.{Operand, Absent, Number, Signed, Bytes, kind_of}
use Rattle.dw_base.specs.Spelling.{operand_bytes}
use Rattle.dw_base.specs.declared.address.Address.TheVariants as addresses
use Rattle.dw_base.specs.declared.common.Encoding.{Encoding}
use Rattle.dw_base.specs.declared.error.Error.{Error}
use Rattle.dw_base.specs.declared.error.Error.TheVariants as errors
use Rattle.dw_base.specs.declared.section_id.SectionId.{SectionId}
use Rattle.dw_base.specs.declared.section_id.SectionId.TheVariants.{DebugStr, DebugLineStr, DebugLine, DebugRanges, DebugRngLists, DebugLoc, DebugLocLists}
use Rattle.dw_base.proofs.NumberLaws.{bind_is}
use Rattle.dw_writer.specs.Drafts.{Info, shifted}
use Rattle.dw_writer.specs.Layout.{Layout, start_of}
use Rattle.dw_writer.specs.declared.fixup.DebugInfoFixup.{DebugInfoFixup}
use Rattle.dw_expr.specs.Trees.{Node}
use Rattle.dw_expr.specs.Spelling.{starts_from, parts_of, expression_draft, expression_size}
use Rattle.dw_expr.specs.Causes.{nodes_unplaced, nodes_fail, expression_fails}
use Rattle.dw_expr.proofs.ExpressionDrafts.{expression-wide}
use Rattle.dw_expr.proofs.ExpressionsThere.{ArePlaced, expression_there}
use Rattle.dw_strings.specs.Strings.{string_place}
use Rattle.dw_entries.specs.Content.{Nothing, Plain, SignedLeb, InTable, TableIndex, number_in, bytes_in, table_fails, own_fails, reference_fails, content_operand, content_fails}
use Rattle.dw_entries.specs.Targets.{Tables, Targets, UnitTargets, targets_in, HaveInfoPlaces}
use Rattle.dw_entries.specs.Values.{form_of, operand_holes, value_text, value_fails}
use Rattle.dw_entries.specs.declared.value.AttributeValue.{AttributeValue}
use Rattle.dw_entries.specs.declared.value.AttributeValue.TheVariants as values
use Rattle.dw_entries.proofs.ValuesThere.{value_there}
use Rattle.dw_dwarf_laws.specs.LineStrings.{place_fits}
use Rattle.dw_dwarf_laws.specs.Starts.{StartsAt}
use Rattle.dw_dwarf_laws.specs.Values.{value_fits, is_macro}
use Rattle.dw_dwarf_laws.proofs.Moved.{IsMoved, moved}
use Rattle.dw_dwarf_laws.proofs.There.{IsThere, not_false}

abbrev IsOperand : Option Operand → Type 0
IsOperand x = (o : Operand) × (x ≡ Some o)

-- an operand that is there has a text
spelled_there : (spell : Operand → List ℕ) (x : Option Operand) → IsOperand x → IsThere (x >>= λ o. Some (spell o))
spelled_there spell x o = (spell o.0, bind_is x o.0 (λ y. Some (spell y)) o.1)

-- an operand that stands where a test holds
when_there : (b : Bool) (o : Operand) → IsTrue b → IsOperand (when b (Some o))
when_there b o h = (o, ap (λ x. when x (Some o)) h)

true_not_false : {A : Type 0} → true ≡ false → A
true_not_false e = absurd (let k : true ≡ false = e in cc)

-- a place whose field has room, counted from the section's begin
place_there : (w n start : ℕ) (o : Option ℕ) → o ≡ Some n → IsTrue (fits w (n + start)) → IsOperand (o >>= λ m. number_in w (m + start))
place_there w n start o is fit =
    let x = when_there (fits w (n + start)) (Number (n + start)) fit in
    (x.0, ap (λ y. y >>= λ m. number_in w (m + start)) is ∙ x.1)

-- what a table has, and what a unit has of its own: their places are moved to where the parts start
table_there : (w start : ℕ) (place joined : Option ℕ) → joined ≡ moved start place → ((err : Error) → IsFalse (table_fails w true joined err)) → IsOperand (place >>= λ n. number_in w (n + start))
table_there w start None joined is sound = true_not_false (let k : IsFalse (table_fails w true None errors.InvalidReference) = subst (λ o. IsFalse (table_fails w true o errors.InvalidReference)) is (sound errors.InvalidReference) in k)
table_there w start (Some n) joined is sound =
    place_there w n start (Some n) refl (not_false (fits w (n + start)) (subst (λ o. IsFalse (table_fails w true o errors.ValueTooLarge)) is (sound errors.ValueTooLarge)))

own_there : (w start : ℕ) (place joined : Option ℕ) → joined ≡ moved start place → ((err : Error) → IsFalse (own_fails w true joined err)) → IsOperand (place >>= λ n. number_in w (n + start))
own_there w start None joined is sound = true_not_false (subst (λ o. IsFalse (own_fails w true o errors.InvalidAttributeValue)) is (sound errors.InvalidAttributeValue))
own_there w start (Some n) joined is sound =
    place_there w n start (Some n) refl (not_false (fits w (n + start)) (subst (λ o. IsFalse (own_fails w true o errors.ValueTooLarge)) is (sound errors.ValueTooLarge)))

-- the index of what a table has
index_there : (i start : ℕ) (place joined : Option ℕ) → joined ≡ moved start place → ((err : Error) → IsFalse (reference_fails joined err)) → IsOperand (place >>= λ n. Some (Number i))
index_there i start None joined is sound = true_not_false (subst (λ o. IsFalse (reference_fails o errors.InvalidReference)) is (sound errors.InvalidReference))
index_there i start (Some n) joined is sound = (Number i, refl)

-- a string, whose place is told beside its table
string_there : (w start : ℕ) (strings : List (List ℕ)) (i : ℕ) (place joined : Option ℕ) → joined ≡ place → ((n : ℕ) → place ≡ Some n → n ≡ string_place strings i) → IsTrue (place_fits start w strings i) →
    ((err : Error) → IsFalse (table_fails w true joined err)) → IsOperand (place >>= λ n. number_in w (n + start))
string_there w start strings i None joined is at fit sound = true_not_false (subst (λ o. IsFalse (table_fails w true o errors.InvalidReference)) is (sound errors.InvalidReference))
string_there w start strings i (Some n) joined is at fit sound = place_there w n start (Some n) refl (subst (λ m. IsTrue (fits w (m + start))) (sym (at n refl)) fit)

-- an expression's open places
placed : (info : Info) (n : ℕ) (hs : List DebugInfoFixup) → HaveInfoPlaces info (shifted n hs) → ArePlaced info hs
placed info n [] h = tt
placed info n (x ∷ hs) h = ((h.0.place, h.0.is, h.0.fits), placed info n hs h.1)

-- bytes whose number fits
counted_there : (xs : List ℕ) (n : ℕ) → length xs ≡ n → IsFalse (nat_le (2 ^ 64) n) → IsOperand (bytes_in xs)
counted_there xs n same short =
    let fit : IsTrue (fits 8 (length xs)) = grind (arith, nat_tests, same, short) in
    when_there (fits 8 (length xs)) (Bytes xs) fit

module _ (starts : SectionId → ℕ) (strings line_strings : List (List ℕ)) (big : Bool) (e : Encoding) (u : UnitTargets) (joined : Tables) (l : Layout) (info : Info)
    (at : StartsAt starts l) (move : IsMoved starts strings line_strings e u.tables joined) where
  abbrev behind : UnitTargets
  behind = record u { tables = joined }

  abbrev here : Targets
  here = targets_in u l info

  abbrev word : ℕ
  word = word_of e.format

  expression_operand : (ns : List Node) → ArePlaced info (expression_draft e u.place ns).holes → ((err : Error) → IsFalse (expression_fails e (Some u.place) true true ns err)) →
      IsOperand ((expression_draft e u.place ns).text info big l >>= bytes_in)
  expression_operand ns holes sound =
      let there = expression_there big e u.place info l ns sound holes in
      let long = expression-wide e u.place ns info big l there.0 there.1 in
      let size = (or_parts _ (nodes_fail e (Some u.place) true true (starts_from 0 (parts_of e u.place ns)) 0 ns errors.ValueTooLarge) (sound errors.ValueTooLarge)).0 in
      let short = (or_parts (nat_le (2 ^ 64) (expression_size e u.place ns)) (nodes_unplaced e (Some u.place) ns errors.ValueTooLarge) size).0 in
      let o = counted_there there.0 (expression_size e u.place ns) long short in
      (o.0, bind_is ((expression_draft e u.place ns).text info big l) there.0 bytes_in there.1 ∙ o.1)

  -- an operand where a section starts
  at_start : (w start other : ℕ) (o : Option ℕ) → start ≡ other → IsOperand (o >>= λ n. number_in w (n + other)) → IsOperand (o >>= λ n. number_in w (n + start))
  at_start w start other o same h = subst (λ s. IsOperand (o >>= λ n. number_in w (n + s))) (sym same) h

  -- a list, by its index in version 5 and by its place before it
  list_there : (five : Bool) (new old : SectionId) (i : ℕ) → start_of l old ≡ starts old →
      (five ≡ true → joined.part new i ≡ moved (starts new) (u.tables.part new i)) → (five ≡ false → joined.part old i ≡ moved (starts old) (u.tables.part old i)) →
      ((err : Error) → IsFalse (content_fails e behind true (if five then TableIndex new i else InTable old i) err)) → IsOperand (content_operand big e here (if five then TableIndex new i else InTable old i))
  list_there true new old i start by_index by_place sound = index_there i (starts new) (u.tables.part new i) (joined.part new i) (by_index refl) sound
  list_there false new old i start by_index by_place sound =
      at_start word (start_of l old) (starts old) (u.tables.part old i) start (table_there word (starts old) (u.tables.part old i) (joined.part old i) (by_place refl) sound)

  present_there : (b : Bool) → IsOperand (content_operand big e here (if b then Nothing else Plain 1 1))
  present_there true = (Absent, refl)
  present_there false = (Number 1, refl)

  abbrev spell : AttributeValue → Operand → List ℕ
  spell v o = operand_bytes big (kind_of e (form_of e v)) o

  -- the text of a value that is no place of a macro
  pub value_joined : (v : AttributeValue) → HaveInfoPlaces info (operand_holes e u.place v) → ((i n : ℕ) → u.place i ≡ Some n → IsTrue (fits word n)) →
      ((err : Error) → IsFalse (value_fails e behind true v err)) → IsTrue (value_fits starts strings line_strings word v) → IsFalse (is_macro v) → IsThere (value_text big e here v)
  value_joined (values.Address (addresses.Constant n)) holes places sound fit none =
      spelled_there (spell (values.Address (addresses.Constant n))) _ (when_there (fits e.address_size n) (Number n) (not_false (fits e.address_size n) (sound errors.ValueTooLarge)))
  value_joined (values.Address (addresses.Symbol s a)) holes places sound fit none = true_not_false (sound errors.InvalidAddress)
  value_joined (values.Exprloc x) holes places sound fit none = spelled_there (spell (values.Exprloc x)) _ (expression_operand x (placed info _ _ holes) sound)
  value_joined (values.StringRef i) holes places sound fit none =
      spelled_there (spell (values.StringRef i)) _
      (at_start word (start_of l DebugStr) (starts DebugStr) (u.tables.part DebugStr i.0) at.strings
      (string_there word (starts DebugStr) strings i.0 (u.tables.part DebugStr i.0) (joined.part DebugStr i.0) (move.same_strings i.0) (move.string_places i.0) fit sound))
  value_joined (values.LineStringRef i) holes places sound fit none =
      spelled_there (spell (values.LineStringRef i)) _
      (at_start word (start_of l DebugLineStr) (starts DebugLineStr) (u.tables.part DebugLineStr i.0) at.line_strings
      (string_there word (starts DebugLineStr) line_strings i.0 (u.tables.part DebugLineStr i.0) (joined.part DebugLineStr i.0) (move.same_line_strings i.0) (move.line_string_places i.0) fit sound))
  value_joined values.LineProgramRef holes places sound fit none =
      spelled_there (spell values.LineProgramRef) _
      (at_start word (start_of l DebugLine) (starts DebugLine) (u.tables.own DebugLine) at.lines (own_there word (starts DebugLine) (u.tables.own DebugLine) (joined.own DebugLine) move.line_program sound))
  value_joined values.RangeListsBase holes places sound fit none =
      spelled_there (spell values.RangeListsBase) _
      (at_start word (start_of l DebugRngLists) (starts DebugRngLists) (u.tables.own DebugRngLists) at.range_lists (own_there word (starts DebugRngLists) (u.tables.own DebugRngLists) (joined.own DebugRngLists) move.range_base sound))
  value_joined values.LocationListsBase holes places sound fit none =
      spelled_there (spell values.LocationListsBase) _
      (at_start word (start_of l DebugLocLists) (starts DebugLocLists) (u.tables.own DebugLocLists) at.location_lists
      (own_there word (starts DebugLocLists) (u.tables.own DebugLocLists) (joined.own DebugLocLists) move.location_base sound))
  value_joined (values.RangeListRef i) holes places sound fit none =
      spelled_there (spell (values.RangeListRef i)) _ (list_there (e.version == 5) DebugRngLists DebugRanges i.0 at.ranges (λ h. move.range_lists h i.0) (λ h. move.ranges h i.0) sound)
  value_joined (values.LocationListRef i) holes places sound fit none =
      spelled_there (spell (values.LocationListRef i)) _ (list_there (e.version == 5) DebugLocLists DebugLoc i.0 at.locations (λ h. move.location_lists h i.0) (λ h. move.locations h i.0) sound)
  value_joined (values.ImplicitConst z) holes places sound fit none = spelled_there (spell (values.ImplicitConst z)) _ (by (e.version == 5))
    where
      by : (b : Bool) → IsOperand (content_operand big e here (if b then Nothing else SignedLeb z))
      by true = (Absent, refl)
      by false = (Signed z, refl)
  value_joined values.FlagPresent holes places sound fit none = spelled_there (spell values.FlagPresent) _ (present_there (nat_le 4 e.version))
  value_joined (values.DebugMacinfoRef n) holes places sound fit none = true_not_false none
  value_joined (values.DebugMacroRef n) holes places sound fit none = true_not_false none
  value_joined v holes places sound fit none =
      value_there big e behind (record { starts = []; own_start = 0; symbols = [] }) info v (λ s. refl) holes places sound
