-- Over a plain writer a table of lists without a fault has a text, once its references have places: each of its numbers fits.
use Rattle.std.specs.Prelude.{◌≡◌, ℕ, ◌+◌, ◌*◌, ◌^◌, ◌<◌, Bool, true, false, not, ◌&&◌, ◌||◌, ◌==◌, List, [], ◌∷◌, ◌++◌, length, map, Option, Some, None, refl, IsTrue, IsFalse}
use Rattle.std.proofs.Common.{sym, ◌∙◌, ap, subst, arith, true≢false}
use Rattle.std.proofs.Math.Nat.{one-le-pow}
use Rattle.std.proofs.lemmas.Bool.{leb-false, lt-ltb, eq-eqb}
use Rattle.dw_base.specs.Numbers.{◌>>=◌, when, num, is_width, fits, word_of, escape_of, length_fits}
use Rattle.dw_base.specs.Leb128.{uleb}
use Rattle.dw_base.specs.declared.common.Encoding.{Encoding}
use Rattle.dw_base.specs.declared.common.Format.{Format}
use Rattle.dw_base.specs.declared.error.Error.TheVariants as errors
use Rattle.dw_base.specs.declared.address.Address.TheVariants.{Constant, Symbol}
use Rattle.dw_base.specs.declared.constants.TheConstants.{DW_LLE_default_location}
use Rattle.dw_base.proofs.NumberLaws.{pow_of_bytes}
use Rattle.dw_writer.specs.Texts.{Text, num_text, followed}
use Rattle.dw_writer.specs.Meaning.{Layout}
use Rattle.dw_writer.specs.SectionTexts.{bytes_text}
use Rattle.dw_writer.specs.Drafts.{Info, Draft, no_draft, then_draft, shifted}
use Rattle.dw_writer.specs.declared.fixup.DebugInfoFixup.{DebugInfoFixup}
use Rattle.dw_writer.proofs.Laws.{followed-somes}
use Rattle.dw_writer.proofs.Plain.{num-shown}
use Rattle.dw_expr.specs.Trees.{Node}
use Rattle.dw_expr.specs.Places.{place_by}
use Rattle.dw_expr.specs.Spelling.{expression_size, expression_draft}
use Rattle.dw_expr.specs.Causes.{expression_fails}
use Rattle.dw_expr.proofs.ExpressionsThere.{ArePlaced, expression_there}
use Rattle.dw_lists.specs.declared.kinds.Kinds.{Kinds}
use Rattle.dw_lists.specs.declared.range.Range.{Range}
use Rattle.dw_lists.specs.declared.range.Range.TheVariants as built
use Rattle.dw_lists.specs.declared.location.Location.{Location}
use Rattle.dw_lists.specs.Kinds.{kinds_of}
use Rattle.dw_lists.specs.Parts.{Part, range_part, location_part}
use Rattle.dw_lists.specs.Items.{marker, is_five}
use Rattle.dw_lists.specs.Pieces.{length_draft, fields_draft, word_draft, words_draft}
use Rattle.dw_lists.specs.Texts.{plus, span_in, span_text, span_draft, close_draft, count_draft, located, part_draft, parts_draft, list_draft, lists_draft}
use Rattle.dw_lists.specs.Tables.{entries_of, body_draft, new_table, table_by, table_draft, ranges_in, locations_in, no_place}
use Rattle.dw_lists.specs.Causes.{IsNone, width_fails, number_fails, address_fails, end_fails, form_fails, numbers_fail, old_span_fails, new_fails, new_span_fails, count_of_fails, located_fails, old_fails, new_part_fails, old_list_fails, new_list_fails, list_fails, lists_fail, count_fails, size_fails, length_fails, words_fail, header_fails, version_fails, table_fails_by, table_fails, is_base}
use Rattle.dw_lists.proofs.Causes.{first_none, second_none}

-- a text that is there
abbrev IsText : Text → Type 0
IsText t = (bytes : List ℕ) × (t ≡ Some bytes)

both_texts : (a b : Text) → IsText a → IsText b → IsText (followed a b)
both_texts a b p q = (p.0 ++ q.0, ap (λ t. followed t b) p.1 ∙ ap (followed (Some p.0)) q.1 ∙ followed-somes p.0 q.0)

-- Numbers

-- of two tests that refuse, the second is met where the first is
not_refused : (a b : Bool) → IsTrue a → IsFalse (a && not b) → IsTrue b
not_refused true true h k = refl
not_refused true false h k = absurd (true≢false k)
not_refused false b h k = absurd (true≢false (sym h))

abbrev Fits : ℕ → ℕ → Type 0
Fits w n = IsTrue (is_width w) × IsTrue (fits w n)

is_wide : (w : ℕ) → IsNone (width_fails w) → IsTrue (is_width w)
is_wide w h = not_refused (w == w) (is_width w) (eq-eqb w w refl) (h (errors.UnsupportedWordSize w))

number_fits : (w n : ℕ) → IsNone (number_fails w n) → Fits w n
number_fits w n h =
    let wide = not_refused (w == w) (is_width w) (eq-eqb w w refl) (h (errors.UnsupportedWordSize w)) in
    (wide, not_refused (is_width w) (fits w n) wide (h errors.ValueTooLarge))

number_text : (big : Bool) (w n : ℕ) → Fits w n → IsText (num_text big w n)
number_text big w n h = (num big w n, num-shown big w n h.0 h.1)

two_numbers : (big : Bool) (w m n : ℕ) → Fits w m → Fits w n → IsText (followed (num_text big w m) (num_text big w n))
two_numbers big w m n h k = both_texts (num_text big w m) (num_text big w n) (number_text big w m h) (number_text big w n k)

marker_fits : (w : ℕ) → IsTrue (fits w (marker w))
marker_fits w = lt-ltb _ _ (subst (λ n. marker w < n) (sym (pow_of_bytes w)) (omega (arith, one-le-pow w 256 (omega arith))))

zero_fits : (w : ℕ) → IsTrue (fits w 0)
zero_fits w = lt-ltb _ _ (omega (arith, one-le-pow (8 * w) 2 (omega arith)))

-- Addresses, none of which is a symbol

new_there : (k : Kinds) (w : ℕ) (r : Range) → IsNone (new_fails true w r) → (big : Bool) (l : Layout) → IsText (span_in true l (Some r) >>= span_text true k big w)
new_there k w (built.BaseAddress (Constant n)) h big l = both_texts (Some (k.base_address ∷ [])) (num_text big w n) (k.base_address ∷ [], refl) (number_text big w n (number_fits w n h))
new_there k w (built.BaseAddress (Symbol s a)) h big l = absurd (true≢false (h errors.InvalidAddress))
new_there k w (built.OffsetPair m n) h big l = (k.offset_pair ∷ uleb m ++ uleb n, refl)
new_there k w (built.StartEnd (Constant m) (Constant n)) h big l =
    both_texts (Some (k.start_end ∷ [])) (followed (num_text big w m) (num_text big w n)) (k.start_end ∷ [], refl)
    (two_numbers big w m n (number_fits w m (first_none (number_fails w m) (number_fails w n) h)) (number_fits w n (second_none (number_fails w m) (number_fails w n) h)))
new_there k w (built.StartEnd (Constant m) (Symbol s a)) h big l = absurd (true≢false (second_none (number_fails w m) (address_fails true w (Symbol s a)) h errors.InvalidAddress))
new_there k w (built.StartEnd (Symbol s a) b) h big l = absurd (true≢false (first_none (address_fails true w (Symbol s a)) (address_fails true w b) h errors.InvalidAddress))
new_there k w (built.StartLength (Constant m) n) h big l =
    both_texts (Some (k.start_length ∷ [])) (followed (num_text big w m) (Some (uleb n))) (k.start_length ∷ [], refl)
    (both_texts (num_text big w m) (Some (uleb n)) (number_text big w m (number_fits w m h)) (uleb n, refl))
new_there k w (built.StartLength (Symbol s a) n) h big l = absurd (true≢false (h errors.InvalidAddress))

old_there : (k : Kinds) (w : ℕ) (r : Range) → IsNone (numbers_fail true w r) → (big : Bool) (l : Layout) → IsText (span_in false l (Some r) >>= span_text false k big w)
old_there k w (built.BaseAddress (Constant n)) h big l =
    two_numbers big w (marker w) n (is_wide w (first_none (width_fails w) (number_fails w n) h), marker_fits w) (number_fits w n (second_none (width_fails w) (number_fails w n) h))
old_there k w (built.BaseAddress (Symbol s a)) h big l = absurd (true≢false (second_none (width_fails w) (address_fails true w (Symbol s a)) h errors.InvalidAddress))
old_there k w (built.OffsetPair m n) h big l =
    two_numbers big w m n (number_fits w m (first_none (number_fails w m) (number_fails w n) h)) (number_fits w n (second_none (number_fails w m) (number_fails w n) h))
old_there k w (built.StartEnd (Constant m) (Constant n)) h big l =
    two_numbers big w m n (number_fits w m (first_none (number_fails w m) (number_fails w n) h)) (number_fits w n (second_none (number_fails w m) (number_fails w n) h))
old_there k w (built.StartEnd (Constant m) (Symbol s a)) h big l = absurd (true≢false (second_none (number_fails w m) (address_fails true w (Symbol s a)) h errors.InvalidAddress))
old_there k w (built.StartEnd (Symbol s a) b) h big l = absurd (true≢false (first_none (address_fails true w (Symbol s a)) (address_fails true w b) h errors.InvalidAddress))
old_there k w (built.StartLength (Constant m) n) h big l =
    let ends = second_none (end_fails (Constant m) n) (λ e. number_fails w m e || number_fails w (m + n) e) h in
    two_numbers big w m (m + n) (number_fits w m (first_none (number_fails w m) (number_fails w (m + n)) ends)) (number_fits w (m + n) (second_none (number_fails w m) (number_fails w (m + n)) ends))
old_there k w (built.StartLength (Symbol s a) n) h big l =
    let ends = second_none (end_fails (Symbol s a) n) (λ e. address_fails true w (Symbol s a) e || address_fails true w (plus (Symbol s a) n) e) h in
    absurd (true≢false (first_none (address_fails true w (Symbol s a)) (address_fails true w (plus (Symbol s a) n)) ends errors.InvalidAddress))

new_span_there : (k : Kinds) (w : ℕ) (r : Option Range) → IsNone (new_span_fails true w r) → (big : Bool) (l : Layout) → IsText (span_in true l r >>= span_text true k big w)
new_span_there k w None h big l = (DW_LLE_default_location.0 ∷ [], refl)
new_span_there k w (Some r) h big l = new_there k w r h big l

old_span_there : (k : Kinds) (base : Bool) (w : ℕ) (r : Option Range) → IsNone (old_span_fails base true w r) → (big : Bool) (l : Layout) →
    IsText (span_in false l r >>= span_text false k big w)
old_span_there k base w None h big l = absurd (true≢false (h errors.InvalidRange))
old_span_there k base w (Some r) h big l = old_there k w r (second_none (form_fails base w r) (numbers_fail true w r) h) big l

-- what a format can spell
when_text : (b : Bool) (xs : List ℕ) → IsFalse (not b) → IsText (when b (Some xs))
when_text true xs h = (xs, refl)
when_text false xs h = absurd (true≢false h)

-- References

-- those of two drafts lie in the first and in the second
placed_append : (info : Info) (xs ys : List DebugInfoFixup) → ArePlaced info (xs ++ ys) → ArePlaced info xs × ArePlaced info ys
placed_append info [] ys h = (tt, h)
placed_append info (x ∷ xs) ys h = let rest = placed_append info xs ys h.1 in ((h.0, rest.0), rest.1)

placed_shifted : (info : Info) (n : ℕ) (hs : List DebugInfoFixup) → ArePlaced info (shifted n hs) → ArePlaced info hs
placed_shifted info n [] h = tt
placed_shifted info n (x ∷ hs) h = (h.0, placed_shifted info n hs h.1)

placed_then : (info : Info) (d f : Draft) → ArePlaced info (then_draft d f).holes → ArePlaced info d.holes × ArePlaced info f.holes
unfolding then_draft
placed_then info d f h = let parts = placed_append info d.holes (shifted d.size f.holes) h in (parts.0, placed_shifted info d.size f.holes parts.1)

-- Drafts whose text is there once their references are known, in a sense that passes from two drafts to each of them.
module _ (IsKnown : Info → Draft → Type 0) (each_known : (info : Info) (d f : Draft) → IsKnown info (then_draft d f) → IsKnown info d × IsKnown info f) where
  abbrev IsThere : Draft → Type 0
  IsThere d = (info : Info) (big : Bool) (l : Layout) → IsKnown info d → IsText (d.text info big l)

  nothing_there : IsThere no_draft
  nothing_there info big l h = ([], refl)

  then_there : (d f : Draft) → IsThere d → IsThere f → IsThere (then_draft d f)
  unfolding then_draft
  then_there d f p q info big l h =
      let each = each_known info d f h in both_texts (d.text info big l) (f.text info big l) (p info big l each.0) (q info big l each.1)

  length_there : (format : Format) (n : ℕ) → IsNone (length_fails format n) → IsThere (length_draft format n)
  length_there format n h info big l placed = when_text (length_fits format n) (escape_of format ++ num big (word_of format) n) (h errors.InitialLengthOverflow)

  fields_there : (w n : ℕ) → IsNone (count_fails n) → IsThere (fields_draft w n)
  fields_there w n h info big l placed =
      both_texts (Some (num big 2 5 ++ (w ∷ 0 ∷ []))) (num_text big 4 n) (num big 2 5 ++ (w ∷ 0 ∷ []), refl)
      (number_text big 4 n (refl, lt-ltb n (2 ^ 32) (leb-false (2 ^ 32) n (h errors.ValueTooLarge))))

  words_there : (format : Format) (ns : List ℕ) → IsNone (words_fail format ns) → IsThere (words_draft format ns)
  words_there format [] h = nothing_there
  words_there format (n ∷ ns) h =
      let here = number_fails (word_of format) n in
      then_there (word_draft format n) (words_draft format ns)
      (λ info big l placed. number_text big (word_of format) n (number_fits (word_of format) n (first_none here (words_fail format ns) h)))
      (words_there format ns (second_none here (words_fail format ns) h))

  close_there : (five : Bool) (k : Kinds) (w : ℕ) → (five ≡ false → IsTrue (is_width w)) → IsThere (close_draft five k w)
  close_there true k w h info big l placed = (k.end_of_list ∷ [], refl)
  close_there false k w h info big l placed = two_numbers big w 0 0 (h refl, zero_fits w) (h refl, zero_fits w)

  -- Lists of items that are parts, whose expressions are there

  module _ {X : Type 0} (part : X → Part) (e : Encoding) (known : Option (ℕ → Option ℕ))
      (spelled : (five : Bool) (x : X) → IsNone (located_fails e known true five (part x).expression) → IsThere (located five e (place_by known) (part x).expression)) where
    module _ (k : Kinds) where
      new_item : (x : X) → IsNone (new_part_fails e known true (part x)) → IsThere (part_draft true e (place_by known) k (part x))
      new_item x h =
          let span = new_span_fails true e.address_size (part x).range in
          let rest = located_fails e known true true (part x).expression in
          then_there (span_draft true k e.address_size (part x).range) (located true e (place_by known) (part x).expression)
          (λ info big l placed. new_span_there k e.address_size (part x).range (first_none span rest h) big l) (spelled true x (second_none span rest h))

      old_item : (base : Bool) (x : X) → IsNone (old_fails e known true base (part x)) → IsThere (part_draft false e (place_by known) k (part x))
      old_item base x h =
          let span = old_span_fails base true e.address_size (part x).range in
          let rest = located_fails e known true false (part x).expression in
          then_there (span_draft false k e.address_size (part x).range) (located false e (place_by known) (part x).expression)
          (λ info big l placed. old_span_there k base e.address_size (part x).range (first_none span rest h) big l) (spelled false x (second_none span rest h))

      new_items : (xs : List X) → IsNone (new_list_fails e known true (map part xs)) → IsThere (parts_draft true e (place_by known) k (map part xs))
      new_items [] h = nothing_there
      new_items (x ∷ xs) h =
          let here = new_part_fails e known true (part x) in
          let more = new_list_fails e known true (map part xs) in
          then_there (part_draft true e (place_by known) k (part x)) (parts_draft true e (place_by known) k (map part xs))
          (new_item x (first_none here more h)) (new_items xs (second_none here more h))

      old_items : (base : Bool) (xs : List X) → IsNone (old_list_fails e known true base (map part xs)) → IsThere (parts_draft false e (place_by known) k (map part xs))
      old_items base [] h = nothing_there
      old_items base (x ∷ xs) h =
          let here = old_fails e known true base (part x) in
          let more = old_list_fails e known true (base || is_base (part x).range) (map part xs) in
          then_there (part_draft false e (place_by known) k (part x)) (parts_draft false e (place_by known) k (map part xs))
          (old_item base x (first_none here more h)) (old_items (base || is_base (part x).range) xs (second_none here more h))

      -- what closes a list up to version 4 was looked at
      old_wide : (base : Bool) (ps : List Part) → IsNone (old_list_fails e known true base ps) → IsTrue (is_width e.address_size)
      old_wide base [] h = is_wide e.address_size h
      old_wide base (p ∷ ps) h =
          old_wide (base || is_base p.range) ps (second_none (old_fails e known true base p) (old_list_fails e known true (base || is_base p.range) ps) h)

      list_there : (five base : Bool) (xs : List X) → IsNone (list_fails e known true five base (map part xs)) → IsThere (list_draft five e (place_by known) k (map part xs))
      list_there true base xs h =
          then_there (parts_draft true e (place_by known) k (map part xs)) (close_draft true k e.address_size) (new_items xs h)
          (close_there true k e.address_size (λ no. absurd (true≢false no)))
      list_there false base xs h =
          then_there (parts_draft false e (place_by known) k (map part xs)) (close_draft false k e.address_size) (old_items base xs h)
          (close_there false k e.address_size (λ yes. old_wide base (map part xs) h))

      lists_there : (five base : Bool) (xs : List (List X)) → IsNone (lists_fail e known true five base (map (map part) xs)) →
          IsThere (lists_draft five e (place_by known) k (map (map part) xs))
      lists_there five base [] h = nothing_there
      lists_there five base (x ∷ xs) h =
          let here = list_fails e known true five base (map part x) in
          let more = lists_fail e known true five base (map (map part) xs) in
          then_there (list_draft five e (place_by known) k (map part x)) (lists_draft five e (place_by known) k (map (map part) xs))
          (list_there five base x (first_none here more h)) (lists_there five base xs (second_none here more h))

    -- Tables

    module _ (loc base : Bool) where
      new_table_there : (xs : List (List X)) → IsNone (table_fails_by loc e known true base true (map (map part) xs)) → IsThere (new_table loc e (place_by known) (map (map part) xs))
      new_table_there xs h =
          let ps = map (map part) xs in
          let size = (body_draft loc e (place_by known) ps).size in
          let entries = entries_of loc e (place_by known) ps in
          let fields = fields_draft e.address_size (length ps) in
          let words = words_draft e.format entries in
          let lists = lists_draft true e (place_by known) (kinds_of loc) ps in
          let count_none = count_fails (length ps) in
          let words_none = words_fail e.format entries in
          let lists_none = lists_fail e known true true base ps in
          let header = first_none (header_fails loc e known ps) lists_none h in
          let sizes = second_none count_none (λ err. size_fails size err || (length_fails e.format size err || words_none err)) header in
          let ends = second_none (size_fails size) (λ err. length_fails e.format size err || words_none err) sizes in
          then_there (length_draft e.format size) (body_draft loc e (place_by known) ps)
          (length_there e.format size (first_none (length_fails e.format size) words_none ends))
          (then_there fields (then_draft words lists)
          (fields_there e.address_size (length ps) (first_none count_none (λ err. size_fails size err || (length_fails e.format size err || words_none err)) header))
          (then_there words lists (words_there e.format entries (second_none (length_fails e.format size) words_none ends))
          (lists_there (kinds_of loc) true base xs (second_none (header_fails loc e known ps) lists_none h))))

      table_there : (five : Bool) (x : List X) (xs : List (List X)) → IsNone (table_fails_by loc e known five base true (map (map part) (x ∷ xs))) →
          IsThere (table_by loc e (place_by known) five (map (map part) (x ∷ xs)))
      table_there true x xs h = new_table_there (x ∷ xs) h
      table_there false x xs h = lists_there (kinds_of loc) false base (x ∷ xs) h

      tables_there : (xs : List (List X)) → IsNone (table_fails loc e known base true (map (map part) xs)) → IsThere (table_draft loc e (place_by known) (map (map part) xs))
      tables_there [] h = nothing_there
      tables_there (x ∷ xs) h =
          table_there (is_five e) x xs (second_none (version_fails e.version) (table_fails_by loc e known (is_five e) base true (map (map part) (x ∷ xs))) h)

-- Expressions behind their lengths

count_there : (five big : Bool) (l : Layout) (info : Info) (n : ℕ) → IsNone (count_of_fails five n) → IsText ((count_draft five n).text info big l)
unfolding bytes_text
count_there true big l info n h = (uleb n, refl)
count_there false big l info n h = number_text big 2 n (number_fits 2 n h)

located_there : (e : Encoding) (place : ℕ → Option ℕ) (five : Bool) (x : Option (List Node)) → IsNone (located_fails e (Some place) true five x) →
    (info : Info) (big : Bool) (l : Layout) → ArePlaced info (located five e place x).holes → IsText ((located five e place x).text info big l)
located_there e place five None h info big l placed = ([], refl)
located_there e place five (Some x) h info big l placed =
    let size = expression_size e place x in
    let faults = expression_fails e (Some place) true true x in
    then_there (λ i d. ArePlaced i d.holes) placed_then (count_draft five size) (expression_draft e place x)
    (λ i b m known. count_there five b m i size (second_none faults (count_of_fails five size) h))
    (λ i b m known. expression_there b e place i m x (first_none faults (count_of_fails five size) h) known) info big l placed

-- Tables of ranges, and of locations

-- range lists have no expressions, so nothing needs to be known
pub ranges_there : (e : Encoding) (base : Bool) (xs : List (List Range)) → IsNone (table_fails false e None base true (ranges_in xs)) →
    (info : Info) (big : Bool) (l : Layout) → (bytes : List ℕ) × ((table_draft false e no_place (ranges_in xs)).text info big l ≡ Some bytes)
ranges_there e base xs h info big l =
    tables_there (λ i d. Unit {0}) (λ i d f k. (tt, tt)) range_part e None (λ five r k i b m known. ([], refl)) false base xs h info big l tt

pub locations_there : (e : Encoding) (place : ℕ → Option ℕ) (base : Bool) (xs : List (List Location)) → IsNone (table_fails true e (Some place) base true (locations_in xs)) →
    (info : Info) (big : Bool) (l : Layout) → ArePlaced info (table_draft true e place (locations_in xs)).holes → (bytes : List ℕ) × ((table_draft true e place (locations_in xs)).text info big l ≡ Some bytes)
locations_there e place base xs h =
    tables_there (λ i d. ArePlaced i d.holes) placed_then location_part e (Some place) (λ five x. located_there e place five (location_part x).expression) true base xs h
