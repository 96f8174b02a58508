-- Tables of lists have the texts and the sizes of those in which symbols have values.
use Rattle.std.specs.Prelude.{◌≡◌, ◌⊎◌, ℕ, suc, ◌+◌, ◌*◌, ◌+ℤ◌, pos, Bool, true, false, List, [], ◌∷◌, map, length, Option, Some, None, refl}
use Rattle.std.specs.Option.{option_map}
use Rattle.std.proofs.Common.{sym, ◌∙◌, ap, ap₂, subst, inl, inr}
use Rattle.dw_base.specs.Numbers.{◌>>=◌, word_of}
use Rattle.dw_base.specs.declared.address.Address.{Address}
use Rattle.dw_base.specs.declared.address.Address.TheVariants.{Constant, Symbol}
use Rattle.dw_base.specs.declared.common.Encoding.{Encoding}
use Rattle.dw_writer.specs.Layout.{Layout}
use Rattle.dw_writer.specs.Drafts.{no_draft, then_draft}
use Rattle.dw_expr.specs.Trees.{Node}
use Rattle.dw_expr.specs.Spelling.{expression_draft, expression_size}
use Rattle.dw_lists.specs.declared.range.Range.{Range}
use Rattle.dw_lists.specs.declared.range.Range.TheVariants as ranges
use Rattle.dw_lists.specs.declared.location.Location.{Location}
use Rattle.dw_lists.specs.declared.location.Location.TheVariants as locations
use Rattle.dw_lists.specs.Items.{Base, Pair, StartEnd, StartLength, is_five}
use Rattle.dw_lists.specs.Kinds.{kinds_of}
use Rattle.dw_lists.specs.Parts.{Part, range_part, location_part, ranges_parts, locations_parts}
use Rattle.dw_lists.specs.Pieces.{length_draft, fields_draft, words_draft}
use Rattle.dw_lists.specs.Tables.{Offsets, entries_of, body_draft, new_table, table_by, table_draft, base_from, offsets_by, offsets_from, ranges_in, locations_in, no_place}
use Rattle.dw_lists.specs.Texts.{natural, address_in, range_in, span_in, span_text, range_size, span_size, span_draft, close_draft, count_draft, located, part_draft, parts_draft, list_draft, lists_draft, places_from}
use Rattle.dw_dwarf_laws.specs.Addresses.{numbered_address, numbered_expression}
use Rattle.dw_dwarf_laws.specs.Lists.{numbered_range, numbered_location, numbered_ranges, numbered_locations}
use Rattle.dw_dwarf_laws.proofs.Addresses.{IsValued, symbol_cases}
use Rattle.dw_dwarf_laws.proofs.Drafts.{IsSameDraft, draft_itself, then_same, all_same}
use Rattle.dw_dwarf_laws.proofs.Expressions.{expression_same}

-- an item in which symbols have values
abbrev numbered_part : List ℕ → Part → Part
numbered_part symbols p = record { range = option_map (numbered_range symbols) p.range; expression = option_map (numbered_expression symbols) p.expression }

abbrev numbered_parts : List ℕ → List (List Part) → List (List Part)
numbered_parts symbols xs = map (map (numbered_part symbols)) xs

module _ (l : Layout) where
  -- Addresses of items

  address_same : (a : Address) → address_in l a ≡ address_in l (numbered_address l.symbols a)
  address_same (Constant n) = refl
  address_same (Symbol s addend) = by (symbol_cases l.symbols s addend)
    where
      by : (numbered_address l.symbols (Symbol s addend) ≡ Symbol s addend) ⊎ IsValued l.symbols s addend → address_in l (Symbol s addend) ≡ address_in l (numbered_address l.symbols (Symbol s addend))
      by (inl h) = ap (address_in l) (sym h)
      by (inr h) = ap (λ o. o >>= λ v. natural (addend +ℤ pos v)) h.at ∙ ap natural h.sum ∙ ap (address_in l) (sym h.is)

  range_same : (five : Bool) (r : Range) → range_in five l r ≡ range_in five l (numbered_range l.symbols r)
  range_same five (ranges.BaseAddress a) = ap (λ o. o >>= λ n. Some (Base n)) (address_same a)
  range_same five (ranges.OffsetPair m n) = refl
  range_same true (ranges.StartEnd a b) = ap₂ (λ o p. o >>= λ m. p >>= λ n. Some (StartEnd m n)) (address_same a) (address_same b)
  range_same false (ranges.StartEnd a b) = ap₂ (λ o p. o >>= λ m. p >>= λ n. Some (Pair m n)) (address_same a) (address_same b)
  range_same true (ranges.StartLength a k) = ap (λ o. o >>= λ m. Some (StartLength m k)) (address_same a)
  range_same false (ranges.StartLength a k) = ap (λ o. o >>= λ m. Some (Pair m (m + k))) (address_same a)

  span_same : (five : Bool) (r : Option Range) → span_in five l r ≡ span_in five l (option_map (numbered_range l.symbols) r)
  span_same five None = refl
  span_same five (Some r) = range_same five r

  range_sizes : (five : Bool) (w : ℕ) (r : Range) → range_size five w r ≡ range_size five w (numbered_range l.symbols r)
  range_sizes false w r = refl
  range_sizes true w (ranges.BaseAddress a) = refl
  range_sizes true w (ranges.OffsetPair m n) = refl
  range_sizes true w (ranges.StartEnd a b) = refl
  range_sizes true w (ranges.StartLength a k) = refl

  span_sizes : (five : Bool) (w : ℕ) (r : Option Range) → span_size five w r ≡ span_size five w (option_map (numbered_range l.symbols) r)
  span_sizes five w None = refl
  span_sizes five w (Some r) = range_sizes five w r

  -- Lists

  module _ (e : Encoding) (place : ℕ → Option ℕ) where
    located_same : (five : Bool) (x : Option (List Node)) → IsSameDraft l (located five e place x) (located five e place (option_map (numbered_expression l.symbols) x))
    located_same five None = draft_itself l no_draft
    located_same five (Some x) =
        let own = expression_same l e place x in
        let y = numbered_expression l.symbols x in
        then_same l (count_draft five (expression_size e place x)) (count_draft five (expression_size e place y)) (expression_draft e place x) (expression_draft e place y)
        (subst (λ n. IsSameDraft l (count_draft five (expression_size e place x)) (count_draft five n)) own.size (draft_itself l (count_draft five (expression_size e place x)))) own

    module _ (five : Bool) (loc : Bool) where
      part_same : (p : Part) → IsSameDraft l (part_draft five e place (kinds_of loc) p) (part_draft five e place (kinds_of loc) (numbered_part l.symbols p))
      part_same p =
          let q = numbered_part l.symbols p in
          then_same l (span_draft five (kinds_of loc) e.address_size p.range) (span_draft five (kinds_of loc) e.address_size q.range) (located five e place p.expression) (located five e place q.expression)
          (record { size = span_sizes five e.address_size p.range; holes = refl; text = λ info big. ap (λ o. o >>= span_text five (kinds_of loc) big e.address_size) (span_same five p.range) })
          (located_same five p.expression)

      list_same : (ps : List Part) → IsSameDraft l (list_draft five e place (kinds_of loc) ps) (list_draft five e place (kinds_of loc) (map (numbered_part l.symbols) ps))
      list_same ps =
          then_same l (parts_draft five e place (kinds_of loc) ps) (parts_draft five e place (kinds_of loc) (map (numbered_part l.symbols) ps)) (close_draft five (kinds_of loc) e.address_size) (close_draft five (kinds_of loc) e.address_size)
          (all_same l (part_draft five e place (kinds_of loc)) (part_draft five e place (kinds_of loc)) (numbered_part l.symbols) ps part_same) (draft_itself l (close_draft five (kinds_of loc) e.address_size))

      lists_same : (xs : List (List Part)) → IsSameDraft l (lists_draft five e place (kinds_of loc) xs) (lists_draft five e place (kinds_of loc) (numbered_parts l.symbols xs))
      lists_same xs = all_same l (list_draft five e place (kinds_of loc)) (list_draft five e place (kinds_of loc)) (map (numbered_part l.symbols)) xs list_same

      places_same : (at : ℕ) (xs : List (List Part)) → places_from five e place (kinds_of loc) at xs ≡ places_from five e place (kinds_of loc) at (numbered_parts l.symbols xs)
      places_same at [] = refl
      places_same at (x ∷ xs) = ap (λ n. at ∷ places_from five e place (kinds_of loc) (at + n) xs) (list_same x).size ∙ ap (λ ys. at ∷ ys) (places_same (at + (list_draft five e place (kinds_of loc) (map (numbered_part l.symbols) x)).size) xs)

    -- Tables

    counts_same : (xs : List (List Part)) → length xs ≡ length (numbered_parts l.symbols xs)
    counts_same [] = refl
    counts_same (x ∷ xs) = ap suc (counts_same xs)

    module _ (loc : Bool) where
      entries_same : (xs : List (List Part)) → entries_of loc e place xs ≡ entries_of loc e place (numbered_parts l.symbols xs)
      entries_same xs = ap (λ n. places_from true e place (kinds_of loc) (n * word_of e.format) xs) (counts_same xs) ∙ places_same true loc (length (numbered_parts l.symbols xs) * word_of e.format) xs

      body_same : (xs : List (List Part)) → IsSameDraft l (body_draft loc e place xs) (body_draft loc e place (numbered_parts l.symbols xs))
      body_same xs =
          let ys = numbered_parts l.symbols xs in
          let fields = fields_draft e.address_size in
          let words = words_draft e.format in
          let lists = lists_draft true e place (kinds_of loc) in
          then_same l (fields (length xs)) (fields (length ys)) (then_draft (words (entries_of loc e place xs)) (lists xs)) (then_draft (words (entries_of loc e place ys)) (lists ys))
          (subst (λ n. IsSameDraft l (fields (length xs)) (fields n)) (counts_same xs) (draft_itself l (fields (length xs))))
          (then_same l (words (entries_of loc e place xs)) (words (entries_of loc e place ys)) (lists xs) (lists ys)
          (subst (λ ns. IsSameDraft l (words (entries_of loc e place xs)) (words ns)) (entries_same xs) (draft_itself l (words (entries_of loc e place xs))))
          (lists_same true loc xs))

      new_same : (xs : List (List Part)) → IsSameDraft l (new_table loc e place xs) (new_table loc e place (numbered_parts l.symbols xs))
      new_same xs =
          let own = body_same xs in
          let size = (body_draft loc e place xs).size in
          let ys = numbered_parts l.symbols xs in
          then_same l (length_draft e.format size) (length_draft e.format (body_draft loc e place ys).size) (body_draft loc e place xs) (body_draft loc e place ys)
          (subst (λ n. IsSameDraft l (length_draft e.format size) (length_draft e.format n)) own.size (draft_itself l (length_draft e.format size))) own

      by_same : (five : Bool) (xs : List (List Part)) → IsSameDraft l (table_by loc e place five xs) (table_by loc e place five (numbered_parts l.symbols xs))
      by_same five [] = draft_itself l no_draft
      by_same true (x ∷ xs) = new_same (x ∷ xs)
      by_same false (x ∷ xs) = lists_same false loc (x ∷ xs)

      offsets_same : (five : Bool) (at : ℕ) (xs : List (List Part)) → offsets_by loc e place five at xs ≡ offsets_by loc e place five at (numbered_parts l.symbols xs)
      offsets_same five at [] = refl
      offsets_same true at (x ∷ xs) =
          let start = base_from e.format at in
          let with : List ℕ → Offsets = λ places. record { base = Some start; places = places } in
          ap with (ap (λ n. places_from true e place (kinds_of loc) (start + n * word_of e.format) (x ∷ xs)) (counts_same (x ∷ xs)) ∙ places_same true loc (start + length (numbered_parts l.symbols (x ∷ xs)) * word_of e.format) (x ∷ xs))
      offsets_same false at (x ∷ xs) = let with : List ℕ → Offsets = λ places. record { base = None; places = places } in ap with (places_same false loc at (x ∷ xs))

-- Tables of ranges, and of locations

range_is : (symbols : List ℕ) (rs : List Range) → ranges_parts (map (numbered_range symbols) rs) ≡ map (numbered_part symbols) (ranges_parts rs)
range_is symbols [] = refl
range_is symbols (r ∷ rs) = ap (λ ps. range_part (numbered_range symbols r) ∷ ps) (range_is symbols rs)

ranges_are : (symbols : List ℕ) (xs : List (List Range)) → ranges_in (numbered_ranges symbols xs) ≡ numbered_parts symbols (ranges_in xs)
ranges_are symbols [] = refl
ranges_are symbols (x ∷ xs) = ap₂ (λ ps ys. ps ∷ ys) (range_is symbols x) (ranges_are symbols xs)

item_is : (symbols : List ℕ) (x : Location) → location_part (numbered_location symbols x) ≡ numbered_part symbols (location_part x)
item_is symbols (locations.BaseAddress a) = refl
item_is symbols x = refl

location_is : (symbols : List ℕ) (ls : List Location) → locations_parts (map (numbered_location symbols) ls) ≡ map (numbered_part symbols) (locations_parts ls)
location_is symbols [] = refl
location_is symbols (x ∷ ls) = ap₂ (λ p ps. p ∷ ps) (item_is symbols x) (location_is symbols ls)

locations_are : (symbols : List ℕ) (xs : List (List Location)) → locations_in (numbered_locations symbols xs) ≡ numbered_parts symbols (locations_in xs)
locations_are symbols [] = refl
locations_are symbols (x ∷ xs) = ap₂ (λ ps ys. ps ∷ ys) (location_is symbols x) (locations_are symbols xs)

-- a table of range lists, and where they stand
pub ranges_same : (l : Layout) (e : Encoding) (xs : List (List Range)) → IsSameDraft l (table_draft false e no_place (ranges_in xs)) (table_draft false e no_place (ranges_in (numbered_ranges l.symbols xs)))
ranges_same l e xs = subst (λ ps. IsSameDraft l (table_draft false e no_place (ranges_in xs)) (table_draft false e no_place ps)) (sym (ranges_are l.symbols xs)) (by_same l e no_place false (is_five e) (ranges_in xs))

pub range_offsets : (symbols : List ℕ) (e : Encoding) (at : ℕ) (xs : List (List Range)) → offsets_from false e no_place at (ranges_in xs) ≡ offsets_from false e no_place at (ranges_in (numbered_ranges symbols xs))
range_offsets symbols e at xs =
    let l : Layout = record { starts = []; own_start = 0; symbols = symbols } in
    offsets_same l e no_place false (is_five e) at (ranges_in xs) ∙ ap (offsets_from false e no_place at) (sym (ranges_are symbols xs))

-- a table of location lists, and where they stand
pub locations_same : (l : Layout) (e : Encoding) (place : ℕ → Option ℕ) (xs : List (List Location)) → IsSameDraft l (table_draft true e place (locations_in xs)) (table_draft true e place (locations_in (numbered_locations l.symbols xs)))
locations_same l e place xs = subst (λ ps. IsSameDraft l (table_draft true e place (locations_in xs)) (table_draft true e place ps)) (sym (locations_are l.symbols xs)) (by_same l e place true (is_five e) (locations_in xs))

pub location_offsets : (symbols : List ℕ) (e : Encoding) (place : ℕ → Option ℕ) (at : ℕ) (xs : List (List Location)) → offsets_from true e place at (locations_in xs) ≡ offsets_from true e place at (locations_in (numbered_locations symbols xs))
location_offsets symbols e place at xs =
    let l : Layout = record { starts = []; own_start = 0; symbols = symbols } in
    offsets_same l e place true (is_five e) at (locations_in xs) ∙ ap (offsets_from true e place at) (sym (locations_are symbols xs))
