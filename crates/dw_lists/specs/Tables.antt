-- Tables of lists: the lists alone up to version 4, with a header and an entry for each in version 5 (DWARF 5, 7.28 and 7.29).
use Rattle.std.specs.Prelude.{◌≡◌, ◌⊎◌, ℕ, ◌+◌, ◌*◌, Bool, true, false, List, [], ◌∷◌, ◌++◌, map, length, Option, Some, None, slice_get}
use Rattle.dw_base.specs.Numbers.{word_of, length_size}
use Rattle.dw_base.specs.declared.common.Encoding.{Encoding}
use Rattle.dw_base.specs.declared.common.Format.{Format}
use Rattle.dw_base.specs.declared.address.Address.{Address}
use Rattle.dw_base.specs.declared.address.Address.TheVariants.{Constant, Symbol}
use Rattle.dw_writer.specs.Meaning.{Meaning, Layout}
use Rattle.dw_writer.specs.Drafts.{Info, Draft, no_draft, then_draft}
use Rattle.dw_writer.specs.declared.sections.Sections.{Sections}
use Rattle.dw_writer.specs.declared.fixup.DebugInfoFixup.{DebugInfoFixup}
use Rattle.dw_expr.specs.Places.{place_by}
use Rattle.dw_lists.specs.declared.range.Range.{Range}
use Rattle.dw_lists.specs.declared.range.Range.TheVariants as built
use Rattle.dw_lists.specs.Kinds.{kinds_of}
use Rattle.dw_lists.specs.declared.location.Location.{Location}
use Rattle.dw_lists.specs.Parts.{Part, ranges_parts, locations_parts}
use Rattle.dw_lists.specs.Items.{is_five, items_at, entry_at}
use Rattle.dw_lists.specs.Pieces.{length_draft, fields_size, fields_draft, words_draft, head_draft}
use Rattle.dw_lists.specs.Texts.{parts_in, lists_draft, places_from}

-- where the first offset entry of a table at a place stands
abbrev pub base_from : Format → ℕ → ℕ
base_from format at = at + (length_size format + fields_size)

-- what a table at a place answers: where its first offset entry stands, which it has in version 5, and the lists' places
pub record Offsets : Type 0 where
  pub base : Option ℕ
  pub places : List ℕ

-- tables of location lists or of range lists, where expressions have these places of entries
module _ (loc : Bool) (e : Encoding) (place : ℕ → Option ℕ) where
  -- the offset entries: each list's place, counted from the first of them
  abbrev pub entries_of : List (List Part) → List ℕ
  entries_of xs = places_from true e place (kinds_of loc) (length xs * word_of e.format) xs

  -- what a table of version 5 has behind its length
  abbrev pub body_draft : List (List Part) → Draft
  body_draft xs = then_draft (fields_draft e.address_size (length xs)) (then_draft (words_draft e.format (entries_of xs)) (lists_draft true e place (kinds_of loc) xs))

  -- a table of version 5
  abbrev pub new_table : List (List Part) → Draft
  new_table xs = then_draft (length_draft e.format (body_draft xs).size) (body_draft xs)

  -- what it has before its lists
  abbrev pub table_head : List (List Part) → Draft
  table_head xs = head_draft e (body_draft xs).size (entries_of xs)

  -- a table up to version 4
  abbrev pub old_table : List (List Part) → Draft
  old_table xs = lists_draft false e place (kinds_of loc) xs

  -- a table of either version; one without lists isn't written
  abbrev pub table_by : Bool → List (List Part) → Draft
  table_by five [] = no_draft
  table_by true (x ∷ xs) = new_table (x ∷ xs)
  table_by false (x ∷ xs) = old_table (x ∷ xs)

  abbrev pub table_draft : List (List Part) → Draft
  table_draft xs = table_by (is_five e) xs

  abbrev pub new_offsets : ℕ → List (List Part) → Offsets
  new_offsets at xs = record
      { base = Some (base_from e.format at); places = places_from true e place (kinds_of loc) (base_from e.format at + length xs * word_of e.format) xs }

  abbrev pub old_offsets : ℕ → List (List Part) → Offsets
  old_offsets at xs = record { base = None; places = places_from false e place (kinds_of loc) at xs }

  abbrev pub offsets_by : Bool → ℕ → List (List Part) → Offsets
  offsets_by five at [] = record { base = None; places = [] }
  offsets_by true at (x ∷ xs) = new_offsets at (x ∷ xs)
  offsets_by false at (x ∷ xs) = old_offsets at (x ∷ xs)

  abbrev pub offsets_from : ℕ → List (List Part) → Offsets
  offsets_from at xs = offsets_by (is_five e) at xs

-- Sections

-- the section of the range lists of version 5, or of those before it
abbrev pub range_section : {W : Type 0} → Bool → Sections W → W
range_section true s = s.debug_rnglists.0
range_section false s = s.debug_ranges.0

-- what the writer of a table's section holds
abbrev pub ranges_of : {W : Type 0} → (W → Meaning) → Encoding → Sections W → Meaning
ranges_of meaning e s = meaning (range_section (is_five e) s)

-- all else stays
abbrev pub OthersStay : {W : Type 0} → Bool → Sections W → Sections W → Type 0
OthersStay true old new = new ≡ record old { debug_rnglists = new.debug_rnglists }
OthersStay false old new = new ≡ record old { debug_ranges = new.debug_ranges }

-- the section of the location lists of version 5, or of those before it, and its references
abbrev pub location_section : {W : Type 0} → Bool → Sections W → W
location_section true s = s.debug_loclists.0
location_section false s = s.debug_loc.0

abbrev pub locations_of : {W : Type 0} → (W → Meaning) → Encoding → Sections W → Meaning
locations_of meaning e s = meaning (location_section (is_five e) s)

abbrev pub fixups_by : {W : Type 0} → Bool → Sections W → List DebugInfoFixup
fixups_by true s = s.debug_loclists_fixups
fixups_by false s = s.debug_loc_fixups

abbrev pub fixups_of : {W : Type 0} → Encoding → Sections W → List DebugInfoFixup
fixups_of e s = fixups_by (is_five e) s

abbrev pub OtherListsStay : {W : Type 0} → Bool → Sections W → Sections W → Type 0
OtherListsStay true old new = new ≡ record old { debug_loclists = new.debug_loclists; debug_loclists_fixups = new.debug_loclists_fixups }
OtherListsStay false old new = new ≡ record old { debug_loc = new.debug_loc; debug_loc_fixups = new.debug_loc_fixups }

-- Lists that are found

-- no address is a symbol
abbrev pub IsNumber : Address → Type 0
IsNumber (Constant n) = Unit {0}
IsNumber (Symbol s a) = ⊥

abbrev pub IsNumbered : Option Range → Type 0
IsNumbered None = Unit {0}
IsNumbered (Some (built.BaseAddress a)) = IsNumber a
IsNumbered (Some (built.OffsetPair m n)) = Unit {0}
IsNumbered (Some (built.StartEnd a b)) = IsNumber a × IsNumber b
IsNumbered (Some (built.StartLength a k)) = IsNumber a

abbrev pub AreNumbered : List Part → Type 0
AreNumbered [] = Unit {0}
AreNumbered (p ∷ ps) = IsNumbered p.range × AreNumbered ps

module _ (loc : Bool) (e : Encoding) (place : ℕ → Option ℕ) where
  -- the list of a number is found in a section, by its entry in version 5, and read
  pub record IsFound (info : Info) (big : Bool) (l : Layout) (section : List ℕ) (at : Offsets) (number : ℕ) (ps : List Part) : Type 0 where
    pub place_of : ℕ
    pub answered : slice_get at.places number ≡ Some place_of
    pub entry : (base : ℕ) → at.base ≡ Some base → entry_at big e section base number ≡ Some place_of
    pub items : items_at loc big e section place_of ≡ parts_in (is_five e) e place info big l ps

  -- Where a table's text stands in a section, each of its lists is found and read again. Up to version 4 a symbol's value
  -- could be that of the marker, so the lists are those without symbols.
  abbrev pub IsReadAgain : List (List Part) → Type 0
  IsReadAgain xs =
      (info : Info) (big : Bool) (l : Layout) (before bytes rest : List ℕ) → (table_draft loc e place xs).text info big l ≡ Some bytes →
      (i : ℕ) (x : List Part) → slice_get xs i ≡ Some x → (is_five e ≡ true) ⊎ AreNumbered x →
      IsFound info big l (before ++ (bytes ++ rest)) (offsets_from loc e place (length before) xs) i x

-- Tables of ranges, where no entry is named, and of locations

abbrev pub ranges_in : List (List Range) → List (List Part)
ranges_in xs = map ranges_parts xs

abbrev pub locations_in : List (List Location) → List (List Part)
locations_in xs = map locations_parts xs

abbrev pub no_place : ℕ → Option ℕ
no_place = place_by None
