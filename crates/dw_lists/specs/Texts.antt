-- The texts of lists (DWARF 4, 2.6.2 and 2.17.3; DWARF 5, 2.6.2, 2.17.3, 7.7.3 and 7.25), through the numbers that are read
-- again.
use Rattle.std.specs.Prelude.{All, ◌<◌, ◌^◌, ℕ, ◌+◌, Bool, true, false, List, [], ◌∷◌, ◌++◌, map, length, Option, Some, None, ℤ, pos, negsuc, ◌+ℤ◌, slice_get, if◌then◌else◌}
use Rattle.dw_base.specs.Numbers.{◌>>=◌}
use Rattle.dw_base.specs.Leb128.{uleb}
use Rattle.dw_base.specs.declared.address.Address.{Address}
use Rattle.dw_base.specs.declared.address.Address.TheVariants.{Constant, Symbol}
use Rattle.dw_base.specs.declared.common.Encoding.{Encoding}
use Rattle.dw_base.specs.declared.constants.TheConstants.{DW_LLE_default_location}
use Rattle.dw_writer.specs.Texts.{Text, num_text, followed}
use Rattle.dw_writer.specs.Meaning.{Layout}
use Rattle.dw_writer.specs.Drafts.{Info, Draft, no_draft, whole, then_draft, all_drafts, IsDraft}
use Rattle.dw_expr.specs.Trees.{Node}
use Rattle.dw_expr.specs.Spelling.{bytes, expression_draft, expression_size}
use Rattle.dw_lists.specs.declared.kinds.Kinds.{Kinds}
use Rattle.dw_lists.specs.declared.range.Range.{Range}
use Rattle.dw_lists.specs.declared.range.Range.TheVariants as built
use Rattle.dw_lists.specs.Parts.{Part}
use Rattle.dw_lists.specs.Items.{Span, Base, Pair, StartEnd, StartLength, Default, Item, marker}

-- a whole number that isn't below zero
abbrev pub natural : ℤ → Option ℕ
natural (pos n) = Some n
natural (negsuc n) = None

-- an address under a layout: a symbol is its value plus the addend
abbrev pub address_in : Layout → Address → Option ℕ
address_in l (Constant n) = Some n
address_in l (Symbol s a) = slice_get l.symbols s >>= λ v. natural (a +ℤ pos v)

-- an address further on
abbrev pub plus : Address → ℕ → Address
plus (Constant n) k = Constant (n + k)
plus (Symbol s a) k = Symbol s (a +ℤ pos k)

-- Addresses of items

-- a range in numbers, in version 5 or before it; before it only a base differs from other pairs
abbrev pub range_in : Bool → Layout → Range → Option Span
range_in five l (built.BaseAddress a) = address_in l a >>= λ n. Some (Base n)
range_in five l (built.OffsetPair b c) = Some (Pair b c)
range_in true l (built.StartEnd b c) = address_in l b >>= λ m. address_in l c >>= λ n. Some (StartEnd m n)
range_in false l (built.StartEnd b c) = address_in l b >>= λ m. address_in l c >>= λ n. Some (Pair m n)
range_in true l (built.StartLength b k) = address_in l b >>= λ m. Some (StartLength m k)
range_in false l (built.StartLength b k) = address_in l b >>= λ m. Some (Pair m (m + k))

abbrev pub span_in : Bool → Layout → Option Range → Option Span
span_in five l None = Some Default
span_in five l (Some r) = range_in five l r

-- up to version 4 the marker stands before a base
abbrev pub old_text : Bool → ℕ → Span → Text
old_text big w (Base n) = followed (num_text big w (marker w)) (num_text big w n)
old_text big w (Pair m n) = followed (num_text big w m) (num_text big w n)
old_text big w _ = None

-- the addresses of version 5 behind their kind; those by indices aren't written
abbrev pub new_text : Kinds → Bool → ℕ → Span → Text
new_text k big w (Base n) = followed (Some (k.base_address ∷ [])) (num_text big w n)
new_text k big w (Pair m n) = Some (k.offset_pair ∷ uleb m ++ uleb n)
new_text k big w (StartEnd m n) = followed (Some (k.start_end ∷ [])) (followed (num_text big w m) (num_text big w n))
new_text k big w (StartLength m n) = followed (Some (k.start_length ∷ [])) (followed (num_text big w m) (Some (uleb n)))
new_text k big w Default = Some (DW_LLE_default_location.0 ∷ [])
new_text k big w _ = None

abbrev pub span_text : Bool → Kinds → Bool → ℕ → Span → Text
span_text true k big w x = new_text k big w x
span_text false k big w x = old_text big w x

-- up to version 4 each item has two addresses
abbrev pub range_size : Bool → ℕ → Range → ℕ
range_size false w r = w + w
range_size true w (built.BaseAddress a) = 1 + w
range_size true w (built.OffsetPair b c) = 1 + (length (uleb b) + length (uleb c))
range_size true w (built.StartEnd b c) = 1 + (w + w)
range_size true w (built.StartLength b k) = 1 + (w + length (uleb k))

abbrev pub span_size : Bool → ℕ → Option Range → ℕ
span_size five w (Some r) = range_size five w r
span_size five w None = 1

abbrev pub span_draft : Bool → Kinds → ℕ → Option Range → Draft
span_draft five k w r = whole (span_size five w r) (λ big l. span_in five l r >>= span_text five k big w)

-- what closes a list
abbrev pub close_text : Bool → Kinds → Bool → ℕ → Text
close_text true k big w = Some (k.end_of_list ∷ [])
close_text false k big w = followed (num_text big w 0) (num_text big w 0)

abbrev pub close_draft : Bool → Kinds → ℕ → Draft
close_draft five k w = whole (if five then 1 else w + w) (λ big l. close_text five k big w)

-- how many bytes an expression has, in two bytes up to version 4
abbrev pub count_draft : Bool → ℕ → Draft
count_draft true n = bytes (uleb n)
count_draft false n = whole 2 (λ big l. num_text big 2 n)

-- the numbers that no text limits are those of 64 bits
abbrev pub IsRanged : Option Range → Type 0
IsRanged (Some (built.OffsetPair m n)) = (m < 2 ^ 64) × (n < 2 ^ 64)
IsRanged (Some (built.StartLength a n)) = n < 2 ^ 64
IsRanged r = Unit {0}

abbrev pub IsRangedIn : Bool → Option Range → Type 0
IsRangedIn true r = IsRanged r
IsRangedIn false r = Unit {0}

-- Lists: in version 5 or before it, with these kinds, and in expressions with these places of entries

module _ (five : Bool) (e : Encoding) (place : ℕ → Option ℕ) where
  -- an expression behind its length
  abbrev pub located : Option (List Node) → Draft
  located None = no_draft
  located (Some x) = then_draft (count_draft five (expression_size e place x)) (expression_draft e place x)

  module _ (k : Kinds) where
    abbrev pub part_draft : Part → Draft
    part_draft p = then_draft (span_draft five k e.address_size p.range) (located p.expression)

    abbrev pub parts_draft : List Part → Draft
    parts_draft ps = all_drafts (map part_draft ps)

    -- a list, closed
    abbrev pub list_draft : List Part → Draft
    list_draft ps = then_draft (parts_draft ps) (close_draft five k e.address_size)

    -- lists, one behind another
    abbrev pub lists_draft : List (List Part) → Draft
    lists_draft xs = all_drafts (map list_draft xs)

    -- the places of lists, the first at a place
    abbrev pub places_from : ℕ → List (List Part) → List ℕ
    places_from at [] = []
    places_from at (x ∷ xs) = at ∷ places_from (at + (list_draft x).size) xs

  -- the built items in numbers and bytes, where these are the places of entries in .debug_info
  module _ (info : Info) (big : Bool) (l : Layout) where
    abbrev pub bytes_in : Option (List Node) → Option (Option (List ℕ))
    bytes_in None = Some None
    bytes_in (Some x) = (expression_draft e place x).text info big l >>= λ xs. Some (Some xs)

    abbrev pub part_in : Part → Option Item
    part_in p = span_in five l p.range >>= λ s. bytes_in p.expression >>= λ x. Some (record { span = s; expression = x })

    abbrev pub parts_in : List Part → Option (List Item)
    parts_in [] = Some []
    parts_in (p ∷ ps) = part_in p >>= λ x. parts_in ps >>= λ more. Some (x ∷ more)

  -- and so are the sizes of expressions, whose references lie in them
  abbrev pub IsSpelled : Option (List Node) → Type 0
  IsSpelled None = Unit {0}
  IsSpelled (Some x) = (expression_size e place x < 2 ^ 64) × IsDraft (expression_draft e place x)

  abbrev pub IsReadable : Part → Type 0
  IsReadable p = IsRangedIn five p.range × IsSpelled p.expression

  abbrev pub AreReadable : List Part → Type 0
  AreReadable ps = All IsReadable ps
