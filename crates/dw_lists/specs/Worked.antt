-- Rows that compute: bytes of sections and what they tell.
use Rattle.std.specs.Prelude.{◌≡◌, ℕ, true, false, List, [], ◌∷◌, Some, None, refl, negsuc}
use Rattle.dw_base.specs.Numbers.{number_at, bytes_at, num}
use Rattle.dw_base.specs.Leb128.{uleb_at, groups_at, uleb, uleb_groups}
use Rattle.dw_base.specs.declared.common.Encoding.{Encoding}
use Rattle.dw_base.specs.declared.common.Format.TheVariants.{Dwarf32}
use Rattle.dw_base.specs.declared.address.Address.TheVariants.{Symbol}
use Rattle.dw_base.specs.declared.constants.TheConstants.{DW_OP_nop}
use Rattle.dw_writer.specs.Texts.{num_text, followed}
use Rattle.dw_writer.specs.Drafts.{then_draft, open_text}
use Rattle.dw_writer.specs.SectionTexts.{bytes_text}
use Rattle.dw_expr.specs.Trees.{plain, Simple}
use Rattle.dw_lists.specs.declared.range.Range.TheVariants as built
use Rattle.dw_lists.specs.declared.location.Location.TheVariants as located
use Rattle.dw_lists.specs.Kinds.{range_kinds, location_kinds}
use Rattle.dw_lists.specs.Parts.{ranges_parts, locations_parts}
use Rattle.dw_lists.specs.Items.{Span, Item, Base, Pair, StartLength, Default, items_up_to, old_span_at, new_span_at, item_at, items_at, entry_at}
use Rattle.dw_lists.specs.Texts.{list_draft}
use Rattle.dw_lists.specs.Tables.{no_place}

five : Encoding
five = record { address_size = 8; format = Dwarf32; version = 5 }

four : Encoding
four = record { address_size = 4; format = Dwarf32; version = 4 }

-- an item without an expression, and one with the bytes of one
abbrev bare : Span → Item
bare s = record { span = s; expression = None }

abbrev with : Span → List ℕ → Item
with s xs = record { span = s; expression = Some xs }

-- a table of two lists: a start and a length, and a pair
section : List ℕ
section =
    0x1f ∷ 0 ∷ 0 ∷ 0 ∷ 5 ∷ 0 ∷ 8 ∷ 0 ∷ 2 ∷ 0 ∷ 0 ∷ 0 ∷ 8 ∷ 0 ∷ 0 ∷ 0 ∷ 0x13 ∷ 0 ∷ 0 ∷ 0
    ∷ 7 ∷ 0 ∷ 0x10 ∷ 0 ∷ 0 ∷ 0 ∷ 0 ∷ 0 ∷ 0 ∷ 0x10 ∷ 0 ∷ 4 ∷ 1 ∷ 2 ∷ 0 ∷ []

entry_first : entry_at false five section 12 0 ≡ Some 20
unfolding five section entry_at number_at bytes_at
entry_first = refl

entry_second : entry_at false five section 12 1 ≡ Some 31
unfolding five section entry_at number_at bytes_at
entry_second = refl

items_first : items_at false false five section 20 ≡ Some (bare (StartLength 0x1000 0x10) ∷ [])
unfolding five section items_at items_up_to item_at new_span_at number_at bytes_at uleb_at groups_at
items_first = refl

items_second : items_at false false five section 31 ≡ Some (bare (Pair 1 2) ∷ [])
unfolding five section items_at items_up_to item_at new_span_at number_at bytes_at uleb_at groups_at
items_second = refl

-- a base of four bytes and a pair, high byte first
old_items : items_at false true four (0xff ∷ 0xff ∷ 0xff ∷ 0xff ∷ 0 ∷ 0 ∷ 0x10 ∷ 0 ∷ 0 ∷ 0 ∷ 0 ∷ 1 ∷ 0 ∷ 0 ∷ 0 ∷ 2 ∷ 0 ∷ 0 ∷ 0 ∷ 0 ∷ 0 ∷ 0 ∷ 0 ∷ 0 ∷ []) 0 ≡ Some (bare (Base 0x1000) ∷ bare (Pair 1 2) ∷ [])
unfolding four items_at items_up_to item_at old_span_at number_at bytes_at
old_items = refl

-- what isn't closed isn't read
open_items : items_at false false five (4 ∷ 1 ∷ 2 ∷ []) 0 ≡ None
unfolding five items_at items_up_to item_at new_span_at number_at bytes_at uleb_at groups_at
open_items = refl

-- a pair and a default location with one byte each, which is counted in ULEB128
locations : items_at true false five (4 ∷ 1 ∷ 2 ∷ 1 ∷ 0x96 ∷ 5 ∷ 1 ∷ 0x97 ∷ 0 ∷ []) 0 ≡ Some (with (Pair 1 2) (0x96 ∷ []) ∷ with Default (0x97 ∷ []) ∷ [])
unfolding five items_at items_up_to item_at new_span_at number_at bytes_at uleb_at groups_at
locations = refl

-- a pair of version 4, with one byte that is counted in two
old_locations : items_at true true four (0 ∷ 0 ∷ 0 ∷ 1 ∷ 0 ∷ 0 ∷ 0 ∷ 2 ∷ 0 ∷ 1 ∷ 0x96 ∷ 0 ∷ 0 ∷ 0 ∷ 0 ∷ 0 ∷ 0 ∷ 0 ∷ 0 ∷ []) 0 ≡ Some (with (Pair 1 2) (0x96 ∷ []) ∷ [])
unfolding four items_at items_up_to item_at old_span_at number_at bytes_at
old_locations = refl

-- a symbol with an addend, where the symbol's value is known, and the length behind it
symbol_text : open_text (list_draft false (record four { address_size = 2 }) no_place range_kinds (ranges_parts (built.StartLength (Symbol 0 (negsuc 0)) 3 ∷ []))) false (record { starts = []; own_start = 0; symbols = 0x101 ∷ [] })
    ≡ Some (0 ∷ 1 ∷ 3 ∷ 1 ∷ 0 ∷ 0 ∷ 0 ∷ 0 ∷ [])
unfolding four then_draft followed num_text num
symbol_text = refl

-- a location of version 5
location_text : open_text (list_draft true five no_place location_kinds (locations_parts (located.OffsetPair 1 2 (plain (Simple DW_OP_nop) ∷ []) ∷ []))) false (record { starts = []; own_start = 0; symbols = [] })
    ≡ Some (4 ∷ 1 ∷ 2 ∷ 1 ∷ 0x96 ∷ 0 ∷ [])
unfolding five then_draft followed bytes_text uleb uleb_groups
location_text = refl
