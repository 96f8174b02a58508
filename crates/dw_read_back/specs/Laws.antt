-- That lists are read as they are written: what the definition of written lists tells of bytes is what the definition of items
-- that are read has there.
use Rattle.std.specs.Prelude.{◌≡◌, ◌⊎◌, ℕ, Bool, true, false, List, ◌++◌, map, length, drop, Option, Some, slice_get}
use Rattle.dw_base.specs.Numbers.{Parser, ◌>>=◌, is_width, word_of}
use Rattle.dw_base.specs.declared.common.Encoding.{Encoding}
use Rattle.dw_writer.specs.Meaning.{Layout}
use Rattle.dw_writer.specs.Drafts.{Info}
use Rattle.dw_read.specs.Reading.{Reading, left, whole}
use Rattle.dw_read.specs.Took.{option_of}
use Rattle.dw_read_units.specs.Lookups.{FindsList}
use Rattle.dw_lists.specs.Items.{Item, items_up_to, item_at, is_five, entry_at}
use Rattle.dw_lists.specs.Parts.{Part}
use Rattle.dw_lists.specs.Texts.{parts_in}
use Rattle.dw_lists.specs.Tables.{Offsets, table_draft, offsets_from, IsReadAgain, AreNumbered}
use Rattle.dw_sources.specs.RawLists.{range_at, location_at}
use Rattle.dw_read_back.specs.Walks.{AreItems}
use Rattle.dw_read_back.specs.Views.{raw_range, raw_location}

-- an address has a size of addresses: no other is read
abbrev pub HasAddressSize : Encoding → Type 0
HasAddressSize e = is_width e.address_size ≡ true

-- One item

-- what is read, in other words
abbrev pub in_words : {A B : Type 0} → (A → B) → Option (Option A × List ℕ) → Option (Option B × List ℕ)
in_words f read = read >>= λ x. Some (option_of f x.0, x.1)

module _ {A : Type 0} (loc : Bool) (grammar : Bool → Encoding → Parser (Option A)) (view : Bool → Item → A) where
  -- at any bytes the same item is read and the same bytes are passed, or the list is closed, or nothing is read
  abbrev pub ItemsAreOne : Type 0
  ItemsAreOne = (big : Bool) (e : Encoding) (bytes : List ℕ) → HasAddressSize e →
      grammar big e bytes ≡ in_words (view (is_five e)) (item_at (is_five e) loc big e.address_size bytes)

-- Whole lists

-- the written items of the list that bytes begin with, and the bytes behind its close
abbrev pub items_from : Bool → Bool → Encoding → Parser (List Item)
items_from loc big e bytes = items_up_to (item_at (is_five e) loc big e.address_size) (length bytes) bytes

module _ {A : Type 0} (loc : Bool) (grammar : Bool → Encoding → Parser (Option A)) (view : Bool → Item → A) where
  -- the written items that are read
  pub record AreWritten (big : Bool) (e : Encoding) (bytes : List ℕ) (ys : List A) (behind : List ℕ) : Type 0 where
    pub items : List Item
    pub told : items_from loc big e bytes ≡ Some (items, behind)
    pub same : map (view (is_five e)) items ≡ ys

  -- whatever is told to be written is read, and whatever is read is told to be written
  pub record ListsAreOne : Type 0 where
    pub read : (big : Bool) (e : Encoding) (bytes : List ℕ) (items : List Item) (behind : List ℕ) → HasAddressSize e →
        items_from loc big e bytes ≡ Some (items, behind) → AreItems (grammar big e) bytes (map (view (is_five e)) items) behind
    pub written : (big : Bool) (e : Encoding) (bytes : List ℕ) (ys : List A) (behind : List ℕ) → HasAddressSize e →
        AreItems (grammar big e) bytes ys behind → AreWritten big e bytes ys behind

-- Entries of tables of version 5

-- the place that an entry tells is the one that a reader finds by its number
pub record EntriesAreOne : Type 0 where
  pub found : (e : Encoding) (section : Reading) (base number place : ℕ) → entry_at section.is_big e (left section) base number ≡ Some place → FindsList (word_of e.format) base number section place
  pub told : (e : Encoding) (section : Reading) (base number place : ℕ) → FindsList (word_of e.format) base number section place → entry_at section.is_big e (left section) base number ≡ Some place

-- Written tables

module _ {A : Type 0} (loc : Bool) (grammar : Bool → Encoding → Parser (Option A)) (view : Bool → Item → A) where
  -- a reader finds the list of a number in a section, by its entry in version 5, and reads its items up to the close
  pub record IsReadBack (e : Encoding) (place : ℕ → Option ℕ) (info : Info) (big : Bool) (l : Layout) (section : List ℕ) (at : Offsets) (number : ℕ) (ps : List Part) : Type 0 where
    pub place_of : ℕ
    pub answered : slice_get at.places number ≡ Some place_of
    pub entry : (base : ℕ) → at.base ≡ Some base → FindsList (word_of e.format) base number (whole section big) place_of
    pub items : List Item
    pub built : parts_in (is_five e) e place info big l ps ≡ Some items
    pub behind : List ℕ
    pub read : AreItems (grammar big e) (drop place_of section) (map (view (is_five e)) items) behind

  -- where a table that is read again stands in a section, so are its lists
  abbrev pub TablesAreReadBack : Type 0
  TablesAreReadBack =
      (e : Encoding) (place : ℕ → Option ℕ) (xs : List (List Part)) → HasAddressSize e → IsReadAgain loc e place xs →
      (info : Info) (big : Bool) (l : Layout) (before bytes rest : List ℕ) → (table_draft loc e place xs).text info big l ≡ Some bytes →
      (i : ℕ) (x : List Part) → slice_get xs i ≡ Some x → (is_five e ≡ true) ⊎ AreNumbered x →
      IsReadBack e place info big l (before ++ (bytes ++ rest)) (offsets_from loc e place (length before) xs) i x

-- Range lists, and location lists

abbrev pub RangeItemsAreOne : Type 0
RangeItemsAreOne = ItemsAreOne false range_at raw_range

abbrev pub RangeListsAreOne : Type 0
RangeListsAreOne = ListsAreOne false range_at raw_range

abbrev pub RangeTablesAreReadBack : Type 0
RangeTablesAreReadBack = TablesAreReadBack false range_at raw_range

abbrev pub LocationItemsAreOne : Type 0
LocationItemsAreOne = ItemsAreOne true location_at raw_location

abbrev pub LocationListsAreOne : Type 0
LocationListsAreOne = ListsAreOne true location_at raw_location

abbrev pub LocationTablesAreReadBack : Type 0
LocationTablesAreReadBack = TablesAreReadBack true location_at raw_location
