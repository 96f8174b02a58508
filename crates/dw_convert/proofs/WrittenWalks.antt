-- A list that is read up to its close is the list of the same bytes in the definition of written lists.
use Rattle.std.proofs.Common.{◌≡◌, ◌∙◌, subst, ℕ, zero, suc, ◌<◌, ◌≤◌, Bool, true, false, List, [], ◌∷◌, length, map, drop, Option, Some, None, Result, refl, arith}
use Rattle.dw_base.specs.Numbers.{Parser}
use Rattle.dw_base.specs.declared.address.Address.{Address}
use Rattle.dw_base.specs.declared.address.DebugInfoRef.{DebugInfoRef}
use Rattle.dw_base.specs.declared.common.Encoding.{Encoding}
use Rattle.dw_base.specs.declared.ids.UnitEntryId.{UnitEntryId}
use Rattle.dw_base.proofs.NumberLaws.{bind_is}
use Rattle.dw_lists.specs.Items as written
use Rattle.dw_lists.specs.Items.{more_at, items_up_to, item_at, is_five, items_at}
use Rattle.dw_lists.specs.declared.location.Location.{Location}
use Rattle.dw_lists.specs.declared.range.Range.{Range}
use Rattle.dw_read.specs.Reading.{Reading, left}
use Rattle.dw_read.proofs.Laws.{read_is}
use Rattle.dw_read_units.specs.declared.unit_ref.UnitRef.{UnitRef}
use Rattle.dw_sources.specs.RawLists.{Span, Item, range_at, range_read, location_at, location_read}
use Rattle.dw_sources.specs.RawListIters.{encoding_in, ranges_section, locations_section}
use Rattle.dw_sources.specs.declared.convert_error.ConvertError.{ConvertError}
use Rattle.dw_convert.specs.Lists.{First, items_of, Converted}
use Rattle.dw_convert.specs.LocationLists.{ItemOutcome, IsLocationList}
use Rattle.dw_convert.specs.Locations.{is_base_item}
use Rattle.dw_convert.specs.Lookups.{address_of}
use Rattle.dw_convert.specs.RangeLists.{IsRangeList, has_base}
use Rattle.dw_convert.specs.Ranges.{RangeOutcome, is_base}
use Rattle.dw_convert.specs.WrittenLists.{written_range, written_location, AreWrittenImages, IsWrittenRangeList, IsWrittenLocationList}
use Rattle.dw_convert.proofs.WrittenItems.{IsItem, range_item, location_item}

module _ {A : Type 0} (as_written : A → written.Item) (loc big : Bool) (e : Encoding) (grammar : Parser (Option A)) (law : (bytes : List ℕ) (y : Option A × List ℕ) → grammar bytes ≡ Some y → IsItem as_written loc big e bytes y) where
  abbrev one : Parser (Option written.Item)
  one bytes = item_at (is_five e) loc big e.address_size bytes

  closed : (fuel : ℕ) (bytes behind : List ℕ) → length bytes ≤ fuel → grammar bytes ≡ Some (None, behind) → items_up_to one fuel bytes ≡ Some ([], behind)
  unfolding items_up_to
  closed zero bytes behind l c = absurd (let less : length behind < length bytes = (law bytes (None, behind) c).less in omega arith)
  closed (suc fuel) bytes behind l c = bind_is (one bytes) (None, behind) (λ x. more_at (items_up_to one fuel) x.0 x.1) (law bytes (None, behind) c).is

  walked : (items : List A) (fuel : ℕ) (bytes rest behind : List ℕ) → length bytes ≤ fuel → First grammar bytes (items_of items) rest → grammar rest ≡ Some (None, behind) → items_up_to one fuel bytes ≡ Some (map as_written items, behind)
  unfolding items_up_to
  walked [] fuel bytes rest behind l f c = closed fuel bytes behind l (subst (λ (xs : List ℕ). grammar xs ≡ Some (None, behind)) f c)
  walked (x ∷ xs) zero bytes rest behind l f c = absurd (let less : length f.0 < length bytes = (law bytes (Some x, f.0) f.1).less in omega arith)
  walked (x ∷ xs) (suc fuel) bytes rest behind l f c =
      let i = law bytes (Some x, f.0) f.1 in
      bind_is (one bytes) (Some (as_written x), f.0) (λ y. more_at (items_up_to one fuel) y.0 y.1) i.is
      ∙ bind_is (items_up_to one fuel f.0) (map as_written xs, behind) (λ more. Some (as_written x ∷ more.0, more.1)) (walked xs fuel f.0 rest behind (let less : length f.0 < length bytes = i.less in omega arith) f.2 c)

  pub images_written : {B : Type 0} (Outcome : Bool → A → Result B ConvertError → Type 0) (is_base : A → Bool) (base : Bool) (section : List ℕ) (place : ℕ) (images : List B)
      → Converted Outcome is_base grammar base (drop place section) images → AreWrittenImages Outcome is_base as_written loc big e base section place images
  unfolding items_at
  images_written Outcome is_base base section place images c = record {
    items = c.begun.items;
    read = bind_is (items_up_to one (length (drop place section)) (drop place section)) (map as_written c.begun.items, c.behind) (λ x. Some x.0) (walked c.begun.items (length (drop place section)) (drop place section) c.rest c.behind (omega arith) c.begun.read c.close);
    are = c.begun.are;
  }

range_law : (big : Bool) (e : Encoding) (bytes : List ℕ) (y : Option Span × List ℕ) → range_at big e bytes ≡ Some y → IsItem written_range false big e bytes y
unfolding range_at
range_law big e bytes y h = range_item big e bytes y (read_is (Option Span) (range_at big e) (range_read big e) bytes y (λ xs. refl) h)

location_law : (big : Bool) (e : Encoding) (bytes : List ℕ) (y : Option Item × List ℕ) → location_at big e bytes ≡ Some y → IsItem written_location true big e bytes y
unfolding location_at
location_law big e bytes y h = location_item big e bytes y (read_is (Option Item) (location_at big e) (location_read big e) bytes y (λ xs. refl) h)

pub ranges_written : (R E : Type 0) (reading : R → Reading) (answers : ℕ → Option Address → Type 0) (u : UnitRef R E) (offset : ℕ) (list : List Range) → IsRangeList reading answers u offset list → IsWrittenRangeList reading answers u offset list
ranges_written R E reading answers u offset list h = record {
  images = h.images;
  become = images_written written_range false (ranges_section reading u).is_big (encoding_in u) (range_at (ranges_section reading u).is_big (encoding_in u)) (range_law (ranges_section reading u).is_big (encoding_in u)) (RangeOutcome answers (address_of reading u)) is_base (has_base u) (left (ranges_section reading u)) offset h.images h.converted;
  is = h.is;
}

pub locations_written : (R E : Type 0) (reading : R → Reading) (answers : ℕ → Option Address → Type 0) (entries : ℕ → Option UnitEntryId) (infos : ℕ → Option DebugInfoRef) (u : UnitRef R E) (offset : ℕ) (list : List Location) → IsLocationList reading answers entries infos u offset list → IsWrittenLocationList reading answers entries infos u offset list
locations_written R E reading answers entries infos u offset list h = record {
  images = h.images;
  become = images_written written_location true (locations_section reading u).is_big (encoding_in u) (location_at (locations_section reading u).is_big (encoding_in u)) (location_law (locations_section reading u).is_big (encoding_in u)) (ItemOutcome reading answers entries infos u (locations_section reading u).is_big) is_base_item (has_base u) (left (locations_section reading u)) offset h.images h.converted;
  is = h.is;
}
