-- What the value of an attribute becomes is one thing.
use Rattle.std.proofs.Common.{◌≡◌, ◌∙◌, sym, ap, subst, ℕ, List, Bool, true, false, Option, Some, None, Result, Ok, not}
use Rattle.std.specs.Prelude.{◌==◌, ℤ}
use Rattle.dw_base.specs.declared.address.Address.{Address}
use Rattle.dw_base.specs.declared.address.DebugInfoRef.{DebugInfoRef}
use Rattle.dw_base.specs.declared.common.Encoding.{Encoding}
use Rattle.dw_base.specs.declared.constants.TheConstants.{DW_FORM_flag_present, DW_FORM_implicit_const}
use Rattle.dw_base.specs.declared.ids.FileId.{FileId}
use Rattle.dw_base.specs.declared.ids.UnitEntryId.{UnitEntryId}
use Rattle.dw_base.specs.declared.offsets.DebugLineOffset.{DebugLineOffset}
use Rattle.dw_expr.specs.Trees.{Node}
use Rattle.dw_lists.specs.declared.location.Location.{Location}
use Rattle.dw_lists.specs.declared.range.Range.{Range}
use Rattle.dw_read.specs.Reading.{Reading}
use Rattle.dw_read.specs.Values.{Value, named_value}
use Rattle.dw_read.specs.declared.value.AttributeValue.TheVariants as read
use Rattle.dw_read_units.specs.Lookups.{bytes_from}
use Rattle.dw_read_units.specs.declared.unit_ref.UnitRef.{UnitRef}
use Rattle.dw_sources.specs.RawLists.{range_at, location_at}
use Rattle.dw_sources.specs.RawListIters.{encoding_in, ranges_section, locations_section}
use Rattle.dw_sources.specs.declared.convert_error.ConvertError.{ConvertError}
use Rattle.dw_convert.specs.Attributes.{Seen, DeclaredOutcome, PresentOutcome, AttributeOutcome, number_by, raw_of}
use Rattle.dw_convert.specs.Exprlocs.{SpelledOr, ExprlocOutcome, is_index}
use Rattle.dw_convert.specs.Expressions.{ExpressionOutcome}
use Rattle.dw_convert.specs.Files.{file_image, declared_image}
use Rattle.dw_convert.specs.Images.{Image}
use Rattle.dw_convert.specs.Lists.{Converted}
use Rattle.dw_convert.specs.LocationLists.{IsLocationList}
use Rattle.dw_convert.specs.Locations.{LocationOutcome, is_base_item, kept_locations}
use Rattle.dw_convert.specs.Lookups.{address_of}
use Rattle.dw_convert.specs.Outcomes.{AddressOutcome, IndexOutcome}
use Rattle.dw_convert.specs.RangeLists.{IsRangeList}
use Rattle.dw_convert.specs.Ranges.{RangeOutcome, is_base, kept}
use Rattle.dw_convert.specs.References.{EntryOutcome, InfoOutcome}
use Rattle.dw_convert.specs.Sources.{string_in, line_string_in, string_of, ranges_of, locations_of}
use Rattle.dw_convert.specs.Values.{Made, RangesOutcome, LocationsOutcome, ValueOutcome, program_image, order_or_little}
use Rattle.dw_dwarf_laws.proofs.ConvertedExpressions.{AnswersOnce, address_once, index_once, expression_once}
use Rattle.dw_dwarf_laws.proofs.ConvertedLists.{list_once, range_once, location_once}
use Rattle.dw_dwarf_laws.proofs.Results.{same_ok, same_some, after_once, made_once, result_once}

-- Two units in which attributes lead to the same: all that is looked at when their values are converted.
pub record LeadAlike {R E : Type 0} (reading : R → Reading) (u v : UnitRef R E) : Type 0 where
  pub encoding : encoding_in u ≡ encoding_in v
  pub base : u.unit.now.low_pc ≡ v.unit.now.low_pc
  pub program : u.unit.now.line_program ≡ v.unit.now.line_program
  pub addresses : address_of reading u ≡ address_of reading v
  pub strings : string_in reading u ≡ string_in reading v
  pub line_strings : line_string_in reading u ≡ line_string_in reading v
  pub indexed_strings : string_of reading u ≡ string_of reading v
  pub indexed_ranges : ranges_of reading u ≡ ranges_of reading v
  pub indexed_locations : locations_of reading u ≡ locations_of reading v
  pub ranges : ranges_section reading u ≡ ranges_section reading v
  pub locations : locations_section reading u ≡ locations_section reading v

module _ {R E : Type 0} (reading : R → Reading) (answers : ℕ → Option Address → Type 0) (functional : AnswersOnce answers) (entries : ℕ → Option UnitEntryId) (infos : ℕ → Option DebugInfoRef) (u v : UnitRef R E) (alike : LeadAlike reading u v) where
  -- the lists that stand at a place
  abbrev RangesFrom : (ℕ → Result ℕ ConvertError) → Encoding → ℕ → Reading → ℕ → List Range → Type 0
  RangesFrom addresses e base section p xs = Converted (RangeOutcome answers addresses) is_base (range_at section.is_big e) (not (base == 0)) (bytes_from p section) xs

  range_list_once : (p : ℕ) (xs ys : List Range) → IsRangeList reading answers u p xs → IsRangeList reading answers v p ys → xs ≡ ys
  range_list_once p xs ys h k =
      let moved : RangesFrom (address_of reading u) (encoding_in u) u.unit.now.low_pc (ranges_section reading u) p k.images =
      subst (λ f. RangesFrom f (encoding_in u) u.unit.now.low_pc (ranges_section reading u) p k.images) (sym alike.addresses)
      (subst (λ e. RangesFrom (address_of reading v) e u.unit.now.low_pc (ranges_section reading u) p k.images) (sym alike.encoding)
      (subst (λ b. RangesFrom (address_of reading v) (encoding_in v) b (ranges_section reading u) p k.images) (sym alike.base)
      (subst (λ s. RangesFrom (address_of reading v) (encoding_in v) v.unit.now.low_pc s p k.images) (sym alike.ranges) k.converted))) in
      let s = list_once (RangeOutcome answers (address_of reading u)) (range_once answers functional (address_of reading u)) is_base (range_at (ranges_section reading u).is_big (encoding_in u)) (not (u.unit.now.low_pc == 0)) (bytes_from p (ranges_section reading u)) h.images k.images h.converted moved in
      h.is ∙ ap kept s ∙ sym k.is

  abbrev LocationsFrom : (ℕ → Result ℕ ConvertError) → Encoding → ℕ → Reading → ℕ → List Location → Type 0
  LocationsFrom addresses e base section p xs =
      Converted (LocationOutcome answers addresses (ExpressionOutcome answers addresses entries infos section.is_big e)) is_base_item (location_at section.is_big e) (not (base == 0)) (bytes_from p section) xs

  location_list_once : (p : ℕ) (xs ys : List Location) → IsLocationList reading answers entries infos u p xs → IsLocationList reading answers entries infos v p ys → xs ≡ ys
  location_list_once p xs ys h k =
      let moved : LocationsFrom (address_of reading u) (encoding_in u) u.unit.now.low_pc (locations_section reading u) p k.images =
      subst (λ f. LocationsFrom f (encoding_in u) u.unit.now.low_pc (locations_section reading u) p k.images) (sym alike.addresses)
      (subst (λ e. LocationsFrom (address_of reading v) e u.unit.now.low_pc (locations_section reading u) p k.images) (sym alike.encoding)
      (subst (λ b. LocationsFrom (address_of reading v) (encoding_in v) b (locations_section reading u) p k.images) (sym alike.base)
      (subst (λ s. LocationsFrom (address_of reading v) (encoding_in v) v.unit.now.low_pc s p k.images) (sym alike.locations) k.converted))) in
      let big = (locations_section reading u).is_big in
      let inner = expression_once answers functional (address_of reading u) entries infos (encoding_in u) big in
      let s = list_once (LocationOutcome answers (address_of reading u) (ExpressionOutcome answers (address_of reading u) entries infos big (encoding_in u)))
      (location_once answers functional (address_of reading u) (ExpressionOutcome answers (address_of reading u) entries infos big (encoding_in u)) inner)
      is_base_item (location_at big (encoding_in u)) (not (u.unit.now.low_pc == 0)) (bytes_from p (locations_section reading u)) h.images k.images h.converted moved in
      h.is ∙ ap kept_locations s ∙ sym k.is

  made_ranges : (make : List Range → Image) (p : ℕ) (i j : Image) → Made (RangesOutcome reading answers entries infos u p) make (Ok i) → Made (RangesOutcome reading answers entries infos v p) make (Ok j) → i ≡ j
  made_ranges make p i j h k = made_once make (RangesOutcome reading answers entries infos u p) (RangesOutcome reading answers entries infos v p) (range_list_once p) i j h k

  made_locations : (make : List Location → Image) (p : ℕ) (i j : Image) → Made (LocationsOutcome reading answers entries infos u p) make (Ok i) → Made (LocationsOutcome reading answers entries infos v p) make (Ok j) → i ≡ j
  made_locations make p i j h k = made_once make (LocationsOutcome reading answers entries infos u p) (LocationsOutcome reading answers entries infos v p) (location_list_once p) i j h k

  -- expressions that are values
  spelled_once : (big is : Bool) (bytes : List ℕ) (xs ys : List Node) → SpelledOr reading answers entries infos u big is bytes (Ok xs) → SpelledOr reading answers entries infos v big is bytes (Ok ys) → xs ≡ ys
  spelled_once big true bytes xs ys h k = same_ok {X = ConvertError} _ xs ys (sym h) (sym k)
  spelled_once big false bytes xs ys h k =
      expression_once answers functional (address_of reading u) entries infos (encoding_in u) big bytes xs ys h
      (subst (λ f. ExpressionOutcome answers f entries infos big (encoding_in u) bytes (Ok ys)) (sym alike.addresses)
      (subst (λ e. ExpressionOutcome answers (address_of reading v) entries infos big e bytes (Ok ys)) (sym alike.encoding) k))

  module _ (files : List FileId) (big : Bool) where
    value_once : (name : ℕ) (x : Value) (i j : Image) → ValueOutcome reading answers entries infos u files big name x (Ok i) → ValueOutcome reading answers entries infos v files big name x (Ok j) → i ≡ j
    value_once name (read.Addr n) i j h k = made_once _ (AddressOutcome answers n) (AddressOutcome answers n) (address_once answers functional n) i j h k
    value_once name (read.DebugAddrIndex n) i j h k =
        made_once _ (IndexOutcome answers (address_of reading u) n) (IndexOutcome answers (address_of reading v) n)
        (λ a b f g. index_once answers functional (address_of reading u) n a b f (subst (λ r. IndexOutcome answers r n (Ok b)) (sym alike.addresses) g)) i j h k
    value_once name (read.Exprloc x) i j h k =
        made_once _ (ExprlocOutcome reading answers entries infos u big name x.0) (ExprlocOutcome reading answers entries infos v big name x.0) (spelled_once big (is_index name x.0) x.0) i j h k
    value_once name (read.UnitRef p) i j h k = made_once _ (EntryOutcome entries p.0) (EntryOutcome entries p.0) (λ a b f g. same_some (entries p.0) a b f g) i j h k
    value_once name (read.DebugInfoRef p) i j h k = made_once _ (InfoOutcome infos p.0) (InfoOutcome infos p.0) (λ a b f g. same_some (infos p.0) a b f g) i j h k
    value_once name (read.DebugStrRef p) i j h k = result_once _ (string_in reading u p.0) (string_in reading v p.0) (ap (λ f. f p.0) alike.strings) i j h k
    value_once name (read.DebugStrOffsetsIndex n) i j h k = result_once _ (string_of reading u n) (string_of reading v n) (ap (λ f. f n) alike.indexed_strings) i j h k
    value_once name (read.DebugLineStrRef p) i j h k = result_once _ (line_string_in reading u p.0) (line_string_in reading v p.0) (ap (λ f. f p.0) alike.line_strings) i j h k
    value_once name (read.DebugRngListsIndex n) i j h k =
        after_once _ _ (made_ranges _) (ranges_of reading u n) (ranges_of reading v n) (ap (λ f. f n) alike.indexed_ranges) i j h k
    value_once name (read.RangeListsRef p) i j h k = made_ranges _ p.0 i j h k
    value_once name (read.DebugLocListsIndex n) i j h k =
        after_once _ _ (made_locations _) (locations_of reading u n) (locations_of reading v n) (ap (λ f. f n) alike.indexed_locations) i j h k
    value_once name (read.LocationListsRef p) i j h k = made_locations _ p.0 i j h k
    value_once name (read.FileIndex n) i j h k =
        result_once _ (file_image (encoding_in u).version files n) (file_image (encoding_in v).version files n) (ap (λ (e : Encoding). file_image e.version files n) alike.encoding) i j h k
    value_once name (read.DebugLineRef p) i j h k =
        result_once _ (program_image u.unit.now.line_program p.0) (program_image v.unit.now.line_program p.0) (ap (λ (o : Option DebugLineOffset). program_image o p.0) alike.program) i j h k
    value_once name x i j h k = same_ok {X = ConvertError} _ i j (sym h) (sym k)

    declared_once : (z : Option ℤ) (name : ℕ) (x : Value) (i j : Image) → DeclaredOutcome reading answers entries infos u files big z name x (Ok i) → DeclaredOutcome reading answers entries infos v files big z name x (Ok j) → i ≡ j
    declared_once (Some z) name x i j h k =
        result_once _ (declared_image (encoding_in u).version files name z) (declared_image (encoding_in v).version files name z) (ap (λ (e : Encoding). declared_image e.version files name z) alike.encoding) i j h k
    declared_once None name x i j h k = value_once name (named_value name x) i j h k

    present_once : (is : Bool) (form name : ℕ) (x : Value) (i j : Image) → PresentOutcome reading answers entries infos u files big is form name x (Ok i) → PresentOutcome reading answers entries infos v files big is form name x (Ok j) → i ≡ j
    present_once true form name x i j h k = same_ok {X = ConvertError} _ i j (sym h) (sym k)
    present_once false form name x i j h k = declared_once (number_by (form == DW_FORM_implicit_const.0) x) name x i j h k

  -- what an attribute becomes
  pub attribute_once : (files : List FileId) (a : Seen) (i j : Image) → AttributeOutcome reading answers entries infos u files a (Ok i) → AttributeOutcome reading answers entries infos v files a (Ok j) → i ≡ j
  attribute_once files a i j h k = present_once files (order_or_little a.2) (a.1.form == DW_FORM_flag_present.0) a.1.form a.1.name (raw_of a) i j h k
