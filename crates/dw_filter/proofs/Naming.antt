-- What the attributes of an entry name: as it was read, and as its row says.
use Rattle.std.proofs.Common.{◌≡◌, ◌∙◌, sym, ap, ap₂, subst, ℕ, suc, ◌+◌, List, [], ◌∷◌, ◌++◌, All, length, map, filter, not, cond, if◌then◌else◌, ◌==◌, Bool, true, false, Option, Some, ◌↔◌, refl, arith}
use Rattle.std.specs.List.{Contains}
use Rattle.std.proofs.lemmas.Option.{same_Some}
use Rattle.dw_base.specs.Entries.{ReadAttribute}
use Rattle.dw_base.specs.Numbers.{number_at, word_of}
use Rattle.dw_base.specs.declared.common.Encoding.{Encoding}
use Rattle.dw_base.specs.declared.offsets.UnitSectionOffset.{UnitSectionOffset}
use Rattle.dw_read.specs.Attributes.{attribute_of}
use Rattle.dw_read.specs.Operands.{operand_of}
use Rattle.dw_read.specs.Orders.{IsInOrder, attribute_order, operand_order}
use Rattle.dw_read.specs.Reading.{Reading, left}
use Rattle.dw_read.specs.UnitHeaders.{header_size}
use Rattle.dw_read.specs.Rows.{entry_of}
use Rattle.dw_read.specs.Values.{Value, named_value, raw_value_of}
use Rattle.dw_read.specs.declared.attribute.Attribute.{Attribute}
use Rattle.dw_read.specs.declared.entry.DebuggingInformationEntry.{DebuggingInformationEntry}
use Rattle.dw_read.specs.declared.operand.Operand.{Operand as HeldOperand}
use Rattle.dw_read.specs.declared.operand.Operand.TheVariants as held
use Rattle.dw_read.specs.declared.value.AttributeValue.TheVariants as read
use Rattle.dw_read_units.specs.Lookups.{FindsList, StandsAt, indexed}
use Rattle.dw_read_units.specs.Units.{word_in}
use Rattle.dw_read_units.specs.declared.unit_ref.UnitRef.{UnitRef}
use Rattle.dw_sources.specs.Dropped.{is_left_out}
use Rattle.dw_sources.specs.RawListIters.{encoding_in, locations_section}
use Rattle.dw_filter.specs.AttributePlaces.{AddsAttributes, AddsIndexed, AddsValue, Seen, StandsAtIndex, order_or_little, seen}
use Rattle.dw_filter.specs.FileGraph.{Names, counting_in, order_in}
use Rattle.dw_filter.specs.Links.{counting_of}
use Rattle.dw_filter.specs.PlaceViews.{AddsList, bounds_of, named_by_list}
use Rattle.dw_filter.specs.Places.{ListPlaces, expression_places, if_any, list_at, place_in}

some_once : (a b : ℕ) (r s : List ℕ) → ◌≡◌ {A = Option (ℕ × List ℕ)} (Some (a, r)) (Some (b, s)) → a ≡ b
some_once a b r s h = ap (λ (x : ℕ × List ℕ). x.0) (same_Some (a, r) (b, s) h)

-- an attribute of a row, with the encoding and the byte order of its unit
abbrev in_row : Encoding → Bool → ReadAttribute → Seen
in_row e big a = (e, a, order_in big a.operand)

-- ---- two units with the same fields, in files with the same sections
module _ {R E : Type 0} (reading : R → Reading) (u v : UnitRef R E) (file : u.dwarf.now ≡ v.dwarf.now) (unit : u.unit.now ≡ v.unit.now) where
  same_bounds : bounds_of reading u ≡ bounds_of reading v
  same_bounds = ap (λ x. record { start = x.header.offset.0; header = header_size reading x.header; body = length (left (reading x.header.body)) }) unit

  same_encoding : encoding_in u ≡ encoding_in v
  same_encoding = ap (λ x. x.header.fields.encoding) unit

  same_section : locations_section reading u ≡ locations_section reading v
  same_section = ap₂ (λ d x. if x.header.fields.encoding.version == 5 then reading d.debug_loclists else reading d.debug_loc) file unit

  same_list : (n : ℕ) → named_by_list reading u n ≡ named_by_list reading v n
  same_list n =
      ap (λ b. list_at b (locations_section reading u).is_big (encoding_in u) n (left (locations_section reading u))) same_bounds
      ∙ ap (λ s. list_at (bounds_of reading v) s.is_big (encoding_in u) n (left s)) same_section
      ∙ ap (λ e. list_at (bounds_of reading v) (locations_section reading v).is_big e n (left (locations_section reading v))) same_encoding

  number_once : (big : Bool) (w offset : ℕ) (section : Reading) (a b : ℕ) → StandsAt ℕ (number_at big w) offset section a → StandsAt ℕ (number_at big w) offset section b → a ≡ b
  number_once big w offset section a b h k = some_once a b h.rest k.rest (sym h.is ∙ k.is)

  index_once : (i a b : ℕ) → StandsAtIndex reading u i a → StandsAtIndex reading v i b → a ≡ b
  index_once i a b h k =
      let moved : FindsList (word_in u) u.unit.now.loclists_base i (reading u.dwarf.now.debug_loclists) b =
      subst (λ x. FindsList (word_of x.header.fields.encoding.format) x.loclists_base i (reading u.dwarf.now.debug_loclists) b) (sym unit)
      (subst (λ d. FindsList (word_in v) v.unit.now.loclists_base i (reading d.debug_loclists) b) (sym file) k) in
      let same = number_once (reading u.dwarf.now.debug_loclists).is_big (word_in u) (indexed u.unit.now.loclists_base i (word_in u)) (reading u.dwarf.now.debug_loclists) h.offset moved.offset h.stands moved.stands in
      h.is ∙ ap (λ n. u.unit.now.loclists_base + n) same ∙ sym moved.is

  module _ (old : List UnitSectionOffset) where
    list_once : (a b : List UnitSectionOffset) (n : ℕ) → AddsList old a (named_by_list reading u n) → AddsList old b (named_by_list reading v n) → a ≡ b
    list_once a b n h k = h.added ∙ ap (λ (l : ListPlaces). old ++ l.places) (same_list n) ∙ sym k.added

    indexed_once : (a b : List UnitSectionOffset) (i : ℕ) → AddsIndexed reading u old a i → AddsIndexed reading v old b i → a ≡ b
    indexed_once a b i h k = list_once a b h.place h.adds (subst (λ n. AddsList old b (named_by_list reading v n)) (sym (index_once i h.place k.place h.found k.found)) k.adds)

    -- what a value adds is added once for all
    value_once : (big : Bool) (x : Value) (a b : List UnitSectionOffset) → AddsValue reading u old a big x → AddsValue reading v old b big x → a ≡ b
    value_once big (read.UnitRef p) a b h k = h ∙ ap (λ u. old ++ if_any (place_in u p.0)) same_bounds ∙ sym k
    value_once big (read.DebugInfoRef p) a b h k = h ∙ sym k
    value_once big (read.Exprloc x) a b h k = h ∙ ap₂ (λ u e. old ++ expression_places u big e x.0) same_bounds same_encoding ∙ sym k
    value_once big (read.LocationListsRef p) a b h k = list_once a b p.0 h k
    value_once big (read.DebugLocListsIndex i) a b h k = indexed_once a b i h k
    value_once big (read.Addr x) a b h k = h ∙ sym k
    value_once big (read.DebugAddrIndex x) a b h k = h ∙ sym k
    value_once big (read.Block x) a b h k = h ∙ sym k
    value_once big (read.Data1 x) a b h k = h ∙ sym k
    value_once big (read.Data2 x) a b h k = h ∙ sym k
    value_once big (read.Data4 x) a b h k = h ∙ sym k
    value_once big (read.Data8 x) a b h k = h ∙ sym k
    value_once big (read.Data16 x) a b h k = h ∙ sym k
    value_once big (read.Sdata x) a b h k = h ∙ sym k
    value_once big (read.Udata x) a b h k = h ∙ sym k
    value_once big (read.Flag x) a b h k = h ∙ sym k
    value_once big (read.SecOffset x) a b h k = h ∙ sym k
    value_once big (read.DebugInfoRefSup x) a b h k = h ∙ sym k
    value_once big (read.DebugTypesRef x) a b h k = h ∙ sym k
    value_once big (read.DebugStrRef x) a b h k = h ∙ sym k
    value_once big (read.DebugStrRefSup x) a b h k = h ∙ sym k
    value_once big (read.DebugLineStrRef x) a b h k = h ∙ sym k
    value_once big (read.String x) a b h k = h ∙ sym k
    value_once big (read.DebugStrOffsetsIndex x) a b h k = h ∙ sym k
    value_once big (read.DebugRngListsIndex x) a b h k = h ∙ sym k
    value_once big (read.Encoding x) a b h k = h ∙ sym k
    value_once big (read.DecimalSign x) a b h k = h ∙ sym k
    value_once big (read.Endianity x) a b h k = h ∙ sym k
    value_once big (read.Accessibility x) a b h k = h ∙ sym k
    value_once big (read.Visibility x) a b h k = h ∙ sym k
    value_once big (read.Virtuality x) a b h k = h ∙ sym k
    value_once big (read.Language x) a b h k = h ∙ sym k
    value_once big (read.AddressClass x) a b h k = h ∙ sym k
    value_once big (read.IdentifierCase x) a b h k = h ∙ sym k
    value_once big (read.CallingConvention x) a b h k = h ∙ sym k
    value_once big (read.Inline x) a b h k = h ∙ sym k
    value_once big (read.Ordering x) a b h k = h ∙ sym k
    value_once big (read.FileIndex x) a b h k = h ∙ sym k
    value_once big (read.DwoId x) a b h k = h ∙ sym k
    value_once big (read.DebugLineRef x) a b h k = h ∙ sym k
    value_once big (read.DebugMacinfoRef x) a b h k = h ∙ sym k
    value_once big (read.DebugMacroRef x) a b h k = h ∙ sym k
    value_once big (read.RangeListsRef x) a b h k = h ∙ sym k

  attributes_once : (xs : List Seen) (old a b : List UnitSectionOffset) → AddsAttributes reading u xs old a → AddsAttributes reading v xs old b → a ≡ b
  attributes_once [] old a b h k = h ∙ sym k
  attributes_once (x ∷ xs) old a b h k =
      let same = value_once old (order_or_little x.2) (named_value x.1.name (raw_value_of x.0 x.1)) h.0 k.0 h.1 k.1 in
      attributes_once xs h.0 a b h.2 (subst (λ m. AddsAttributes reading v xs m b) (sym same) k.2)

-- ---- an attribute as it was read is as its row says
module _ {R E : Type 0} (reading : R → Reading) (e : Encoding) (big : Bool) where
  same_order : (o : HeldOperand R E) → IsInOrder big (operand_order reading o) → operand_order reading o ≡ order_in big (operand_of reading o)
  same_order held.Absent h = refl
  same_order (held.Number n) h = refl
  same_order (held.Signed z) h = refl
  same_order (held.Bytes r) h = ap (λ b. Some b) h
  same_order (held.Text r) h = ap (λ b. Some b) h

  same_seen : (a : Attribute R E) → a.encoding ≡ e → IsInOrder big (attribute_order reading a) → seen reading a ≡ in_row e big (attribute_of reading a)
  same_seen a h k = ap₂ (λ c o. (c, attribute_of reading a, o)) h (same_order a.operand k)

  same_counting : (xs : List (Attribute R E)) → All (λ a. a.encoding ≡ e) xs → All (λ a. IsInOrder big (attribute_order reading a)) xs
      → map (seen reading) (filter (λ (a : Attribute R E). not (is_left_out a.name.0)) xs) ≡ map (in_row e big) (filter (λ (a : ReadAttribute). not (is_left_out a.name)) (map (attribute_of reading) xs))
  same_counting [] h k = refl
  same_counting (a ∷ xs) h k =
      go (not (is_left_out a.name.0)) (filter (λ (a : Attribute R E). not (is_left_out a.name.0)) xs) (filter (λ (a : ReadAttribute). not (is_left_out a.name)) (map (attribute_of reading) xs))
      (same_seen a (h 0 a (omega arith)) (k 0 a (omega arith))) (same_counting xs (λ i d l. h (suc i) d (omega (arith, l))) (λ i d l. k (suc i) d (omega (arith, l))))
    where
      go : (b : Bool) (fs : List (Attribute R E)) (gs : List ReadAttribute) → seen reading a ≡ in_row e big (attribute_of reading a) → map (seen reading) fs ≡ map (in_row e big) gs
          → map (seen reading) (cond b (a ∷ fs) fs) ≡ map (in_row e big) (cond b (attribute_of reading a ∷ gs) gs)
      go true fs gs s t = ap₂ (λ x xs. x ∷ xs) s t
      go false fs gs s t = t

-- what the attributes of an entry of a unit name
module _ {R E : Type 0} (reading : R → Reading) (u : UnitRef R E) (x : DebuggingInformationEntry R E) (code : ℕ) (encoded : All (λ a. a.encoding ≡ u.unit.now.header.fields.encoding) x.attrs.items) (in_order : All (λ a. IsInOrder (reading u.unit.now.header.body).is_big (attribute_order reading a)) x.attrs.items) where
  pub counting_same : counting_of reading x ≡ counting_in reading u.dwarf.now u.unit.now (entry_of reading code x)
  counting_same = same_counting reading u.unit.now.header.fields.encoding (reading u.unit.now.header.body).is_big x.attrs.items encoded in_order

  pub names_same : (named : List UnitSectionOffset) → AddsAttributes reading u (counting_of reading x) [] named → (q : UnitSectionOffset) → Contains named q ↔ Names reading u.dwarf.now u.unit.now (entry_of reading code x) q
  names_same named adds q =
      let here = subst (λ xs. AddsAttributes reading u xs [] named) counting_same adds in (
        λ c. record { read = u; of = record { file = refl; unit = refl }; places = named; adds = here; is = c },
        λ n. subst (λ xs. Contains xs q) (sym (attributes_once reading u n.read (sym n.of.file) (sym n.of.unit) (counting_in reading u.dwarf.now u.unit.now (entry_of reading code x)) [] named n.places here n.adds)) n.is,
      )
